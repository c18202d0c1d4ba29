-- The lines of a listing, as characters.
use Rattle.std.specs.Prelude.{ℕ, List, ◌++◌, length, codes, decimal}
use Rattle.catalogue.specs.declared.Refusal.{Refusal}
use Rattle.element.specs.Walk.{Placed}
use Rattle.listing.specs.Figures.{figures_of}

abbrev pub heading : List ℕ
heading = codes "place id length"

abbrev pub unit_line : Placed → List ℕ
unit_line u = decimal u.place ++ (codes " " ++ (figures_of u.identifier ++ (codes " " ++ decimal (length u.contents))))

abbrev pub count_line : ℕ → ℕ → List ℕ
count_line units octets = decimal units ++ (codes " units, " ++ (decimal octets ++ codes " octets, to modem, long edition"))

abbrev pub fault_line : Refusal → List ℕ
fault_line r = codes "fault " ++ (decimal r.number ++ (codes " at " ++ decimal r.place))
