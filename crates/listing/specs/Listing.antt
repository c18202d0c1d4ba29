-- The whole listing of an element: the heading, a line for each unit and the counts; or only the fault.
use Rattle.std.specs.Prelude.{ℕ, ◌+◌, List, [], ◌∷◌, ◌++◌, length}
use Rattle.catalogue.specs.declared.Direction.{Direction}
use Rattle.catalogue.specs.Meaning.{Meaning}
use Rattle.element.specs.Outer.{options, header}
use Rattle.element.specs.Units.{ElementUnit, size}
use Rattle.element.specs.Reading.{Reading, whole, declined, reads}
use Rattle.element.specs.Refusals.{refusal_of}
use Rattle.element.specs.Walk.{Placed, placed}
use Rattle.listing.specs.Lines.{heading, unit_line, count_line, fault_line}

-- a line and its line feed
abbrev pub ended : List ℕ → List ℕ
ended line = line ++ 10 ∷ []

-- the lines of units, each where it stands
abbrev pub placed_lines : List Placed → List ℕ
placed_lines [] = []
placed_lines (p ∷ ps) = ended (unit_line p) ++ placed_lines ps

module _ (m : Meaning) (d : Direction) where
  -- the lines of units that stand from the place p on
  abbrev pub unit_lines : ℕ → List ElementUnit → List ℕ
  unit_lines p [] = []
  unit_lines p (u ∷ us) = ended (unit_line (placed m d p u)) ++ unit_lines (p + size m d u) us

  -- the lines of a whole element of n octets
  abbrev pub whole_listing : ℕ → List ElementUnit → List ℕ
  whole_listing n us = ended heading ++ (unit_lines (header options) us ++ ended (count_line (length us) n))

  abbrev pub listing_by : ℕ → Reading → List ℕ
  listing_by n (whole o us) = whole_listing n us
  listing_by n (declined f) = ended (fault_line (refusal_of f))

  abbrev pub listing : List ℕ → List ℕ
  listing e = listing_by (length e) (reads m d options e)
