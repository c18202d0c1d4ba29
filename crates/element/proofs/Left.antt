-- One unit handed out of those that are left.
use Rattle.std.proofs.Common.{◌≡◌, ℕ, ◌+◌, ◌-◌, List, [], ◌∷◌, length, Some, Ok, Option, Result, sym, refl, ap, ◌∙◌, arith}
use Rattle.catalogue.specs.declared.Direction.{Direction}
use Rattle.catalogue.specs.Meaning.{Meaning}
use Rattle.catalogue.specs.Laws.{Lawful}
use Rattle.element.specs.declared.cursor.PlacedUnit.{PlacedUnit}
use Rattle.element.specs.declared.reader.ReaderFault.{ReaderFault}
use Rattle.element.specs.Units.{ElementUnit, size}
use Rattle.element.specs.Reading.{Cut, onto}
use Rattle.element.specs.Walk.{Placed, Walk, seen, placed_unit, placed_from, unit_before, one_on, cut_on}
use Rattle.element.specs.Counts.{counted}
use Rattle.element.specs.Left.{cut_units, units_left}
use Rattle.element.proofs.Walk.{unit_of, turned_on}

pub length-placed_from : (m : Meaning) (d : Direction) (p : ℕ) (us : List ElementUnit) → length (placed_from m d p us) ≡ length us
length-placed_from m d p [] = refl
length-placed_from m d p (u ∷ us) = omega (arith, length-placed_from m d (p + size m d u) us)

-- as many units are left as were counted
pub length-units_left : (w : Walk) (n : ℕ) → counted (cut_on w) ≡ Ok n → length (units_left w) ≡ n
length-units_left w n h = let all = length-placed_from w.meaning w.direction w.position.place (cut_units (cut_on w)) in grind arith

-- a unit in front of octets that were cut into whole units
onto_whole : (u : ElementUnit) (c : Cut) (n : ℕ) → counted (onto u c) ≡ Ok n → (counted c ≡ Ok (n - 1)) × (cut_units (onto u c) ≡ u ∷ cut_units c)
onto_whole u c n h = grind arith

-- what a walk over n whole units, and the walk behind the first of them, say of each other
pub record HandedOut (w t : Walk) (n : ℕ) (u : Placed) : Type 0 where
  pub count : counted (cut_on t) ≡ Ok (n - 1)
  pub first : units_left w ≡ u ∷ units_left t

pub handed_out : (w t : Walk) → Lawful w.meaning → (n : ℕ) (r : Result (Option PlacedUnit) ReaderFault) (u : PlacedUnit) → counted (cut_on w) ≡ Ok n → seen r ≡ unit_before w → t ≡ one_on w → r ≡ Ok (Some u) → HandedOut w t n (placed_unit u)
handed_out w t law n r u so_many answer state is =
    let more = turned_on w t law r u answer state is in
    let whole = onto_whole (unit_of (placed_unit u)) (cut_on t) n (ap counted (sym more.cuts) ∙ so_many) in
    grind arith
