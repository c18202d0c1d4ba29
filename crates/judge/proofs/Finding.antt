-- The search for a companion, unit by unit.
use Rattle.std.proofs.Common.{◌≡◌, ℕ, ◌+◌, List, [], ◌∷◌, refl}
use Rattle.std.specs.List.{list_any}
use Rattle.catalogue.specs.declared.Direction.{Direction}
use Rattle.catalogue.specs.Meaning.{Meaning}
use Rattle.element.specs.Units.{ElementUnit, size}
use Rattle.element.specs.Walk.{Placed, placed_from, Walk}
use Rattle.element.specs.Left.{units_on, units_left}
use Rattle.element.proofs.Walk.{unit_of}
use Rattle.judge.specs.Verdicts.{passes_as, passes}
use Rattle.judge.specs.Rooms.{passes_as_on, passes_on}

list_any-placed_from : (m : Meaning) (d : Direction) (i p : ℕ) (us : List ElementUnit) → list_any (λ (x : Placed). passes_as m d (unit_of x) i) (placed_from m d p us) ≡ passes m d us i
list_any-placed_from m d i p [] = refl
list_any-placed_from m d i p (u ∷ us) = simp (list_any-placed_from m d i (p + size m d u) us)

-- a unit that passes as i is among those that are handed out, if it is among the walk's
pub list_any-placed : (w : Walk) (i : ℕ) → list_any (λ (x : Placed). passes_as_on w (unit_of x) i) (units_left w) ≡ passes_on w i
list_any-placed w i = list_any-placed_from w.meaning w.direction i w.position.place (units_on w)
