-- What is left of a walk over whole units.
use Rattle.std.specs.Prelude.{◌≡◌, ℕ, List, [], length}
use Rattle.catalogue.specs.declared.Direction.{Direction}
use Rattle.catalogue.specs.Meaning.{Meaning}
use Rattle.element.specs.Outer.{Outer, configuration}
use Rattle.element.specs.Units.{ElementUnit}
use Rattle.element.specs.Reading.{Cut, cut, stuck_at, whole, reads}
use Rattle.element.specs.Walk.{Placed, Walk, cut_on, placed_from, from_header}

abbrev pub cut_units : Cut → List ElementUnit
cut_units (cut us) = us
cut_units (stuck_at p) = []

-- the units that a walk has still to hand out
abbrev pub units_on : Walk → List ElementUnit
units_on w = cut_units (cut_on w)

-- and each where it stands
abbrev pub units_left : Walk → List Placed
units_left w = placed_from w.meaning w.direction w.position.place (units_on w)

-- the walk w hands out the units of the element e, which is whole, from the header on
pub record HandsOut (m : Meaning) (d : Direction) (outer : Outer) (e : List ℕ) (w : Walk) : Type 0 where
  pub walk : w ≡ from_header m d outer e
  pub whole_element : reads m d outer e ≡ whole (configuration outer e) (units_on w)
  pub count : length (units_left w) ≡ length (units_on w)
