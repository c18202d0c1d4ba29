-- The units of a whole element: the walk over them, and what it has still to hand out.
use Rattle.std.specs.Prelude.{ℕ, List, length, Ok, Err, Result}
use Rattle.catalogue.specs.declared.Direction.{Direction}
use Rattle.catalogue.specs.declared.Catalogue.{Ghosts}
use Rattle.catalogue.specs.Meaning.{Meaning}
use Rattle.element.specs.declared.reader.ReaderFault.{ReaderFault}
use Rattle.element.specs.declared.units.Units.{Units}
use Rattle.element.specs.Walk.{Placed, Walk, walk_of, from_header}
use Rattle.element.specs.Left.{units_left}
use Rattle.element.specs.Outer.{Outer}
use Rattle.element.specs.Reading.{Reading, whole, declined}

-- a walk over whole units, and how many they are
pub record WholeWalk : Type 0 where
  pub walk : Walk
  pub count : ℕ

abbrev pub whole_walk : {C : Type 0} (catalogue : Ghosts C) → Units C catalogue → WholeWalk
whole_walk catalogue us = record { walk = walk_of catalogue.meaning us.cursor; count = us.left }

-- the walk over units
abbrev pub walk_of_units : {C : Type 0} (catalogue : Ghosts C) → Units C catalogue → Walk
walk_of_units catalogue us = walk_of catalogue.meaning us.cursor

-- the units that are left of them
abbrev pub left_of : {C : Type 0} (catalogue : Ghosts C) → Units C catalogue → List Placed
left_of catalogue us = units_left (walk_of_units catalogue us)

abbrev pub walks : {C : Type 0} (catalogue : Ghosts C) → Result (Units C catalogue) ReaderFault → Result WholeWalk ReaderFault
walks catalogue (Ok us) = Ok (whole_walk catalogue us)
walks catalogue (Err f) = Err f

-- what is handed out of an element: as many units as it has, from the header on, or the fault
abbrev pub handing_out : Meaning → Direction → Outer → List ℕ → Reading → Result WholeWalk ReaderFault
handing_out m d outer e (whole o us) = Ok (record { walk = from_header m d outer e; count = length us })
handing_out m d outer e (declined f) = Err f
