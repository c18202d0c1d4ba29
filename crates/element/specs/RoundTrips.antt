-- What was written reads back, and what was read is written back.
use Rattle.std.specs.Prelude.{◌≡◌, ℕ, ◌≤◌, List, length}
use Rattle.catalogue.specs.declared.Direction.{Direction}
use Rattle.catalogue.specs.Meaning.{Meaning}
use Rattle.element.specs.Outer.{Outer}
use Rattle.element.specs.Units.{ElementUnit, element}
use Rattle.element.specs.Reading.{whole, reads}

module _ (m : Meaning) (d : Direction) (outer : Outer) where
  -- the octets of any units under any configuration octet, up to the greatest size, read as that octet and those units
  abbrev pub ReadBack : Type 0
  ReadBack =
      (o : ℕ) (us : List ElementUnit) → length (element m d outer o us) ≤ outer.greatest → reads m d outer (element m d outer o us) ≡ whole o us

  -- the units of a whole element, written under its configuration octet, are its octets again
  abbrev pub WrittenBack : List ℕ → Type 0
  WrittenBack e = (o : ℕ) (us : List ElementUnit) → reads m d outer e ≡ whole o us → element m d outer o us ≡ e
