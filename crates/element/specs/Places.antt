-- Where each unit of a whole element stands.
use Rattle.std.specs.Prelude.{◌≡◌, ℕ, ◌+◌, List, [], ◌∷◌, ◌++◌, length, take, drop}
use Rattle.catalogue.specs.declared.Direction.{Direction}
use Rattle.catalogue.specs.Meaning.{Meaning}
use Rattle.element.specs.Outer.{Outer, header}
use Rattle.element.specs.Units.{ElementUnit, width, size, written, all_written}

module _ (m : Meaning) (d : Direction) where
  -- the place after units that stand from the place p on
  abbrev pub place_from : ℕ → List ElementUnit → ℕ
  place_from p [] = p
  place_from p (u ∷ us) = place_from (p + size m d u) us

  -- the place of the unit that follows the units `before` of an element
  abbrev pub place_after : Outer → List ElementUnit → ℕ
  place_after outer before = place_from (header outer) before

  -- the units us tile the element e; that a walk hands each out at its place is the walk's law
  pub record Places (outer : Outer) (e : List ℕ) (us : List ElementUnit) : Type 0 where
    -- the first unit stands after the header
    pub first : place_after outer [] ≡ header outer
    -- a unit's place + 2 + width + length is the next one's place
    pub next : (before : List ElementUnit) (u : ElementUnit) (after : List ElementUnit) → us ≡ before ++ u ∷ after → place_after outer before + 2 + width m d u + length u.contents ≡ place_after outer (before ++ u ∷ [])
    -- and for the last the element's length
    pub last : place_after outer us ≡ length e
    -- from the unit's place on the octets are the unit's and those of the units after it
    pub octets : (before : List ElementUnit) (u : ElementUnit) (after : List ElementUnit) → us ≡ before ++ u ∷ after → drop (place_after outer before) e ≡ written m d u ++ all_written m d after
    -- the octets from the contents' place are the contents
    pub contents : (before : List ElementUnit) (u : ElementUnit) (after : List ElementUnit) → us ≡ before ++ u ∷ after → take (length u.contents) (drop (place_after outer before + 2 + width m d u) e) ≡ u.contents
