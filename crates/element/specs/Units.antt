-- A unit, and the octets of units and of a whole element.
use Rattle.std.specs.Prelude.{ℕ, ◌+◌, ◌/◌, ◌%◌, ◌<◌, cond, List, [], ◌∷◌, ◌++◌, length, ◌==◌}
use Rattle.std.specs.List.{AllByRecursion}
use Rattle.catalogue.specs.declared.Direction.{Direction}
use Rattle.catalogue.specs.Meaning.{Meaning}
use Rattle.element.specs.Outer.{Outer}

abbrev pub Octets : List ℕ → Type 0
Octets os = AllByRecursion (λ (x : ℕ). x < 256) os

pub record ElementUnit : Type 0 where
  pub identifier : ℕ
  pub contents : List ℕ

abbrev pub unit : ℕ → List ℕ → ElementUnit
unit i os = record { identifier = i; contents = os }

-- a number as one octet or two, high octet first
abbrev pub field : ℕ → ℕ → List ℕ
field w n = cond (w == 1) (n ∷ []) ((n / 256) ∷ (n % 256) ∷ [])

module _ (m : Meaning) (d : Direction) where
  -- the octets of a unit's length field
  abbrev pub width : ElementUnit → ℕ
  width u = (m d u.identifier).width

  -- the octets of a unit: two of identifier, the length field, the contents
  abbrev pub size : ElementUnit → ℕ
  size u = 2 + width u + length u.contents

  abbrev pub written : ElementUnit → List ℕ
  written u = (u.identifier / 256) ∷ (u.identifier % 256) ∷ (field (width u) (length u.contents) ++ u.contents)

  abbrev pub all_written : List ElementUnit → List ℕ
  all_written [] = []
  all_written (u ∷ us) = written u ++ all_written us

  -- the octets of the element with the configuration octet o and the units us
  abbrev pub element : Outer → ℕ → List ElementUnit → List ℕ
  element outer o us = outer.first ∷ (field outer.length_octets (1 + length (all_written us)) ++ o ∷ all_written us)
