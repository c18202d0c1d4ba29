-- What an element gives for a slot fits that slot.
use Rattle.std.specs.Prelude.{◌≡◌, ℕ, ◌<◌, ◌≤◌, List, length}
use Rattle.std.specs.List.{AllByRecursion}
use Rattle.catalogue.specs.declared.Direction.{Direction}
use Rattle.catalogue.specs.Meaning.{Meaning}
use Rattle.catalogue.specs.Slots.{holds, octets_of}
use Rattle.element.specs.Units.{ElementUnit}
use Rattle.judge.specs.Verdicts.{values_for}

-- no more values than the slot holds, and each of the slot's number of octets
pub record Fits (s : ℕ) (vs : List (List ℕ)) : Type 0 where
  pub room : length vs ≤ holds s
  pub octets : AllByRecursion (λ (v : List ℕ). length v ≡ octets_of s) vs

-- so are the values of the accepted units of every slot but 0
abbrev pub ValuesFit : Meaning → Direction → Type 0
ValuesFit m d = (s : ℕ) → 0 < s → (us : List ElementUnit) → Fits s (values_for m d s us)
