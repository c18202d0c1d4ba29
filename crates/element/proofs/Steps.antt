-- The cutting one unit at a time, as a loop goes: the fuel does not matter.
use Rattle.std.proofs.Common.{◌≡◌, ℕ, zero, suc, ◌+◌, ◌≤◌, List, [], ◌∷◌, length, refl, arith}
use Rattle.catalogue.specs.declared.Direction.{Direction}
use Rattle.catalogue.specs.Meaning.{Meaning}
use Rattle.catalogue.specs.Laws.{Lawful}
use Rattle.element.specs.Units.{ElementUnit, size}
use Rattle.element.specs.Reading.{Front, stands, Cut, front, next, cutting}
use Rattle.element.proofs.Fronts.{front_sized}

-- cuts that go on alike behind a unit are alike
pub next_alike : (m n : Meaning) (d : Direction) (f : Front) (g h : ℕ → List ℕ → Cut) (p : ℕ) → ((u : ElementUnit) (rest : List ℕ) → f ≡ stands u rest → g (p + size m d u) rest ≡ h (p + size n d u) rest) → next m d f g p ≡ next n d f h p
next_alike m n d f g h p e = grind arith

module _ (m : Meaning) (d : Direction) (law : Lawful m) where
  -- enough fuel is enough
  cutting_fuel : (k l p : ℕ) (os : List ℕ) → length os ≤ k → length os ≤ l → cutting m d k p os ≡ cutting m d l p os
  cutting_fuel (suc k) (suc l) p os a b =
      next_alike m m d (front m d os) (cutting m d k) (cutting m d l) p
      (λ u rest q. let less = front_sized m d law os u rest q in cutting_fuel k l (p + size m d u) rest (omega arith) (omega arith))
  cutting_fuel k zero p [] a b = refl
  cutting_fuel k (suc l) p [] a b = refl
  cutting_fuel k l p (x ∷ os) a b = absurd (omega arith)

  -- one unit off the front, and on with the rest
  pub cut_step : (p : ℕ) (os : List ℕ) → cutting m d (length os) p os ≡ next m d (front m d os) (λ q rest. cutting m d (length rest) q rest) p
  cut_step p [] = refl
  cut_step p (x ∷ os) =
      next_alike m m d (front m d (x ∷ os)) (cutting m d (length os)) (λ q rest. cutting m d (length rest) q rest) p
      (λ u rest q. let less = front_sized m d law (x ∷ os) u rest q in cutting_fuel (length os) (length rest) (p + size m d u) rest (omega arith) (omega arith))
