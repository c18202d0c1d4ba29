-- The verdicts of a list of units, part by part.
use Rattle.std.proofs.Common.{◌≡◌, ℕ, suc, Bool, ◌||◌, List, [], ◌∷◌, ◌++◌, length, refl, ap, arith}
use Rattle.catalogue.specs.declared.Direction.{Direction}
use Rattle.catalogue.specs.Meaning.{Meaning}
use Rattle.element.specs.Units.{ElementUnit}
use Rattle.judge.specs.declared.verdicts.Verdict.{Verdict}
use Rattle.judge.specs.Verdicts.{TurnedAside, choose, chosen, passes, verdict, filled_after, verdicts_from, filled_by}

module _ (m : Meaning) (d : Direction) (meets : ℕ → Bool) where
  pub from-++ : (filled : List ℕ) (xs ys : List ElementUnit) → verdicts_from m d meets filled (xs ++ ys) ≡ verdicts_from m d meets filled xs ++ verdicts_from m d meets (filled_by m d meets filled xs) ys
  from-++ filled [] ys = refl
  from-++ filled (x ∷ xs) ys = simp (from-++ (filled_after m d meets filled x) xs ys)

  pub from_length : (filled : List ℕ) (xs : List ElementUnit) → length (verdicts_from m d meets filled xs) ≡ length xs
  from_length filled [] = refl
  from_length filled (x ∷ xs) = ap suc (from_length (filled_after m d meets filled x) xs)

  -- the units chosen of a list are those of its first part, and then those of the rest
  pub chosen-++ : (filled : List ℕ) (xs : List ElementUnit) (vs : List Verdict) (ys : List ElementUnit) → chosen (verdicts_from m d meets filled xs ++ vs) (xs ++ ys) ≡ chosen (verdicts_from m d meets filled xs) xs ++ chosen vs ys
  chosen-++ filled [] vs ys = refl
  chosen-++ filled (x ∷ xs) vs ys = grind (arith, chosen-++ (filled_after m d meets filled x) xs vs ys)

module _ (m : Meaning) (d : Direction) where
  -- a unit that is turned aside leaves the choice of the others
  pub chosen_without : (meets : ℕ → Bool) (filled : List ℕ) (xs : List ElementUnit) (u : ElementUnit) (ys : List ElementUnit) → TurnedAside (verdict m d meets (filled_by m d meets filled xs) u) → chosen (verdicts_from m d meets filled (xs ++ u ∷ ys)) (xs ++ u ∷ ys) ≡ chosen (verdicts_from m d meets filled (xs ++ ys)) (xs ++ ys)
  chosen_without meets filled [] u ys h = grind arith
  chosen_without meets filled (x ∷ xs) u ys h =
      ap (choose (verdict m d meets filled x) x) (chosen_without meets (filled_after m d meets filled x) xs u ys h)

  pub passes-++ : (xs ys : List ElementUnit) (i : ℕ) → passes m d (xs ++ ys) i ≡ (passes m d xs i || passes m d ys i)
  passes-++ [] ys i = refl
  passes-++ (x ∷ xs) ys i = grind (arith, passes-++ xs ys i)
