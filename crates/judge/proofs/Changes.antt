-- A listed change leaves the verdicts of the units that stand in both elements.
use Rattle.std.proofs.Common.{◌≡◌, ℕ, Bool, List, [], ◌∷◌, ◌++◌, length, sym, ap, ◌∙◌, arith}
use mathlib.Core.Path.{fun_ext}
use Rattle.std.proofs.lemmas.Bool.Decides.{nat_tests as tests}
use Rattle.catalogue.specs.declared.Direction.{Direction}
use Rattle.catalogue.specs.Meaning.{Meaning}
use Rattle.catalogue.specs.Laws.{Lawful}
use Rattle.element.specs.Units.{ElementUnit, unit}
use Rattle.judge.specs.Verdicts.{TurnedAside, NotRead, checked, chosen, met, filled_after, verdicts_from, verdicts, verdict_in, accepted}
use Rattle.judge.proofs.Parts.{chosen_without, passes-++}

module _ (m : Meaning) (law : Lawful m) (d : Direction) where
  -- a unit that is turned aside is nobody's companion, as a companion's row is plain
  pub met_without : (xs : List ElementUnit) (u : ElementUnit) (ys : List ElementUnit) → TurnedAside (verdict_in m d xs u ys) → met m d (xs ++ u ∷ ys) ≡ met m d (xs ++ ys)
  met_without xs u ys h =
      fun_ext (λ j. let plain = law.companion d j in grind (arith, tests, passes-++ m d xs (u ∷ ys), passes-++ m d xs ys))

  pub accepted_without : (xs : List ElementUnit) (u : ElementUnit) (ys : List ElementUnit) → TurnedAside (verdict_in m d xs u ys) → accepted m d (xs ++ u ∷ ys) ≡ accepted m d (xs ++ ys)
  accepted_without xs u ys h =
      chosen_without m d (met m d (xs ++ u ∷ ys)) [] xs u ys h
      ∙ ap (λ (k : ℕ → Bool). chosen (verdicts_from m d k [] (xs ++ ys)) (xs ++ ys)) (met_without xs u ys h)

module _ (m : Meaning) (d : Direction) (xs : List ElementUnit) (i : ℕ) (a b : List ℕ) (ys : List ElementUnit) (l : length a ≡ length b) (h : NotRead (verdict_in m d xs (unit i a) ys)) where
  -- what checks 1 and 2 refuse, they refuse by the length alone
  as_checked : checked (m d i).entry a ≡ checked (m d i).entry b
  as_checked = grind arith

  met_over : met m d (xs ++ unit i a ∷ ys) ≡ met m d (xs ++ unit i b ∷ ys)
  met_over =
      fun_ext (λ j. let same = as_checked in grind (arith, passes-++ m d xs (unit i a ∷ ys), passes-++ m d xs (unit i b ∷ ys)))

  -- the verdicts before and after the contents are overwritten
  pub over : verdicts m d (xs ++ unit i a ∷ ys) ≡ verdicts m d (xs ++ unit i b ∷ ys)
  over =
      same (met m d (xs ++ unit i a ∷ ys)) [] xs ∙ ap (λ (k : ℕ → Bool). verdicts_from m d k [] (xs ++ unit i b ∷ ys)) met_over
    where
      same : (c : ℕ → Bool) (filled : List ℕ) (zs : List ElementUnit) → verdicts_from m d c filled (zs ++ unit i a ∷ ys) ≡ verdicts_from m d c filled (zs ++ unit i b ∷ ys)
      same c filled [] = simp as_checked
      same c filled (z ∷ zs) = simp (same c (filled_after m d c filled z) zs)

  pub accepted_over : accepted m d (xs ++ unit i a ∷ ys) ≡ accepted m d (xs ++ unit i b ∷ ys)
  accepted_over =
      let c = met m d (xs ++ unit i a ∷ ys) in
      chosen_without m d c [] xs (unit i a) ys (grind arith)
      ∙ sym (chosen_without m d c [] xs (unit i b) ys (let same = as_checked in grind arith))
      ∙ ap (λ (k : ℕ → Bool). chosen (verdicts_from m d k [] (xs ++ unit i b ∷ ys)) (xs ++ unit i b ∷ ys)) met_over
