-- Each row that judge writes is its unit's.
use Rattle.std.proofs.Common.{◌≡◌, ℕ, suc, ◌+◌, Bool, List, [], ◌∷◌, ◌++◌, length, Some, refl, ap, arith}
use Rattle.catalogue.specs.declared.Direction.{Direction}
use Rattle.catalogue.specs.Meaning.{Meaning}
use Rattle.element.specs.Outer.{Outer, header}
use Rattle.element.specs.Units.{ElementUnit, width, size}
use Rattle.element.specs.Places.{place_from}
use Rattle.judge.specs.declared.verdicts.Verdict.{Verdict}
use Rattle.judge.specs.Verdicts.{met, verdict, filled_after, filled_by, verdicts_from, verdicts}
use Rattle.judge.specs.Judging.{judged_unit, rows_from}
use Rattle.judge.specs.Changes.{nth}
use Rattle.judge.specs.Rows.{RowsAreTheUnits}
use Rattle.judge.proofs.Parts.{from_length}

module _ (m : Meaning) (d : Direction) where
  -- a row for each unit, if each has a verdict
  rows_length : (p : ℕ) (vs : List Verdict) (us : List ElementUnit) → length vs ≡ length us → length (rows_from m d p vs us) ≡ length us
  rows_length p [] [] e = refl
  rows_length p [] (u ∷ us) e = absurd (omega arith)
  rows_length p (v ∷ vs) [] e = absurd (omega arith)
  rows_length p (v ∷ vs) (u ∷ us) e = ap suc (rows_length (p + size m d u) vs us (omega arith))

  row_at : (meets : ℕ → Bool) (p : ℕ) (filled : List ℕ) (before : List ElementUnit) (u : ElementUnit) (after : List ElementUnit) → nth (rows_from m d p (verdicts_from m d meets filled (before ++ u ∷ after)) (before ++ u ∷ after)) (length before) ≡ Some (judged_unit (place_from m d p before) u.identifier (place_from m d p before + 2 + width m d u) (length u.contents) (verdict m d meets (filled_by m d meets filled before) u))
  row_at meets p filled [] u after = refl
  row_at meets p filled (x ∷ before) u after = row_at meets (p + size m d x) (filled_after m d meets filled x) before u after

  pub rows_are_the_units : (outer : Outer) → RowsAreTheUnits m d outer
  rows_are_the_units outer =
      record {
        one_each = λ us. rows_length (header outer) (verdicts m d us) us (from_length m d (met m d us) [] us);
        row = λ before u after. row_at (met m d (before ++ u ∷ after)) (header outer) [] before u after;
      }
