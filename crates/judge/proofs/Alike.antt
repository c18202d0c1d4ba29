-- Catalogues that answer alike judge alike.
use Rattle.std.proofs.Common.{◌≡◌, ℕ, ◌+◌, ◌<◌, Bool, List, [], ◌∷◌, length, refl, ap, ◌∙◌, ap₂, arith}
use Rattle.std.specs.List.{AllByRecursion}
use Rattle.catalogue.specs.declared.Direction.{Direction}
use Rattle.catalogue.specs.Meaning.{Meaning}
use Rattle.element.specs.Outer.{Outer, LawfulOuter, header}
use Rattle.element.specs.Units.{Octets, ElementUnit, size}
use Rattle.element.specs.Reading.{Reading, whole, declined, reads, units_of}
use Rattle.element.proofs.Cuts.{Small}
use Rattle.element.proofs.RoundTrips.{reading_is}
use Rattle.element.proofs.Alike.{reads_same}
use Rattle.judge.specs.declared.verdicts.Verdict.{Verdict}
use Rattle.judge.specs.declared.judging.JudgedUnit.{JudgedUnit}
use Rattle.judge.specs.Verdicts.{passes, met, filled_after, verdicts_from, verdicts}
use Rattle.judge.specs.Judging.{answered, rows_by, rows_from, rows_of, answer, rows_after}

module _ (m n : Meaning) (d : Direction) (alike : (i : ℕ) → i < 0x10000 → m d i ≡ n d i) where
  passes_same : (us : List ElementUnit) → AllByRecursion Small us → (i : ℕ) → passes m d us i ≡ passes n d us i
  passes_same [] h i = refl
  passes_same (u ∷ us) h i = simp (alike u.identifier h.0, passes_same us h.1 i)

  met_same : (us : List ElementUnit) → AllByRecursion Small us → (j : ℕ) → j < 0x10000 → met m d us j ≡ met n d us j
  met_same us h j k = let entries = alike j k in let same = passes_same us h in grind arith

  verdicts_same : (b c : ℕ → Bool) → ((j : ℕ) → j < 0x10000 → b j ≡ c j) → (filled : List ℕ) (us : List ElementUnit) → AllByRecursion Small us → verdicts_from m d b filled us ≡ verdicts_from n d c filled us
  verdicts_same b c agree filled [] h = refl
  verdicts_same b c agree filled (u ∷ us) h =
      let entries = alike u.identifier h.0 in
      let stands = agree u.identifier h.0 in
      let rest = verdicts_same b c agree (filled_after m d b filled u) us h.1 in
      cc

  rows_from_same : (p : ℕ) (vs : List Verdict) (us : List ElementUnit) → AllByRecursion Small us → rows_from m d p vs us ≡ rows_from n d p vs us
  rows_from_same p [] us h = refl
  rows_from_same p (v ∷ vs) [] h = refl
  rows_from_same p (v ∷ vs) (u ∷ us) h =
      let widths = alike u.identifier h.0 in let rest = rows_from_same (p + size m d u) vs us h.1 in cc

  module _ (outer : Outer) (lawful : LawfulOuter outer) (e : List ℕ) (octets : Octets e) where
    small : (r : Reading) → reads m d outer e ≡ r → AllByRecursion Small (units_of r)
    small (whole o us) q = (reading_is outer lawful m d e octets (whole o us) q).2
    small (declined f) q = tt

    rows_same : rows_of m d outer (units_of (reads m d outer e)) ≡ rows_of n d outer (units_of (reads n d outer e))
    rows_same =
        let us = units_of (reads m d outer e) in
        let h = small (reads m d outer e) refl in
        ap (λ (vs : List Verdict). rows_from m d (header outer) vs us) (verdicts_same (met m d us) (met n d us) (met_same us h) [] us h)
        ∙ rows_from_same (header outer) (verdicts n d us) us h
        ∙ ap (λ (r : Reading). rows_of n d outer (units_of r)) (reads_same m n d alike outer e octets)

    pub answer_same : (rows : List JudgedUnit) → answer m d outer e rows ≡ answer n d outer e rows
    answer_same rows = ap (λ (r : Reading). answered (length rows) r) (reads_same m n d alike outer e octets)

    pub rows_after_same : (rows : List JudgedUnit) → rows_after m d outer e rows ≡ rows_after n d outer e rows
    rows_after_same rows = ap₂ (λ a (new : List JudgedUnit). rows_by a new rows) (answer_same rows) rows_same
