-- Judge is declined by the first refusal that applies, and by no other, and then leaves every row.
use Rattle.std.proofs.Common.{◌≡◌, ℕ, ◌<◌, List, length, Ok, Err, Result, refl, ap, ◌∙◌, arith}
use Rattle.std.proofs.lemmas.Bool.Decides.{nat_tests as tests}
use Rattle.catalogue.specs.declared.Direction.{Direction}
use Rattle.catalogue.specs.Meaning.{Meaning}
use Rattle.element.specs.Outer.{Outer}
use Rattle.element.specs.Reading.{Reading, whole, declined, reads, units_of}
use Rattle.element.specs.Refusals as reader
use Rattle.judge.specs.declared.judging.JudgedUnit.{JudgedUnit}
use Rattle.judge.specs.declared.judging.JudgeFault.{JudgeFault}
use Rattle.judge.specs.declared.judging.JudgeFault.TheVariants.{Reader, TooFewRows}
use Rattle.judge.specs.Judging.{refusal_of, answered, rows_by, rows_of}
use Rattle.judge.specs.Refusals.{Applies, FirstToApply, RefusedInOrder}

module _ (m : Meaning) (d : Direction) (outer : Outer) (e : List ℕ) (rows : List JudgedUnit) (reading : reader.RefusedInOrder m d outer e) where
  applies : (r : Reading) → reads m d outer e ≡ r → (f : JudgeFault) → answered (length rows) r ≡ Err f → Applies m d outer e rows f
  applies r q (Reader f) a = let was : r ≡ declined f = grind (arith, tests) in (reading.declines f (q ∙ was)).applies
  applies r q (TooFewRows n) a = (grind (arith, tests), grind (arith, tests))

  none_lower : (r : Reading) → reads m d outer e ≡ r → (f : JudgeFault) → answered (length rows) r ≡ Err f → (g : JudgeFault) → (refusal_of g).number < (refusal_of f).number → Applies m d outer e rows g → ⊥
  none_lower r q (Reader f) a (Reader g) l b =
      let was : r ≡ declined f = grind (arith, tests) in (reading.declines f (q ∙ was)).first g l b
  none_lower (declined h) q (TooFewRows n) a (Reader g) l b = cc
  none_lower (whole o us) q (TooFewRows n) a (Reader g) l b = reading.accepts o us q g b
  none_lower r q f a (TooFewRows n) l b = grind (arith, tests)

  only : (r : Reading) → reads m d outer e ≡ r → (f : JudgeFault) → FirstToApply m d outer e rows f → answered (length rows) r ≡ Err f
  only (declined g) q (Reader f) a = let was = reading.only f (record { applies = a.applies; first = λ h l. a.first (Reader h) l }) in cc
  only (whole o us) q (Reader f) a = absurd (reading.accepts o us q f a.applies)
  only r q (TooFewRows n) a = let h = a.applies in grind (arith, tests)

  accepts : (r : Reading) → reads m d outer e ≡ r → (n : ℕ) → answered (length rows) r ≡ Ok n → (f : JudgeFault) → Applies m d outer e rows f → ⊥
  accepts (declined g) q n a (Reader f) b = cc
  accepts (whole o us) q n a (Reader f) b = reading.accepts o us q f b
  accepts r q n a (TooFewRows k) b = grind (arith, tests)

  pub refused_in_order : RefusedInOrder m d outer e rows
  refused_in_order =
      let r = reads m d outer e in
      record {
        declines = λ f q. record { applies = applies r refl f q; first = none_lower r refl f q };
        only = only r refl;
        accepts = accepts r refl;
        untouched = λ f q. ap (λ (a : Result ℕ JudgeFault). rows_by a (rows_of m d outer (units_of r)) rows) q;
      }
