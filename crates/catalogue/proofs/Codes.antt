-- An operator's codes are declined with the refusal of the lowest place that applies, and otherwise can be read back from their octets.
use Rattle.std.proofs.Common.{◌≡◌, ℕ, ◌+◌, ◌-◌, ◌*◌, ◌/◌, ◌%◌, ◌<◌, cond, eqb, Ok, Err, arith}
use Rattle.std.proofs.lemmas.Bool.Decides.{nat_tests as tests}
use Rattle.catalogue.specs.declared.OperatorCode.{OperatorCode}
use Rattle.catalogue.specs.declared.layers.CatalogueFault.{CatalogueFault}
use Rattle.catalogue.specs.declared.layers.CatalogueFault.TheVariants.{TooManyIdentifiers, MccTooLarge, WrongDigits, MncTooLarge}
use Rattle.catalogue.specs.Layers.{refusal_of, operator_code}
use Rattle.catalogue.specs.Operators.{Applies, LowestToApply, OperatorLaw}

-- the codes, read back from the octets
abbrev mcc_of : OperatorCode → ℕ
mcc_of o = 100 * (o.first % 16) + 10 * (o.first / 16) + o.second % 16

abbrev mnc_of : ℕ → OperatorCode → ℕ
mnc_of digits o = cond (eqb digits 2) (10 * (o.third % 16) + o.third / 16) (100 * (o.third % 16) + 10 * (o.third / 16) + o.second / 16)

-- an octet is at least 160 if its high half is F, and less if that is a digit
abbrev digits_of : OperatorCode → ℕ
digits_of o = 3 - o.second / 160

module _ (mcc mnc digits : ℕ) where
  read_back : (o : OperatorCode) → operator_code mcc mnc digits ≡ Ok o → (mcc_of o ≡ mcc) × (mnc_of digits o ≡ mnc) × (digits_of o ≡ digits)
  read_back o q = grind (arith, tests)

  none_applies : (o : OperatorCode) → operator_code mcc mnc digits ≡ Ok o → (f : CatalogueFault) → Applies mcc mnc digits f → ⊥
  none_applies o q (TooManyIdentifiers n) a = a
  none_applies o q MccTooLarge a = grind (arith, tests)
  none_applies o q WrongDigits a = grind (arith, tests)
  none_applies o q MncTooLarge a = grind (arith, tests)

  applies : (f : CatalogueFault) → operator_code mcc mnc digits ≡ Err f → Applies mcc mnc digits f
  applies (TooManyIdentifiers n) q = grind (arith, tests)
  applies MccTooLarge q = grind (arith, tests)
  applies WrongDigits q = grind (arith, tests)
  applies MncTooLarge q = grind (arith, tests)

  none_lower : (f : CatalogueFault) → operator_code mcc mnc digits ≡ Err f → (g : CatalogueFault) → (refusal_of g).place < (refusal_of f).place → Applies mcc mnc digits g → ⊥
  none_lower f q (TooManyIdentifiers n) l a = a
  none_lower f q MccTooLarge l a = grind (arith, tests)
  none_lower f q WrongDigits l a = grind (arith, tests)
  none_lower f q MncTooLarge l a = grind (arith, tests)

  only : (f : CatalogueFault) → LowestToApply mcc mnc digits f → operator_code mcc mnc digits ≡ Err f
  only (TooManyIdentifiers n) a = absurd a.applies
  only MccTooLarge a = grind (arith, tests)
  only WrongDigits a = let small = a.lowest MccTooLarge (omega arith) in grind (arith, tests)
  only MncTooLarge a =
      let small = a.lowest MccTooLarge (omega arith) in let known = a.lowest WrongDigits (omega arith) in grind (arith, tests)

pub operator_law : (mcc mnc digits : ℕ) → OperatorLaw mcc mnc digits
operator_law mcc mnc digits =
    record {
      declines = λ f q. record { applies = applies mcc mnc digits f q; lowest = none_lower mcc mnc digits f q };
      only = only mcc mnc digits;
      accepts = none_applies mcc mnc digits;
      no_other = λ o q a b n r. let s = read_back mcc mnc digits o q in let t = read_back a b n o r in (cc, cc, cc);
    }
