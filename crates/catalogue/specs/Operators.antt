-- What ties the octets of an operator to its codes: when the codes are declined, and that no two operators have the same octets.
use Rattle.std.specs.Prelude.{◌≡◌, ℕ, ◌^◌, ◌<◌, ◌≤◌, Ok, Err, ◌≢◌}
use Rattle.catalogue.specs.declared.OperatorCode.{OperatorCode}
use Rattle.catalogue.specs.declared.layers.CatalogueFault.{CatalogueFault}
use Rattle.catalogue.specs.declared.layers.CatalogueFault.TheVariants.{TooManyIdentifiers, MccTooLarge, WrongDigits, MncTooLarge}
use Rattle.catalogue.specs.Layers.{refusal_of, operator_code}

module _ (mcc mnc digits : ℕ) where
  -- when a refusal applies to the codes of an operator
  abbrev pub Applies : CatalogueFault → Type 0
  Applies (TooManyIdentifiers n) = ⊥
  Applies MccTooLarge = 999 < mcc
  Applies WrongDigits = (digits ≢ 2) × (digits ≢ 3)
  Applies MncTooLarge = 10 ^ digits ≤ mnc

  -- it applies, and none of a lower place does
  pub record LowestToApply (f : CatalogueFault) : Type 0 where
    pub applies : Applies f
    pub lowest : (g : CatalogueFault) → (refusal_of g).place < (refusal_of f).place → Applies g → ⊥

  pub record OperatorLaw : Type 0 where
    -- the codes are declined with the refusal of the lowest place that applies, with no other, and have octets only if none applies
    pub declines : (f : CatalogueFault) → operator_code mcc mnc digits ≡ Err f → LowestToApply f
    pub only : (f : CatalogueFault) → LowestToApply f → operator_code mcc mnc digits ≡ Err f
    pub accepts : (o : OperatorCode) → operator_code mcc mnc digits ≡ Ok o → (f : CatalogueFault) → Applies f → ⊥
    -- no other codes have the same octets
    pub no_other : (o : OperatorCode) → operator_code mcc mnc digits ≡ Ok o → (a b n : ℕ) → operator_code a b n ≡ Ok o → (a ≡ mcc) × (b ≡ mnc) × (n ≡ digits)
