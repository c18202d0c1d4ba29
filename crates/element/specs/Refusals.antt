-- The reader's refusals: when each applies, and that the first that applies is given.
use Rattle.std.specs.Prelude.{◌≡◌, ℕ, ◌<◌, List, ◌++◌, length, take, drop, ◌≢◌, slice_index}
use Rattle.catalogue.specs.declared.Direction.{Direction}
use Rattle.catalogue.specs.declared.Layer.TheVariants.{Reader}
use Rattle.catalogue.specs.declared.Refusal.{Refusal}
use Rattle.catalogue.specs.Meaning.{Meaning}
use Rattle.element.specs.declared.reader.ReaderFault.{ReaderFault}
use Rattle.element.specs.declared.reader.ReaderFault.TheVariants.{TooShort, WrongFirst, LengthDiffers, TooLong, RunsPast}
use Rattle.element.specs.Outer.{Outer, header, announced}
use Rattle.element.specs.Units.{ElementUnit, written, all_written}
use Rattle.element.specs.Reading.{whole, declined, reads}

abbrev refusal : ℕ → ℕ → Refusal
refusal n p = record { number = n; place = p; layer = Reader }

-- the line of the table of refusals that a fault stands for
abbrev pub refusal_of : ReaderFault → Refusal
refusal_of (TooShort n) = refusal 1 n
refusal_of WrongFirst = refusal 2 0
refusal_of (LengthDiffers n) = refusal 3 n
refusal_of (TooLong n) = refusal 4 n
refusal_of (RunsPast p) = refusal 5 p

module _ (m : Meaning) (d : Direction) (outer : Outer) (e : List ℕ) where
  -- a unit runs past the end at the place p: the octets before p are the header and whole units, and no unit stands at p
  pub record RunsPastAt (p : ℕ) : Type 0 where
    pub inside : p < length e
    pub before : (us : List ElementUnit) × (take p e ≡ take (header outer) e ++ all_written m d us)
    pub none : (u : ElementUnit) (rest : List ℕ) → drop p e ≢ written m d u ++ rest

  -- when a refusal applies
  abbrev pub Applies : ReaderFault → Type 0
  Applies (TooShort n) = (length e < outer.least) × (n ≡ length e)
  Applies WrongFirst = slice_index e 0 ≡ outer.first → ⊥
  Applies (LengthDiffers n) = (announced outer e ≢ length e) × (n ≡ length e)
  Applies (TooLong n) = (outer.greatest < length e) × (n ≡ length e)
  Applies (RunsPast p) = RunsPastAt p

  -- it applies, and none of a smaller number does
  pub record FirstToApply (f : ReaderFault) : Type 0 where
    pub applies : Applies f
    pub first : (g : ReaderFault) → (refusal_of g).number < (refusal_of f).number → Applies g → ⊥

  -- an element is declined with the first refusal that applies, with no other, and whole only if none does
  pub record RefusedInOrder : Type 0 where
    pub declines : (f : ReaderFault) → reads m d outer e ≡ declined f → FirstToApply f
    pub only : (f : ReaderFault) → FirstToApply f → reads m d outer e ≡ declined f
    pub accepts : (o : ℕ) (us : List ElementUnit) → reads m d outer e ≡ whole o us → (f : ReaderFault) → Applies f → ⊥
