-- When judge is declined: the rows stay, and the fault is that of the first refusal that applies.
use Rattle.std.specs.Prelude.{◌≡◌, ℕ, ◌<◌, List, length, Ok, Err}
use Rattle.catalogue.specs.declared.Direction.{Direction}
use Rattle.catalogue.specs.Meaning.{Meaning}
use Rattle.element.specs.Outer.{Outer}
use Rattle.element.specs.Reading.{reads, units_of}
use Rattle.element.specs.Refusals as reader
use Rattle.judge.specs.declared.judging.JudgedUnit.{JudgedUnit}
use Rattle.judge.specs.declared.judging.JudgeFault.{JudgeFault}
use Rattle.judge.specs.declared.judging.JudgeFault.TheVariants.{Reader, TooFewRows}
use Rattle.judge.specs.Judging.{refusal_of, answer, rows_after}

module _ (m : Meaning) (d : Direction) (outer : Outer) (e : List ℕ) (rows : List JudgedUnit) where
  -- when a refusal applies: one of the reader's, or the element has n units and there are fewer rows; one that is not whole has none
  abbrev pub Applies : JudgeFault → Type 0
  Applies (Reader f) = reader.Applies m d outer e f
  Applies (TooFewRows n) = (n ≡ length (units_of (reads m d outer e))) × (length rows < n)

  -- it applies, and none of a smaller number does
  pub record FirstToApply (f : JudgeFault) : Type 0 where
    pub applies : Applies f
    pub first : (g : JudgeFault) → (refusal_of g).number < (refusal_of f).number → Applies g → ⊥

  -- judge is declined with the first refusal that applies, with no other, and answers only if none does; declined, it leaves every row
  pub record RefusedInOrder : Type 0 where
    pub declines : (f : JudgeFault) → answer m d outer e rows ≡ Err f → FirstToApply f
    pub only : (f : JudgeFault) → FirstToApply f → answer m d outer e rows ≡ Err f
    pub accepts : (n : ℕ) → answer m d outer e rows ≡ Ok n → (f : JudgeFault) → Applies f → ⊥
    pub untouched : (f : JudgeFault) → answer m d outer e rows ≡ Err f → rows_after m d outer e rows ≡ rows
