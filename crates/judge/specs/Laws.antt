-- What ties the definition of judging to the rules, whatever the element's octets.
use Rattle.std.specs.Prelude.{◌≡◌, ℕ, ◌≤◌, List, length}
use Rattle.catalogue.specs.declared.Direction.{Direction}
use Rattle.catalogue.specs.Meaning.{Meaning, AnswerAlike}
use Rattle.element.specs.Outer.{Outer}
use Rattle.element.specs.Units.{ElementUnit}
use Rattle.element.specs.Reading.{reads, units_of}
use Rattle.judge.specs.declared.judging.JudgedUnit.{JudgedUnit}
use Rattle.judge.specs.Checks.{FirstToFail}
use Rattle.judge.specs.Judging.{most_units, answer, rows_after}
use Rattle.judge.specs.Refusals.{RefusedInOrder}
use Rattle.judge.specs.Changes.{VerdictLaw}
use Rattle.judge.specs.Rows.{RowsAreTheUnits}
use Rattle.judge.specs.Fitting.{ValuesFit}

pub record JudgingLaw (m : Meaning) (d : Direction) (outer : Outer) (e : List ℕ) (rows : List JudgedUnit) : Type 0 where
  -- in both directions, the verdict of a unit is that of the first check that fails
  pub checks : (way : Direction) (before : List ElementUnit) (u : ElementUnit) (after : List ElementUnit) → FirstToFail m way before u after
  -- in both directions, a listed change leaves the verdicts of the units that stand in both elements
  pub verdicts : (way : Direction) → VerdictLaw m way outer
  -- in both directions, no slot gets more than it holds, nor a value of another size
  pub values : (way : Direction) → ValuesFit m way
  -- each row is its unit's
  pub rows_are : RowsAreTheUnits m d outer
  -- so many rows are enough for every element
  pub few : length (units_of (reads m d outer e)) ≤ most_units outer
  -- the fault is that of the first refusal that applies, and then no row is touched
  pub refusals : RefusedInOrder m d outer e rows
  -- catalogues that answer alike judge alike
  pub alike : (n : Meaning) → AnswerAlike m n → (answer n d outer e rows ≡ answer m d outer e rows) × (rows_after n d outer e rows ≡ rows_after m d outer e rows)
