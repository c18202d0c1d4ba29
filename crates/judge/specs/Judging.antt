-- What judge answers, and what it leaves in the caller's rows.
use Rattle.std.specs.Prelude.{ℕ, ◌+◌, ◌-◌, ◌/◌, cond, List, [], ◌∷◌, ◌++◌, length, drop, Ok, Err, Result, nat_le}
use Rattle.catalogue.specs.declared.Direction.{Direction}
use Rattle.catalogue.specs.declared.Layer.TheVariants as layer
use Rattle.catalogue.specs.declared.Refusal.{Refusal}
use Rattle.catalogue.specs.Meaning.{Meaning}
use Rattle.element.specs.Outer.{Outer, header}
use Rattle.element.specs.Units.{ElementUnit, width, size}
use Rattle.element.specs.Reading.{Reading, whole, declined, reads, units_of}
use Rattle.element.specs.Refusals as reader
use Rattle.element.specs.Walk.{Walk}
use Rattle.element.specs.Left.{units_on}
use Rattle.judge.specs.declared.verdicts.Verdict.{Verdict}
use Rattle.judge.specs.declared.verdicts.Verdict.TheVariants.{UnsupportedIdentifier}
use Rattle.judge.specs.declared.judging.JudgedUnit.{JudgedUnit}
use Rattle.judge.specs.declared.judging.JudgeFault.{JudgeFault}
use Rattle.judge.specs.declared.judging.JudgeFault.TheVariants.{Reader, TooFewRows}
use Rattle.judge.specs.Verdicts.{verdicts}

-- the line of the table of refusals that a fault stands for
abbrev pub refusal_of : JudgeFault → Refusal
refusal_of (Reader f) = reader.refusal_of f
refusal_of (TooFewRows n) = record { number = 9; place = n; layer = layer.Reader }

abbrev pub judged_unit : ℕ → ℕ → ℕ → ℕ → Verdict → JudgedUnit
judged_unit p i a n v = record { place = p; identifier = i; start = a; octets = n; verdict = v }

-- a row that nothing was written to
abbrev pub blank : JudgedUnit
blank = judged_unit 0 0 0 0 UnsupportedIdentifier

-- the number of units, if the element is whole and there are rows enough, n being lent
abbrev pub answered : ℕ → Reading → Result ℕ JudgeFault
answered n (declined f) = Err (Reader f)
answered n (whole o us) = cond (nat_le (length us) n) (Ok (length us)) (Err (TooFewRows (length us)))

-- the new rows, and the later ones as they were; all as they were if judge is declined
abbrev pub rows_by : Result ℕ JudgeFault → List JudgedUnit → List JudgedUnit → List JudgedUnit
rows_by (Ok n) new rows = new ++ drop n rows
rows_by (Err f) new rows = rows

-- a unit has three octets or more, so no element has more units than this
abbrev pub most_units : Outer → ℕ
most_units outer = (outer.greatest - header outer) / 3

module _ (m : Meaning) (d : Direction) where
  -- one row a unit, from the place p on
  abbrev pub rows_from : ℕ → List Verdict → List ElementUnit → List JudgedUnit
  rows_from p [] us = []
  rows_from p (v ∷ vs) [] = []
  rows_from p (v ∷ vs) (u ∷ us) =
      judged_unit p u.identifier (p + 2 + width m d u) (length u.contents) v ∷ rows_from (p + size m d u) vs us

  abbrev pub rows_of : Outer → List ElementUnit → List JudgedUnit
  rows_of outer us = rows_from (header outer) (verdicts m d us) us

  abbrev pub answer : Outer → List ℕ → List JudgedUnit → Result ℕ JudgeFault
  answer outer e rows = answered (length rows) (reads m d outer e)

  abbrev pub rows_after : Outer → List ℕ → List JudgedUnit → List JudgedUnit
  rows_after outer e rows = rows_by (answer outer e rows) (rows_of outer (units_of (reads m d outer e))) rows

-- the rows of the units of a walk
abbrev pub rows_on : Walk → List JudgedUnit
rows_on w = let us = units_on w in rows_from w.meaning w.direction w.position.place (verdicts w.meaning w.direction us) us
