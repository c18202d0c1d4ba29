-- The checks one after the other, as the code makes them: what a unit that passes has, or the verdict of the first check that fails.
-- That this verdict, and the room left after it, are those of Rooms.antt is `left_kept` and `left_taken` of proofs/Steps.antt; what the checks are, in the words of the rules, is Checks.antt.
use Rattle.std.specs.Prelude.{ℕ, cond, List, length, Some, None, Ok, Err, Option, Result}
use Rattle.catalogue.specs.declared.Row.{Row}
use Rattle.element.specs.Units.{ElementUnit}
use Rattle.element.specs.Walk.{Walk}
use Rattle.judge.specs.declared.verdicts.Verdict.{Verdict}
use Rattle.judge.specs.declared.verdicts.Verdict.TheVariants.{UnsupportedIdentifier, WrongLength, WrongValue, CompanionMissing, Surplus}
use Rattle.judge.specs.Rules.{allowed, right}
use Rattle.judge.specs.Verdicts.{companion_stands}
use Rattle.judge.specs.Rooms.{full_by, passes_on}

-- checks 1 to 3
abbrev pub passing_row : Option Row → List ℕ → Result Row Verdict
passing_row None os = Err UnsupportedIdentifier
passing_row (Some r) os = cond (allowed r.rule (length os)) (cond (right r.rule os) (Ok r) (Err WrongValue)) (Err WrongLength)

abbrev pub row_on : Walk → ElementUnit → Result Row Verdict
row_on w u = passing_row (w.meaning w.direction u.identifier).entry u.contents

-- checks 4 and 5 on a unit with the row r
abbrev pub last_checks : Walk → List ℕ → Result Row Verdict → Result ℕ Verdict
last_checks w left (Err v) = Err v
last_checks w left (Ok r) = cond (companion_stands (passes_on w) r.companions) (cond (full_by left r.slot) (Err Surplus) (Ok r.slot)) (Err CompanionMissing)

abbrev pub slot_or_verdict : Walk → List ℕ → ElementUnit → Result ℕ Verdict
slot_or_verdict w left u = last_checks w left (row_on w u)
