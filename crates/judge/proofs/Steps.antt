-- The checks one after the other give the verdict.
use Rattle.std.proofs.Common.{◌≡◌, ℕ, List, Ok, Err, arith}
use Rattle.element.specs.Units.{ElementUnit}
use Rattle.element.specs.Walk.{Walk}
use Rattle.judge.specs.declared.verdicts.Verdict.{Verdict}
use Rattle.judge.specs.declared.verdicts.Verdict.TheVariants.{Accepted}
use Rattle.judge.specs.Rooms.{taken_from, verdict_on, left_on}
use Rattle.judge.specs.Steps.{slot_or_verdict}

module _ (w : Walk) (left : List ℕ) (u : ElementUnit) where
  -- a unit that is turned aside takes no room
  pub left_kept : (v : Verdict) → slot_or_verdict w left u ≡ Err v → (v ≡ verdict_on w left u) × (left ≡ left_on w left u)
  left_kept v q = grind arith

  -- one that passes takes room for one value
  pub left_taken : (s : ℕ) → slot_or_verdict w left u ≡ Ok s → (Accepted ≡ verdict_on w left u) × (taken_from left s ≡ left_on w left u)
  left_taken s q = grind arith
