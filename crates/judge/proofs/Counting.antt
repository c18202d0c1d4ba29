-- What the code counts down agrees with the slots that are filled.
use Rattle.std.proofs.Common.{◌≡◌, ℕ, ◌-◌, ◌<◌, Bool, cond, List, [], ◌∷◌, get_or, arith}
use Rattle.std.proofs.lemmas.List.{get_or_past, get_or-set_same, get_or-set_other}
use Rattle.std.proofs.lemmas.Bool.Decides.{nat_tests}
use Rattle.catalogue.specs.declared.Direction.{Direction}
use Rattle.catalogue.specs.Meaning.{Meaning}
use Rattle.catalogue.specs.Slots.{holds}
use Rattle.element.specs.Units.{ElementUnit}
use Rattle.judge.specs.declared.verdicts.Verdict.{Verdict}
use Rattle.judge.specs.Verdicts.{is_accepted, slot_of, count, full, fill, verdict, filled_after}
use Rattle.judge.specs.Rooms.{all_free, full_by, taken_from, verdict_by, left_after}

-- for each slot, what it holds less what is filled is left
abbrev pub Agrees : List ℕ → List ℕ → Type 0
Agrees left filled = (s : ℕ) → 0 < s → get_or left s 0 ≡ holds s - count s filled

pub agrees_none : Agrees all_free []
agrees_none s h = grind (arith, nat_tests)

pub full_same : (left filled : List ℕ) → Agrees left filled → (s : ℕ) → full_by left s ≡ full filled s
full_same left filled a s = let now = a s in grind (arith, nat_tests)

-- one value more for the slot s
agrees_more : (left filled : List ℕ) (s : ℕ) → Agrees left filled → Agrees (taken_from left s) (s ∷ filled)
agrees_more left filled s a t pos = grind (arith, nat_tests, a t pos, get_or_past, get_or-set_same, get_or-set_other)

module _ (m : Meaning) (d : Direction) (meets : ℕ → Bool) (left filled : List ℕ) (a : Agrees left filled) (u : ElementUnit) where
  abbrev slot : ℕ
  slot = slot_of (m d u.identifier).entry

  pub verdict_same : verdict_by m d meets left u ≡ verdict m d meets filled u
  verdict_same = simp (full_same left filled a slot)

  pub agrees_after : Agrees (left_after m d meets left u) (filled_after m d meets filled u)
  agrees_after = both _ _ verdict_same
    where
      both : (v w : Verdict) → v ≡ w → Agrees (cond (is_accepted v) (taken_from left slot) left) (fill w slot filled)
      both v w e t pos = let more = agrees_more left filled slot a t pos in let same = a t pos in grind arith
