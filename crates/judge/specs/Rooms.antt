-- How many more values each slot takes, as the code counts them down, and the verdicts that follow.
use Rattle.std.specs.Prelude.{ℕ, ◌-◌, Bool, false, cond, List, [], ◌∷◌, ◌==◌, slice_index, slice_set}
use Rattle.catalogue.specs.declared.Direction.{Direction}
use Rattle.catalogue.specs.Meaning.{Meaning}
use Rattle.catalogue.specs.Slots.{holds}
use Rattle.element.specs.Units.{ElementUnit}
use Rattle.element.specs.Walk.{Walk}
use Rattle.element.specs.Left.{units_on}
use Rattle.judge.specs.declared.verdicts.Verdict.{Verdict}
use Rattle.judge.specs.Verdicts.{is_accepted, or_else, checked, last_two, slot_of, passes_as, passes, met}

-- nothing is filled: every slot takes as many values as it holds
abbrev pub all_free : List ℕ
all_free =
    holds 0 ∷ holds 1 ∷ holds 2 ∷ holds 3 ∷ holds 4 ∷ holds 5 ∷ holds 6 ∷ holds 7 ∷ holds 8 ∷ holds 9 ∷ []

-- whether the slot s is full, by what is left; slot 0 never is
abbrev pub full_by : List ℕ → ℕ → Bool
full_by left s = cond (s == 0) false (slice_index left s == 0)

-- what is left after one more value for the slot s
abbrev pub taken_from : List ℕ → ℕ → List ℕ
taken_from left s = cond (slice_index left s == 0) left (slice_set left s (slice_index left s - 1))

module _ (m : Meaning) (d : Direction) where
  abbrev pub verdict_by : (ℕ → Bool) → List ℕ → ElementUnit → Verdict
  verdict_by meets left u =
      let e = (m d u.identifier).entry in
      or_else (checked e u.contents) (last_two (meets u.identifier) (full_by left (slot_of e)))

  abbrev pub left_after : (ℕ → Bool) → List ℕ → ElementUnit → List ℕ
  left_after meets left u = cond (is_accepted (verdict_by meets left u)) (taken_from left (slot_of (m d u.identifier).entry)) left

-- a unit of a walk has the identifier i and passes checks 1 to 3
abbrev pub passes_as_on : Walk → ElementUnit → ℕ → Bool
passes_as_on w u i = passes_as w.meaning w.direction u i

-- there is such a unit
abbrev pub passes_on : Walk → ℕ → Bool
passes_on w i = passes w.meaning w.direction (units_on w) i

-- check 4 among the units of a walk
abbrev pub met_on : Walk → ℕ → Bool
met_on w j = met w.meaning w.direction (units_on w) j

abbrev pub verdict_on : Walk → List ℕ → ElementUnit → Verdict
verdict_on w left u = verdict_by w.meaning w.direction (met_on w) left u

abbrev pub left_on : Walk → List ℕ → ElementUnit → List ℕ
left_on w left u = left_after w.meaning w.direction (met_on w) left u
