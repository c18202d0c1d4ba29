-- The verdicts of an element's units, and the values of those accepted.
use Rattle.std.specs.Prelude.{ℕ, suc, Bool, true, false, cond, ◌&&◌, ◌||◌, List, [], ◌∷◌, ◌++◌, map, length, Some, None, Option, ◌==◌, nat_le}
use Rattle.catalogue.specs.declared.Direction.{Direction}
use Rattle.catalogue.specs.declared.Companions.{Companions}
use Rattle.catalogue.specs.declared.Companions.TheVariants.{One, Two}
use Rattle.catalogue.specs.declared.Row.{Row}
use Rattle.catalogue.specs.Meaning.{Meaning}
use Rattle.catalogue.specs.Slots.{holds}
use Rattle.element.specs.Units.{ElementUnit}
use Rattle.judge.specs.declared.verdicts.Verdict.{Verdict}
use Rattle.judge.specs.declared.verdicts.Verdict.TheVariants.{Accepted, UnsupportedIdentifier, WrongLength, WrongValue, CompanionMissing, Surplus}
use Rattle.judge.specs.Rules.{allowed, right, value}

abbrev pub number_of : Verdict → ℕ
number_of Accepted = 0
number_of UnsupportedIdentifier = 1
number_of WrongLength = 2
number_of WrongValue = 3
number_of CompanionMissing = 4
number_of Surplus = 5

abbrev pub is_accepted : Verdict → Bool
is_accepted Accepted = true
is_accepted UnsupportedIdentifier = false
is_accepted WrongLength = false
is_accepted WrongValue = false
is_accepted CompanionMissing = false
is_accepted Surplus = false

-- every verdict but `Accepted`
abbrev pub TurnedAside : Verdict → Type 0
TurnedAside Accepted = ⊥
TurnedAside UnsupportedIdentifier = Unit {0}
TurnedAside WrongLength = Unit {0}
TurnedAside WrongValue = Unit {0}
TurnedAside CompanionMissing = Unit {0}
TurnedAside Surplus = Unit {0}

-- the contents were not read: the identifier is unsupported, or the length not allowed
abbrev pub NotRead : Verdict → Type 0
NotRead Accepted = ⊥
NotRead UnsupportedIdentifier = Unit {0}
NotRead WrongLength = Unit {0}
NotRead WrongValue = ⊥
NotRead CompanionMissing = ⊥
NotRead Surplus = ⊥

-- the first of two that is not `Accepted`
abbrev pub or_else : Verdict → Verdict → Verdict
or_else Accepted v = v
or_else UnsupportedIdentifier v = UnsupportedIdentifier
or_else WrongLength v = WrongLength
or_else WrongValue v = WrongValue
or_else CompanionMissing v = CompanionMissing
or_else Surplus v = Surplus

-- checks 1 to 3: the identifier is supported, the length allowed, the value right
abbrev pub checked : Option Row → List ℕ → Verdict
checked None os = UnsupportedIdentifier
checked (Some r) os = cond (allowed r.rule (length os)) (cond (right r.rule os) Accepted WrongValue) WrongLength

-- check 4, where `passing i` says that some unit with the identifier i passes checks 1 to 3
abbrev pub companion_stands : (ℕ → Bool) → Companions → Bool
companion_stands passing Companions.None = true
companion_stands passing (One a) = passing a
companion_stands passing (Two a b) = passing a || passing b

abbrev pub companion_stands_for : (ℕ → Bool) → Option Row → Bool
companion_stands_for passing None = true
companion_stands_for passing (Some r) = companion_stands passing r.companions

-- the slot of a row; what is unsupported has none
abbrev pub slot_of : Option Row → ℕ
slot_of None = 0
slot_of (Some r) = r.slot

-- the value by the rule of a row
abbrev pub value_of : Option Row → List ℕ → List ℕ
value_of None os = os
value_of (Some r) os = value r.rule os

-- how often the slot s stands among others
abbrev pub count : ℕ → List ℕ → ℕ
count s [] = 0
count s (x ∷ xs) = cond (x == s) (suc (count s xs)) (count s xs)

-- check 5, over the slots of the earlier accepted units; slot 0 is never full
abbrev pub full : List ℕ → ℕ → Bool
full filled s = cond (s == 0) false (nat_le (holds s) (count s filled))

-- checks 4 and 5
abbrev pub last_two : Bool → Bool → Verdict
last_two met over = cond met (cond over Surplus Accepted) CompanionMissing

-- the slots filled, with that of one more unit if it is accepted
abbrev pub fill : Verdict → ℕ → List ℕ → List ℕ
fill v s filled = cond (is_accepted v) (s ∷ filled) filled

abbrev pub choose : Verdict → ElementUnit → List ElementUnit → List ElementUnit
choose v u us = cond (is_accepted v) (u ∷ us) us

-- the units accepted by their verdicts
abbrev pub chosen : List Verdict → List ElementUnit → List ElementUnit
chosen [] us = []
chosen (v ∷ vs) [] = []
chosen (v ∷ vs) (u ∷ us) = choose v u (chosen vs us)

-- what an accepted unit gives: a value for a slot
pub record SlotValue : Type 0 where
  pub slot : ℕ
  pub value : List ℕ

abbrev pub given : Option Row → List ℕ → SlotValue
given e os = record { slot = slot_of e; value = value_of e os }

-- the values for the slot s, in order
abbrev pub values_in : ℕ → List SlotValue → List (List ℕ)
values_in s [] = []
values_in s (g ∷ gs) = cond (g.slot == s) (g.value ∷ values_in s gs) (values_in s gs)

module _ (m : Meaning) (d : Direction) where
  -- a unit has the identifier i and passes checks 1 to 3
  abbrev pub passes_as : ElementUnit → ℕ → Bool
  passes_as u i = u.identifier == i && is_accepted (checked (m d u.identifier).entry u.contents)

  -- some unit with the identifier i passes checks 1 to 3
  abbrev pub passes : List ElementUnit → ℕ → Bool
  passes [] i = false
  passes (u ∷ us) i = passes_as u i || passes us i

  -- check 4 for a unit with the identifier j among the units us
  abbrev pub met : List ElementUnit → ℕ → Bool
  met us j = companion_stands_for (passes us) (m d j).entry

  -- the verdict of a unit, after accepted units of the slots `filled`
  abbrev pub verdict : (ℕ → Bool) → List ℕ → ElementUnit → Verdict
  verdict meets filled u =
      let e = (m d u.identifier).entry in
      or_else (checked e u.contents) (last_two (meets u.identifier) (full filled (slot_of e)))

  -- the slots filled after one more unit
  abbrev pub filled_after : (ℕ → Bool) → List ℕ → ElementUnit → List ℕ
  filled_after meets filled u = fill (verdict meets filled u) (slot_of (m d u.identifier).entry) filled

  -- the verdicts of units, after accepted units of the slots `filled`; `meets i` is check 4 for the identifier i
  abbrev pub verdicts_from : (ℕ → Bool) → List ℕ → List ElementUnit → List Verdict
  verdicts_from meets filled [] = []
  verdicts_from meets filled (u ∷ us) = verdict meets filled u ∷ verdicts_from meets (filled_after meets filled u) us

  -- the slots filled after all of them
  abbrev pub filled_by : (ℕ → Bool) → List ℕ → List ElementUnit → List ℕ
  filled_by meets filled [] = filled
  filled_by meets filled (u ∷ us) = filled_by meets (filled_after meets filled u) us

  -- the verdicts of an element's units, in order
  abbrev pub verdicts : List ElementUnit → List Verdict
  verdicts us = verdicts_from (met us) [] us

  -- the verdict of u with the units `before` before it and `after` after it
  abbrev pub verdict_in : List ElementUnit → ElementUnit → List ElementUnit → Verdict
  verdict_in before u after =
      let meets = met (before ++ u ∷ after) in
      verdict meets (filled_by meets [] before) u

  -- the accepted units, in order
  abbrev pub accepted : List ElementUnit → List ElementUnit
  accepted us = chosen (verdicts us) us

  abbrev pub giving : ElementUnit → SlotValue
  giving u = given (m d u.identifier).entry u.contents

  -- the slots and values of the accepted units, in order
  abbrev pub slot_values : List ElementUnit → List SlotValue
  slot_values us = map giving (accepted us)

  -- the values accepted for the slot s, in order
  abbrev pub values_for : ℕ → List ElementUnit → List (List ℕ)
  values_for s us = values_in s (slot_values us)
