-- The checks, each by itself, and that a unit's verdict is that of the first check that fails.
use Rattle.std.specs.Prelude.{◌≡◌, ℕ, ◌<◌, ◌≤◌, true, false, List, ◌∷◌, ◌++◌, map, length, Some, None, Option, ◌≢◌}
use Rattle.catalogue.specs.declared.Direction.{Direction}
use Rattle.catalogue.specs.declared.Companions.{Companions}
use Rattle.catalogue.specs.declared.Row.{Row}
use Rattle.catalogue.specs.Meaning.{Meaning}
use Rattle.catalogue.specs.Laws.{Names}
use Rattle.catalogue.specs.Slots.{holds}
use Rattle.element.specs.Units.{ElementUnit}
use Rattle.judge.specs.declared.verdicts.Verdict.{Verdict}
use Rattle.judge.specs.declared.verdicts.Verdict.TheVariants.{Accepted, UnsupportedIdentifier, WrongLength, WrongValue, CompanionMissing, Surplus}
use Rattle.judge.specs.Rules.{allowed, right}
use Rattle.judge.specs.Verdicts.{number_of, TurnedAside, slot_of, count, chosen, verdicts, verdict_in}

module _ (m : Meaning) (d : Direction) where
  abbrev pub entry_of : ElementUnit → Option Row
  entry_of u = (m d u.identifier).entry

  -- a unit that passes checks 1 to 3: its identifier has a row, whose rule allows its length and takes its value
  pub record PassesThree (u : ElementUnit) : Type 0 where
    pub row : Row
    pub supported : entry_of u ≡ Some row
    pub length_allowed : allowed row.rule (length u.contents) ≡ true
    pub value_right : right row.rule u.contents ≡ true

  -- among the units us stands one with the identifier i that passes checks 1 to 3
  pub record StandsIn (us : List ElementUnit) (i : ℕ) : Type 0 where
    pub before : List ElementUnit
    pub companion : ElementUnit
    pub after : List ElementUnit
    pub among : us ≡ before ++ companion ∷ after
    pub named : companion.identifier ≡ i
    pub passes : PassesThree companion

  -- how many units of slot s among the units `before` of an element are accepted, vs being the verdicts of the element
  abbrev pub accepted_for : ℕ → List Verdict → List ElementUnit → ℕ
  accepted_for s vs before = count s (map (λ (u : ElementUnit). slot_of (entry_of u)) (chosen vs before))

  -- a unit in an element: the units before it, and those after
  module _ (before : List ElementUnit) (u : ElementUnit) (after : List ElementUnit) where
    -- the check that this verdict stands for fails
    abbrev pub Fails : Verdict → Type 0
    Fails Accepted = ⊥
    -- 1: the identifier is unsupported
    Fails UnsupportedIdentifier = entry_of u ≡ None
    -- 2: the length is not allowed
    Fails WrongLength = (r : Row) × (entry_of u ≡ Some r) × (allowed r.rule (length u.contents) ≡ false)
    -- 3: the value is wrong
    Fails WrongValue = (r : Row) × (entry_of u ≡ Some r) × (right r.rule u.contents ≡ false)
    -- 4: the row has companions, and no unit of the element with a companion's identifier passes checks 1 to 3
    Fails CompanionMissing =
        (r : Row) × (entry_of u ≡ Some r) × (r.companions ≢ Companions.None) × ((i : ℕ) → Names r.companions i → StandsIn (before ++ u ∷ after) i → ⊥)
    -- 5: the row has a slot, and earlier accepted units fill it
    Fails Surplus =
        (r : Row) × (entry_of u ≡ Some r) × (0 < r.slot) × (holds r.slot ≤ accepted_for r.slot (verdicts m d (before ++ u ∷ after)) before)

    -- a unit is turned aside by the first check that fails, and accepted if none does
    pub record FirstToFail : Type 0 where
      pub turned_aside : TurnedAside (verdict_in m d before u after) → Fails (verdict_in m d before u after)
      pub first : (v : Verdict) → number_of v < number_of (verdict_in m d before u after) → Fails v → ⊥
      pub accepted : verdict_in m d before u after ≡ Accepted → (v : Verdict) → Fails v → ⊥
