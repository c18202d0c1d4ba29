-- The listed changes of an element, as data that says where each unit went; and kin, elements joined by such changes.
use Rattle.std.specs.Prelude.{◌≡◌, ℕ, zero, suc, ◌+◌, ◌<◌, ◌≤◌, ◌⊎◌, List, [], ◌∷◌, ◌++◌, length, Some, None, Option}
use Rattle.catalogue.specs.declared.Direction.{Direction}
use Rattle.catalogue.specs.Meaning.{Meaning}
use Rattle.element.specs.Outer.{Outer}
use Rattle.element.specs.Units.{ElementUnit, unit}
use Rattle.element.specs.Reading.{whole, reads, units_of}
use Rattle.judge.specs.declared.verdicts.Verdict.{Verdict}
use Rattle.judge.specs.Verdicts.{TurnedAside, NotRead, verdict_in, verdicts, slot_values}

-- the k-th of a list, counted from 0
abbrev pub nth : {A : Type 0} → List A → ℕ → Option A
nth [] k = None
nth (x ∷ xs) zero = Some x
nth (x ∷ xs) (suc k) = nth xs k

-- with one unit more after the units `before`, the k-th of `before` stays the k-th
abbrev pub StaysBefore : List ElementUnit → ℕ → ℕ → Type 0
StaysBefore before k l = (k < length before) × (k ≡ l)

-- and one of those behind, `after`, moves up by one
abbrev pub MovesUp : List ElementUnit → List ElementUnit → ℕ → ℕ → Type 0
MovesUp before after k l = (length before ≤ k) × (k < length before + length after) × (l ≡ suc k)

module _ (m : Meaning) (d : Direction) (outer : Outer) where
  -- a whole element with the configuration octet o and the units us
  abbrev pub Has : List ℕ → ℕ → List ElementUnit → Type 0
  Has e o us = reads m d outer e ≡ whole o us

  -- one listed change of a whole element into a whole element
  pub data Change : List ℕ → List ℕ → Type 0 where
    -- a unit that was turned aside is removed
    remove : {e f : List ℕ} (o : ℕ) (before : List ElementUnit) (u : ElementUnit) (after : List ElementUnit) → Has e o (before ++ u ∷ after) → Has f o (before ++ after) → TurnedAside (verdict_in m d before u after) → Change e f
    -- a unit is inserted that is then turned aside
    insert : {e f : List ℕ} (o : ℕ) (before : List ElementUnit) (u : ElementUnit) (after : List ElementUnit) → Has e o (before ++ after) → Has f o (before ++ u ∷ after) → TurnedAside (verdict_in m d before u after) → Change e f
    -- contents that are not read are overwritten, at equal length
    overwrite : {e f : List ℕ} (o : ℕ) (before : List ElementUnit) (i : ℕ) (old new : List ℕ) (after : List ElementUnit) → Has e o (before ++ unit i old ∷ after) → Has f o (before ++ unit i new ∷ after) → length old ≡ length new → NotRead (verdict_in m d before (unit i old) after) → Change e f
    -- the configuration octet is altered
    alter : {e f : List ℕ} (o p : ℕ) (us : List ElementUnit) → Has e o us → Has f p us → Change e f

  -- kin: a list of changes leads from the one whole element to the other, every step whole
  pub data Kin : List ℕ → List ℕ → Type 0 where
    same : {e : List ℕ} (o : ℕ) (us : List ElementUnit) → Has e o us → Kin e e
    step : {e f g : List ℕ} → Change e f → Kin f g → Kin e g

  -- the k-th unit of the one element stands in the other as its l-th
  abbrev pub Stands : {e f : List ℕ} → Change e f → ℕ → ℕ → Type 0
  Stands (remove o before u after _ _ _) k l = StaysBefore before l k ⊎ MovesUp before after l k
  Stands (insert o before u after _ _ _) k l = StaysBefore before k l ⊎ MovesUp before after k l
  Stands (overwrite o before i old new after _ _ _ _) k l = (k < length before + suc (length after)) × (k ≡ l)
  Stands (alter o p us _ _) k l = (k < length us) × (k ≡ l)

  -- the k-th unit of the one element is removed
  abbrev pub Removed : {e f : List ℕ} → Change e f → ℕ → Type 0
  Removed (remove o before u after _ _ _) k = k ≡ length before
  Removed (insert o before u after _ _ _) k = ⊥
  Removed (overwrite o before i old new after _ _ _ _) k = ⊥
  Removed (alter o p us _ _) k = ⊥

  -- the l-th unit of the other element is inserted
  abbrev pub Inserted : {e f : List ℕ} → Change e f → ℕ → Type 0
  Inserted (remove o before u after _ _ _) l = ⊥
  Inserted (insert o before u after _ _ _) l = l ≡ length before
  Inserted (overwrite o before i old new after _ _ _ _) l = ⊥
  Inserted (alter o p us _ _) l = ⊥

  -- the contents of the k-th unit are overwritten
  abbrev pub Overwritten : {e f : List ℕ} → Change e f → ℕ → Type 0
  Overwritten (remove o before u after _ _ _) k = ⊥
  Overwritten (insert o before u after _ _ _) k = ⊥
  Overwritten (overwrite o before i old new after _ _ _ _) k = k ≡ length before
  Overwritten (alter o p us _ _) k = ⊥

  abbrev pub units_in : List ℕ → List ElementUnit
  units_in e = units_of (reads m d outer e)

  -- the verdict of the k-th unit of an element, if it has one
  abbrev pub verdict_at : List ℕ → ℕ → Option Verdict
  verdict_at e k = nth (verdicts m d (units_in e)) k

  -- where each unit goes in a listed change
  pub record Whereabouts {e f : List ℕ} (c : Change e f) : Type 0 where
    -- every unit of the one element stands in the other, but for the one removed
    pub went : (k : ℕ) → k < length (units_in e) → Removed c k ⊎ ((l : ℕ) × Stands c k l)
    -- every unit of the other stands in the one, but for the one inserted
    pub came : (l : ℕ) → l < length (units_in f) → Inserted c l ⊎ ((k : ℕ) × Stands c k l)
    -- it is the same unit, or its contents are overwritten
    pub same_unit : (k l : ℕ) → Stands c k l → Overwritten c k ⊎ (nth (units_in e) k ≡ nth (units_in f) l)
    -- a unit whose contents are overwritten keeps its identifier and their length
    pub same_length : (k : ℕ) → Overwritten c k → (i : ℕ) × (old : List ℕ) × (new : List ℕ) × (nth (units_in e) k ≡ Some (unit i old)) × (nth (units_in f) k ≡ Some (unit i new)) × (length old ≡ length new)

  pub record VerdictLaw : Type 0 where
    -- every unit has one verdict
    pub one_each : (us : List ElementUnit) → length (verdicts m d us) ≡ length us
    -- `verdict_in` is the verdict of the unit where it stands
    pub in_place : (before : List ElementUnit) (u : ElementUnit) (after : List ElementUnit) → nth (verdicts m d (before ++ u ∷ after)) (length before) ≡ Some (verdict_in m d before u after)
    pub whereabouts : {e f : List ℕ} (c : Change e f) → Whereabouts c
    -- two whole elements one listed change apart give every unit that stands in both the same verdict
    pub same_verdicts : {e f : List ℕ} (c : Change e f) (k l : ℕ) → Stands c k l → (v : Verdict) × (verdict_at e k ≡ Some v) × (verdict_at f l ≡ Some v)
    -- kin have the same slots and values of accepted units, in order
    pub kin_give_the_same : {e f : List ℕ} → Kin e f → slot_values m d (units_in e) ≡ slot_values m d (units_in f)
