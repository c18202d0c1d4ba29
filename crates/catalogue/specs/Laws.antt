-- The three laws that every catalogue keeps.
use Rattle.std.specs.Prelude.{◌≡◌, ℕ, ◌<◌, ◌⊎◌, Some, None, Option}
use Rattle.catalogue.specs.declared.Direction.{Direction}
use Rattle.catalogue.specs.declared.Companions.{Companions}
use Rattle.catalogue.specs.declared.Companions.TheVariants.{One, Two}
use Rattle.catalogue.specs.declared.Row.{Row}
use Rattle.catalogue.specs.Meaning.{Meaning}
use Rattle.catalogue.specs.Slots.{RuleOfSlot}

-- the identifier i is named among the companions
abbrev pub Names : Companions → ℕ → Type 0
Names Companions.None i = ⊥
Names (One a) i = a ≡ i
Names (Two a b) i = (a ≡ i) ⊎ (b ≡ i)

-- the row, if any, names i as a companion
abbrev pub NamesCompanion : Option Row → ℕ → Type 0
NamesCompanion None i = ⊥
NamesCompanion (Some r) i = Names r.companions i

-- the row, if any, has slot 0 and no companions
abbrev pub Plain : Option Row → Type 0
Plain None = Unit {0}
Plain (Some r) = (r.slot ≡ 0) × (r.companions ≡ Companions.None)

-- the row, if any, has slot 0 or its slot's rule
abbrev pub SlotKept : Option Row → Type 0
SlotKept None = Unit {0}
SlotKept (Some r) = (r.slot ≡ 0) ⊎ RuleOfSlot r.slot r.rule

-- a length field has one octet or two
abbrev pub OneOrTwo : ℕ → Type 0
OneOrTwo w = (w ≡ 1) ⊎ (w ≡ 2)

pub record Lawful (m : Meaning) : Type 0 where
  pub width : (d : Direction) (i : ℕ) → OneOrTwo (m d i).width
  -- a row with a slot other than 0 has that slot's rule
  pub slot : (d : Direction) (i : ℕ) → SlotKept (m d i).entry
  -- an identifier named as companion is below FF00, and its own row in that direction, if any, has slot 0 and no companions
  pub companion : (d : Direction) (j i : ℕ) → NamesCompanion (m d j).entry i → (i < 0xFF00) × Plain (m d i).entry
