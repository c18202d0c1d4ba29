-- The slots: the rule of each, how many values it holds, the octets of a value, and the identifier that requests it.
use Rattle.std.specs.Prelude.{◌≡◌, ℕ, cond, List, [], ◌∷◌, Some, None, Option, ◌==◌}
use Rattle.catalogue.specs.declared.OperatorCode.{OperatorCode}
use Rattle.catalogue.specs.declared.Rule.{Rule}
use Rattle.catalogue.specs.declared.Rule.TheVariants.{Empty, Ipv4, Ipv6, Prefix, Mode, Number, StrikeOrder}

-- the rule of a slot: one rule, or the strike order of any operator
pub data SlotRule : Type 0 where
  exactly : Rule → SlotRule
  strike_order : SlotRule

-- how a slot is asked for: not at all, or by an empty unit with an identifier
pub data Request : Type 0 where
  unrequested : Request
  by : ℕ → Request

pub record SlotLine : Type 0 where
  pub slot : ℕ
  pub rule : SlotRule
  pub holds : ℕ
  pub octets : ℕ
  pub request : Request

abbrev pub slot : ℕ → SlotRule → ℕ → ℕ → Request → SlotLine
slot s r h o q = record { slot = s; rule = r; holds = h; octets = o; request = q }

-- slot, rule, how many values, octets of a value, request
abbrev pub slot_table : List SlotLine
slot_table =
    slot 1 (exactly Ipv4) 3 4 (by 0x000C)
    ∷ slot 2 (exactly Ipv6) 3 16 (by 0x0001)
    ∷ slot 3 (exactly Ipv4) 3 4 (by 0x000D)
    ∷ slot 4 (exactly Ipv6) 3 16 (by 0x0003)
    ∷ slot 5 (exactly Prefix) 3 17 (by 0x0008)
    ∷ slot 6 (exactly Number) 1 2 (by 0x0010)
    ∷ slot 7 (exactly Mode) 1 1 (by 0x0005)
    ∷ slot 8 (exactly Empty) 1 0 (by 0x0002)
    ∷ slot 9 strike_order 1 2 unrequested
    ∷ []

abbrev pub line_in : List SlotLine → ℕ → Option SlotLine
line_in [] s = None
line_in (l ∷ ls) s = cond (l.slot == s) (Some l) (line_in ls s)

abbrev pub held_by : Option SlotLine → ℕ
held_by None = 0
held_by (Some l) = l.holds

-- how many values the slot s holds; a number that is no slot holds none
abbrev pub holds : ℕ → ℕ
holds s = held_by (line_in slot_table s)

abbrev pub octets_by : Option SlotLine → ℕ
octets_by None = 0
octets_by (Some l) = l.octets

-- how many octets a value of the slot s has
abbrev pub octets_of : ℕ → ℕ
octets_of s = octets_by (line_in slot_table s)

abbrev pub Obeys : SlotRule → Rule → Type 0
Obeys (exactly q) r = r ≡ q
Obeys strike_order r = (o : OperatorCode) × (r ≡ StrikeOrder o)

abbrev pub RuleBy : Option SlotLine → Rule → Type 0
RuleBy None r = ⊥
RuleBy (Some l) r = Obeys l.rule r

-- the number s is a slot, and r its rule
abbrev pub RuleOfSlot : ℕ → Rule → Type 0
RuleOfSlot s r = RuleBy (line_in slot_table s) r
