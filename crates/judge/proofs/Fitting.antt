-- What an element gives for a slot fits that slot.
use Rattle.std.proofs.Common.{◌≡◌, ℕ, ◌<◌, ◌≤◌, Bool, true, false, cond, eqb, List, [], ◌∷◌, map, length, Option, refl, ap, arith, append-nil}
use Rattle.std.specs.List.{AllByRecursion}
use Rattle.std.proofs.lemmas.Bool.{cond_both}
use Rattle.std.proofs.lemmas.Bool.Decides.{nat_tests}
use Rattle.catalogue.specs.declared.Direction.{Direction}
use Rattle.catalogue.specs.declared.Rule.{Rule}
use Rattle.catalogue.specs.declared.Row.{Row}
use Rattle.catalogue.specs.Meaning.{Meaning}
use Rattle.catalogue.specs.Laws.{Lawful, SlotKept}
use Rattle.catalogue.specs.Slots.{RuleOfSlot, holds, octets_of}
use Rattle.element.specs.Units.{ElementUnit}
use Rattle.judge.specs.Rules.{allowed, value}
use Rattle.judge.specs.Verdicts.{is_accepted, checked, slot_of, value_of, count, full, last_two, or_else, chosen, accepted, met, verdict, filled_after, verdicts_from, filled_by, values_in, giving}
use Rattle.judge.specs.Checks.{entry_of, accepted_for}
use Rattle.judge.specs.Fitting.{ValuesFit}
use Rattle.judge.proofs.Checks.{filled_all}

-- a unit's value counts for the unit's slot
as_many : (m : Meaning) (d : Direction) (s : ℕ) (us : List ElementUnit) → length (values_in s (map (giving m d) us)) ≡ count s (map (λ (u : ElementUnit). slot_of (entry_of m d u)) us)
as_many m d s [] = refl
as_many m d s (u ∷ us) = let more = as_many m d s us in grind arith

-- a slot that is not full has room for one more
room_more : (s : ℕ) → 0 < s → (b : Bool) (t : ℕ) (filled : List ℕ) → count s filled ≤ holds s → (b ≡ true → full filled t ≡ false) → count s (cond b (t ∷ filled) filled) ≤ holds s
room_more s pos false t filled h f = h
room_more s pos true t filled h f = let free = f refl in grind (arith, nat_tests)

room_all : (m : Meaning) (d : Direction) (s : ℕ) (c : ℕ → Bool) → 0 < s → (filled : List ℕ) (us : List ElementUnit) → count s filled ≤ holds s → count s (filled_by m d c filled us) ≤ holds s
room_all m d s c pos filled [] h = h
room_all m d s c pos filled (u ∷ us) h =
    let e = (m d u.identifier).entry in
    room_all m d s c pos (filled_after m d c filled u) us
    (room_more s pos (is_accepted (verdict m d c filled u)) (slot_of e) filled h (λ a. grind arith))

-- a value of an allowed length has the octets of its rule's slot
rule_octets : (r : Rule) (os : List ℕ) → allowed r (length os) ≡ true → (s : ℕ) → RuleOfSlot s r → length (value r os) ≡ octets_of s
rule_octets r os fine s h = grind (arith, nat_tests)

entry_octets : (e : Option Row) → SlotKept e → (s : ℕ) → 0 < s → (os : List ℕ) (stands over : Bool) → is_accepted (or_else (checked e os) (last_two stands over)) ≡ true → eqb (slot_of e) s ≡ true → length (value_of e os) ≡ octets_of s
entry_octets e l s pos os stands over a is = grind (arith, nat_tests, rule_octets)

module _ (m : Meaning) (law : Lawful m) (d : Direction) (s : ℕ) (pos : 0 < s) where
  abbrev Right : List (List ℕ) → Type 0
  Right vs = AllByRecursion (λ (v : List ℕ). length v ≡ octets_of s) vs

  right_all : (c : ℕ → Bool) (filled : List ℕ) (us : List ElementUnit) → Right (values_in s (map (giving m d) (chosen (verdicts_from m d c filled us) us)))
  right_all c filled [] = tt
  right_all c filled (u ∷ us) =
      let e = (m d u.identifier).entry in
      let rest = right_all c (filled_after m d c filled u) us in
      let sized = entry_octets e (law.slot d u.identifier) s pos u.contents (c u.identifier) (full filled (slot_of e)) in
      cond_both (is_accepted (verdict m d c filled u)) _ _ (λ (zs : List ElementUnit). Right (values_in s (map (giving m d) zs)))
      (λ a. cond_both (eqb (slot_of e) s) _ _ Right (λ is. (sized a is, rest)) (λ _. rest)) (λ _. rest)

pub values_fit : (m : Meaning) → Lawful m → (d : Direction) → ValuesFit m d
values_fit m law d s pos us =
    let c = met m d us in
    let count_for = λ (zs : List ElementUnit). accepted_for m d s (verdicts_from m d c [] zs) us in
    record {
      room = omega (arith, as_many m d s (accepted m d us), ap count_for (append-nil us), filled_all m d s c [] us [], room_all m d s c pos [] us (omega arith));
      octets = right_all m law d s pos c [] us;
    }
