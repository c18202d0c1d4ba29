-- Both layers keep the laws of what lies below. The impls name these lemmas as their proofs, so they stand in specs/.
use Rattle.std.specs.Prelude.{ℕ, ◌<◌, List, None, ◌==◌, refl}
use Rattle.std.proofs.Common.{sym, subst, inl, inr, arith}
use Rattle.std.proofs.lemmas.Bool.{cond_both, cond-false, ne_eqb}
use Rattle.catalogue.specs.declared.Direction.{Direction}
use Rattle.catalogue.specs.declared.Direction.TheVariants.{ToNetwork, ToModem}
use Rattle.catalogue.specs.declared.Answer.{Answer}
use Rattle.catalogue.specs.declared.OperatorCode.{OperatorCode}
use Rattle.catalogue.specs.Meaning.{Meaning, answer}
use Rattle.catalogue.specs.Laws.{Lawful, NamesCompanion, Plain, SlotKept, OneOrTwo}
use Rattle.catalogue.specs.Layers.{strike_answer, with_operator, among, narrowed_to}

pub operator_lawful : (o : OperatorCode) (m : Meaning) → Lawful m → Lawful (with_operator o m)
operator_lawful o m law = record { width = wide; slot = slots; companion = named }
  where
    wide : (d : Direction) (i : ℕ) → OneOrTwo (with_operator o m d i).width
    wide ToNetwork i = law.width ToNetwork i
    wide ToModem i = cond_both (i == 0xFF01) (strike_answer o) (m ToModem i) (λ a. OneOrTwo a.width) (λ _. inl refl) (λ _. law.width ToModem i)

    slots : (d : Direction) (i : ℕ) → SlotKept (with_operator o m d i).entry
    slots ToNetwork i = law.slot ToNetwork i
    slots ToModem i = cond_both (i == 0xFF01) (strike_answer o) (m ToModem i) (λ a. SlotKept a.entry) (λ _. inr (o, refl)) (λ _. law.slot ToModem i)

    -- a companion is below FF00, so the layer leaves its answer
    below : (i : ℕ) → (i < 0xFF00) × Plain (m ToModem i).entry → (i < 0xFF00) × Plain (with_operator o m ToModem i).entry
    below i h =
        (h.0, subst (λ (a : Answer). Plain a.entry) (sym (cond-false (i == 0xFF01) (strike_answer o) (m ToModem i) (ne_eqb i 0xFF01 (λ e. omega (arith, h.0, e))))) h.1)

    named : (d : Direction) (j i : ℕ) → NamesCompanion (with_operator o m d j).entry i → (i < 0xFF00) × Plain (with_operator o m d i).entry
    named ToNetwork j = law.companion ToNetwork j
    named ToModem j =
        cond_both (j == 0xFF01) (strike_answer o) (m ToModem j) (λ a. (i : ℕ) → NamesCompanion a.entry i → (i < 0xFF00) × Plain (with_operator o m ToModem i).entry)
        (λ _ i h. absurd h) (λ _ i h. below i (law.companion ToModem j i h))

pub narrowing_lawful : (xs : List ℕ) (m : Meaning) → Lawful m → Lawful (narrowed_to xs m)
narrowing_lawful xs m law = record { width = wide; slot = slots; companion = named }
  where
    either : (P : Answer → Type 0) (d : Direction) (i : ℕ) → P (m d i) → P (answer (m d i).width None) → P (narrowed_to xs m d i)
    either P d i h k = cond_both (among xs i) (m d i) (answer (m d i).width None) P (λ _. h) (λ _. k)

    wide : (d : Direction) (i : ℕ) → OneOrTwo (narrowed_to xs m d i).width
    wide d i = either (λ a. OneOrTwo a.width) d i (law.width d i) (law.width d i)

    slots : (d : Direction) (i : ℕ) → SlotKept (narrowed_to xs m d i).entry
    slots d i = either (λ a. SlotKept a.entry) d i (law.slot d i) tt

    below : (d : Direction) (i : ℕ) → (i < 0xFF00) × Plain (m d i).entry → (i < 0xFF00) × Plain (narrowed_to xs m d i).entry
    below d i h = (h.0, either (λ a. Plain a.entry) d i h.1 tt)

    named : (d : Direction) (j i : ℕ) → NamesCompanion (narrowed_to xs m d j).entry i → (i < 0xFF00) × Plain (narrowed_to xs m d i).entry
    named d j i =
        either (λ a. NamesCompanion a.entry i → (i < 0xFF00) × Plain (narrowed_to xs m d i).entry) d j
        (λ h. below d i (law.companion d j i h)) (λ h. absurd h)
