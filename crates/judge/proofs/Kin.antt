-- Elements one listed change apart: the same units but one, the same verdicts; kin: the same slots and values.
use Rattle.std.proofs.Common.{◌≡◌, ℕ, zero, suc, ◌-◌, ◌<◌, ◌≤◌, Bool, ◌⊎◌, List, [], ◌∷◌, ◌++◌, map, length, Some, sym, refl, ap, ◌∙◌, ap₂, inl, inr, arith, length-append}
use Rattle.std.proofs.lemmas.Bool.{cases_order}
use Rattle.std.proofs.lemmas.Bool.Decides.{leb_tells}
use Rattle.catalogue.specs.declared.Direction.{Direction}
use Rattle.catalogue.specs.Meaning.{Meaning}
use Rattle.catalogue.specs.Laws.{Lawful}
use Rattle.element.specs.Outer.{Outer}
use Rattle.element.specs.Units.{ElementUnit, unit}
use Rattle.element.specs.Reading.{whole, reads, units_of}
use Rattle.judge.specs.declared.verdicts.Verdict.{Verdict}
use Rattle.judge.specs.Verdicts.{TurnedAside, verdicts, verdict_in, met, verdict, verdicts_from, filled_by, filled_after, accepted, giving, slot_values}
use Rattle.judge.specs.Changes.{nth, StaysBefore, MovesUp, Change, remove, insert, overwrite, alter, Kin, same, step, Stands, units_in, verdict_at, Whereabouts, VerdictLaw}
use Rattle.judge.proofs.Parts.{from_length, from-++}
use Rattle.judge.proofs.Changes.{met_without, accepted_without, over, accepted_over}

-- a member of a list with one more in its midst
module _ {A : Type 0} where
  nth_without : (xs : List A) (v : A) (ys : List A) (k : ℕ) → (k < length xs → nth (xs ++ ys) k ≡ nth (xs ++ v ∷ ys) k) × (length xs ≤ k → nth (xs ++ ys) k ≡ nth (xs ++ v ∷ ys) (suc k))
  nth_without [] v ys k = (λ h. absurd (omega arith), λ _. refl)
  nth_without (x ∷ xs) v ys zero = (λ _. refl, λ h. absurd (omega arith))
  nth_without (x ∷ xs) v ys (suc k) = let more = nth_without xs v ys k in (λ h. more.0 (omega arith), λ h. more.1 (omega arith))

  nth_at : (xs : List A) (v : A) (ys : List A) → nth (xs ++ v ∷ ys) (length xs) ≡ Some v
  nth_at [] v ys = refl
  nth_at (x ∷ xs) v ys = nth_at xs v ys

  -- one in the place of another
  nth_other : (xs : List A) (v w : A) (ys : List A) (k : ℕ) → (k ≡ length xs) ⊎ (nth (xs ++ v ∷ ys) k ≡ nth (xs ++ w ∷ ys) k)
  nth_other [] v w ys zero = inl refl
  nth_other [] v w ys (suc k) = inr refl
  nth_other (x ∷ xs) v w ys zero = inr refl
  nth_other (x ∷ xs) v w ys (suc k) = let more = nth_other xs v w ys k in grind arith

  -- within bounds there is one
  nth_some : (xs : List A) (k : ℕ) → k < length xs → (v : A) × (nth xs k ≡ Some v)
  nth_some [] k h = absurd (omega arith)
  nth_some (x ∷ xs) zero h = (x, refl)
  nth_some (x ∷ xs) (suc k) h = nth_some xs k (omega arith)

  -- the k-th without the one in the midst is the l-th with it
  nth_both : (before after : List ElementUnit) (xs : List A) (v : A) (ys : List A) → length xs ≡ length before → (k l : ℕ) → StaysBefore before k l ⊎ MovesUp before after k l → nth (xs ++ ys) k ≡ nth (xs ++ v ∷ ys) l
  nth_both before after xs v ys e k l s = let both = nth_without xs v ys k in grind arith

module _ (before : List ElementUnit) (u : ElementUnit) (after : List ElementUnit) where
  -- each of the units without u is one of those with it
  up : (k : ℕ) → k < length (before ++ after) → (l : ℕ) × (StaysBefore before k l ⊎ MovesUp before after k l)
  up k h = elim (leb_tells (length before) k) [ inl q ↦ (suc k, inr (q.1, omega (arith, h, length-append before after), refl)) | inr q ↦ (k, inl (q.1, refl)) ]

  -- each of the units with u is one of those without it, but for u
  down : (l : ℕ) → l < length (before ++ u ∷ after) → (l ≡ length before) ⊎ ((k : ℕ) × (StaysBefore before k l ⊎ MovesUp before after k l))
  down l h =
      elim (cases_order l (length before)) [
        | inl q ↦ inl q
        | inr (inl q) ↦ inr (l, inl (q, refl))
        | inr (inr q) ↦ inr (l - 1, inr (omega arith, omega (arith, h, length-append before (u ∷ after)), omega arith))
      ]

in_place : (m : Meaning) (d : Direction) (meets : ℕ → Bool) (filled : List ℕ) (before : List ElementUnit) (u : ElementUnit) (after : List ElementUnit) → nth (verdicts_from m d meets filled (before ++ u ∷ after)) (length before) ≡ Some (verdict m d meets (filled_by m d meets filled before) u)
in_place m d meets filled [] u after = refl
in_place m d meets filled (x ∷ before) u after = in_place m d meets (filled_after m d meets filled x) before u after

-- the k-th without a unit that is turned aside has the verdict of the l-th with it
at_both : (m : Meaning) → Lawful m → (d : Direction) (xs : List ElementUnit) (u : ElementUnit) (ys : List ElementUnit) → TurnedAside (verdict_in m d xs u ys) → (k l : ℕ) → StaysBefore xs k l ⊎ MovesUp xs ys k l → nth (verdicts m d (xs ++ ys)) k ≡ nth (verdicts m d (xs ++ u ∷ ys)) l
at_both m law d xs u ys h k l s =
    let c = met m d (xs ++ u ∷ ys) in
    let f = filled_by m d c [] xs in
    let none : filled_after m d c f u ≡ f = grind arith in
    ap (λ (p : ℕ → Bool). nth (verdicts_from m d p [] (xs ++ ys)) k) (sym (met_without m law d xs u ys h))
    ∙ simp (from-++ m d c [] xs ys, from-++ m d c [] xs (u ∷ ys), none) (nth_both xs ys (verdicts_from m d c [] xs) (verdict_in m d xs u ys) (verdicts_from m d c f ys) (from_length m d c [] xs) k l s)

module _ (m : Meaning) (d : Direction) (outer : Outer) where
  units_are : (e : List ℕ) {o : ℕ} {us : List ElementUnit} → reads m d outer e ≡ whole o us → units_in m d outer e ≡ us
  units_are e r = ap units_of r

  within : (e : List ℕ) {o : ℕ} {us : List ElementUnit} → reads m d outer e ≡ whole o us → (k : ℕ) → k < length (units_in m d outer e) → k < length us
  within e r k h = omega (arith, ap length (units_are e r))

  -- two elements that agree there have one and the same unit there
  both_units : (e f : List ℕ) {o p : ℕ} {us vs : List ElementUnit} → reads m d outer e ≡ whole o us → reads m d outer f ≡ whole p vs → (k l : ℕ) → nth us k ≡ nth vs l → nth (units_in m d outer e) k ≡ nth (units_in m d outer f) l
  both_units e f r s k l q = let from = units_are e r in let to = units_are f s in cc

  whereabouts : {e f : List ℕ} (c : Change m d outer e f) → Whereabouts m d outer c
  whereabouts {e} {f} (remove o xs u ys p q h) =
      record {
        went = λ k b. down xs u ys k (within e p k b);
        came = λ l b. inr (up xs u ys l (within f q l b));
        same_unit = λ k l s. inr (sym (both_units f e q p l k (nth_both xs ys xs u ys refl l k s)));
        same_length = λ k z. absurd z;
      }
  whereabouts {e} {f} (insert o xs u ys p q h) =
      record {
        went = λ k b. inr (up xs u ys k (within e p k b));
        came = λ l b. down xs u ys l (within f q l b);
        same_unit = λ k l s. inr (both_units e f p q k l (nth_both xs ys xs u ys refl k l s));
        same_length = λ k z. absurd z;
      }
  whereabouts {e} {f} (overwrite o xs i a b ys p q n h) =
      record {
        went = λ k b. inr (k, (omega (arith, within e p k b, length-append xs (unit i a ∷ ys)), refl));
        came = λ l c. inr (l, (omega (arith, within f q l c, length-append xs (unit i b ∷ ys)), refl));
        same_unit = λ k l s. elim (nth_other xs (unit i a) (unit i b) ys k) [ inl z ↦ inl z | inr z ↦ inr (both_units e f p q k l (rw (← s.1) z)) ];
        same_length = λ k z. let old = nth_at xs (unit i a) ys in let new = nth_at xs (unit i b) ys in let from = units_are e p in let to = units_are f q in (i, a, b, cc, cc, n);
      }
  whereabouts {e} {f} (alter o p us r q) =
      record {
        went = λ k b. inr (k, (within e r k b, refl));
        came = λ l b. inr (l, (within f q l b, refl));
        same_unit = λ k l s. inr (both_units e f r q k l (ap (nth us) s.1));
        same_length = λ k z. absurd z;
      }

  abbrev Agree : List ℕ → List ℕ → ℕ → ℕ → Type 0
  Agree e f k l = (v : Verdict) × (verdict_at m d outer e k ≡ Some v) × (verdict_at m d outer f l ≡ Some v)

  -- two elements whose verdicts agree there have one and the same verdict there
  agreed : (e f : List ℕ) {o p : ℕ} {us vs : List ElementUnit} → reads m d outer e ≡ whole o us → reads m d outer f ≡ whole p vs → (k l : ℕ) → k < length us → nth (verdicts m d us) k ≡ nth (verdicts m d vs) l → Agree e f k l
  agreed e f {us = us} {vs = vs} r s k l bound q =
      let found = nth_some (verdicts m d us) k (omega (arith, from_length m d (met m d us) [] us)) in
      let from = units_are e r in
      let to = units_are f s in
      (found.0, cc, cc)

  -- two elements with the same accepted units give the same slots and values
  reading : (e f : List ℕ) {o p : ℕ} {us vs : List ElementUnit} → reads m d outer e ≡ whole o us → reads m d outer f ≡ whole p vs → accepted m d us ≡ accepted m d vs → slot_values m d (units_in m d outer e) ≡ slot_values m d (units_in m d outer f)
  reading e f r s q = ap (slot_values m d) (units_are e r) ∙ ap (map (giving m d)) q ∙ sym (ap (slot_values m d) (units_are f s))

  module _ (law : Lawful m) where
    same_verdict : {e f : List ℕ} (c : Change m d outer e f) (k l : ℕ) → Stands m d outer c k l → Agree e f k l
    same_verdict {e} {f} (remove o xs u ys p q h) k l s =
        let (v, a, b) = agreed f e q p l k (grind (arith, length-append xs ys)) (at_both m law d xs u ys h l k s) in (v, b, a)
    same_verdict {e} {f} (insert o xs u ys p q h) k l s = agreed e f p q k l (grind (arith, length-append xs ys)) (at_both m law d xs u ys h k l s)
    same_verdict {e} {f} (overwrite o xs i a b ys p q n h) k l s =
        agreed e f p q k l (omega (arith, s.0, length-append xs (unit i a ∷ ys)))
        (ap₂ nth (over m d xs i a b ys n h) s.1)
    same_verdict {e} {f} (alter o p us r q) k l s = agreed e f r q k l s.0 (ap (nth (verdicts m d us)) s.1)

    changed : {e f : List ℕ} → Change m d outer e f → slot_values m d (units_in m d outer e) ≡ slot_values m d (units_in m d outer f)
    changed {e} {f} (remove o xs u ys p q h) = reading e f p q (accepted_without m law d xs u ys h)
    changed {e} {f} (insert o xs u ys p q h) = reading e f p q (sym (accepted_without m law d xs u ys h))
    changed {e} {f} (overwrite o xs i a b ys p q n h) = reading e f p q (accepted_over m d xs i a b ys n h)
    changed {e} {f} (alter o p us r q) = reading e f r q refl

    kin_gives : {e f : List ℕ} → Kin m d outer e f → slot_values m d (units_in m d outer e) ≡ slot_values m d (units_in m d outer f)
    kin_gives (same o us r) = refl
    kin_gives (step c k) = changed c ∙ kin_gives k

    pub verdict_law : VerdictLaw m d outer
    verdict_law = record { one_each = λ us. from_length m d (met m d us) [] us; in_place = λ before u after. in_place m d (met m d (before ++ u ∷ after)) [] before u after; whereabouts = whereabouts; same_verdicts = same_verdict; kin_give_the_same = kin_gives }
