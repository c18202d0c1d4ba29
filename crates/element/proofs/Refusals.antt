-- An element is refused by the first refusal that applies.
use Rattle.std.proofs.Common.{◌≡◌, ℕ, ◌+◌, ◌<◌, cond, eqb, List, [], ◌∷◌, ◌++◌, length, take, drop, sym, refl, ap, ◌∙◌, append_assoc, append-nil, arith, length-append, length-drop, take-append-drop, length-take, take-add}
use Rattle.std.proofs.lemmas.List.{take_at, drop_at}
use Rattle.std.proofs.lemmas.Bool.Decides.{nat_tests as tests}
use Rattle.catalogue.specs.declared.Direction.{Direction}
use Rattle.catalogue.specs.Meaning.{Meaning}
use Rattle.catalogue.specs.Laws.{Lawful}
use Rattle.element.specs.declared.reader.ReaderFault.{ReaderFault}
use Rattle.element.specs.declared.reader.ReaderFault.TheVariants.{TooShort, WrongFirst, LengthDiffers, TooLong, RunsPast}
use Rattle.element.specs.Outer.{Outer, LawfulOuter, header}
use Rattle.element.specs.Units.{Octets, ElementUnit, written, all_written}
use Rattle.element.specs.Reading.{stuck_at, Reading, whole, declined, reads}
use Rattle.element.specs.Refusals.{refusal_of, RunsPastAt, Applies, FirstToApply, RefusedInOrder}
use Rattle.element.proofs.Fronts.{front_read}
use Rattle.element.proofs.Cuts.{CutBack}
use Rattle.element.proofs.RoundTrips.{reading_is}
use Rattle.element.proofs.Places.{place_counts, behind, header_found}

module _ (m : Meaning) (d : Direction) where
  -- no unit stands at the front
  abbrev NoneStands : List ℕ → Type 0
  NoneStands os = (u : ElementUnit) (rest : List ℕ) → os ≡ written m d u ++ rest → ⊥

  -- whole units up to where none stands are cut in one way only
  one_cut : (us vs : List ElementUnit) (os ps : List ℕ) → NoneStands os → NoneStands ps → all_written m d us ++ os ≡ all_written m d vs ++ ps → os ≡ ps
  one_cut [] [] os ps h k e = e
  one_cut [] (v ∷ vs) os ps h k e = absurd (h v _ (rw append_assoc at e))
  one_cut (u ∷ us) [] os ps h k e = absurd (k u _ (sym (rw append_assoc at e)))
  one_cut (u ∷ us) (v ∷ vs) os ps h k e =
      let one = front_read m d u (all_written m d us ++ os) in
      let other = front_read m d v (all_written m d vs ++ ps) in
      one_cut us vs os ps h k (grind (arith, append_assoc))

  -- after whole units of octets that are all units, a unit stands
  unit_follows : (us vs : List ElementUnit) (rest : List ℕ) → all_written m d us ≡ all_written m d vs ++ rest → 0 < length rest → (u : ElementUnit) × (after : List ℕ) × (rest ≡ written m d u ++ after)
  unit_follows [] [] rest e h = absurd (omega (arith, ap length e))
  unit_follows (u ∷ us) [] rest e h = (u, all_written m d us, sym e)
  unit_follows [] (v ∷ vs) rest e h = absurd (omega (arith, ap length e))
  unit_follows (u ∷ us) (v ∷ vs) rest e h =
      let one = front_read m d u (all_written m d us) in
      let other = front_read m d v (all_written m d vs ++ rest) in
      unit_follows us vs rest (grind (arith, append_assoc)) h

-- a fault, from its number and its place
abbrev fault_of : ℕ → ℕ → ReaderFault
fault_of n p = cond (eqb n 1) (TooShort p) (cond (eqb n 2) WrongFirst (cond (eqb n 3) (LengthDiffers p) (cond (eqb n 4) (TooLong p) (RunsPast p))))

fault_back : (f : ReaderFault) → fault_of (refusal_of f).number (refusal_of f).place ≡ f
fault_back (TooShort n) = refl
fault_back WrongFirst = refl
fault_back (LengthDiffers n) = refl
fault_back (TooLong n) = refl
fault_back (RunsPast p) = refl

module _ (outer : Outer) (lawful : LawfulOuter outer) (m : Meaning) (law : Lawful m) (d : Direction) (e : List ℕ) (octets : Octets e) where
  abbrev rest : List ℕ
  rest = drop (header outer) e

  -- the octets up to the place after some units
  runs_past : (p : ℕ) → CutBack m d (header outer) rest (stuck_at p) → RunsPastAt m d outer e p
  runs_past p (us, left, q, place, f) =
      let n = length (all_written m d us) in
      let at : p ≡ header outer + n = place ∙ place_counts m d law (header outer) us in
      let here : drop p e ≡ left = ap (λ (k : ℕ). drop k e) place ∙ behind m d law outer e us left (sym q) in
      record {
        inside = let long = ap length here in grind (arith, length-drop);
        before = (us, cc (take-add (header outer) n e, take_at (all_written m d us) left n refl));
        none = λ u after s. let stands = front_read m d u after in cc;
      }

  -- the octets of an element with a unit that runs past the end, after its header
  up_to : (p : ℕ) (r : RunsPastAt m d outer e p) → rest ≡ all_written m d r.before.0 ++ drop p e
  up_to p r =
      let us = all_written m d r.before.0 in
      let long : length (take (header outer) e) ≡ header outer = omega (arith, length-take (header outer) e, length-take p e, ap length r.before.1, length-append (take (header outer) e) us, r.inside) in
      cc (take-append-drop p e, append_assoc (take (header outer) e) us (drop p e), drop_at (take (header outer) e) (us ++ drop p e) (header outer) long)

  -- an element that is all units has none that runs past the end
  never_past : (us : List ElementUnit) → rest ≡ all_written m d us → (p : ℕ) → RunsPastAt m d outer e p → ⊥
  never_past us q p r =
      let none : [] ≡ drop p e = one_cut m d us r.before.0 [] (drop p e) (λ u after s. cc) r.none (append-nil (all_written m d us) ∙ sym q ∙ up_to p r) in
      omega (arith, ap length none, length-drop p e, r.inside)

  one_place : (p q : ℕ) → RunsPastAt m d outer e p → RunsPastAt m d outer e q → p ≡ q
  one_place p q r s =
      let same = one_cut m d r.before.0 s.before.0 (drop p e) (drop q e) r.none s.none (sym (up_to p r) ∙ up_to q s) in
      omega (arith, ap length same, length-drop p e, length-drop q e, r.inside, s.inside)

  same_fault : (f g : ReaderFault) → Applies m d outer e f → Applies m d outer e g → (refusal_of f).number ≡ (refusal_of g).number → f ≡ g
  same_fault (RunsPast p) (RunsPast q) a b n = ap RunsPast (one_place p q a b)
  same_fault f g a b n = grind arith

  applies : (f : ReaderFault) → reads m d outer e ≡ declined f → Applies m d outer e f
  applies (RunsPast p) r = runs_past p (reading_is outer lawful m d e octets (declined (RunsPast p)) r).1
  applies f r = grind (arith, tests)

  none_lower : (f : ReaderFault) → reads m d outer e ≡ declined f → (g : ReaderFault) → (refusal_of g).number < (refusal_of f).number → Applies m d outer e g → ⊥
  none_lower f r g l a = grind (arith, tests)

  none_applies : (o : ℕ) (us : List ElementUnit) → reads m d outer e ≡ whole o us → (f : ReaderFault) → Applies m d outer e f → ⊥
  none_applies o us r (RunsPast p) a = never_past us (header_found m d law outer lawful e octets o us r).0 p a
  none_applies o us r f a = grind (arith, tests)

  only : (f : ReaderFault) → FirstToApply m d outer e f → (r : Reading) → reads m d outer e ≡ r → r ≡ declined f
  only f a (whole o us) r = absurd (none_applies o us r f a.applies)
  only f a (declined g) r =
      let p : (refusal_of g).number < (refusal_of f).number → ⊥ = λ l. a.first g l (applies g r) in
      let q : (refusal_of f).number < (refusal_of g).number → ⊥ = λ l. none_lower g r f l a.applies in
      ap declined (same_fault g f (applies g r) a.applies (omega arith))

  pub refused_in_order : RefusedInOrder m d outer e
  refused_in_order =
      record { declines = λ f r. record { applies = applies f r; first = none_lower f r }; only = λ f a. only f a (reads m d outer e) refl; accepts = none_applies }
