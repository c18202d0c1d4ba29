-- A unit is turned aside by the first check that fails, and accepted if none does.
use Rattle.std.proofs.Common.{◌≡◌, ℕ, ◌+◌, ◌<◌, ◌≤◌, Bool, true, false, cond, List, [], ◌∷◌, ◌++◌, map, Some, None, Option, refl, ap, ◌∙◌, inl, inr, arith}
use Rattle.std.proofs.lemmas.Bool.{or_cases}
use Rattle.std.proofs.lemmas.Bool.Decides.{nat_tests}
use Rattle.catalogue.specs.declared.Direction.{Direction}
use Rattle.catalogue.specs.declared.Row.{Row}
use Rattle.catalogue.specs.Meaning.{Meaning}
use Rattle.catalogue.specs.Slots.{holds}
use Rattle.element.specs.Units.{ElementUnit}
use Rattle.judge.specs.declared.verdicts.Verdict.{Verdict}
use Rattle.judge.specs.declared.verdicts.Verdict.TheVariants.{Accepted, UnsupportedIdentifier, WrongLength, WrongValue, CompanionMissing, Surplus}
use Rattle.judge.specs.Verdicts.{number_of, is_accepted, TurnedAside, or_else, checked, companion_stands, companion_stands_for, slot_of, count, full, last_two, chosen, passes_as, passes, met, verdict, filled_after, verdicts_from, filled_by, verdicts, verdict_in}
use Rattle.judge.proofs.Parts.{passes-++}
use Rattle.judge.specs.Checks.{entry_of, PassesThree, StandsIn, accepted_for, Fails, FirstToFail}

module _ (m : Meaning) (d : Direction) where
  passes_three : (u : ElementUnit) (e : Option Row) → entry_of m d u ≡ e → is_accepted (checked e u.contents) ≡ true → PassesThree m d u
  passes_three u None q h = cc
  passes_three u (Some r) q h = record { row = r; supported = q; length_allowed = grind arith; value_right = grind arith }

  passes_stands : (us : List ElementUnit) (i : ℕ) → passes m d us i ≡ true → StandsIn m d us i
  passes_stands [] i h = cc
  passes_stands (u ∷ us) i h =
      elim (or_cases (passes_as m d u i) (passes m d us i) h) [
        | inl e ↦
            record { before = []; companion = u; after = us; among = refl; named = grind (arith, nat_tests); passes = passes_three u (entry_of m d u) refl (grind arith) }
        | inr e ↦
            let s = passes_stands us i e in
            record { before = u ∷ s.before; companion = s.companion; after = s.after; among = ap (λ (l : List ElementUnit). u ∷ l) s.among; named = s.named; passes = s.passes }
      ]

  stands_passes : (us : List ElementUnit) (i : ℕ) → StandsIn m d us i → passes m d us i ≡ true
  stands_passes us i s =
      let p = s.passes in
      rw (s.among, passes-++ m d s.before (s.companion ∷ s.after) i) (grind (arith, nat_tests, s.named, p.supported, p.length_allowed, p.value_right))

  module _ (s : ℕ) (meets : ℕ → Bool) where
    -- an accepted unit counts for its slot
    filled_one : (t : Bool) (u : ElementUnit) (us : List ElementUnit) (filled : List ℕ) → count s (map (λ (x : ElementUnit). slot_of (entry_of m d x)) (cond t (u ∷ us) us)) + count s filled ≡ count s (map (λ (x : ElementUnit). slot_of (entry_of m d x)) us) + count s (cond t (slot_of (entry_of m d u) ∷ filled) filled)
    filled_one t u us filled = grind (arith, nat_tests)

    -- the slot s is filled, ahead of the units ys, by the accepted units before them
    pub filled_all : (filled : List ℕ) (xs ys : List ElementUnit) → accepted_for m d s (verdicts_from m d meets filled (xs ++ ys)) xs + count s filled ≡ count s (filled_by m d meets filled xs)
    filled_all filled [] [] = omega arith
    filled_all filled [] (y ∷ ys) = omega arith
    filled_all filled (x ∷ xs) ys =
        let next = filled_after m d meets filled x in
        filled_one (is_accepted (verdict m d meets filled x)) x (chosen (verdicts_from m d meets next (xs ++ ys)) xs) filled ∙ filled_all next xs ys

module _ (m : Meaning) (d : Direction) (before : List ElementUnit) (u : ElementUnit) (after : List ElementUnit) where
  abbrev all : List ElementUnit
  all = before ++ u ∷ after

  -- the slots of the accepted units before u
  abbrev earlier : List ℕ
  earlier = filled_by m d (met m d all) [] before

  over : (s : ℕ) → full earlier s ≡ true → (0 < s) × (holds s ≤ accepted_for m d s (verdicts m d all) before)
  over s is = let e = filled_all m d s (met m d all) [] before (u ∷ after) in (grind (arith, nat_tests), grind (arith, nat_tests))

  failed : (e : Option Row) → entry_of m d u ≡ e → (v : Verdict) → or_else (checked e u.contents) (last_two (companion_stands_for (passes m d all) e) (full earlier (slot_of e))) ≡ v → TurnedAside v → Fails m d before u after v
  failed e q Accepted w h = h
  failed e q UnsupportedIdentifier w h = grind arith
  failed None q v w h = cc
  failed (Some r) q WrongLength w h = (r, q, grind arith)
  failed (Some r) q WrongValue w h = (r, q, grind arith)
  failed (Some r) q CompanionMissing w h =
      (r, q, λ z. grind arith, λ i names s. let yes = stands_passes m d all i s in grind arith)
  failed (Some r) q Surplus w h =
      let is : full earlier r.slot ≡ true = grind arith in let filled = over r.slot is in (r, q, filled.0, filled.1)

  -- where a check fails, the unit is turned aside, by this check or an earlier one
  caught : (v : Verdict) → Fails m d before u after v → (0 < number_of (verdict_in m d before u after)) × (number_of (verdict_in m d before u after) ≤ number_of v)
  caught Accepted h = absurd h
  caught UnsupportedIdentifier h = simp h (omega arith, omega arith)
  caught WrongLength (r, q, h) = (grind (arith, nat_tests), grind (arith, nat_tests))
  caught WrongValue (r, q, h) = (grind (arith, nat_tests), grind (arith, nat_tests))
  caught CompanionMissing (r, q, h, g) =
      let no : companion_stands (passes m d all) r.companions ≡ false = let yes = passes_stands m d all in grind arith in
      (grind (arith, nat_tests), grind (arith, nat_tests))
  caught Surplus (r, q, h, g) =
      let e = filled_all m d r.slot (met m d all) [] before (u ∷ after) in
      (grind (arith, nat_tests), grind (arith, nat_tests))

pub first_to_fail : (m : Meaning) (d : Direction) (before : List ElementUnit) (u : ElementUnit) (after : List ElementUnit) → FirstToFail m d before u after
first_to_fail m d before u after =
    record {
      turned_aside = failed m d before u after (entry_of m d u) refl (verdict_in m d before u after) refl;
      first = λ v low h. omega (arith, low, (caught m d before u after v h).1);
      accepted = λ e v h. omega (arith, ap number_of e, (caught m d before u after v h).0);
    }
