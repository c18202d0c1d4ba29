-- Octets cut into units: reading what was written, and writing what was read.
use Rattle.std.proofs.Common.{◌≡◌, ℕ, zero, suc, ◌+◌, ◌<◌, ◌≤◌, List, [], ◌∷◌, ◌++◌, length, refl, ap, append_assoc, arith, length-append}
use Rattle.std.proofs.lemmas.Bool.Decides.{nat_tests as tests}
use Rattle.std.specs.List.{AllByRecursion}
use Rattle.catalogue.specs.declared.Direction.{Direction}
use Rattle.catalogue.specs.Meaning.{Meaning}
use Rattle.element.specs.Units.{Octets, ElementUnit, size, written, all_written}
use Rattle.element.specs.Reading.{Front, finished, stands, past, Cut, cut, stuck_at, onto, front, next, cutting}
use Rattle.element.specs.Places.{place_from}
use Rattle.element.proofs.Fronts.{front_read, front_back, rest_octets}

abbrev pub Small : ElementUnit → Type 0
Small u = u.identifier < 0x10000

module _ (m : Meaning) (d : Direction) where
  pub cutting_read : (us : List ElementUnit) (k p : ℕ) → length us ≤ k → cutting m d k p (all_written m d us) ≡ cut us
  cutting_read (u ∷ us) (suc k) p h =
      let first = front_read m d u (all_written m d us) in let more = cutting_read us k (p + size m d u) (omega arith) in cc
  cutting_read (u ∷ us) zero p h = absurd (omega arith)
  cutting_read [] zero p h = refl
  cutting_read [] (suc k) p h = refl

  pub units_fit : (us : List ElementUnit) → length us ≤ length (all_written m d us)
  units_fit [] = omega arith
  units_fit (u ∷ us) = grind (arith, units_fit us, length-append)

  -- what a cut says of the octets that stand from the place p on: units, all of small identifiers; or whole units up to the place q, where none stands
  abbrev pub CutBack : ℕ → List ℕ → Cut → Type 0
  CutBack p os (cut us) = (all_written m d us ≡ os) × AllByRecursion Small us
  CutBack p os (stuck_at q) =
      (us : List ElementUnit) × (rest : List ℕ) × (all_written m d us ++ rest ≡ os) × (q ≡ place_from m d p us) × (front m d rest ≡ past)

  onto_back : (p : ℕ) (u : ElementUnit) (os rest : List ℕ) → written m d u ++ rest ≡ os → Small u → (c : Cut) → CutBack (p + size m d u) rest c → CutBack p os (onto u c)
  onto_back p u os rest e s (cut us) g = (cc, (s, g.1))
  onto_back p u os rest e s (stuck_at q) g = (u ∷ g.0, g.1, rw append_assoc (cc), g.3, g.4)

  next_back : (p : ℕ) (os : List ℕ) → Octets os → (f : Front) → front m d os ≡ f → (then : ℕ → List ℕ → Cut) → ((u : ElementUnit) (rest : List ℕ) → written m d u ++ rest ≡ os → Octets rest → CutBack (p + size m d u) rest (then (p + size m d u) rest)) → CutBack p os (next m d f then p)
  next_back p os o finished w then h = (grind (arith, tests), tt)
  next_back p os o past w then h = ([], os, refl, refl, w)
  next_back p os o (stands u rest) w then h =
      let b = front_back m d os u rest o w in onto_back p u os rest b.0 b.1 (then (p + size m d u) rest) (h u rest b.0 (rest_octets m d os u rest o w))

  -- a unit takes at least three octets
  pub rest_shorter : (u : ElementUnit) (rest os : List ℕ) → written m d u ++ rest ≡ os → length rest + 3 ≤ length os
  rest_shorter u rest os e = let same = ap length e in grind (arith, tests, length-append)

  pub cutting_back : (k p : ℕ) (os : List ℕ) → Octets os → length os ≤ k → CutBack p os (cutting m d k p os)
  cutting_back zero p [] h l = (refl, tt)
  cutting_back zero p (x ∷ os) h l = absurd (omega arith)
  cutting_back (suc k) p os h l =
      next_back p os h (front m d os) refl (cutting m d k)
      (λ u rest e o. let same = ap length e in cutting_back k (p + size m d u) rest o (grind (arith, length-append)))
