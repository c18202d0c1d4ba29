-- The header of an element, whole or not, and the five tests of reading in their order.
use Rattle.std.proofs.Common.{◌≡◌, ℕ, ◌+◌, ◌<◌, ◌≤◌, eqb, ltb, leb, List, ◌∷◌, ◌++◌, length, get_or, drop, Ok, Result, sym, refl, subst, inl, inr, arith}
use Rattle.std.proofs.lemmas.Bool.{cond_both, ltb-true, ltb-false, leb-true, leb-false, eqb-true, eqb-false}
use Rattle.std.proofs.lemmas.Bool.Decides.{nat_tests as tests}
use Rattle.catalogue.specs.declared.Direction.{Direction}
use Rattle.catalogue.specs.Meaning.{Meaning}
use Rattle.catalogue.specs.Laws.{OneOrTwo}
use Rattle.element.specs.declared.reader.ReaderFault.{ReaderFault}
use Rattle.element.specs.declared.reader.ReaderFault.TheVariants.{TooShort, WrongFirst, LengthDiffers, TooLong}
use Rattle.element.specs.Outer.{Outer, uncounted_of, header_of, number_at, announced, configuration}
use Rattle.element.specs.Units.{Octets, field}
use Rattle.element.specs.Reading.{Reading, declined, read_framed, reads}
use Rattle.element.proofs.RoundTrips.{InFrame}

-- a header that was written is found again
pub record HeaderRead (w n o : ℕ) (os e : List ℕ) : Type 0 where
  pub number : number_at w e 1 ≡ n
  pub octet : get_or e (uncounted_of w) 0 ≡ o
  pub rest : drop (header_of w) e ≡ os
  pub long : length e ≡ header_of w + length os

pub header_read : (w n f o : ℕ) (os : List ℕ) → OneOrTwo w → HeaderRead w n o os (f ∷ (field w n ++ o ∷ os))
header_read w n f o os two = record { number = grind (arith, tests); octet = grind (arith, tests); rest = grind (arith, tests); long = grind (arith, tests) }

-- octets with room for a header are their header, written, and the rest
abbrev Whole-header : ℕ → List ℕ → Type 0
Whole-header w e = get_or e 0 0 ∷ (field w (number_at w e 1) ++ get_or e (uncounted_of w) 0 ∷ drop (header_of w) e) ≡ e

one_octet : (e : List ℕ) → header_of 1 ≤ length e → Whole-header 1 e
one_octet (a ∷ b ∷ c ∷ os) h = refl
one_octet e h = absurd (omega arith)

two_octets : (e : List ℕ) → header_of 2 ≤ length e → Octets e → Whole-header 2 e
two_octets (a ∷ b ∷ c ∷ x ∷ os) h k = grind arith
two_octets e h k = absurd (omega arith)

pub header_back : (w : ℕ) → OneOrTwo w → (e : List ℕ) → header_of w ≤ length e → Octets e → Whole-header w e
header_back w (inl q) e h k = subst (λ (v : ℕ). Whole-header v e) (sym q) (one_octet e (subst (λ (v : ℕ). header_of v ≤ length e) q h))
header_back w (inr q) e h k = subst (λ (v : ℕ). Whole-header v e) (sym q) (two_octets e (subst (λ (v : ℕ). header_of v ≤ length e) q h) k)

module _ (m : Meaning) (d : Direction) (outer : Outer) (e : List ℕ) where
  -- an element in its frame is read by its cut
  pub in_frame : InFrame outer e → reads m d outer e ≡ read_framed m d outer e (Ok (configuration outer e))
  in_frame f = let a = f.enough in let b = f.first in let c = f.counted in let g = f.fits in grind (arith, tests)

  -- reading, test by test
  pub reads_by : (Q : Reading → Type 0) → (length e < outer.least → Q (declined (TooShort (length e)))) → (outer.least ≤ length e → (get_or e 0 0 ≡ outer.first → ⊥) → Q (declined WrongFirst)) → (outer.least ≤ length e → get_or e 0 0 ≡ outer.first → (announced outer e ≡ length e → ⊥) → Q (declined (LengthDiffers (length e)))) → (outer.least ≤ length e → get_or e 0 0 ≡ outer.first → announced outer e ≡ length e → outer.greatest < length e → Q (declined (TooLong (length e)))) → (InFrame outer e → Q (read_framed m d outer e (Ok (configuration outer e)))) → Q (reads m d outer e)
  reads_by Q one two three four last =
      let R : Result ℕ ReaderFault → Type 0 = λ r. Q (read_framed m d outer e r) in
      cond_both (ltb (length e) outer.least) _ _ R (λ t. one (ltb-true _ _ t))
      (λ t. cond_both (eqb (get_or e 0 0) outer.first) _ _ R
      (λ s. cond_both (eqb (announced outer e) (length e)) _ _ R
      (λ r. cond_both (leb (length e) outer.greatest) _ _ R
      (λ q. last (record { enough = ltb-false _ _ t; first = eqb-true _ _ s; counted = eqb-true _ _ r; fits = leb-true _ _ q }))
      (λ q. four (ltb-false _ _ t) (eqb-true _ _ s) (eqb-true _ _ r) (leb-false _ _ q)))
      (λ r. three (ltb-false _ _ t) (eqb-true _ _ s) (eqb-false _ _ r)))
      (λ s. two (ltb-false _ _ t) (eqb-false _ _ s)))
