-- Catalogues that answer alike read the same elements alike.
use Rattle.std.proofs.Common.{◌≡◌, ℕ, zero, suc, ◌+◌, ◌*◌, ◌<◌, List, ◌∷◌, length, drop, refl, ap, ◌∙◌, arith}
use Rattle.std.proofs.ByRecursion.{All-drop}
use Rattle.std.proofs.lemmas.Bool.Decides.{nat_tests as tests}
use Rattle.catalogue.specs.declared.Direction.{Direction}
use Rattle.catalogue.specs.Meaning.{Meaning}
use Rattle.element.specs.Outer.{Outer, header}
use Rattle.element.specs.Units.{Octets, size}
use Rattle.element.specs.Reading.{Front, Cut, stuck_at, front, next, cutting, reads}
use Rattle.element.proofs.Fronts.{front_back, rest_octets}
use Rattle.element.proofs.Steps.{next_alike}

module _ (m n : Meaning) (d : Direction) (alike : (i : ℕ) → i < 0x10000 → m d i ≡ n d i) where
  front_same : (os : List ℕ) → Octets os → front m d os ≡ front n d os
  front_same (a ∷ b ∷ os) h = let same = alike (256 * a + b) (omega arith) in cc
  front_same os h = refl

  next_same : (os : List ℕ) → Octets os → (g h : ℕ → List ℕ → Cut) → ((q : ℕ) (rest : List ℕ) → Octets rest → g q rest ≡ h q rest) → (p : ℕ) → next m d (front m d os) g p ≡ next n d (front n d os) h p
  next_same os o g h e p =
      next_alike m n d (front m d os) g h p
      (λ u rest q. let more = e (p + size m d u) rest (rest_octets m d os u rest o q) in let same = alike u.identifier (front_back m d os u rest o q).1 in cc)
      ∙ ap (λ (f : Front). next n d f h p) (front_same os o)

  cutting_same : (k p : ℕ) (os : List ℕ) → Octets os → cutting m d k p os ≡ cutting n d k p os
  cutting_same zero p os o = next_same os o (λ q rest. stuck_at q) (λ q rest. stuck_at q) (λ q rest _. refl) p
  cutting_same (suc k) p os o = next_same os o (cutting m d k) (cutting n d k) (cutting_same k) p

  pub reads_same : (outer : Outer) (e : List ℕ) → Octets e → reads m d outer e ≡ reads n d outer e
  reads_same outer e o =
      let same = cutting_same (length (drop (header outer) e)) (header outer) (drop (header outer) e) (All-drop _ (header outer) e o) in
      grind (arith, tests)
