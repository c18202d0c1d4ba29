-- What stands at the front of octets: reading what was written, and writing what was read.
use Rattle.std.proofs.Common.{◌≡◌, ℕ, ◌+◌, ◌*◌, ◌<◌, List, [], ◌∷◌, ◌++◌, length, drop, sym, subst, append_assoc, arith, length-append, length-drop, take-append-drop, length-take}
use Rattle.std.proofs.ByRecursion.{All-drop}
use Rattle.std.proofs.lemmas.List.{take_at, drop_at, drop-drop}
use Rattle.std.proofs.lemmas.Bool.Decides.{nat_tests as tests}
use Rattle.catalogue.specs.declared.Direction.{Direction}
use Rattle.catalogue.specs.Meaning.{Meaning}
use Rattle.catalogue.specs.Laws.{OneOrTwo, Lawful}
use Rattle.element.specs.Units.{Octets, ElementUnit, field, size, written}
use Rattle.element.specs.Reading.{counts, read_field, finished, stands, past, contents_of, front}

-- a length field has as many octets as its width says
pub field_length : (w n : ℕ) → OneOrTwo w → length (field w n) ≡ w
field_length w n two = grind (arith, tests)

-- a length field is read as it was written, whatever follows it
pub field_read : (w n : ℕ) (os : List ℕ) → read_field w (field w n ++ os) ≡ counts n os
field_read w n os = grind (arith, tests)

-- and was written as it is read
pub field_back : (w : ℕ) (os : List ℕ) (n : ℕ) (rest : List ℕ) → Octets (drop 1 os) → read_field w os ≡ counts n rest → (field w n ++ rest ≡ os) × Octets rest
field_back w [] n rest h e = cc
field_back w (a ∷ []) n rest h e = grind (arith, tests)
field_back w (a ∷ b ∷ os) n rest h e = grind (arith, tests)

-- it takes as many octets as its width says, and the rest are left
pub field_sized : (w : ℕ) (os : List ℕ) (n : ℕ) (rest : List ℕ) → OneOrTwo w → read_field w os ≡ counts n rest → (w + length rest ≡ length os) × (rest ≡ drop w os)
field_sized w [] n rest two e = cc
field_sized w (a ∷ []) n rest two e = grind (arith, tests)
field_sized w (a ∷ b ∷ os) n rest two e = grind (arith, tests)

-- a unit has the identifier and as many contents as were read before it
pub contents_back : (i n : ℕ) (os : List ℕ) (u : ElementUnit) (rest : List ℕ) → contents_of i (counts n os) ≡ stands u rest → (u.identifier ≡ i) × (length u.contents ≡ n) × (u.contents ++ rest ≡ os)
contents_back i n os u rest e = grind (arith, tests, take-append-drop, length-take)

module _ (m : Meaning) (d : Direction) where
  -- nothing stands at the front only where there are no octets
  pub front_ends : (os : List ℕ) → front m d os ≡ finished → os ≡ []
  front_ends os e = grind (arith, tests)

  -- a unit that runs past the end has an octet
  pub past_some : (os : List ℕ) → front m d os ≡ past → 0 < length os
  past_some os e = grind (arith, tests)

  -- a unit that was written stands at the front
  pub front_read : (u : ElementUnit) (rest : List ℕ) → front m d (written m d u ++ rest) ≡ stands u rest
  front_read u rest = grind (arith, tests, take_at, drop_at, length-append, append_assoc)

  -- a unit that stands at the front was written there, and its identifier has two octets
  pub front_back : (os : List ℕ) (u : ElementUnit) (rest : List ℕ) → Octets os → front m d os ≡ stands u rest → (written m d u ++ rest ≡ os) × (u.identifier < 0x10000)
  front_back os u rest h e = grind (arith, tests, take-append-drop, length-take, append_assoc)

  -- what follows a unit are octets, where all are
  pub rest_octets : (os : List ℕ) (u : ElementUnit) (rest : List ℕ) → Octets os → front m d os ≡ stands u rest → Octets rest
  rest_octets os u rest h e =
      let r = All-drop (λ (x : ℕ). x < 256) (length (written m d u)) (written m d u ++ rest) (subst Octets (sym (front_back os u rest h e).0) h) in
      rw drop_at at r

  module _ (law : Lawful m) where
    -- a unit takes as many octets as its size says, and the rest are left
    pub front_sized : (os : List ℕ) (u : ElementUnit) (rest : List ℕ) → front m d os ≡ stands u rest → (size m d u + length rest ≡ length os) × (rest ≡ drop (size m d u) os)
    front_sized (a ∷ b ∷ c ∷ x ∷ os) u rest e =
        let w = law.width d (256 * a + b) in
        let one = drop-drop c 3 (a ∷ b ∷ c ∷ x ∷ os) in
        let two = drop-drop (256 * c + x) 4 (a ∷ b ∷ c ∷ x ∷ os) in
        grind (arith, tests, length-take, length-drop)
    front_sized os u rest e = grind (arith, tests)
