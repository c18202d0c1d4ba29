-- A narrowing list: each identifier in a place of its own, the other places empty.
use denote.Param.Members.{Mut, Called}
use Rattle.std.specs.Array.{IsFromFnResult, IsFromFnResultFrom}
use Rattle.std.specs.List.{filter_map, list_any}
use Rattle.std.specs.Option.{option_eq}
use Rattle.std.proofs.lemmas.Bool.{cases_lt}
use Rattle.std.proofs.Common.{◌≡◌, ℕ, zero, suc, ◌+◌, ◌<◌, ◌≤◌, List, [], ◌∷◌, length, get_or, slice_get, None, Some, Option, Bool, ◌||◌, nat_eq, refl, ap, subst, arith}
use Rattle.catalogue.specs.Layers.{among}

-- the identifiers that the places hold, in order
abbrev held : List (Option ℕ) → List ℕ
held ps = filter_map (λ (p : Option ℕ). p) ps

-- each place has the identifier at its index, or none past the last
placed : (xs : List ℕ) (ps : List (Option ℕ)) → length xs ≤ length ps
    → ((k : ℕ) → k < length ps → get_or ps k None ≡ slice_get xs k) → held ps ≡ xs
placed [] [] le at = refl
placed (x ∷ xs) [] le at = absurd (omega arith)
placed [] (p ∷ ps) le at =
    let first = at 0 (omega arith) in
    let rest = placed [] ps (omega arith) (λ k lt. at (suc k) (omega arith)) in
    grind (arith, first, rest)
placed (x ∷ xs) (p ∷ ps) le at =
    let first = at 0 (omega arith) in
    let rest = placed xs ps (omega arith) (λ k lt. at (suc k) (omega arith)) in
    grind (arith, first, rest)

-- places filled by calls that read the identifiers one after the other
module _ {F : Type 0} (g : Mut F (ℕ × Unit {0}) (Option ℕ)) (f : F) (xs : List ℕ) (ps : List (Option ℕ)) where
  -- a call gives the identifier at its index, and changes nothing
  abbrev Reads : Type 0
  Reads = (i : ℕ) (o : Option ℕ) (q : F) → Called g f (i, tt) o q → (q ≡ f) × (o ≡ slice_get xs i)

  each : Reads → (n i : ℕ) → IsFromFnResultFrom g f ps i n
      → (j : ℕ) → i ≤ j → j < i + n → get_or ps j None ≡ slice_get xs j
  each reads zero i calls j le lt = absurd (omega arith)
  each reads (suc n) i calls j le lt =
      let read = reads i calls.1 calls.0 calls.3 in
      let onward : IsFromFnResultFrom g f ps (i + 1) n = subst (λ (e : F). IsFromFnResultFrom g e ps (i + 1) n) read.0 calls.4 in
      let more : i + 1 ≤ j → get_or ps j None ≡ slice_get xs j = λ h. each reads n (i + 1) onward j h (omega arith) in
      let here = calls.2.1 None in
      grind (arith, cases_lt j (i + 1))

  pub placed_by_calls : (n : ℕ) → IsFromFnResult g f ps n → length xs ≤ n → Reads → held ps ≡ xs
  placed_by_calls n made few reads =
      let long = made.long in
      placed xs ps (omega arith) (λ k lt. each reads n 0 made.each k (omega arith) (omega arith))

-- an identifier stands in a place if it is among those that the places hold
pub list_any-places : (i : ℕ) (ps : List (Option ℕ)) → list_any (λ (p : Option ℕ). option_eq nat_eq p (Some i)) ps ≡ among (held ps) i
list_any-places i [] = refl
list_any-places i (None ∷ ps) = list_any-places i ps
list_any-places i (Some x ∷ ps) = ap (λ (b : Bool). nat_eq x i || b) (list_any-places i ps)
