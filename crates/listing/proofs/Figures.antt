-- Hexadecimal figures read back.
use Rattle.std.proofs.Common.{◌≡◌, ℕ, ◌+◌, ◌-◌, ◌*◌, ◌/◌, ◌%◌, ◌<◌, ltb, [], ◌∷◌, arith}
use lib.Utf8.{encode}
use Rattle.std.proofs.lemmas.Str.{encode_ascii}
use Rattle.std.proofs.lemmas.Bool.{cond_both, ltb-true, ltb-false}
use Rattle.listing.specs.Figures.{figure, half_of, IdentifierLaw}

half_back : (h : ℕ) → h < 16 → half_of (figure h) ≡ h
half_back h small =
    cond_both (ltb h 10) (48 + h) (65 + (h - 10)) (λ (c : ℕ). half_of c ≡ h)
    (λ t. cond_both (ltb (48 + h) 65) (48 + h - 48) (48 + h - 65 + 10) (λ (x : ℕ). x ≡ h) (λ _. omega arith) (λ s. absurd (omega (arith, ltb-true h 10 t, ltb-false (48 + h) 65 s))))
    (λ t. cond_both (ltb (65 + (h - 10)) 65) (65 + (h - 10) - 48) (65 + (h - 10) - 65 + 10) (λ (x : ℕ). x ≡ h) (λ s. absurd (omega (arith, ltb-true (65 + (h - 10)) 65 s))) (λ _. omega (arith, ltb-false h 10 t)))

-- the figures of an identifier stand for it
pub figures_back : IdentifierLaw
figures_back i small =
    let highest : i / 4096 % 16 ≡ i / 4096 = omega arith in
    let second : i / 256 ≡ 16 * (i / 4096) + i / 256 % 16 = omega arith in
    let third : i / 16 ≡ 16 * (i / 256) + i / 16 % 16 = omega arith in
    let lowest : i ≡ 16 * (i / 16) + i % 16 = omega arith in
    omega (arith, half_back (i / 4096 % 16) (omega arith), half_back (i / 256 % 16) (omega arith), half_back (i / 16 % 16) (omega arith), half_back (i % 16) (omega arith))

-- a figure is written as one octet
pub figure_written : (h : ℕ) → h < 16 → encode (figure h) ≡ figure h ∷ []
figure_written h small = cond_both (ltb h 10) (48 + h) (65 + (h - 10)) (λ (c : ℕ). encode c ≡ c ∷ []) (λ _. encode_ascii _ (omega arith)) (λ _. encode_ascii _ (omega arith))
