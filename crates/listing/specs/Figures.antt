-- Hexadecimal figures: the character of a half octet, and the four of an identifier.
use Rattle.std.specs.Prelude.{◌≡◌, ℕ, ◌+◌, ◌-◌, ◌*◌, ◌/◌, ◌%◌, ◌^◌, ◌<◌, cond, List, [], ◌∷◌, map, codes, nat_lt}

-- the character of a half octet: 0 to 9 are 48 to 57, A to F are 65 to 70
abbrev pub figure : ℕ → ℕ
figure half = cond (nat_lt half 10) (48 + half) (65 + (half - 10))

abbrev pub half_octets : List ℕ
half_octets = 0 ∷ 1 ∷ 2 ∷ 3 ∷ 4 ∷ 5 ∷ 6 ∷ 7 ∷ 8 ∷ 9 ∷ 10 ∷ 11 ∷ 12 ∷ 13 ∷ 14 ∷ 15 ∷ []

-- the figures of the half octets, in order
abbrev pub FigureLaw : Type 0
FigureLaw = map figure half_octets ≡ codes "0123456789ABCDEF"

-- an identifier's figures, the highest first
abbrev pub figures_of : ℕ → List ℕ
figures_of i = figure (i / 4096 % 16) ∷ figure (i / 256 % 16) ∷ figure (i / 16 % 16) ∷ figure (i % 16) ∷ []

-- the half octet of a figure
abbrev pub half_of : ℕ → ℕ
half_of c = cond (nat_lt c 65) (c - 48) (c - 65 + 10)

-- the number that hexadecimal figures stand for, n before them
abbrev pub value_after : ℕ → List ℕ → ℕ
value_after n [] = n
value_after n (c ∷ cs) = value_after (16 * n + half_of c) cs

abbrev pub value_of : List ℕ → ℕ
value_of cs = value_after 0 cs

-- the figures of an identifier stand for it
abbrev pub IdentifierLaw : Type 0
IdentifierLaw = (i : ℕ) → i < 2 ^ 16 → value_of (figures_of i) ≡ i
