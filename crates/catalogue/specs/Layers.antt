-- The operator layer and the narrowing layer, over any catalogue, and when the part that each is made from is declined.
use Rattle.std.specs.Prelude.{ℕ, ◌+◌, ◌-◌, ◌*◌, ◌/◌, ◌%◌, ◌^◌, Bool, cond, ◌||◌, List, length, None, Ok, Err, Result, ◌==◌, nat_le, nat_lt}
use Rattle.std.specs.List.{list_any, filter_map}
use Rattle.catalogue.specs.declared.Direction.TheVariants.{ToNetwork, ToModem}
use Rattle.catalogue.specs.declared.Rule.TheVariants.{StrikeOrder}
use Rattle.catalogue.specs.declared.Companions.{Companions}
use Rattle.catalogue.specs.declared.Answer.{Answer}
use Rattle.catalogue.specs.declared.Layer.TheVariants.{Catalogue}
use Rattle.catalogue.specs.declared.Refusal.{Refusal}
use Rattle.catalogue.specs.declared.OperatorCode.{OperatorCode}
use Rattle.catalogue.specs.declared.layers.CatalogueFault.{CatalogueFault}
use Rattle.catalogue.specs.declared.layers.CatalogueFault.TheVariants.{TooManyIdentifiers, MccTooLarge, WrongDigits, MncTooLarge}
use Rattle.catalogue.specs.declared.layers.IdentifierList.{IdentifierList}
use Rattle.catalogue.specs.Meaning.{Meaning, answer}
use Rattle.catalogue.specs.Editions.{listed}

abbrev refusal : ℕ → ℕ → Refusal
refusal n p = record { number = n; place = p; layer = Catalogue }

-- the line of the table of refusals that a fault stands for
abbrev pub refusal_of : CatalogueFault → Refusal
refusal_of (TooManyIdentifiers n) = refusal 11 n
refusal_of MccTooLarge = refusal 12 1
refusal_of WrongDigits = refusal 12 2
refusal_of MncTooLarge = refusal 12 3

abbrev pub operator : ℕ → ℕ → ℕ → OperatorCode
operator a b c = record { first = a; second = b; third = c }

-- operator 001/01
abbrev pub operator00101 : OperatorCode
operator00101 = operator 0x00 0xF1 0x10

-- an octet of two digits, the high half first
abbrev pub halves : ℕ → ℕ → ℕ
halves h l = 16 * h + l

-- the k-th, from the left, of the n decimal digits of a number
abbrev pub digit : ℕ → ℕ → ℕ → ℕ
digit n k x = x / (10 ^ (n - k)) % 10

-- digits 2 and 1 of the MCC; digit 3 of the MNC, or F if it has two, and digit 3 of the MCC; digits 2 and 1 of the MNC
abbrev pub operator_octets : ℕ → ℕ → ℕ → OperatorCode
operator_octets mcc mnc digits =
    operator (halves (digit 3 2 mcc) (digit 3 1 mcc)) (halves (cond (digits == 2) 0xF (digit digits 3 mnc)) (digit 3 3 mcc)) (halves (digit digits 2 mnc) (digit digits 1 mnc))

-- the operator's octets, or why there are none
abbrev pub operator_code : ℕ → ℕ → ℕ → Result OperatorCode CatalogueFault
operator_code mcc mnc digits =
    cond (nat_le mcc 999)
    (cond (digits == 2 || digits == 3)
    (cond (nat_lt mnc (10 ^ digits)) (Ok (operator_octets mcc mnc digits))
    (Err MncTooLarge))
    (Err WrongDigits))
    (Err MccTooLarge)

-- the strike order of an operator is kept in slot 9
abbrev pub strike_answer : OperatorCode → Answer
strike_answer o = answer 1 (listed (StrikeOrder o) 9 Companions.None)

-- FF01 to modem is the operator's strike order; all else is answered from below
abbrev pub with_operator : OperatorCode → Meaning → Meaning
with_operator o m ToNetwork i = m ToNetwork i
with_operator o m ToModem i = cond (i == 0xFF01) (strike_answer o) (m ToModem i)

abbrev pub among : List ℕ → ℕ → Bool
among xs i = list_any (λ x. x == i) xs

-- the identifiers listed are answered from below; every other is unsupported, its width from below
abbrev pub narrowed_to : List ℕ → Meaning → Meaning
narrowed_to xs m d i = cond (among xs i) (m d i) (answer (m d i).width None)

-- the identifiers of a list: those that its places hold, in order
abbrev pub identifiers_of : IdentifierList → List ℕ
identifiers_of l = filter_map (λ p. p) l.identifiers

abbrev pub filled : Result IdentifierList CatalogueFault → Result (List ℕ) CatalogueFault
filled (Ok l) = Ok (identifiers_of l)
filled (Err f) = Err f

-- a list of at most 16 identifiers, or why there is none
abbrev pub filling : List ℕ → Result (List ℕ) CatalogueFault
filling xs = cond (nat_le (length xs) 16) (Ok xs) (Err (TooManyIdentifiers (length xs)))
