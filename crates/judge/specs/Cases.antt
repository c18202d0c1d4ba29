-- Worked cases of the rules, where no edition is named for both; one real change of each listed kind; and why a catalogue keeps its third law.
use Rattle.std.specs.Prelude.{◌≡◌, ℕ, List, [], ◌∷◌, map, replicate, Ok, Err}
use Rattle.catalogue.specs.declared.Direction.{Direction}
use Rattle.catalogue.specs.declared.Direction.TheVariants.{ToNetwork, ToModem}
use Rattle.catalogue.specs.declared.Rule.TheVariants.{Empty}
use Rattle.catalogue.specs.declared.Companions.{Companions}
use Rattle.catalogue.specs.declared.Companions.TheVariants.{One}
use Rattle.catalogue.specs.declared.layers.CatalogueFault.TheVariants.{TooManyIdentifiers, MccTooLarge, WrongDigits, MncTooLarge}
use Rattle.catalogue.specs.Meaning.{Meaning}
use Rattle.catalogue.specs.Editions.{line, edition, short, long}
use Rattle.catalogue.specs.Layers.{operator, operator00101, operator_code, with_operator, narrowed_to, filling}
use Rattle.element.specs.declared.reader.ReaderFault.TheVariants.{TooShort, WrongFirst, LengthDiffers, TooLong, RunsPast}
use Rattle.element.specs.Outer.{options}
use Rattle.element.specs.Units.{unit}
use Rattle.element.specs.Reading.{whole, declined, reads, units_of}
use Rattle.judge.specs.declared.verdicts.Verdict.TheVariants.{Accepted, CompanionMissing, Surplus}
use Rattle.judge.specs.declared.judging.JudgeFault.TheVariants.{TooFewRows}
use Rattle.judge.specs.Verdicts.{number_of, verdicts, values_for}
use Rattle.judge.specs.Judging.{judged_unit, rows_of, answer}
use Rattle.judge.specs.Changes.{Change}

-- the numbers of the verdicts on an element's units
abbrev pub verdict_numbers : Meaning → Direction → List ℕ → List ℕ
verdict_numbers m d e = map number_of (verdicts m d (units_of (reads m d options e)))

abbrev pub bare : List ℕ
bare = 0x27 ∷ 0x01 ∷ 0x80 ∷ []

-- a name server's address
abbrev pub server : List ℕ
server = 0x27 ∷ 0x08 ∷ 0x80 ∷ 0x00 ∷ 0x0D ∷ 0x04 ∷ 0xC0 ∷ 0x00 ∷ 0x02 ∷ 0x35 ∷ []

abbrev pub flag : List ℕ
flag = 0x27 ∷ 0x04 ∷ 0x80 ∷ 0x00 ∷ 0x02 ∷ 0x00 ∷ []

abbrev pub flag_with_contents : List ℕ
flag_with_contents = 0x27 ∷ 0x05 ∷ 0x80 ∷ 0x00 ∷ 0x02 ∷ 0x01 ∷ 0xAA ∷ []

abbrev pub wrong_indicator : List ℕ
wrong_indicator = 0x27 ∷ 0x05 ∷ 0x80 ∷ 0x00 ∷ 0x14 ∷ 0x01 ∷ 0x02 ∷ []

abbrev pub reselection : List ℕ
reselection = 0x27 ∷ 0x04 ∷ 0x80 ∷ 0x00 ∷ 0x12 ∷ 0x00 ∷ []

abbrev pub reselection_and_companion : List ℕ
reselection_and_companion = 0x27 ∷ 0x07 ∷ 0x80 ∷ 0x00 ∷ 0x12 ∷ 0x00 ∷ 0x00 ∷ 0x0C ∷ 0x00 ∷ []

-- a strike order of operator 001/01 whose last octet is t
abbrev pub strike_order : ℕ → List ℕ
strike_order t = 0x27 ∷ 0x0A ∷ 0x80 ∷ 0xFF ∷ 0x01 ∷ 0x06 ∷ 0x00 ∷ 0xF1 ∷ 0x10 ∷ 0xFE ∷ 0x0C ∷ t ∷ []

abbrev pub with_operator00101 : Meaning → Meaning
with_operator00101 m = with_operator operator00101 m

-- a flag with the contents x between two servers
abbrev pub flag_between : ℕ → List ℕ
flag_between x =
    0x27 ∷ 0x13 ∷ 0x80 ∷ 0x00 ∷ 0x0D ∷ 0x04 ∷ 0xC0 ∷ 0x00 ∷ 0x02 ∷ 0x35 ∷ 0x00 ∷ 0x02 ∷ 0x01 ∷ x ∷ 0x00 ∷ 0x0D ∷ 0x04 ∷ 0xC0 ∷ 0x00 ∷ 0x02 ∷ 0x36 ∷ []

-- the two servers, under the configuration octet o
abbrev pub servers : ℕ → List ℕ
servers o = 0x27 ∷ 0x0F ∷ o ∷ 0x00 ∷ 0x0D ∷ 0x04 ∷ 0xC0 ∷ 0x00 ∷ 0x02 ∷ 0x35 ∷ 0x00 ∷ 0x0D ∷ 0x04 ∷ 0xC0 ∷ 0x00 ∷ 0x02 ∷ 0x36 ∷ []

-- one change of each kind
pub record EachChange (m : Meaning) : Type 0 where
  pub removed : Change m ToModem options (flag_between 0xAA) (servers 0x80)
  pub inserted : Change m ToModem options (servers 0x80) (flag_between 0xAA)
  pub overwritten : Change m ToModem options (flag_between 0xAA) (flag_between 0x55)
  pub altered : Change m ToModem options (servers 0x80) (servers 0x00)

-- the cases that hold in each edition
pub record EachEdition (m : Meaning) : Type 0 where
  pub bare_to_modem : reads m ToModem options bare ≡ whole 0x80 []
  pub bare_to_network : reads m ToNetwork options bare ≡ whole 0x80 []
  pub server_row : rows_of m ToModem options (units_of (reads m ToModem options server)) ≡ judged_unit 3 0x000D 6 4 Accepted ∷ []
  pub flag_accepted : verdict_numbers m ToModem flag ≡ 0 ∷ []
  pub flag_too_long : verdict_numbers m ToModem flag_with_contents ≡ 2 ∷ []
  pub order_accepted : verdict_numbers (with_operator00101 m) ToModem (strike_order 0x02) ≡ 0 ∷ []
  pub order_value : values_for (with_operator00101 m) ToModem 9 (units_of (reads (with_operator00101 m) ToModem options (strike_order 0x02))) ≡ (0xFE ∷ 0x0C ∷ []) ∷ []
  pub order_misplaced : verdict_numbers (with_operator00101 m) ToModem (strike_order 0x03) ≡ 3 ∷ []
  pub order_without_operator : verdict_numbers m ToModem (strike_order 0x02) ≡ 1 ∷ []
  pub narrowed_away : verdict_numbers (narrowed_to (0x0002 ∷ []) m) ToModem server ≡ 1 ∷ []
  pub too_short : reads m ToModem options (0x27 ∷ 0x01 ∷ []) ≡ declined (TooShort 2)
  pub wrong_first : reads m ToModem options (0x28 ∷ 0x01 ∷ 0x80 ∷ []) ≡ declined WrongFirst
  pub length_differs : reads m ToModem options (0x27 ∷ 0x02 ∷ 0x80 ∷ []) ≡ declined (LengthDiffers 3)
  pub too_long : reads m ToModem options (0x27 ∷ 0xFC ∷ 0x80 ∷ replicate 251 0) ≡ declined (TooLong 254)
  pub runs_past : reads m ToModem options (0x27 ∷ 0x03 ∷ 0x80 ∷ 0x00 ∷ 0x0D ∷ []) ≡ declined (RunsPast 3)
  pub too_few_rows : answer m ToModem options server [] ≡ Err (TooFewRows 1)
  pub changes : EachChange m

-- the companion 1 of 2 has a slot, which 3 fills
abbrev pub companion_with_slot : Meaning
companion_with_slot = edition [] (line 1 Empty 8 Companions.None ∷ line 2 Empty 0 (One 1) ∷ line 3 Empty 8 Companions.None ∷ [])

-- the companion 1 of 2 has a companion itself
abbrev pub companion_of_companion : Meaning
companion_of_companion = edition [] (line 1 Empty 0 (One 9) ∷ line 2 Empty 0 (One 1) ∷ [])

-- a catalogue without the third law: to remove a unit that is turned aside moves another's verdict
pub record ThirdLawNeeded : Type 0 where
  pub slot_with : verdicts companion_with_slot ToModem (unit 3 [] ∷ unit 1 [] ∷ unit 2 [] ∷ []) ≡ Accepted ∷ Surplus ∷ Accepted ∷ []
  pub slot_without : verdicts companion_with_slot ToModem (unit 3 [] ∷ unit 2 [] ∷ []) ≡ Accepted ∷ CompanionMissing ∷ []
  pub companion_with : verdicts companion_of_companion ToModem (unit 1 [] ∷ unit 2 [] ∷ []) ≡ CompanionMissing ∷ Accepted ∷ []
  pub companion_without : verdicts companion_of_companion ToModem (unit 2 [] ∷ []) ≡ CompanionMissing ∷ []

pub record WorkedCases : Type 0 where
  pub in_short : EachEdition short
  pub in_long : EachEdition long
  pub indicator_long : verdict_numbers long ToModem wrong_indicator ≡ 3 ∷ []
  pub indicator_short : verdict_numbers short ToModem wrong_indicator ≡ 1 ∷ []
  pub no_companion : verdict_numbers long ToNetwork reselection ≡ 4 ∷ []
  pub companion : verdict_numbers long ToNetwork reselection_and_companion ≡ 0 ∷ 0 ∷ []
  pub two_digits : operator_code 1 1 2 ≡ Ok operator00101
  pub three_digits : operator_code 1 1 3 ≡ Ok (operator 0x00 0x11 0x00)
  pub mcc_too_large : operator_code 1000 1 2 ≡ Err MccTooLarge
  pub wrong_digits : operator_code 1 1 4 ≡ Err WrongDigits
  pub mnc_too_large : operator_code 1 100 2 ≡ Err MncTooLarge
  pub too_many_identifiers : filling (replicate 17 0x0002) ≡ Err (TooManyIdentifiers 17)
  pub third_law : ThirdLawNeeded
