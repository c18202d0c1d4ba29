-- The short and the long edition, as tables.
use Rattle.std.specs.Prelude.{ℕ, cond, List, [], ◌∷◌, ◌++◌, Some, None, Option, ◌==◌}
use Rattle.catalogue.specs.declared.Direction.TheVariants.{ToNetwork, ToModem}
use Rattle.catalogue.specs.declared.Rule.{Rule}
use Rattle.catalogue.specs.declared.Rule.TheVariants.{Empty, Ipv4, Ipv6, Prefix, OneOctet, Mode, Indicator, Number, Any, PppPacket}
use Rattle.catalogue.specs.declared.Companions.{Companions}
use Rattle.catalogue.specs.declared.Companions.TheVariants.{Two}
use Rattle.catalogue.specs.declared.Row.{Row}
use Rattle.catalogue.specs.declared.editions.Edition.{Edition}
use Rattle.catalogue.specs.declared.editions.Edition.TheVariants.{Short, Long}
use Rattle.catalogue.specs.Meaning.{Meaning, answer}

abbrev pub row_of : Rule → ℕ → Companions → Row
row_of r s k = record { rule = r; slot = s; companions = k }

abbrev pub listed : Rule → ℕ → Companions → Option Row
listed r s k = Some (row_of r s k)

pub record Line : Type 0 where
  pub identifier : ℕ
  pub row : Row

abbrev pub line : ℕ → Rule → ℕ → Companions → Line
line i r s k = record { identifier = i; row = row_of r s k }

-- a row of slot 0 with no companions
abbrev pub plain : ℕ → Rule → Line
plain i r = line i r 0 Companions.None

-- a row whose values are kept in a slot
abbrev pub kept : ℕ → Rule → ℕ → Line
kept i r s = line i r s Companions.None

-- both ways, in both editions
abbrev pub shared : List Line
shared =
    plain 0x8021 PppPacket
    ∷ plain 0xC021 PppPacket
    ∷ plain 0xC023 PppPacket
    ∷ plain 0xC223 PppPacket
    ∷ []

abbrev pub short_to_network : List Line
short_to_network =
    plain 0x0001 Empty
    ∷ plain 0x0002 Empty
    ∷ plain 0x0003 Empty
    ∷ plain 0x0005 Empty
    ∷ plain 0x0007 Empty
    ∷ plain 0x0008 Empty
    ∷ plain 0x0009 Empty
    ∷ plain 0x000A Empty
    ∷ plain 0x000B Empty
    ∷ plain 0x000C Empty
    ∷ plain 0x000D Empty
    ∷ plain 0x000E Empty
    ∷ plain 0x000F Empty
    ∷ plain 0x0010 Empty
    ∷ plain 0x0011 Empty
    ∷ shared

abbrev pub short_to_modem : List Line
short_to_modem =
    kept 0x0001 Ipv6 2
    ∷ kept 0x0002 Empty 8
    ∷ kept 0x0003 Ipv6 4
    ∷ plain 0x0004 OneOctet
    ∷ kept 0x0005 Mode 7
    ∷ plain 0x0007 Ipv6
    ∷ kept 0x0008 Prefix 5
    ∷ plain 0x0009 Ipv4
    ∷ kept 0x000C Ipv4 1
    ∷ kept 0x000D Ipv4 3
    ∷ plain 0x000E Any
    ∷ plain 0x000F Empty
    ∷ kept 0x0010 Number 6
    ∷ plain 0x0011 Empty
    ∷ shared

-- what the long edition adds
abbrev pub added_to_network : List Line
added_to_network =
    line 0x0012 Empty 0 (Two 0x0001 0x000C)
    ∷ plain 0x0013 Empty
    ∷ plain 0x0014 Indicator
    ∷ plain 0x0015 Empty
    ∷ plain 0x0016 Empty
    ∷ plain 0x0017 Mode
    ∷ plain 0x0018 Empty
    ∷ plain 0x0019 Empty
    ∷ plain 0x001A Any
    ∷ plain 0x0020 Empty
    ∷ plain 0x0021 Empty
    ∷ plain 0x0022 Any
    ∷ []

abbrev pub added_to_modem : List Line
added_to_modem =
    plain 0x0013 Empty
    ∷ plain 0x0014 Indicator
    ∷ plain 0x0015 Number
    ∷ plain 0x0016 Any
    ∷ plain 0x0017 Empty
    ∷ plain 0x0018 Empty
    ∷ plain 0x0019 Any
    ∷ plain 0x001B Any
    ∷ plain 0x001C Any
    ∷ plain 0x001D Any
    ∷ plain 0x001E Number
    ∷ plain 0x001F Any
    ∷ plain 0x0020 Number
    ∷ plain 0x0021 Number
    ∷ []

abbrev pub long_to_network : List Line
long_to_network = short_to_network ++ added_to_network

abbrev pub long_to_modem : List Line
long_to_modem = short_to_modem ++ added_to_modem

-- the row of an identifier; what no line names is unsupported
abbrev pub look_up : List Line → ℕ → Option Row
look_up [] i = None
look_up (l ∷ ls) i = cond (l.identifier == i) (Some l.row) (look_up ls i)

-- an edition has width 1 throughout
abbrev pub edition : List Line → List Line → Meaning
edition network modem ToNetwork i = answer 1 (look_up network i)
edition network modem ToModem i = answer 1 (look_up modem i)

abbrev pub short : Meaning
short = edition short_to_network short_to_modem

abbrev pub added : Meaning
added = edition added_to_network added_to_modem

abbrev pub long : Meaning
long = edition long_to_network long_to_modem

-- what each edition answers
abbrev pub meaning_of : Edition → Meaning
meaning_of Short = short
meaning_of Long = long
