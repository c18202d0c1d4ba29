-- The rules on contents: the lengths allowed, the values that are right, and the value that is kept.
use Rattle.std.specs.Prelude.{ℕ, ◌+◌, ◌-◌, ◌*◌, Bool, true, ◌&&◌, ◌||◌, List, [], ◌∷◌, length, ◌==◌, nat_le, slice_index}
use Rattle.catalogue.specs.declared.OperatorCode.{OperatorCode}
use Rattle.catalogue.specs.declared.Rule.{Rule}
use Rattle.catalogue.specs.declared.Rule.TheVariants.{Empty, Ipv4, Ipv6, Prefix, OneOctet, Mode, Indicator, Number, Any, PppPacket, StrikeOrder}

-- whether contents may have n octets
abbrev pub allowed : Rule → ℕ → Bool
allowed Empty n = n == 0
allowed Ipv4 n = n == 4
allowed Ipv6 n = n == 16
allowed Prefix n = n == 17
allowed OneOctet n = n == 1
allowed Mode n = n == 1
allowed Indicator n = n == 1
allowed Number n = n == 2
allowed Any n = true
allowed PppPacket n = nat_le 4 n
allowed (StrikeOrder o) n = nat_le 6 n

-- the contents open with the operator's octets
abbrev pub opens_with : OperatorCode → List ℕ → Bool
opens_with o os = slice_index os 0 == o.first && slice_index os 1 == o.second && slice_index os 2 == o.third

-- the last octet of a strike order points back: the trim begins so many octets before it
abbrev pub back : List ℕ → ℕ
back os = slice_index os (length os - 1)

-- the place of the trim in the contents
abbrev pub trim_place : List ℕ → ℕ
trim_place os = length os - 1 - back os

-- the two octets of the trim
abbrev pub trim : List ℕ → List ℕ
trim os = slice_index os (trim_place os) ∷ slice_index os (trim_place os + 1) ∷ []

-- the trim begins after the operator's three octets and ends before the last, if the octets `rest` follow those three
abbrev pub points_to_trim : List ℕ → Bool
points_to_trim rest = nat_le 2 (back rest) && nat_le 3 (3 + length rest - 1 - back rest)

-- whether contents of an allowed length have a right value
abbrev pub right : Rule → List ℕ → Bool
right Empty os = true
right Ipv4 os = true
right Ipv6 os = true
-- an address, then a prefix length 0 to 128
right Prefix os = nat_le (slice_index os 16) 128
right OneOctet os = true
right Mode os = slice_index os 0 == 1 || slice_index os 0 == 2
right Indicator os = nat_le (slice_index os 0) 1
right Number os = true
right Any os = true
-- the third and fourth octets, a number, are the packet's length
right PppPacket os = 256 * slice_index os 2 + slice_index os 3 == length os
-- the operator's octets, and a trim that begins after them and ends before the last octet
right (StrikeOrder o) os = opens_with o os && (nat_le 2 (back os) && nat_le 3 (trim_place os))

-- the value of a unit: its contents, and for a strike order its trim
abbrev pub value : Rule → List ℕ → List ℕ
value Empty os = os
value Ipv4 os = os
value Ipv6 os = os
value Prefix os = os
value OneOctet os = os
value Mode os = os
value Indicator os = os
value Number os = os
value Any os = os
value PppPacket os = os
value (StrikeOrder o) os = trim os
