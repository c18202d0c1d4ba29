-- The outer form of an element: its first octet, its length field, and its least and greatest size.
use Rattle.std.specs.Prelude.{◌≡◌, ℕ, ◌+◌, ◌*◌, cond, List, ◌==◌, slice_index}
use Rattle.catalogue.specs.Laws.{OneOrTwo}

pub record Outer : Type 0 where
  pub first : ℕ
  pub length_octets : ℕ
  pub least : ℕ
  pub greatest : ℕ

-- the protocol configuration options element
abbrev pub options : Outer
options = record { first = 0x27; length_octets = 1; least = 3; greatest = 253 }

-- the length field, of w octets, counts all octets after itself: the first octet and the field are not counted
abbrev pub uncounted_of : ℕ → ℕ
uncounted_of w = 1 + w

abbrev pub uncounted : Outer → ℕ
uncounted outer = uncounted_of outer.length_octets

-- the header is the first octet, the length field, of w octets, and the configuration octet
abbrev pub header_of : ℕ → ℕ
header_of w = 2 + w

abbrev pub header : Outer → ℕ
header outer = header_of outer.length_octets

-- the length field has one octet or two, and the least element is a header with no units
pub record LawfulOuter (outer : Outer) : Type 0 where
  pub one_or_two : OneOrTwo outer.length_octets
  pub room : header outer ≡ outer.least

-- the number of one or two octets that stands at the place p, high octet first
abbrev pub number_at : ℕ → List ℕ → ℕ → ℕ
number_at w e p = cond (w == 1) (slice_index e p) (256 * slice_index e p + slice_index e (p + 1))

-- how many octets the length field says there are, all told
abbrev pub announced : Outer → List ℕ → ℕ
announced outer e = uncounted outer + number_at outer.length_octets e 1

abbrev pub configuration : Outer → List ℕ → ℕ
configuration outer e = slice_index e (uncounted outer)
