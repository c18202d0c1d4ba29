-- The head of a unit, its identifier and length field, as the reader finds it at the front of octets.
use Rattle.std.specs.Prelude.{◌≡◌, ℕ, ◌+◌, ◌≤◌, cond, List, length, take, drop, Some, None, Option, ◌==◌}
use Rattle.catalogue.specs.declared.Direction.{Direction}
use Rattle.catalogue.specs.Meaning.{Meaning}
use Rattle.element.specs.declared.cursor.Head.{Head}
use Rattle.element.specs.Units.{unit}
use Rattle.element.specs.Reading.{Field, cut_off, counts, Front, stands, past}

-- a length field of width w: cut off, or the number n and the octets behind the field
abbrev pub field_as : Option ℕ → ℕ → List ℕ → Field
field_as None w os = cut_off
field_as (Some n) w os = counts n (drop (cond (w == 1) 1 2) os)

-- no head: a unit that runs past the end; a head: the unit that it opens, and the octets behind it
abbrev pub front_as : Option Head → List ℕ → Front
front_as None os = past
front_as (Some h) os = stands (unit h.identifier (take h.length (drop h.size os))) (drop (h.size + h.length) os)

-- the head is the identifier and the length field, and with the contents it lies within the octets
abbrev pub Within : Meaning → Direction → Option Head → List ℕ → Type 0
Within m d None os = Unit {0}
Within m d (Some h) os = (h.size ≡ 2 + (m d h.identifier).width) × (h.size + h.length ≤ length os)
