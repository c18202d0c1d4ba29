-- How an element is read: framed by its header, and cut into units.
use Rattle.std.specs.Prelude.{ℕ, zero, suc, ◌+◌, ◌*◌, cond, List, [], ◌∷◌, length, take, drop, Ok, Err, Result, ◌==◌, nat_le, nat_lt, slice_index}
use Rattle.catalogue.specs.declared.Direction.{Direction}
use Rattle.catalogue.specs.Meaning.{Meaning}
use Rattle.element.specs.declared.reader.ReaderFault.{ReaderFault}
use Rattle.element.specs.declared.reader.ReaderFault.TheVariants.{TooShort, WrongFirst, LengthDiffers, TooLong, RunsPast}
use Rattle.element.specs.Outer.{Outer, header, announced, configuration}
use Rattle.element.specs.Units.{ElementUnit, unit, size}

-- the frame of an element: its configuration octet, or which of the first four refusals applies
abbrev pub frame : Outer → List ℕ → Result ℕ ReaderFault
frame outer e =
    let n = length e in
    cond (nat_lt n outer.least) (Err (TooShort n))
    (cond (slice_index e 0 == outer.first)
    (cond (announced outer e == n)
    (cond (nat_le n outer.greatest) (Ok (configuration outer e))
    (Err (TooLong n)))
    (Err (LengthDiffers n)))
    (Err WrongFirst))

-- a length field at the front of octets: cut off, or a number and the octets after it
pub data Field : Type 0 where
  cut_off : Field
  counts : ℕ → List ℕ → Field

abbrev pub second_octet : ℕ → List ℕ → Field
second_octet a [] = cut_off
second_octet a (b ∷ os) = counts (256 * a + b) os

abbrev pub read_field : ℕ → List ℕ → Field
read_field w [] = cut_off
read_field w (a ∷ os) = cond (w == 1) (counts a os) (second_octet a os)

-- what stands at the front of octets: nothing, a unit and the octets after it, or a unit that runs past the end
pub data Front : Type 0 where
  finished : Front
  stands : ElementUnit → List ℕ → Front
  past : Front

abbrev pub contents_of : ℕ → Field → Front
contents_of i cut_off = past
contents_of i (counts n os) = cond (nat_le n (length os)) (stands (unit i (take n os)) (drop n os)) past

-- octets cut into units, or the place of the unit that runs past the end
pub data Cut : Type 0 where
  cut : List ElementUnit → Cut
  stuck_at : ℕ → Cut

abbrev pub onto : ElementUnit → Cut → Cut
onto u (cut us) = cut (u ∷ us)
onto u (stuck_at p) = stuck_at p

-- an element read: its configuration octet and units, or why it is not whole
pub data Reading : Type 0 where
  whole : ℕ → List ElementUnit → Reading
  declined : ReaderFault → Reading

-- the units of an element; one that is not whole has none
abbrev pub units_of : Reading → List ElementUnit
units_of (whole o us) = us
units_of (declined f) = []

abbrev pub framed : ℕ → Cut → Reading
framed o (cut us) = whole o us
framed o (stuck_at p) = declined (RunsPast p)

module _ (m : Meaning) (d : Direction) where
  abbrev pub front : List ℕ → Front
  front [] = finished
  front (a ∷ []) = past
  front (a ∷ b ∷ os) = contents_of (256 * a + b) (read_field (m d (256 * a + b)).width os)

  abbrev pub next : Front → (ℕ → List ℕ → Cut) → ℕ → Cut
  next finished f p = cut []
  next past f p = stuck_at p
  next (stands u os) f p = onto u (f (p + size m d u) os)

  -- the octets cut from the place p on; k bounds the number of units
  abbrev pub cutting : ℕ → ℕ → List ℕ → Cut
  cutting zero p os = next (front os) (λ q rest. stuck_at q) p
  cutting (suc k) p os = next (front os) (cutting k) p

  abbrev pub read_framed : Outer → List ℕ → Result ℕ ReaderFault → Reading
  read_framed outer e (Err f) = declined f
  read_framed outer e (Ok o) = framed o (cutting (length (drop (header outer) e)) (header outer) (drop (header outer) e))

  abbrev pub reads : Outer → List ℕ → Reading
  reads outer e = read_framed outer e (frame outer e)
