-- A walk over the units of an element: what stands at a place, and the place after it.
use Rattle.std.specs.Prelude.{◌≡◌, ℕ, ◌+◌, ◌≤◌, List, [], ◌∷◌, ◌++◌, length, drop, Some, None, Ok, Err, Option, Result}
use Rattle.catalogue.specs.declared.Direction.{Direction}
use Rattle.catalogue.specs.declared.Answer.{Answer}
use Rattle.catalogue.specs.Meaning.{Meaning}
use Rattle.element.specs.declared.cursor.Cursor.{Cursor}
use Rattle.element.specs.declared.cursor.PlacedUnit.{PlacedUnit}
use Rattle.element.specs.declared.reader.ReaderFault.{ReaderFault}
use Rattle.element.specs.declared.reader.ReaderFault.TheVariants.{RunsPast}
use Rattle.element.specs.Outer.{Outer, header}
use Rattle.element.specs.Units.{ElementUnit, unit, width, size}
use Rattle.element.specs.Reading.{Front, finished, stands, past, front, Cut, cutting, whole, declined, frame, reads}
use Rattle.element.specs.Places.{place_after}

-- a unit where it stands: its place, its identifier, where its contents start, and its contents
pub record Placed : Type 0 where
  pub place : ℕ
  pub identifier : ℕ
  pub start : ℕ
  pub contents : List ℕ

-- octets, and a place among them
pub record Position : Type 0 where
  pub octets : List ℕ
  pub place : ℕ

-- what a call of the cursor answers: a unit, the end, or a fault
abbrev pub Found : Type 0
Found = Result (Option Placed) ReaderFault

-- the position of a cursor
abbrev pub position : {C : Type 0} → Cursor C → Position
position c = record { octets = c.octets.now; place = c.place }

-- a walk: the catalogue's meaning and the direction under which it cuts, and its position
pub record Walk : Type 0 where
  pub meaning : Meaning
  pub direction : Direction
  pub position : Position

-- the walk of a cursor, where `meaning` says what its catalogue means
abbrev pub walk_of : {C : Type 0} → (C → Meaning) → Cursor C → Walk
walk_of meaning c = record { meaning = meaning c.catalogue.now; direction = c.direction; position = position c }

abbrev pub placed_unit : PlacedUnit → Placed
placed_unit u = record { place = u.place; identifier = u.identifier; start = u.start; contents = u.contents.now }

-- a unit that was handed out, without its places
abbrev pub unit_of : PlacedUnit → ElementUnit
unit_of u = unit u.identifier u.contents.now

-- what the answer of a cursor says, its contents as a list of octets
abbrev pub seen : Result (Option PlacedUnit) ReaderFault → Found
seen (Err f) = Err f
seen (Ok None) = Ok None
seen (Ok (Some u)) = Ok (Some (placed_unit u))

abbrev pub opened : {C : Type 0} → (C → Meaning) → Result (Cursor C) ReaderFault → Result Walk ReaderFault
opened meaning (Err f) = Err f
opened meaning (Ok c) = Ok (walk_of meaning c)

-- the position behind the header
abbrev pub behind_header : Outer → List ℕ → Position
behind_header outer e = record { octets = e; place = header outer }

-- the walk that begins there
abbrev pub from_header : Meaning → Direction → Outer → List ℕ → Walk
from_header m d outer e = record { meaning = m; direction = d; position = behind_header outer e }

-- a walk begins there, if the element passes the tests of its frame
abbrev pub opening_by : Meaning → Direction → Outer → List ℕ → Result ℕ ReaderFault → Result Walk ReaderFault
opening_by m d outer e (Err f) = Err f
opening_by m d outer e (Ok o) = Ok (from_header m d outer e)

abbrev pub opening : Meaning → Direction → Outer → List ℕ → Result Walk ReaderFault
opening m d outer e = opening_by m d outer e (frame outer e)

-- the place behind the unit found at the place p; where none was found, the place stays
abbrev pub place_behind : ℕ → Found → ℕ
place_behind p (Ok (Some u)) = u.start + length u.contents
place_behind p (Ok None) = p
place_behind p (Err f) = p

-- a unit that was found ends within n octets
abbrev pub Ends : Found → ℕ → Type 0
Ends (Ok (Some u)) n = u.start + length u.contents ≤ n
Ends (Ok None) n = Unit {0}
Ends (Err f) n = Unit {0}

module _ (m : Meaning) (d : Direction) where
  -- the unit u where it stands at the place p
  abbrev pub placed : ℕ → ElementUnit → Placed
  placed p u = record { place = p; identifier = u.identifier; start = p + 2 + width m d u; contents = u.contents }

  abbrev pub found_at : ℕ → Front → Found
  found_at p finished = Ok None
  found_at p past = Err (RunsPast p)
  found_at p (stands u rest) = Ok (Some (placed p u))

  -- what stands at a position
  abbrev pub unit_at : Position → Found
  unit_at s = found_at s.place (front m d (drop s.place s.octets))

  -- the position behind what stands there
  abbrev pub step_from : Position → Position
  step_from s = record { octets = s.octets; place = place_behind s.place (unit_at s) }

  -- the octets from a position on, cut into units
  abbrev pub cut_from : Position → Cut
  cut_from s = cutting m d (length (drop s.place s.octets)) s.place (drop s.place s.octets)

  -- units one after the other from the place p on, each where it stands
  abbrev pub placed_from : ℕ → List ElementUnit → List Placed
  placed_from p [] = []
  placed_from p (u ∷ us) = placed p u ∷ placed_from (p + size m d u) us

  module _ (outer : Outer) (e : List ℕ) where
    -- the position after the units `before` of the element
    abbrev pub position_after : List ElementUnit → Position
    position_after before = record { octets = e; place = place_after m d outer before }

    -- a walk over the element gives the units us, one after the other, each where it stands, and then `last`
    pub record Gives (us : List ElementUnit) (last : Found) : Type 0 where
      pub units : (before : List ElementUnit) (u : ElementUnit) (after : List ElementUnit) → us ≡ before ++ u ∷ after → unit_at (position_after before) ≡ Ok (Some (placed (place_after m d outer before) u))
      pub steps : (before : List ElementUnit) (u : ElementUnit) (after : List ElementUnit) → us ≡ before ++ u ∷ after → step_from (position_after before) ≡ position_after (before ++ u ∷ [])
      pub end : unit_at (position_after us) ≡ last

    -- the walk over a whole element gives its units and then the end; where a unit runs past the end, the units before it and then that fault
    pub record WalkLaw : Type 0 where
      pub over_whole : (o : ℕ) (us : List ElementUnit) → reads m d outer e ≡ whole o us → Gives us (Ok None)
      pub up_to_fault : (p : ℕ) → reads m d outer e ≡ declined (RunsPast p) → (us : List ElementUnit) × (place_after m d outer us ≡ p) × Gives us (Err (RunsPast p))

-- what stands before a walk, and the walk behind it
abbrev pub unit_before : Walk → Found
unit_before w = unit_at w.meaning w.direction w.position

abbrev pub one_on : Walk → Walk
one_on w = record { meaning = w.meaning; direction = w.direction; position = step_from w.meaning w.direction w.position }

-- the walk behind what stands before it by the meaning m in the direction d; it goes on by its own
abbrev pub one_on_under : Meaning → Direction → Walk → Walk
one_on_under m d w = record { meaning = w.meaning; direction = w.direction; position = step_from m d w.position }

-- the octets that a walk has still to cut
abbrev pub cut_on : Walk → Cut
cut_on w = cut_from w.meaning w.direction w.position

-- the walk at the same position, under another meaning and direction
abbrev pub under : Meaning → Direction → Walk → Walk
under m d w = record { meaning = m; direction = d; position = w.position }

-- what the catalogue of a walk answers, in the walk's direction
abbrev pub answer_on : Walk → ℕ → Answer
answer_on w i = w.meaning w.direction i
