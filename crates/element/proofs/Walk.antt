-- One step of a walk, as the code makes it.
use Rattle.std.proofs.Common.{◌≡◌, ◌+◌, ◌<◌, [], length, drop, Some, None, Ok, Err, Option, Result, refl, arith}
use Rattle.std.proofs.lemmas.List.{drop-drop}
use Rattle.catalogue.specs.Laws.{Lawful}
use Rattle.element.specs.declared.cursor.PlacedUnit.{PlacedUnit}
use Rattle.element.specs.declared.reader.ReaderFault.{ReaderFault}
use Rattle.element.specs.declared.reader.ReaderFault.TheVariants.{RunsPast}
use Rattle.element.specs.Units.{ElementUnit, unit, size}
use Rattle.element.specs.Reading.{Front, stands, front, cut, stuck_at, onto}
use Rattle.element.specs.Walk.{Found, Placed, placed_unit, placed, found_at, seen, Walk, unit_before, one_on, cut_on}
use Rattle.element.proofs.Fronts.{front_sized}
use Rattle.element.proofs.Steps.{cut_step}

abbrev pub unit_of : Placed → ElementUnit
unit_of u = unit u.identifier u.contents

-- the unit u before the walk w, and the walk t behind it
pub record OneMoreOn (w : Walk) (u : Placed) (t : Walk) : Type 0 where
  pub here : u ≡ placed w.meaning w.direction w.position.place (unit_of u)
  pub behind : t.position.place ≡ w.position.place + size w.meaning w.direction (unit_of u)
  pub cuts : cut_on w ≡ onto (unit_of u) (cut_on t)
  pub less : length (drop t.position.place t.position.octets) < length (drop w.position.place w.position.octets)

-- what an answer before the walk w, and the walk t behind it, say of the units from there on
abbrev pub Onward : Walk → Found → Walk → Type 0
Onward w (Ok None) t = cut_on w ≡ cut []
Onward w (Ok (Some u)) t = OneMoreOn w u t
Onward w (Err f) t = (f ≡ RunsPast w.position.place) × (cut_on w ≡ stuck_at w.position.place)

module _ (w : Walk) (law : Lawful w.meaning) where
  onward_by : (f : Front) → front w.meaning w.direction (drop w.position.place w.position.octets) ≡ f → Onward w (found_at w.meaning w.direction w.position.place f) (one_on w)
  onward_by (stands v rest) q =
      let p = w.position.place in
      let sized = front_sized w.meaning w.direction law (drop p w.position.octets) v rest q in
      let step = cut_step w.meaning w.direction law p (drop p w.position.octets) in
      let on = drop-drop (size w.meaning w.direction v) p w.position.octets in
      grind arith
  onward_by f q = let step = cut_step w.meaning w.direction law w.position.place (drop w.position.place w.position.octets) in grind arith

  -- an answer of the cursor, and the walk that is left
  pub onward : (given : Found) (t : Walk) → given ≡ unit_before w → t ≡ one_on w → Onward w given t
  onward given t q r = rw q (rw r (onward_by _ refl))

  -- the same of what a call of the cursor returned, once that is known to be v
  pub turned : (r v : Result (Option PlacedUnit) ReaderFault) (t : Walk) → seen r ≡ unit_before w → t ≡ one_on w → r ≡ v → Onward w (seen v) t
  turned r v t answer state is = onward (seen v) t (cc) state

-- a call of the cursor that returned a unit
pub turned_on : (w t : Walk) → Lawful w.meaning → (r : Result (Option PlacedUnit) ReaderFault) (u : PlacedUnit) → seen r ≡ unit_before w → t ≡ one_on w → r ≡ Ok (Some u) → OneMoreOn w (placed_unit u) t
turned_on w t law r u answer state is = turned w law r (Ok (Some u)) t answer state is
