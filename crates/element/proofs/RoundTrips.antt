-- What was written reads back, and what was read is written back.
use Rattle.std.proofs.Common.{◌≡◌, ℕ, ◌≤◌, List, length, get_or, drop, refl, inl, arith, length-drop}
use Rattle.std.specs.List.{AllByRecursion}
use Rattle.std.proofs.ByRecursion.{All-drop}
use Rattle.std.proofs.lemmas.Bool.Decides.{nat_tests as tests}
use Rattle.catalogue.specs.declared.Direction.{Direction}
use Rattle.catalogue.specs.Meaning.{Meaning}
use Rattle.element.specs.declared.reader.ReaderFault.TheVariants.{RunsPast}
use Rattle.element.specs.Outer.{Outer, options, LawfulOuter, header, announced, configuration}
use Rattle.element.specs.Units.{Octets, all_written, element}
use Rattle.element.specs.Reading.{cut, stuck_at, Reading, whole, declined, cutting, reads}
use Rattle.element.specs.RoundTrips.{ReadBack, WrittenBack}
use Rattle.element.proofs.Cuts.{Small, cutting_read, units_fit, CutBack, cutting_back}

-- an element that passes the four tests of its frame
pub record InFrame (outer : Outer) (e : List ℕ) : Type 0 where
  pub enough : outer.least ≤ length e
  pub first : get_or e 0 0 ≡ outer.first
  pub counted : announced outer e ≡ length e
  pub fits : length e ≤ outer.greatest

pub options_lawful : LawfulOuter options
options_lawful = record { one_or_two = inl refl; room = refl }

pub read_back : (outer : Outer) → LawfulOuter outer → (m : Meaning) (d : Direction) → ReadBack m d outer
read_back outer lawful m d o us high =
    let os = all_written m d us in
    let two = lawful.one_or_two in
    let c = cutting_read m d us (length os) (header outer) (units_fit m d us) in
    grind (arith, tests, lawful.room)

module _ (outer : Outer) (lawful : LawfulOuter outer) (m : Meaning) (d : Direction) (e : List ℕ) (octets : Octets e) where
  -- the octets after the header
  abbrev pub rest : List ℕ
  rest = drop (header outer) e

  -- what a reading says of the octets: they are the element's; or they hold whole units up to the place where none stands
  abbrev pub ReadingBack : Reading → Type 0
  ReadingBack (whole o us) = (element m d outer o us ≡ e) × InFrame outer e × AllByRecursion Small us
  ReadingBack (declined (RunsPast p)) = InFrame outer e × CutBack m d (header outer) rest (stuck_at p)
  ReadingBack (declined f) = Unit {0}

  -- what their cut says
  rest_back : CutBack m d (header outer) rest (cutting m d (length rest) (header outer) rest)
  rest_back = cutting_back m d (length rest) (header outer) rest (All-drop _ (header outer) e octets) (omega arith)

  pub reading_is : (r : Reading) → reads m d outer e ≡ r → ReadingBack r
  reading_is (whole o us) q =
      let c : cutting m d (length rest) (header outer) rest ≡ cut us = grind (arith, tests) in
      let g = rw c at rest_back in
      let f : InFrame outer e × (o ≡ configuration outer e) = grind (arith, tests) in
      let two = lawful.one_or_two in
      (grind (arith, tests, lawful.room, length-drop), f.0, g.1)
  reading_is (declined (RunsPast p)) q =
      let c : cutting m d (length rest) (header outer) rest ≡ stuck_at p = grind (arith, tests) in
      (grind (arith, tests), rw c at rest_back)
  reading_is (declined f) q = tt

  pub written_back : WrittenBack m d outer e
  written_back o us r = (reading_is (whole o us) r).0
