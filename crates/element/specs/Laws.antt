-- What ties the definition of reading to the format, whatever the element's octets.
use Rattle.std.specs.Prelude.{◌≡◌, ℕ, List, length, Ok, Err, Result}
use Rattle.catalogue.specs.declared.Direction.{Direction}
use Rattle.catalogue.specs.Meaning.{Meaning, AnswerAlike}
use Rattle.element.specs.declared.reader.ReaderFault.{ReaderFault}
use Rattle.element.specs.declared.reader.Whole.{Whole}
use Rattle.element.specs.Outer.{Outer}
use Rattle.element.specs.Units.{ElementUnit}
use Rattle.element.specs.Reading.{Reading, whole, declined, reads}
use Rattle.element.specs.Refusals.{RefusedInOrder}
use Rattle.element.specs.RoundTrips.{ReadBack, WrittenBack}
use Rattle.element.specs.Places.{Places}
use Rattle.element.specs.Walk.{WalkLaw}

-- what `read` answers: the configuration octet and the number of units, or the fault
abbrev pub summary : Reading → Result Whole ReaderFault
summary (whole o us) = Ok (record { configuration = o; units = length us })
summary (declined f) = Err f

pub record ReadingLaw (m : Meaning) (d : Direction) (outer : Outer) (e : List ℕ) : Type 0 where
  -- what was written reads back
  pub read_back : ReadBack m d outer
  -- what was read is written back
  pub written_back : WrittenBack m d outer e
  -- the units tile the element
  pub places : (o : ℕ) (us : List ElementUnit) → reads m d outer e ≡ whole o us → Places m d outer e us
  -- a walk hands out the units, each where it stands
  pub walk : WalkLaw m d outer e
  -- the fault is that of the first refusal that applies
  pub refusals : RefusedInOrder m d outer e
  -- catalogues that answer alike read alike
  pub alike : (n : Meaning) → AnswerAlike m n → reads n d outer e ≡ reads m d outer e
