-- The law of reading, of any lawful outer form, and the summary that `read` answers.
use Rattle.std.proofs.Common.{ℕ, List, get_or, w8, Fits, sym}
use Rattle.catalogue.specs.declared.Direction.{Direction}
use Rattle.catalogue.specs.Meaning.{Meaning}
use Rattle.catalogue.specs.Laws.{Lawful}
use Rattle.element.specs.Outer.{Outer, LawfulOuter, options}
use Rattle.element.specs.Units.{Octets}
use Rattle.element.specs.Laws.{ReadingLaw}
use Rattle.element.proofs.Octets.{slice_octets}
use Rattle.element.proofs.RoundTrips.{options_lawful, read_back, written_back}
use Rattle.element.proofs.Places.{places, walk_law}
use Rattle.element.proofs.Refusals.{refused_in_order}
use Rattle.element.proofs.Alike.{reads_same}

pub reading_law : (outer : Outer) → LawfulOuter outer → (m : Meaning) → Lawful m → (d : Direction) (e : List ℕ) → Octets e → ReadingLaw m d outer e
reading_law outer lawful m law d e octets =
    record {
      read_back = read_back outer lawful m d;
      written_back = written_back outer lawful m d e octets;
      places = places m d law outer lawful e octets;
      walk = walk_law m d law outer lawful e octets;
      refusals = refused_in_order outer lawful m law d e octets;
      alike = λ n same. sym (reads_same m n d (same d) outer e octets);
    }

-- the same of the protocol configuration options element, where a slice has octets
pub options_law : (m : Meaning) → Lawful m → (d : Direction) (e : List ℕ) → ((i : ℕ) → Fits w8 (get_or e i 0)) → ReadingLaw m d options e
options_law m law d e typed = reading_law options options_lawful m law d e (slice_octets e typed)
