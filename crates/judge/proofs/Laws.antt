-- The law of judging, of any lawful outer form.
use Rattle.std.proofs.Common.{ℕ, List, get_or, w8, Fits, sym}
use Rattle.catalogue.specs.declared.Direction.{Direction}
use Rattle.catalogue.specs.Meaning.{Meaning}
use Rattle.catalogue.specs.Laws.{Lawful}
use Rattle.element.specs.Outer.{Outer, LawfulOuter, options}
use Rattle.element.specs.Units.{Octets}
use Rattle.element.proofs.Octets.{slice_octets}
use Rattle.element.proofs.RoundTrips.{options_lawful}
use Rattle.element.proofs.Laws.{reading_law}
use Rattle.judge.specs.declared.judging.JudgedUnit.{JudgedUnit}
use Rattle.judge.specs.Laws.{JudgingLaw}
use Rattle.judge.proofs.Checks.{first_to_fail}
use Rattle.judge.proofs.Kin.{verdict_law}
use Rattle.judge.proofs.Refusals.{refused_in_order}
use Rattle.judge.proofs.Rows.{rows_are_the_units}
use Rattle.judge.proofs.Fitting.{values_fit}
use Rattle.judge.proofs.Numbers.{few}
use Rattle.judge.proofs.Alike.{answer_same, rows_after_same}

pub judging_law : (outer : Outer) → LawfulOuter outer → (m : Meaning) → Lawful m → (d : Direction) (e : List ℕ) → Octets e → (rows : List JudgedUnit) → JudgingLaw m d outer e rows
judging_law outer lawful m law d e octets rows =
    record {
      checks = λ way. first_to_fail m way;
      verdicts = λ way. verdict_law m way outer law;
      values = λ way. values_fit m law way;
      rows_are = rows_are_the_units m d outer;
      few = few m law d outer lawful e octets;
      refusals = refused_in_order m d outer e rows (reading_law outer lawful m law d e octets).refusals;
      alike = λ n same. (sym (answer_same m n d (same d) outer lawful e octets rows), sym (rows_after_same m n d (same d) outer lawful e octets rows));
    }

-- the same of the protocol configuration options element, where a slice has octets
pub options_law : (m : Meaning) → Lawful m → (d : Direction) (e : List ℕ) → ((i : ℕ) → Fits w8 (get_or e i 0)) → (rows : List JudgedUnit) → JudgingLaw m d options e rows
options_law m law d e typed rows = judging_law options options_lawful m law d e (slice_octets e typed) rows
