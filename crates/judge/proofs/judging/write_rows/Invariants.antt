use Rattle.std.proofs.Common.{◌≡◌}
use Rattle.element.specs.Handed.{left_of, walk_of_units}
use Rattle.judge.proofs.Writing.{Written}
use Rattle.judge.proofs.judging.write_rows.Given as goal

abbrev pub invariant-loop-n : goal.invariant-loop-n
invariant-loop-n g l = record {
  written : Written (walk_of_units g.C.Catalogue l.fn.units) l.fn.rows (left_of g.C.Catalogue l.n-iterator.iter) l.judge.room l.n-iterator.count l.rows;
  units : walk_of_units g.C.Catalogue l.judge.units ≡ walk_of_units g.C.Catalogue l.fn.units;
}
