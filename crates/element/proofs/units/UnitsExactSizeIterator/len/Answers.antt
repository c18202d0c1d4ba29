use Rattle.std.proofs.Common.{rules}
use Rattle.element.proofs.Left.{length-units_left}
use Rattle.element.proofs.units.UnitsExactSizeIterator.len.Goals as goal

pub returns-clause-value : goal.returns-clause-value
returns-clause-value g c = search (rules, length-units_left)
