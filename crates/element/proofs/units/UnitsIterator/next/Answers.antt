use Rattle.std.proofs.Common.{length, ap, rules}
use Rattle.element.proofs.Left.{handed_out}
use Rattle.element.proofs.units.UnitsIterator.next.Goals as goal

pub invariant_of-self-2 : goal.invariant_of-self-2
invariant_of-self-2 g c =
    record { whole = (handed_out _ _ (g.met.C.Catalogue.lawful _) _ _ c.in_ok-unit.unit c.args.self.now.whole c.next_unit.ensures.answer c.next_unit.ensures.state (search rules)).count }

pub returns-clause-steps : goal.returns-clause-steps
returns-clause-steps g c =
    (handed_out _ _ (g.met.C.Catalogue.lawful _) _ _ c.in_ok-unit.unit c.args.self.now.whole c.next_unit.ensures.answer c.next_unit.ensures.state (search rules)).first

pub returns-clause-goes : goal.returns-clause-goes
returns-clause-goes g c = let fewer = ap length (returns-clause-steps g c) in search rules
