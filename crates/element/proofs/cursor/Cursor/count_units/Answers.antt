use Rattle.std.proofs.Common.{rules, arith}
use Rattle.element.proofs.Walk.{turned_on}
use Rattle.element.proofs.cursor.Cursor.count_units.Goals as goal

pub loop-units-preserved : goal.loop-units-preserved
loop-units-preserved g c =
    let more = turned_on _ _ (g.met.C.Catalogue.lawful _) c.next_unit.result c.in-Some.field-0 c.next_unit.ensures.answer c.next_unit.ensures.state (search rules) in
    let whole = c.loop-units.invariant.whole in
    grind arith
