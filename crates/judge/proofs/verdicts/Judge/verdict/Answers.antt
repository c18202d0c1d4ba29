use Rattle.std.proofs.Common.{sym, ◌∙◌}
use Rattle.element.specs.Handed.{walk_of_units}
use Rattle.element.specs.Walk.{unit_of}
use Rattle.judge.proofs.Steps.{left_kept, left_taken}
use Rattle.judge.proofs.verdicts.Judge.verdict.Goals as goal

pub returns-in-Err-clause-answer : goal.returns-in-Err-clause-answer
returns-in-Err-clause-answer g c =
    let judge = c.args.self.now in
    (left_kept (walk_of_units g.C.Catalogue judge.units) judge.room (unit_of c.args.unit) c.in-Err.verdict (sym c.check.ensures.answer ∙ c.in-Err.is)).0

pub returns-in-Err-clause-room : goal.returns-in-Err-clause-room
returns-in-Err-clause-room g c =
    let judge = c.args.self.now in
    (left_kept (walk_of_units g.C.Catalogue judge.units) judge.room (unit_of c.args.unit) c.in-Err.verdict (sym c.check.ensures.answer ∙ c.in-Err.is)).1

pub returns-in-Ok-clause-room : goal.returns-in-Ok-clause-room
returns-in-Ok-clause-room g c =
    let judge = c.args.self.now in
    c.take.ensures.state ∙ (left_taken (walk_of_units g.C.Catalogue judge.units) judge.room (unit_of c.args.unit) c.in-Ok.slot (sym c.check.ensures.answer ∙ c.in-Ok.is)).1
