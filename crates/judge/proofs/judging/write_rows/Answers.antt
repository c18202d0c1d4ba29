use Rattle.std.proofs.Common.{◌≡◌, ap, ◌∙◌}
use Rattle.element.specs.Handed.{left_of, walk_of_units}
use Rattle.element.specs.Walk.{Walk, placed_unit, unit_of}
use Rattle.element.specs.Left.{units_left}
use Rattle.judge.specs.Rooms.{verdict_on, left_on}
use Rattle.judge.proofs.Writing.{row_at, written_none, written_more}
use Rattle.judge.proofs.judging.write_rows.Goals as goal

pub loop-n-init : goal.loop-n-init
loop-n-init g c =
    let w = walk_of_units g.C.Catalogue c.args.units in
    let all : left_of g.C.Catalogue c.into_iter-n-iterator.result.iter ≡ units_left w = cc in
    let zero : c.into_iter-n-iterator.result.count ≡ 0 = cc in
    record {
      written = written_none w c.args.rows.now _ c.new-judge.result.room _ all c.new-judge.ensures.room zero;
      units = c.new-judge.ensures.units;
    }

pub loop-n-preserved : goal.loop-n-preserved
loop-n-preserved g c =
    let w = walk_of_units g.C.Catalogue c.args.units in
    let now = c.loop-n.judge.room in
    let unit = c.in-Some.unit in
    let u = placed_unit unit in
    let steps = c.in-Some.ensures.steps in
    let same = c.loop-n.invariant.units in
    let row : c.judged.result ≡ row_at u (verdict_on w now (unit_of unit)) = cc (c.judged.ensures.answer, c.verdict.ensures.answer, same) in
    let room = c.verdict.ensures.room ∙ ap (λ (x : Walk). left_on x now (unit_of unit)) same in
    let more = written_more w c.args.rows.now _ _ _ _ c.loop-n.invariant.written u _ steps.0 c.requires.room _ row _ room in
    record { written = rw (steps.2, steps.1) more; units = c.verdict.ensures.units ∙ same }
