use Rattle.std.proofs.Common.{refl, ◌∙◌, rules}
use Rattle.std.proofs.lemmas.Iterator.Search.{any_from_yields_List}
use Rattle.std.proofs.lemmas.Iterator.Consumers.{YieldsList-from_first}
use Rattle.element.specs.Handed.{left_of, walk_of_units}
use Rattle.element.specs.Walk.{Placed, placed_unit}
use Rattle.judge.specs.Rooms.{passes_as_on}
use Rattle.element.proofs.Walk.{unit_of}
use Rattle.judge.proofs.Finding.{list_any-placed}
use Rattle.judge.proofs.verdicts.Judge.has.Goals as goal

pub returns : goal.returns
returns g c =
    let w = walk_of_units g.C.Catalogue c.args.self.now.units in
    let i = c.args.identifier in
    record {
      answer =
          any_from_yields_List (λ (p : Placed). passes_as_on w (unit_of p) i) c.any.new.self _ c.any.result c.any.ensures.ran
          (YieldsList-from_first placed_unit (left_of g.C.Catalogue) _ refl) (λ x b q h. search rules)
          ∙ list_any-placed w i;
    }
