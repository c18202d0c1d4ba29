use Rattle.std.proofs.Common.{ℕ, Some, sym, ap, arith}
use Rattle.element.specs.Walk.{walk_of}
use Rattle.element.proofs.Left.{length-units_left}
use Rattle.element.proofs.units.UnitsIterator.size_hint.Goals as goal

pub returns-clause-lower : goal.returns-clause-lower
returns-clause-lower g c =
    let us = c.args.self.now in
    λ _. omega (arith, length-units_left (walk_of g.C.Catalogue.meaning us.cursor) us.left us.whole)

pub returns-clause-upper : goal.returns-clause-upper
returns-clause-upper g c =
    let us = c.args.self.now in
    (tt, omega (arith, length-units_left (walk_of g.C.Catalogue.meaning us.cursor) us.left us.whole))

pub returns-clause-exact : goal.returns-clause-exact
returns-clause-exact g c =
    let us = c.args.self.now in
    ap (λ (n : ℕ). (n, Some n)) (sym (length-units_left (walk_of g.C.Catalogue.meaning us.cursor) us.left us.whole))
