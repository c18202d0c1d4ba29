use Rattle.judge.proofs.Laws.{options_law}
use Rattle.judge.proofs.judging.judge.Goals as goal

pub returns-in_err-units-clause-law : goal.returns-in_err-units-clause-law
returns-in_err-units-clause-law g c =
    options_law _ (g.met.C.Catalogue.lawful c.args.catalogue.now) _ _ c.type_inv.element _

pub returns-then-few-clause-law : goal.returns-then-few-clause-law
returns-then-few-clause-law g c =
    options_law _ (g.met.C.Catalogue.lawful c.args.catalogue.now) _ _ c.type_inv.element _

pub returns-clause-law : goal.returns-clause-law
returns-clause-law g c =
    options_law _ (g.met.C.Catalogue.lawful c.args.catalogue.now) _ _ c.type_inv.element _
