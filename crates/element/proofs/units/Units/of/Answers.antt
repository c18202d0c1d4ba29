use Rattle.std.proofs.Common.{rules}
use Rattle.element.specs.Outer.{options}
use Rattle.element.specs.Walk.{walk_of}
use Rattle.element.proofs.Laws.{options_law}
use Rattle.element.proofs.Summaries.{whole_found}
use Rattle.element.proofs.units.Units.of.Goals as goal

pub returns-in_err-cursor-clause-law : goal.returns-in_err-cursor-clause-law
returns-in_err-cursor-clause-law g c =
    options_law _ (g.met.C.Catalogue.lawful c.args.catalogue.now) c.args.direction c.args.element.now c.type_inv.element

pub returns-in_err-left-clause-law : goal.returns-in_err-left-clause-law
returns-in_err-left-clause-law g c =
    options_law _ (g.met.C.Catalogue.lawful c.args.catalogue.now) c.args.direction c.args.element.now c.type_inv.element

pub returns-clause-law : goal.returns-clause-law
returns-clause-law g c =
    options_law _ (g.met.C.Catalogue.lawful c.args.catalogue.now) c.args.direction c.args.element.now c.type_inv.element

pub returns-clause-units : goal.returns-clause-units
returns-clause-units g c =
    whole_found (g.C.Catalogue.meaning c.args.catalogue.now) c.args.direction options c.args.element.now (record { walk = walk_of g.C.Catalogue.meaning c.in_ok-cursor.cursor; count = c.in_ok-left.left }) (search rules)
