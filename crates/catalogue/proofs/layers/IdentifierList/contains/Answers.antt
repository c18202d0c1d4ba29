use Rattle.std.proofs.Common.{◌∙◌}
use Rattle.catalogue.proofs.Identifiers.{list_any-places}
use Rattle.catalogue.proofs.layers.IdentifierList.contains.Goals as goal

pub returns : goal.returns
returns c = record { answer = c.contains.ensures.value ∙ list_any-places c.args.identifier c.args.self.now.identifiers }
