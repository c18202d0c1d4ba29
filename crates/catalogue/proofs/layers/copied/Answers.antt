use Rattle.std.proofs.Common.{rules}
use Rattle.catalogue.proofs.Identifiers.{placed_by_calls}
use Rattle.catalogue.proofs.layers.copied.Goals as goal

pub returns : goal.returns
returns c =
    record { answer = placed_by_calls _ _ c.args.identifiers.now c.from_fn.result 16 c.from_fn.ensures.items c.requires.few (λ i o q called. search rules) }
