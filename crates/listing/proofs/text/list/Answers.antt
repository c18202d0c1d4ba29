use Rattle.std.proofs.Common.{◌≡◌, ℕ, List, IfOk, string_bytes, subst}
use Rattle.catalogue.specs.declared.Direction.TheVariants.{ToModem}
use Rattle.catalogue.specs.Editions.{long}
use Rattle.listing.proofs.Listing.{listing_whole}
use Rattle.listing.proofs.text.list.Goals as goal

pub returns-in-Ok-clause-answer : goal.returns-in-Ok-clause-answer
returns-in-Ok-clause-answer c =
    subst (λ (l : List ℕ). IfOk c.list_whole.result (λ s. string_bytes s ≡ l)) (listing_whole long ToModem c.args.element.now _ c.in-Ok.ensures.units) c.list_whole.ensures.answer
