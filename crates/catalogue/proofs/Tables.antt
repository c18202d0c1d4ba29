-- Tables one after the other: what the first does not list is looked up in the second.
use Rattle.std.specs.Option.{option_or}
use Rattle.std.proofs.Common.{◌≡◌, ℕ, List, [], ◌∷◌, ◌++◌, refl, arith}
use Rattle.catalogue.specs.declared.Direction.{Direction}
use Rattle.catalogue.specs.declared.Direction.TheVariants.{ToNetwork, ToModem}
use Rattle.catalogue.specs.Editions.{Line, look_up, short_to_network, short_to_modem, added_to_network, added_to_modem, short, added, long}

look_up-++ : (ks ls : List Line) (i : ℕ) → look_up (ks ++ ls) i ≡ option_or (look_up ks i) (look_up ls i)
look_up-++ [] ls i = refl
look_up-++ (k ∷ ks) ls i = grind (arith, look_up-++ ks ls i)

-- the long edition is the short one and, where that lists nothing, the additions
pub long_is : (d : Direction) (i : ℕ) → (long d i).entry ≡ option_or (short d i).entry (added d i).entry
long_is ToNetwork i = look_up-++ short_to_network added_to_network i
long_is ToModem i = look_up-++ short_to_modem added_to_modem i
