-- What code knows of a slice of octets.
use Rattle.std.proofs.Common.{ℕ, ◌<◌, List, get_or, w8, Fits, rules}
use Rattle.std.proofs.ByRecursion.{All-from_get_or}
use Rattle.element.specs.Units.{Octets}

-- the elements of a slice of octets are octets
pub slice_octets : (e : List ℕ) → ((i : ℕ) → Fits w8 (get_or e i 0)) → Octets e
slice_octets e typed = All-from_get_or (λ (x : ℕ). x < 256) e 0 (λ i h. let fits = typed i in search rules)
