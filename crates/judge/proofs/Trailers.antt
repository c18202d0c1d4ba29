-- A strike order's trailer, read from the octets that follow the operator's.
use Rattle.std.proofs.Common.{◌≡◌, ℕ, ◌-◌, ◌<◌, ◌&&◌, leb, List, length, take, drop, arith}
use Rattle.std.proofs.lemmas.List.{take_rest, length-drop, get_or-drop}
use Rattle.std.proofs.lemmas.Grind.{common_steps}
use Rattle.judge.specs.Rules.{back, trim_place, points_to_trim}

pub rest_points : (os : List ℕ) → 3 < length os → points_to_trim (take (length os - 3) (drop 3 os)) ≡ (leb 2 (back os) && leb 3 (trim_place os))
rest_points os h = grind (arith, common_steps, take_rest os 3, length-drop 3 os, get_or-drop 3 os (length os - 4) 0)
