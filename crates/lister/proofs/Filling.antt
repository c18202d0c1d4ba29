-- A buffer that is filled by reads, from the front.
use Rattle.std.proofs.Common.{◌≡◌, ℕ, ◌+◌, ◌≤◌, List, ◌++◌, Option, length, take, sym, ap, ◌∙◌, length-take-le}
use Rattle.std.proofs.Math.Seq.{take-append-add}
use Rattle.std.proofs.lemmas.List.{take-append-le}
use Rattle.std.specs.Io.KnownBytes.{Consumes}

-- what a reader gave so far is the front of the buffer, an octet or more for each turn
pub record IsFilled (before now : Option (List ℕ)) (turn filled : ℕ) (buffer : List ℕ) : Type 0 where
  pub turns : turn ≤ filled
  pub within : filled ≤ length buffer
  pub octets : Consumes before now (take filled buffer)

-- the front after a read into the part behind it
pub take-front_grown : (filled got : ℕ) (xs ys behind : List ℕ) → filled ≤ length xs → got ≤ length ys → take (filled + got) (take filled xs ++ (ys ++ behind)) ≡ take filled xs ++ take got ys
take-front_grown filled got xs ys behind within fits =
    ap (λ n. take (n + got) (take filled xs ++ (ys ++ behind))) (sym (length-take-le filled xs within))
    ∙ take-append-add (take filled xs) (ys ++ behind) got
    ∙ ap (λ (l : List ℕ). take filled xs ++ l) (take-append-le got ys behind fits)
