-- What a catalogue means: one answer for each direction and identifier.
use Rattle.std.specs.Prelude.{◌≡◌, ℕ, ◌<◌, Option}
use Rattle.catalogue.specs.declared.Direction.{Direction}
use Rattle.catalogue.specs.declared.Row.{Row}
use Rattle.catalogue.specs.declared.Answer.{Answer}

abbrev pub Meaning : Type 0
Meaning = Direction → ℕ → Answer

abbrev pub answer : ℕ → Option Row → Answer
answer w e = record { width = w; entry = e }

-- two catalogues answer alike, whichever identifier of two octets they are asked for, either way
abbrev pub AnswerAlike : Meaning → Meaning → Type 0
AnswerAlike m n = (d : Direction) (i : ℕ) → i < 0x10000 → m d i ≡ n d i
