-- How many units a walk has to hand out, or why it stops before the end.
use Rattle.std.specs.Prelude.{ℕ, length, Ok, Err, Result}
use Rattle.element.specs.declared.reader.ReaderFault.{ReaderFault}
use Rattle.element.specs.declared.reader.ReaderFault.TheVariants.{RunsPast}
use Rattle.element.specs.Reading.{Cut, cut, stuck_at}

abbrev pub counted : Cut → Result ℕ ReaderFault
counted (cut us) = Ok (length us)
counted (stuck_at p) = Err (RunsPast p)
