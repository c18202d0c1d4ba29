use Rattle.lister.proofs.Filling.{IsFilled}
use Rattle.lister.proofs.fill.Given as goal

abbrev pub invariant-loop-turn : goal.invariant-loop-turn
invariant-loop-turn g l = IsFilled (g.R.Read.remaining l.initial.reader) (g.R.Read.remaining l.reader) l._turn l.filled l.buffer
