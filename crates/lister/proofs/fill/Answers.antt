use Rattle.std.proofs.Common.{sym, subst, rules}
use Rattle.std.proofs.KnownBytes.{Consumes-trans}
use Rattle.std.specs.Io.KnownBytes.{Consumes}
use Rattle.lister.proofs.Filling.{take-front_grown}
use Rattle.lister.proofs.fill.Goals as goal

pub loop-turn-preserved : goal.loop-turn-preserved
loop-turn-preserved g c =
    let sofar = c.loop-turn.invariant in
    let read = c.in_ok-got.ensures in
    record {
      turns = search rules;
      within = search rules;
      octets = subst (Consumes _ _) (sym (take-front_grown c.loop-turn.filled c.in_ok-got.got c.loop-turn.buffer c.read.new.buf _ sofar.within read.bound.0)) (Consumes-trans _ _ _ _ _ sofar.octets read.bytes.0);
    }
