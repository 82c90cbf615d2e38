use Rattle.writer.proofs.Turns.{Putting}
use Rattle.writer.proofs.put_texts.Given as goal

abbrev pub invariant-loop-i : goal.invariant-loop-i
invariant-loop-i l = Putting l.key l.m l.m.complements l.texts l.initial.out l.i-iterator.count l.out l.i-iterator.iter.rest.now l.i-iterator.iter.size
