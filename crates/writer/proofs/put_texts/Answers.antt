use Rattle.writer.proofs.Turns.{puts_on, puts_end}
use Rattle.writer.proofs.put_texts.Goals as goal

pub loop-i-preserved : goal.loop-i-preserved
loop-i-preserved c =
    let a = c.args in
    let t = c.in-Some.ensures.steps in
    let p = c.put_complement.ensures.content in
    rw (t.2, t.1) (puts_on a.key a.m a.m.complements a.texts.now a.out.now c.loop-i.invariant c.in-Some.text.now c.next.new.self.iter.rest.now t.0.1.0 t.0.1.1 t.0.0 (rw t.1 at p))

pub returns : goal.returns
returns c = puts_end c.args.key c.args.m c.args.m.complements c.args.texts.now c.args.out.now c.loop-i.invariant c.in-None.ensures.steps.0.1.0
