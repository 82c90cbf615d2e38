use native.Mathlib.Omega.{arith}
use borrow.Author.Rules.{rules}
use borrow.Author.Tests.{tests}
use mathlib.Core.Path.{◌≡◌}
use lib.ListN.{take, length}
use Prim.Native.Nat.{◌+◌}
use lib.Seq.{length-take-le}
use Rattle.std.proofs.lemmas.Iterator.{YieldsList-from_zip}
use Rattle.std.proofs.lemmas.Iterator.Adapters.{serves_from_places}
use Rattle.std.proofs.lemmas.Iterator.Search.{all_from_yields_List}
use Rattle.framing.proofs.Chunks.{whole_chunks, wide_whole, wide_pair, YieldsList-from_chunks_exact}
use Rattle.framing.specs.Files.{line_end}
use Rattle.records.specs.July.{record_size}
use Rattle.bodies.specs.Bodies.{same_record}
use Rattle.bodies.proofs.Compared.{unknown_first, unknown_second, other_count, compared}
use Rattle.bodies.proofs.same_records.Goals as goal

pub returns-then-f-gt2 : goal.returns-then-f-gt2
returns-then-f-gt2 c = record { answer = unknown_first c.args.f c.args.a.now c.args.g c.args.b.now c.if-f-gt2.true }

pub returns-then-g-gt2 : goal.returns-then-g-gt2
returns-then-g-gt2 c = record { answer = unknown_second c.args.f c.args.a.now c.args.g c.args.b.now c.if-f-gt2.false c.if-g-gt2.true }

pub returns-then-len : goal.returns-then-len
returns-then-len c = record { answer = other_count c.args.f c.args.a.now c.args.g c.args.b.now c.if-f-gt2.false c.if-g-gt2.false (λ e. c.if-len.true (cc)) }

pub all-requires-clause-callable : goal.all-requires-clause-callable
all-requires-clause-callable c =
    let a = c.args.a.now in
    let b = c.args.b.now in
    let v = record_size + line_end c.args.f in
    let w = record_size + line_end c.args.g in
    serves_from_places
    (YieldsList-from_zip (YieldsList-from_chunks_exact v a (omega arith) (cc) (cc)) (YieldsList-from_chunks_exact w b (omega arith) (cc) (cc)))
    (λ x q k. search rules)
    (λ x k l e.
    let s = wide_pair v w (whole_chunks v a) (whole_chunks w b) (x.0.now, x.1.now) k (wide_whole v a) (wide_whole w b) l e in
    let m : length (take record_size x.0.now) ≡ record_size = length-take-le record_size x.0.now (omega (arith, s.0)) in
    let n : length (take record_size x.1.now) ≡ record_size = length-take-le record_size x.1.now (omega (arith, s.1)) in
    search rules)

pub returns : goal.returns
returns c =
    let a = c.args.a.now in
    let b = c.args.b.now in
    let v = record_size + line_end c.args.f in
    let w = record_size + line_end c.args.g in
    record {
      answer = compared c.args.f a c.args.g b c.if-f-gt2.false c.if-g-gt2.false (cc)
          (all_from_yields_List (λ p. same_record (take record_size p.0) (take record_size p.1)) c.all.new.self _ c.all.result c.all.ensures.ran
          (YieldsList-from_zip (YieldsList-from_chunks_exact v a (omega arith) (cc) (cc)) (YieldsList-from_chunks_exact w b (omega arith) (cc) (cc)))
          (λ x b q k. search (rules, tests)));
    }
