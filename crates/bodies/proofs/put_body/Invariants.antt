use Prim.Native.Nat.{◌+◌}
use Rattle.std.specs.Slice.Iter.{chunks_exact_rest, chunks_exact_size}
use Rattle.std.specs.Iterator.Adapters.{enumerate_source, enumerate_count}
use Rattle.framing.specs.Files.{line_end}
use Rattle.records.specs.July.{record_size}
use Rattle.bodies.proofs.Copied.{Copying}
use Rattle.bodies.proofs.put_body.Given as goal

abbrev pub invariant-loop-i : goal.invariant-loop-i
invariant-loop-i l =
    let pieces = enumerate_source l.i-iterator in
    Copying (record_size + line_end l.fn.form) l.part l.initial.dst (enumerate_count l.i-iterator) (chunks_exact_size pieces) (chunks_exact_rest pieces) l.dst
