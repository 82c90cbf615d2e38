-- The writer of one statement.
use Rattle.std.specs.Prelude.{Result, Ok, Err, ◌&&◌, List, ◌++◌, ℕ, leb, ltb, length, drop}
use Rattle.zones.specs.Choice.{pick}
use Rattle.framing.specs.Refusals.{refusal_by}
use Rattle.framing.specs.declared.refusals.Reason.TheVariants.{NoSuchFile, ShortOutput}
use Rattle.framing.specs.declared.refusals.Refusal.{Refusal}
use Rattle.fields.specs.declared.Movement.{Movement}
use Rattle.contents.specs.declared.Head.{Head}
use Rattle.writer.specs.Values.{written_of}
use Rattle.writer.specs.Test.{carries}

-- 19: no accepted file reads as these values; then 20: output shorter than the statement; else the number of bytes
unfoldable pub write_answer_of : Head → List Movement → List ℕ → (out : ℕ) → Result ℕ Refusal
write_answer_of h rows cs n =
    let size = length (written_of h rows cs) in
    pick (carries h rows cs) (pick (ltb n size) (Err (refusal_by ShortOutput 0)) (Ok size)) (Err (refusal_by NoSuchFile 0))

-- Bytes after the written ones are untouched. A refusal changes none.
unfoldable pub write_of : Head → List Movement → List ℕ → (out : List ℕ) → List ℕ
write_of h rows cs out =
    let w = written_of h rows cs in
    pick (carries h rows cs && leb (length w) (length out)) (w ++ drop (length w) out) out
