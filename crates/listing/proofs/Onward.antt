-- A movement that is there ends behind its place.
use mathlib.Core.Path.{ap}
use mathlib.Core.List.{List}
use Prim.Native.Nat.{ℕ, ◌<◌}
use lib.ListN.{length}
use Rattle.std.specs.Prelude.{Some}
use Rattle.framing.specs.declared.Form.{Form}
use Rattle.readers.specs.declared.Step.{Step}
use Rattle.readers.specs.Steps.{next_of}
use Rattle.readers.specs.Answers.{MovementStep}
use Rattle.readers.proofs.Over.{step_later}

pub step_onward : {b : List ℕ} {f : Form} {at : ℕ} {s : Step} → MovementStep b f at (Some s) → at < length b → at < s.next
step_onward {b} {f} {at} m h = rw (ap (next_of (length b)) m.answer) (step_later b f at h)
