-- The code's answer on a file's length.
use Rattle.std.specs.Prelude.{Result, Ok, Err, ℕ, ◌/◌, ◌%◌, not, List, ltb, eqb, length}
use Rattle.zones.specs.Choice.{pick}
use Rattle.framing.specs.Files.{width_of, unknown_end}
use Rattle.framing.specs.declared.Form.{Form}
use Rattle.framing.specs.declared.Frame.{Frame}
use Rattle.framing.specs.declared.refusals.Refusal.{Refusal}
use Rattle.framing.specs.Refusals.{refusal_by}
use Rattle.framing.specs.declared.refusals.Reason.TheVariants.{UnknownLineEnd, UnevenLength, TooManyRecords}

-- 1 to 3 come first, in that order; else width and number of the records. A file's bytes have no say in it, only its length n.
unfoldable pub frame_by : Form → (size most n : ℕ) → Result Frame Refusal
frame_by f size most n =
    pick (unknown_end f) (Err (refusal_by UnknownLineEnd 0))
    (pick (not (eqb (n % width_of size f) 0)) (Err (refusal_by UnevenLength 0))
    (pick (ltb most (n / width_of size f)) (Err (refusal_by TooManyRecords 0)) (Ok (record { width = width_of size f; count = n / width_of size f }))))

unfoldable pub frame_of : Form → (size most : ℕ) → List ℕ → Result Frame Refusal
frame_of f size most b = frame_by f size most (length b)
