-- The text of an argument.
use Rattle.std.specs.Prelude.{ℕ, List, [], length, leb, Option, None, Some, String, slice_get, if◌then◌else◌}
use Rattle.std.specs.String.{string_bytes}

-- the most bytes of an argument
abbrev pub most_argument : ℕ
most_argument = 4096

-- a text that is there and not too long, and no bytes otherwise
abbrev pub text_of : {Z : Type 0} → Option (String Z) → List ℕ
text_of None = []
text_of (Some t) = if leb (length (string_bytes t)) most_argument then string_bytes t else []

abbrev pub argument_of : {Z : Type 0} → List (String Z) → ℕ → List ℕ
argument_of args k = text_of (slice_get args k)
