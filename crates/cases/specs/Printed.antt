-- How a refusal is printed: its number and its record.
use Rattle.std.specs.Prelude.{ℕ, List, ◌∷◌, ◌++◌}
use Rattle.std.specs.Fmt.{decimal}
use Rattle.framing.specs.declared.refusals.Refusal.{Refusal}
use Rattle.framing.specs.Refusals.{reason_number}

abbrev pub refusal_text : Refusal → List ℕ
refusal_text r = decimal (reason_number r.reason) ++ (32 ∷ decimal r.«record»)
