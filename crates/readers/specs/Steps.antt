-- The movement at a place: how many 05 follow its 04, and the place after them.
use Rattle.std.specs.Prelude.{Option, Some, None, List, [], ◌∷◌, ℕ, ◌+◌, drop}
use Rattle.zones.specs.Choice.{pick}
use Rattle.framing.specs.declared.Form.{Form}
use Rattle.framing.specs.Files.{unknown_end, width_of, pieces_of}
use Rattle.records.specs.July.{record_size, is_code}
use Rattle.readers.specs.declared.Step.{Step}

abbrev pub found_step : (n at : ℕ) → Step
found_step n at = record { complements = n; next = at }

-- n 05 are behind: those that follow, up to the first other record of a row of records of w bytes that begins at a place
unfoldable pub step_over : (w n at : ℕ) → List (List ℕ) → Step
step_over w n at [] = found_step n at
step_over w n at (p ∷ ps) = pick (is_code "05" p) (step_over w (n + 1) (at + w) ps) (found_step n at)

-- a movement is one 04 followed by any number of 05
unfoldable pub step_in : (w at : ℕ) → List (List ℕ) → Option Step
step_in w at [] = None
step_in w at (p ∷ ps) = pick (is_code "04" p) (Some (step_over w 0 (at + w) ps)) None

-- none where no 04 stands at the place, or the line-end number is unknown
unfoldable pub step_of : List ℕ → Form → ℕ → Option Step
step_of b f at = pick (unknown_end f) None (step_in (width_of record_size f) at (pieces_of record_size f (drop at b)))

-- the place after the movement, and the number of its complements; the part's end and 0 where there is none
abbrev pub next_of : (end : ℕ) → Option Step → ℕ
next_of end None = end
next_of end (Some s) = s.next

abbrev pub complements_of : Option Step → ℕ
complements_of None = 0
complements_of (Some s) = s.complements
