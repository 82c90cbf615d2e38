-- Where the statements of a file stand.
use Rattle.std.specs.Prelude.{Result, Ok, Err, ◌||◌, List, [], ◌∷◌, ℕ, zero, suc, ◌+◌, ◌-◌, ◌*◌, eqb, ltb, length, take, drop, get_or}
use Rattle.zones.specs.Choice.{pick}
use Rattle.framing.specs.declared.Form.{Form}
use Rattle.framing.specs.Files.{unknown_end, width_of, pieces_of}
use Rattle.grammar.specs.Answer.{Answer, accepted, refused}
use Rattle.grammar.specs.Statements.{Statement}
use Rattle.grammar.specs.Files.{statements_of, check_of}
use Rattle.grammar.specs.Parts.{size_of, records_before, no_statement, part_of}
use Rattle.records.specs.July.{record_size, is_code, coding_of}
use Rattle.readers.specs.declared.Place.{Place}
use Rattle.framing.specs.Refusals.{refusal_of, refusal_by}
use Rattle.framing.specs.declared.refusals.Reason.TheVariants.{NoSuchStatement}
use Rattle.framing.specs.declared.refusals.Refusal.{Refusal}

-- the place after the first 07 of a row of records of w bytes that begins at a place; end where there is none
unfoldable pub end_in : (w end at : ℕ) → List (List ℕ) → ℕ
end_in w end at [] = end
end_in w end at (p ∷ ps) = pick (is_code "07" p) (at + w) (end_in w end (at + w) ps)

-- The place after the next 07 at or after a place, line end included. The file's end where there is none, or the line-end number is unknown.
unfoldable pub end_after : Form → List ℕ → ℕ → ℕ
end_after f b at =
    pick (unknown_end f) (length b) (end_in (width_of record_size f) (length b) at (pieces_of record_size f (drop at b)))

-- j times, one after another
unfoldable pub ends_after : Form → List ℕ → (j at : ℕ) → ℕ
ends_after f b zero at = at
ends_after f b (suc j) at = ends_after f b j (end_after f b at)

-- From the first byte of its 01 to the end of its 07, line end included; 16 where there is no statement of that number.
abbrev pub place_among : (w : ℕ) → List Statement → ℕ → Result Place Refusal
place_among w ss k =
    pick (eqb k 0 || ltb (length ss) k) (Err (refusal_by NoSuchStatement 0))
    (Ok (record { first = records_before (k - 1) ss * w; len = size_of (get_or ss (k - 1) no_statement) * w }))

-- the file's refusals come first
abbrev pub place_by : Answer → (w : ℕ) → List Statement → ℕ → Result Place Refusal
place_by (accepted c) w ss k = place_among w ss k
place_by (refused n r) w ss k = Err (refusal_of n r)

unfoldable pub place_of : Form → List ℕ → ℕ → Result Place Refusal
place_of f b k = place_by (check_of (coding_of f) f b) (width_of record_size f) (statements_of (coding_of f) f b) k

-- the part of the file at a place, empty on refusal
abbrev pub part_at : Result Place Refusal → List ℕ → List ℕ
part_at (Ok p) part = part
part_at (Err e) part = []

unfoldable pub statement_in : Form → List ℕ → ℕ → List ℕ
statement_in f b k = part_at (place_of f b k) (part_of (coding_of f) f b k)

-- the bytes at a place, none where it does not lie in the file
unfoldable pub bytes_at : Place → List ℕ → List ℕ
bytes_at p b = pick (ltb (length b) (p.first + p.len)) [] (take p.len (drop p.first b))
