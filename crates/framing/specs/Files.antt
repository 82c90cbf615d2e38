-- Files as rows of records: rules 1 to 5, over a record's size and the most records that a file may have.
use Rattle.std.specs.Prelude.{ℕ, zero, suc, ◌+◌, ◌/◌, ◌%◌, Bool, not, List, [], ◌∷◌, ◌++◌, map, ltb, eqb, length, take, drop}
use Rattle.zones.specs.Choice.{pick}
use Rattle.zones.specs.Class.{permitted, all}
use Rattle.zones.specs.Copy.{same_bytes}
use Rattle.zones.specs.Pieces.{flat}
use Rattle.framing.specs.declared.Form.{Form}

-- P holds of every element
abbrev pub All : {A : Type 0} → (A → Type 0) → List A → Type 0
All P [] = Unit
All P (x ∷ xs) = P x × All P xs

-- the line-end number
abbrev pub line_end : Form → ℕ
line_end f = f.line_end

-- a file without line ends
abbrev pub plain : Form
plain = record { line_end = 0 }

-- The line-end number is 0 (nothing after a record), 1 (LF after every record, the last too) or 2 (CR LF likewise).
unfoldable pub end_of : Form → List ℕ
end_of f = pick (eqb (line_end f) 0) [] (pick (eqb (line_end f) 1) (10 ∷ []) (13 ∷ 10 ∷ []))

-- a record of some bytes with its line end
unfoldable pub width_of : (size : ℕ) → Form → ℕ
width_of size f = size + line_end f

abbrev pub count_of : (size : ℕ) → Form → List ℕ → ℕ
count_of size f b = length b / width_of size f

-- 1: line-end number not 0, 1, 2
abbrev pub unknown_end : Form → Bool
unknown_end f = ltb 2 (line_end f)

-- 2: length not a multiple of a record with its line end
abbrev pub uneven : (size : ℕ) → Form → List ℕ → Bool
uneven size f b = not (eqb (length b % width_of size f) 0)

-- 3: more records than a file may have
abbrev pub too_many : (size most : ℕ) → Form → List ℕ → Bool
too_many size most f b = ltb most (count_of size f b)

-- the first m pieces of w bytes
unfoldable pub chunks : (w m : ℕ) → List ℕ → List (List ℕ)
chunks w zero b = []
chunks w (suc m) b = take w b ∷ chunks w m (drop w b)

-- the records of a file, each with what stands after it
abbrev pub pieces_of : (size : ℕ) → Form → List ℕ → List (List ℕ)
pieces_of size f b = chunks (width_of size f) (count_of size f b) b

-- 4: wrong line end after a record
abbrev pub wrong_end : (size : ℕ) → Form → List ℕ → Bool
wrong_end size f p = not (same_bytes (drop size p) (end_of f))

-- 5: byte not permitted
abbrev pub unpermitted : List ℕ → Bool
unpermitted r = not (all permitted r)

-- records laid out as a file
abbrev pub piece_of : Form → List ℕ → List ℕ
piece_of f r = r ++ end_of f

unfoldable pub file_of : Form → List (List ℕ) → List ℕ
file_of f rs = flat (map (piece_of f) rs)
