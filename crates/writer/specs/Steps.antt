-- The steps in which the code writes.
use Rattle.std.specs.Prelude.{Option, Some, None, Result, Ok, Err, Bool, ◌&&◌, List, [], ◌∷◌, ◌++◌, ℕ, ◌+◌, ◌-◌, ◌*◌, leb, ltb, length, take, drop}
use Rattle.zones.specs.Choice.{pick}
use Rattle.framing.specs.Files.{chunks}
use Rattle.framing.specs.Refusals.{refusal_by}
use Rattle.framing.specs.declared.refusals.Reason.TheVariants.{NoSuchFile, ShortOutput}
use Rattle.framing.specs.declared.refusals.Refusal.{Refusal}
use Rattle.grammar.specs.declared.Key.{Key}
use Rattle.records.specs.July.{record_size, text_size, most_in_statement}
use Rattle.fields.specs.declared.Movement.{Movement}
use Rattle.contents.specs.declared.Head.{Head}
use Rattle.writing.specs.Written.{opening_put, closing_put, movement_put, complement_put}
use Rattle.writer.specs.Test.{complete}
use Rattle.writer.specs.declared.Tally.{Tally}
use Rattle.writer.specs.declared.Spot.{Spot}

-- the answer from what the rows gave
unfoldable pub plan_of : Head → Option Tally → (complements out : ℕ) → Result ℕ Refusal
plan_of h None len n = Err (refusal_by NoSuchFile 0)
plan_of h (Some s) len n =
    pick (complete h s len)
    (pick (ltb n (s.records * record_size)) (Err (refusal_by ShortOutput 0)) (Ok (s.records * record_size)))
    (Err (refusal_by NoSuchFile 0))

-- texts, each into its part of 120 bytes
unfoldable pub texts_put : Key → Movement → (texts : List (List ℕ)) → (out : List ℕ) → List ℕ
texts_put k m [] out = out
texts_put k m (t ∷ ts) out = complement_put k m t (take record_size out) ++ texts_put k m ts (drop record_size out)

-- a movement and its complements into a part as long as their records
unfoldable pub group_put : Key → Movement → (texts : List (List ℕ)) → (out : List ℕ) → List ℕ
group_put k m ts out = movement_put k m (take record_size out) ++ texts_put k m ts (drop record_size out)

abbrev pub group_size : Movement → ℕ
group_size m = (1 + m.complements) * record_size

-- numbers with which the place can be reckoned, and room there
abbrev pub placed : (bytes : ℕ) → Movement → (complements out : ℕ) → Spot → Bool
placed bytes m len n p =
    (leb m.complements most_in_statement && leb bytes n) && (leb p.at bytes && leb p.from len)

abbrev pub room_at : (bytes : ℕ) → Movement → (complements : ℕ) → Spot → Bool
room_at bytes m len p = leb (p.at + group_size m) bytes && leb (p.from + m.complements * text_size) len

-- where the next row stands, and the output with this one; nothing changes where there is no room
unfoldable pub spot_of : (bytes : ℕ) → Movement → (complements out : ℕ) → Spot → Spot
spot_of bytes m len n p =
    pick (placed bytes m len n p)
    (pick (room_at bytes m len p) (record { at = p.at + group_size m; from = p.from + m.complements * text_size }) p)
    p

unfoldable pub row_put : (bytes : ℕ) → Key → Movement → (cs : List ℕ) → Spot → (out : List ℕ) → List ℕ
row_put bytes k m cs p out =
    pick (placed bytes m (length cs) (length out) p)
    (pick (room_at bytes m (length cs) p)
    (take p.at out
    ++ (group_put k m (chunks text_size m.complements (drop p.from cs)) (take (group_size m) (drop p.at out)) ++ drop (p.at + group_size m) out))
    out)
    out

unfoldable pub rows_put : (bytes : ℕ) → Key → List Movement → (cs : List ℕ) → Spot → (out : List ℕ) → List ℕ
rows_put bytes k [] cs p out = out
rows_put bytes k (m ∷ ms) cs p out =
    rows_put bytes k ms cs (spot_of bytes m (length cs) (length out) p) (row_put bytes k m cs p out)

-- the first row stands after the 01
abbrev pub first_spot : Spot
first_spot = record { at = record_size; from = 0 }

-- the 01 before the rows, the 07 after them
unfoldable pub ends_put : (bytes : ℕ) → Head → (out : List ℕ) → List ℕ
ends_put bytes h out =
    pick (leb (2 * record_size) bytes && leb bytes (length out))
    (opening_put h.key h.old_date h.old_balance (take record_size out)
    ++ (take (bytes - 2 * record_size) (drop record_size out)
    ++ (closing_put h.key h.new_date h.new_balance (take record_size (drop (bytes - record_size) out)) ++ drop bytes out)))
    out
