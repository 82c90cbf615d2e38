-- The newest statement of an account: from the file, the last one that a delivery now would store; else the last held.
use Rattle.std.specs.Prelude.{Bool, false, List, [], ◌∷◌, ℕ, zero, suc, ◌+◌, ◌-◌, ◌*◌, ◌≤◌, eqb, ltb, length, take, drop, get_or, Result, Ok, Err}
use Rattle.zones.specs.Choice.{pick}
use Rattle.layouts.specs.Zone.{part}
use Rattle.framing.specs.declared.Form.{Form}
use Rattle.framing.specs.Refusals.{refusal_by}
use Rattle.framing.specs.declared.refusals.Refusal.{Refusal}
use Rattle.framing.specs.declared.refusals.Reason.TheVariants.{NoSuchEntry}
use Rattle.framing.specs.Files.{line_end, width_of}
use Rattle.grammar.specs.declared.Key.{Key}
use Rattle.grammar.specs.Record.{same_key}
use Rattle.grammar.specs.Statements.{Statement}
use Rattle.grammar.specs.Files.{statements_of}
use Rattle.grammar.specs.Parts.{size_of, records_before, no_statement}
use Rattle.records.specs.July.{record_size, key_in, coding_of}
use Rattle.contents.specs.Heads.{record_at_of}
use Rattle.entries.specs.Entries.{line_at, body_at}
use Rattle.journal_layout.specs.Test.{held_of}
use Rattle.journal.specs.declared.Found.{Found}
use Rattle.journal.specs.declared.Found.TheVariants.{InJournal, InFile}
use Rattle.journal.specs.Delivery.{Outcome, delivered, refused, outcome_of}
use Rattle.journal.specs.Arrivals.{span, arrivals, spans_of, last_index}

-- a key is 25 bytes: bank, branch, currency, decimals, account
abbrev pub key_size : ℕ
key_size = 25

-- the account that they name
abbrev pub key_from : List ℕ → Key
key_from x =
    record {
      bank = part 1 5 x;
      branch = part 6 10 x;
      currency = part 11 13 x;
      decimals = get_or (part 14 14 x) 0 0;
      account = part 15 25 x;
    }

-- among those of the file that are new behind the held ones; then among the held; else 25
unfoldable pub newest_among : Form → Key → (held sent : List Statement) → Result Found Refusal
newest_among f k held sent =
    let w = width_of record_size f in
    let p = last_index k 0 0 (arrivals held sent) in
    let e = last_index k 0 0 held in
    let x = get_or (spans_of w held 0 sent) (p - 1) (span 0 0) in
    pick (ltb 0 p) (Ok (InFile x.first x.len (line_end f)))
    (pick (ltb 0 e) (Ok (InJournal (line_at (records_before (e - 1) held)) (record_size * size_of (get_or held (e - 1) no_statement)))) (Err (refusal_by NoSuchEntry 0)))

-- the delivery's refusals come first
abbrev pub newest_by : Outcome → Result Found Refusal → Result Found Refusal
newest_by (delivered ss s h) x = x
newest_by (refused r) x = Err r.refusal

-- THE NEWEST STATEMENT of the account that the bytes x name; no account has a key of another length
unfoldable pub newest_of : List ℕ → Form → List ℕ → List ℕ → Result Found Refusal
newest_of j f b x =
    newest_by (outcome_of j f b)
    (pick (eqb (length x) key_size) (newest_among f (key_from x) (held_of j) (statements_of (coding_of f) f b)) (Err (refusal_by NoSuchEntry 0)))

-- the part that a place names, of whichever holds it; empty on refusal
abbrev pub part_by : Result Found Refusal → (journal file : List ℕ) → List ℕ
part_by (Ok (InJournal first len)) j b = take len (drop first j)
part_by (Ok (InFile first len end)) j b = take len (drop first b)
part_by (Err e) j b = []

unfoldable pub newest_part : List ℕ → Form → List ℕ → List ℕ → List ℕ
newest_part j f b x = part_by (newest_of j f b x) j b

-- a place lies in what it names
abbrev pub Lies : Result Found Refusal → (journal file : ℕ) → Type 0
Lies (Ok (InJournal first len)) j b = first + len ≤ j
Lies (Ok (InFile first len end)) j b = first + len ≤ b
Lies (Err e) j b = Unit

-- what the code looks at: a record's account, the bodies of the entries, the parts of a file
unfoldable pub is_account : (x opening : List ℕ) → Bool
is_account x o = pick (eqb (length o) record_size) (same_key (key_in o) (key_from x)) false

unfoldable pub last_held_from : (n e last : ℕ) → (j x : List ℕ) → ℕ
last_held_from zero e last j x = last
last_held_from (suc n) e last j x = last_held_from n (e + 1) (pick (is_account x (record_at_of (body_at j e) 0)) (e + 1) last) j x

unfoldable pub last_part : (p last : ℕ) → List (List ℕ) → List ℕ → ℕ
last_part p last [] x = last
last_part p last (h ∷ hs) x = last_part (p + 1) (pick (is_account x (record_at_of h 0)) (p + 1) last) hs x
