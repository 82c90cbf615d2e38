-- The test for a sound journal in one pass over the table, for any bytes, and what is read of a journal. `proofs/Exact.antt` shows what passing it means.
use Rattle.std.specs.Prelude.{Result, Ok, Err, Bool, false, ◌&&◌, ◌||◌, List, [], ◌∷◌, ℕ, zero, suc, ◌+◌, ◌-◌, ◌*◌, ◌/◌, eqb, leb, length, take, drop, get_or, replicate, Option, None}
use Rattle.framing.specs.Files.{plain}
use Rattle.zones.specs.Choice.{pick}
use Rattle.zones.specs.Class.{blank, all}
use Rattle.zones.specs.Copy.{same_bytes}
use Rattle.framing.specs.declared.Form.{Form}
use Rattle.grammar.specs.Statements.{Statement}
use Rattle.grammar.specs.Parts.{no_statement}
use Rattle.records.specs.July.{record_size}
use Rattle.records.specs.Looks.{look_of}
use Rattle.records.specs.Tests.{same_key_in}
use Rattle.contents.specs.Heads.{record_at_of}
use Rattle.readers.specs.declared.Place.{Place}
use Rattle.framing.specs.Refusals.{refusal_by}
use Rattle.framing.specs.declared.refusals.Reason.TheVariants.{UnsoundJournal, NoSuchEntry}
use Rattle.framing.specs.declared.refusals.Refusal.{Refusal}
use Rattle.bodies.specs.Bodies.{body_of, single, statement_of, same_records, closing_in}
use Rattle.entries.specs.declared.Entry.{Entry}
use Rattle.entries.specs.Entries.{Fields, used_entry, most_entries, entry_size, table_size, line_at, entry_put, entry_bytes, entry_in, lines_from, body_at}
use Rattle.journal_layout.specs.declared.Free.{Free}
use Rattle.journal_layout.specs.declared.Judgement.{Judgement}
use Rattle.journal_layout.specs.declared.Judgement.TheVariants.{Held, First, After}
use Rattle.journal_layout.specs.declared.Usage.{Usage}
use Rattle.journal_layout.specs.Chains.{follows_by}
use Rattle.journal_layout.specs.Layout.{is_length, lines_of, place_among}

-- the new date and new balance of h, a statement's bytes, where its account is that of s
unfoldable pub later_of : Judgement → Form → (h s : List ℕ) → Judgement
later_of last f h s =
    pick (same_key_in (record_at_of h 0) (record_at_of s 0)) (After (look_of (closing_in f h)).day (look_of (closing_in f h)).amount) last

-- n bodies from entry e on, from 0: whether one has the records of s, and the last of its account
unfoldable pub held_from : (n e : ℕ) → List ℕ → Form → List ℕ → Bool
held_from zero e j f s = false
held_from (suc n) e j f s = same_records plain (body_at j e) f s || held_from n (e + 1) j f s

unfoldable pub last_from : (n e : ℕ) → Judgement → List ℕ → List ℕ → Judgement
last_from zero e last j s = last
last_from (suc n) e last j s = last_from n (e + 1) (later_of last plain (body_at j e) s) j s

-- what the first n entries say of the statement s
unfoldable pub judged_by : List ℕ → (n : ℕ) → Form → List ℕ → Judgement
judged_by j n f s = pick (held_from n 0 j f s) Held (last_from n 0 First j s)

-- entry e, whose body is the n lines from line k on, is right behind the entries before it
unfoldable pub fits_in : List ℕ → (e k n : ℕ) → Bool
fits_in j e k n =
    let s = lines_from j k n in
    let o = record_at_of s 0 in
    pick (single s)
    (pick (same_bytes (entry_bytes j e) (entry_put k n o (closing_in plain s) (replicate entry_size 32)))
    (follows_by (judged_by j e plain s) (look_of o).day (look_of o).amount)
    false)
    false

-- unused entries and lines are blank
unfoldable pub rest_blank : List ℕ → (e k : ℕ) → Bool
rest_blank j e k = all blank (take (table_size - entry_size * e) (drop (entry_size * e) j)) && all blank (drop (line_at k) j)

-- so many entries are left from entry e on, whose body begins at line k
unfoldable pub walk_in : (left e k : ℕ) → List ℕ → Bool
walk_in zero e k j = rest_blank j e k
walk_in (suc m) e k j =
    let n = (entry_in j e).records in
    pick (entry_in j e).used
    (pick (leb (line_at k + record_size * n) (length j)) (pick (fits_in j e k n) (walk_in m (e + 1) (k + n) j) false) false)
    (rest_blank j e k)

unfoldable pub sound_in : List ℕ → Bool
sound_in j = pick (is_length (length j)) (walk_in most_entries 0 0 j) false

-- the statements that a sound journal holds
unfoldable pub read_from : (left e : ℕ) → List ℕ → List Statement
read_from zero e j = []
read_from (suc m) e j = pick (entry_in j e).used (statement_of (body_at j e) ∷ read_from m (e + 1) j) []

unfoldable pub held_of : List ℕ → List Statement
held_of j = read_from most_entries 0 j

-- entry e, from 1, as the code gives it: none where it is unused
abbrev pub numbered : List ℕ → ℕ → Option Entry
numbered j e = pick (eqb e 0) None (used_entry (entry_in j (e - 1)))

-- the first unused entry, and the line behind the body of the entry before it
unfoldable pub unused_from : (left e : ℕ) → List ℕ → ℕ
unused_from zero e j = e
unused_from (suc m) e j = pick (entry_in j e).used (unused_from m (e + 1) j) e

abbrev pub line_behind : List ℕ → ℕ → ℕ
line_behind j e = pick (eqb e 0) 0 ((entry_in j (e - 1)).first + (entry_in j (e - 1)).records)

unfoldable pub free_in : List ℕ → Free
free_in j = record { entry = unused_from most_entries 0 j; line = line_behind j (unused_from most_entries 0 j) }

-- how much is used: 21; else the statements held, the body lines that they take, and the body lines in all
unfoldable pub usage_of : List ℕ → Result Usage Refusal
usage_of j =
    pick (sound_in j) (Ok (record { entries = length (held_of j); used = lines_of (held_of j); lines = (length j - table_size) / record_size }))
    (Err (refusal_by UnsoundJournal 0))

-- entry e's body, from 1: its place and its bytes; 21, then 25
unfoldable pub entry_place_of : List ℕ → ℕ → Result Place Refusal
entry_place_of j e = pick (sound_in j) (place_among (held_of j) e) (Err (refusal_by UnsoundJournal 0))

-- the place that an entry names: 25 where it is unused or its lines are not all there
abbrev pub place_by : List ℕ → Fields → Result Place Refusal
place_by j x =
    pick (x.used && leb (line_at x.first + record_size * x.records) (length j)) (Ok (record { first = line_at x.first; len = record_size * x.records }))
    (Err (refusal_by NoSuchEntry 0))

-- the same without the sound test, for any bytes: 21 for a length that no journal has; 25 for entry 0, and as the entry says; above 128 there is none
unfoldable pub listed_place_of : List ℕ → ℕ → Result Place Refusal
listed_place_of j e = pick (is_length (length j)) (pick (eqb e 0) (Err (refusal_by NoSuchEntry 0)) (place_by j (entry_in j (e - 1)))) (Err (refusal_by UnsoundJournal 0))

abbrev pub body_for : Result Place Refusal → List ℕ → List ℕ
body_for (Ok p) body = body
body_for (Err e) body = []

unfoldable pub entry_body_of : List ℕ → ℕ → List ℕ
entry_body_of j e = body_for (entry_place_of j e) (body_of (get_or (held_of j) (e - 1) no_statement))
