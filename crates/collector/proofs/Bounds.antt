-- The numbers of every answer keep their bounds, for any journal, line-end number, file and length.
use mathlib.Core.Path.{◌≡◌, refl, sym}
use mathlib.Core.Bool.{Bool, true, false, not, ◌&&◌, ◌||◌}
use mathlib.Core.List.{List, [], ◌∷◌, ◌++◌, map}
use Prim.Native.Nat.{ℕ, zero, suc, ◌+◌, ◌-◌, ◌*◌, ◌/◌, ◌%◌, ◌<◌, ◌≤◌}
use native.Mathlib.Omega.{arith}
use lib.Dec.{eqb, leb, ltb}
use lib.ListN.{length-map, length, get_or, length-append}
use borrow.Author.Tests.{ltb-true, ltb-false}
use borrow.Author.Rules.{rules}
use Rattle.std.specs.Prelude.{Result, Ok, Err}
use Rattle.zones.specs.Choice.{pick}
use Rattle.dates.specs.Ordinals.{last_day}
use Rattle.framing.specs.declared.Form.{Form}
use Rattle.framing.specs.Files.{width_of, count_of, unknown_end}
use Rattle.framing.specs.Frames.{frame_by}
use Rattle.framing.specs.Refusals.{refusal_by}
use Rattle.framing.specs.declared.refusals.Refusal.{Refusal}
use Rattle.framing.specs.declared.refusals.Reason.TheVariants.{UnknownLineEnd, UnevenLength, TooManyRecords, UnsoundJournal, FullContents, FullJournal}
use Rattle.grammar.specs.Answer as G
use Rattle.grammar.specs.Answer.{Counts, Answer, first, cut, whole}
use Rattle.grammar.specs.Record.{Rec, opening, movement, complement, closing, Edition}
use Rattle.grammar.specs.Since.{tally}
use Rattle.grammar.specs.Statements.{Statement, records_of, all_records, counts_of}
use Rattle.grammar.specs.Files.{rec_of, pieces, Reads, check_of, statements_of, Ruled, line, multiple, many, records}
use Rattle.grammar.specs.Parts.{size_of, records_before, no_statement}
use Rattle.grammar.proofs.Parts.{length_one}
use Rattle.records.specs.July.{record_size, most_in_file, coding_of, edition_of}
use Rattle.records.proofs.Theorems as T
use Rattle.dates.specs.Days.{is_day}
use Rattle.dates.proofs.Months.{month_days_lem}
use Rattle.dates.proofs.Ordinals.{parts, part_month}
use Rattle.statements.specs.Answers.{checked_of}
use Rattle.statements.proofs.Listed.{AllListed, check_listed}
use Rattle.statements.proofs.Numbers.{count_pieces, applied}
use Rattle.readers.specs.declared.Place.{Place}
use Rattle.contents.specs.Earliest.{earliest_of, beginning_by, beginning_of}
use Rattle.contents.proofs.Begun.{earliest_day, earliest_none}
use Rattle.bodies.proofs.Single.{size_most}
use Rattle.entries.specs.Entries.{Fields, most_entries, table_size, line_at, entry_in, row_size}
use Rattle.journal_layout.specs.Chains.{judgement_of, follows_by}
use Rattle.journal_layout.specs.Layout.{is_length, lines_of}
use Rattle.journal_layout.specs.Test.{sound_in, held_of, entry_place_of, listed_place_of, usage_of}
use Rattle.journal_layout.proofs.Testing.{is_long}
use Rattle.journal_layout.proofs.Holding.{before_lines, there_alone}
use Rattle.journal_layout.proofs.Exact.{journal_length, journal_held, sound_journal}
use Rattle.journal_layout.proofs.Places.{stood}
use Rattle.journal_layout.proofs.Listing.{listed as place_listed}
use Rattle.journal.specs.declared.Verdict.TheVariants.{Hold, Store}
use Rattle.journal.specs.Delivery.{rejection, not_next, is_held, verdict_of, Outcome, refused, proceed, run, lines_in, outcome_of}
use Rattle.journal.specs.Answers.{answer_of}
use Rattle.collector.specs.Bounds.{RefusalBounds, Counted, Body, Lines, CheckBounds, OpeningBounds, DeliveryBounds, EntryBounds, ListedBounds, UsageBounds, LengthBounds, BeginningBounds}
use Rattle.collector.specs.Answers.{form, open_answer, listed_by, listed_answer, length_answer}

-- ---- the check

-- each record counts once at most
tally_most : (rs : List Rec) → (tally rs).statements + (tally rs).movements + (tally rs).complements ≤ length rs
unfolding tally
tally_most [] = omega arith
tally_most (opening k d b ∷ rs) = let h = tally_most rs in omega arith
tally_most (movement k p ∷ rs) = let h = tally_most rs in omega arith
tally_most (complement e t ∷ rs) = let h = tally_most rs in omega arith
tally_most (closing k d b ∷ rs) = let h = tally_most rs in omega arith

-- by the numbers of the rules
abbrev AnswerBounds : Answer → Type 0
AnswerBounds (G.accepted c) = Counted c.statements c.movements c.complements
AnswerBounds (G.refused n r) = RefusalBounds n r

answer_bounds : (a : Answer) → AllListed a → AnswerBounds a → CheckBounds (checked_of a)
answer_bounds (G.accepted c) l k = k
answer_bounds (G.refused n r) l k = rw l k

module _ (f : Form) (b : List ℕ) where
  bounded : {a : Answer} → Ruled (coding_of f) f b a → AnswerBounds a
  bounded (line p e) = rw e (search rules)
  bounded (multiple p q e) = rw e (search rules)
  bounded (many p q r e) = rw e (search rules)
  bounded (records p q r (first k i h e)) =
      let few = ltb-false most_in_file (count_of record_size f b) r in
      let z = applied f b h.here in
      rw e (record { some = omega arith; listed = omega arith; near = omega (arith, count_pieces f b) })
  bounded (records p q r (cut n i e)) =
      let few = ltb-false most_in_file (count_of record_size f b) r in
      rw e (search rules)
  bounded (records p q r (whole n i e)) =
      let few = ltb-false most_in_file (count_of record_size f b) r in
      let rs = map (rec_of (coding_of f)) (pieces (coding_of f) f b) in
      let m = tally_most rs in
      let l = length-map (pieces (coding_of f) f b) (rec_of (coding_of f)) in
      rw e
      (record {
        few_statements = omega (arith, count_pieces f b);
        few_movements = omega (arith, count_pieces f b);
        few_complements = omega (arith, count_pieces f b);
      })

  pub check_bounds : CheckBounds (checked_of (check_of (coding_of f) f b))
  check_bounds = answer_bounds (check_of (coding_of f) f b) (check_listed f b) (bounded (T.ruled f b))

-- ---- opening

pub opening_bounds : (j : List ℕ) → OpeningBounds (open_answer j)
opening_bounds j = by (is_length (length j))
  where
    by : (t : Bool) → OpeningBounds (pick t (Ok tt) (Err (refusal_by UnsoundJournal 0)))
    by true = tt
    by false = search rules

-- ---- the delivery

-- what is left of a file: its statements and records, with those behind, are no more than a file may have
record Left (E : Edition) (hs : List Statement) (behind stored held : ℕ) (ss : List Statement) : Type 0 where
  pub entries : length hs ≤ most_entries
  pub stores : stored ≤ length hs
  pub statements : held + length ss ≤ most_in_file
  pub rows : behind + length (all_records E ss) ≤ most_in_file

size_first : (E : Edition) (s : Statement) (ss : List Statement) → length (all_records E (s ∷ ss)) ≡ size_of s + length (all_records E ss)
unfolding all_records
size_first E s ss = omega (arith, length-append (records_of E s) (all_records E ss), length_one E s)

run_bounds : (E : Edition) (n : ℕ) (hs : List Statement) (behind stored held : ℕ) (ss : List Statement) → Left E hs behind stored held ss
    → DeliveryBounds (answer_of (run n hs behind stored held ss))
unfolding run verdict_of
run_bounds E n hs behind stored held [] l = search rules
run_bounds E n hs behind stored held (s ∷ ss) l =
    let z = size_first E s ss in
    by (run n hs (behind + size_of s) stored (held + 1) ss) (run n (hs ++ (s ∷ [])) (behind + size_of s) (stored + 1) held ss)
    (is_held (judgement_of s hs)) (follows_by (judgement_of s hs) s.old_date s.old_balance) (ltb (length hs) most_entries)
    (leb (size_of s) (n - lines_of hs)) refl
    (run_bounds E n hs (behind + size_of s) stored (held + 1) ss
    (record { entries = omega arith; stores = omega arith; statements = omega arith; rows = omega arith }))
    (λ room.
    let y = length-append hs (s ∷ []) in
    run_bounds E n (hs ++ (s ∷ [])) (behind + size_of s) (stored + 1) held ss
    (record { entries = omega arith; stores = omega arith; statements = omega arith; rows = omega arith }))
    (omega arith)
  where
    by : (H S : Outcome) (t u v w : Bool) → ltb (length hs) most_entries ≡ v → DeliveryBounds (answer_of H) → (length hs < most_entries → DeliveryBounds (answer_of S))
        → behind + 1 ≤ most_in_file
        → DeliveryBounds
        (answer_of
        (proceed (pick t (Ok Hold) (pick u (pick v (pick w (Ok Store) (Err (rejection (refusal_by FullJournal (behind + 1))))) (Err (rejection (refusal_by FullContents (behind + 1))))) (Err (not_next (judgement_of s hs) (behind + 1))))) H S refused))
    by H S true u v w e h s r = h
    by H S false true true true e h s r = s (ltb-true (length hs) most_entries e)
    by H S false true true false e h s r = search rules
    by H S false true false w e h s r = search rules
    by H S false false v w e h s r = search rules

-- an accepted file has no more statements than records
statements_few : (f : Form) (b : List ℕ) {c : Counts} → check_of (coding_of f) f b ≡ G.accepted c → length (statements_of (coding_of f) f b) ≤ most_in_file
statements_few f b e =
    let z : CheckBounds (checked_of (G.accepted (counts_of (statements_of (coding_of f) f b)))) = rw (T.counts (T.reads f b e)) at (check_bounds f b) in
    z.few_statements

pub delivery_bounds : (j : List ℕ) (f : Form) (b : List ℕ) → DeliveryBounds (answer_of (outcome_of j f b))
unfolding outcome_of
delivery_bounds j f b = by (sound_in j) refl (check_of (coding_of f) f b) refl
  where
    by : (t : Bool) → sound_in j ≡ t → (a : Answer) → check_of (coding_of f) f b ≡ a → DeliveryBounds (answer_of (outcome_of j f b))
    by false p a q = rw p (search rules)
    by true p (G.refused n r) q = let z : CheckBounds (checked_of (G.refused n r)) = rw q at (check_bounds f b) in rw (p, q) z
    by true p (G.accepted c) q =
        let g = sound_journal j p in
        let few = g.kept.few in
        let s = statements_few f b q in
        let r = (T.reads f b q).few in
        rw (p, q)
        (run_bounds (edition_of f) (lines_in j) (held_of j) 0 0 0 (statements_of (coding_of f) f b)
        (record { entries = few; stores = omega arith; statements = omega arith; rows = omega arith }))

-- ---- an entry

module _ (j : List ℕ) (e : ℕ) where
  found : {p : Place} → Ok p ≡ entry_place_of j e → Body p.first p.len
  found q =
      let s = stood j e q in
      let g = sound_journal j s.sound in
      let ss = held_of j in
      let behind = before_lines (e - 1) ss s.index in
      let k = g.kept in
      record {
        line = records_before (e - 1) ss;
        records = size_of (get_or ss (e - 1) no_statement);
        begins = s.first;
        runs = s.len;
        low = omega arith;
        few = size_most (there_alone (journal_held g).holding (e - 1) s.index);
      }

  pub entry_bounds : EntryBounds (entry_place_of j e)
  unfolding entry_place_of
  entry_bounds = by (sound_in j) refl (eqb e 0 || ltb (length (held_of j)) e) refl
    where
      by : (t : Bool) → sound_in j ≡ t → (u : Bool) → (eqb e 0 || ltb (length (held_of j)) e) ≡ u → EntryBounds (entry_place_of j e)
      by false p u q = rw p (search rules)
      by true p true q = rw (p, q) (search rules)
      by true p false q = rw (p, q) (found (sym (rw (p, q))))

-- ---- an entry listed

module _ (j : List ℕ) (e : ℕ) where
  there : {p : Place} → Ok p ≡ listed_place_of j e → Lines p.first p.len
  there q =
      let s = place_listed j e q in
      let m = (is_long (length j) s.long).most in
      record { line = (entry_in j (e - 1)).first; records = (entry_in j (e - 1)).records; begins = s.first; runs = s.len; low = omega arith; few = omega arith }

  pub place_bounds : ListedBounds (listed_place_of j e)
  unfolding listed_place_of
  place_bounds = by (is_length (length j)) refl (eqb e 0) refl (y.used && leb (line_at y.first + record_size * y.records) (length j)) refl
    where
      y : Fields
      y = entry_in j (e - 1)

      by : (t : Bool) → is_length (length j) ≡ t → (u : Bool) → eqb e 0 ≡ u
          → (v : Bool) → (y.used && leb (line_at y.first + record_size * y.records) (length j)) ≡ v → ListedBounds (listed_place_of j e)
      by false p u q v r = rw p (search rules)
      by true p true q v r = rw (p, q) (search rules)
      by true p false q false r = rw (p, q, r) (search rules)
      by true p false q true r = rw (p, q, r) (there (sym (rw (p, q, r))))

  pub listed_bounds : (row : List ℕ) → ListedBounds (listed_answer j e row)
  listed_bounds row = by (listed_place_of j e) place_bounds (ltb (length row) row_size) refl
    where
      by : (r : Result Place Refusal) → ListedBounds r → (t : Bool) → ltb (length row) row_size ≡ t → ListedBounds (listed_by r (length row))
      by (Ok p) k true q = rw q (search rules)
      by (Ok p) k false q = rw q k
      by (Err r) k t q = k

-- ---- how much is used

pub usage_bounds : (j : List ℕ) → UsageBounds (usage_of j)
unfolding usage_of
usage_bounds j = by (sound_in j) refl
  where
    by : (t : Bool) → sound_in j ≡ t
        → UsageBounds (pick t (Ok (record { entries = length (held_of j); used = lines_of (held_of j); lines = (length j - table_size) / record_size })) (Err (refusal_by UnsoundJournal 0)))
    by true p =
        let g = sound_journal j p in
        let n = journal_length g in
        let z : (length j - table_size) / record_size ≡ g.lines = omega arith in
        record { few_entries = g.kept.few; room = rw z g.kept.room; few_lines = rw z g.most }
    by false p = search rules

-- ---- a file's length

pub length_bounds : (e n : ℕ) → LengthBounds (length_answer e n)
unfolding frame_by
length_bounds e n = by (unknown_end (form e)) (not (eqb (n % w) 0)) (ltb most_in_file (n / w)) refl
  where
    w : ℕ
    w = width_of record_size (form e)

    by : (a b c : Bool) → ltb most_in_file (n / w) ≡ c
        → LengthBounds (pick a (Err (refusal_by UnknownLineEnd 0)) (pick b (Err (refusal_by UnevenLength 0)) (pick c (Err (refusal_by TooManyRecords 0)) (Ok (record { width = w; count = n / w })))))
    by true b c q = search rules
    by false true c q = search rules
    by false false true q = search rules
    by false false false q = ltb-false most_in_file (n / w) q

-- ---- on what day a file begins

day_most : (k : ℕ) → is_day k ≡ true → k ≤ last_day
day_most k h =
    let p = parts k h in
    let m = part_month k p in
    let d = month_days_lem (k / 10000) (k / 100 % 100) m in
    omega (arith, p.high, p.last)

pub earliest_bounds : (f : Form) (b : List ℕ) → BeginningBounds (beginning_of f b)
unfolding beginning_of
earliest_bounds f b = by (check_of (coding_of f) f b) refl
  where
    early : {ss : List Statement} → Reads (coding_of f) f b ss → earliest_of ss ≤ last_day
    early {ss} r = some (length ss) refl
      where
        some : (n : ℕ) → length ss ≡ n → earliest_of ss ≤ last_day
        some zero l = let z = (earliest_none r).1 l in omega arith
        some (suc n) l = day_most (earliest_of ss) (earliest_day r (omega arith))

    by : (a : Answer) → check_of (coding_of f) f b ≡ a → BeginningBounds (beginning_by a (statements_of (coding_of f) f b))
    by (G.accepted c) p = early (T.reads f b p)
    by (G.refused n r) p = rw p at (check_bounds f b)
