-- The rows that the code reads from a statement's first 04 on are the statement's movements.
use mathlib.Core.Path.{◌≡◌, refl, sym, ap, ◌∙◌}
use mathlib.Core.List.{List, ◌∷◌}
use Rattle.std.specs.Prelude.{Option, None, Some, Ok, Err}
use Rattle.std.specs.Option.{unwrap_or}
use Prim.Native.Nat.{ℕ, zero, suc, ◌+◌, ◌-◌, ◌*◌, ◌<◌, ◌≤◌}
use native.Mathlib.Numerals.{add-one}
use native.Mathlib.Omega.{arith}
use lib.ListN.{length, drop, get_or}
use lib.Seq.{drop-cons, drop-length}
use borrow.Author.Tests.{lt-ltb, le-ltb}
use Rattle.framing.specs.declared.Form.{Form}
use Rattle.framing.specs.Files.{line_end, width_of}
use Rattle.framing.specs.Refusals.{refusal_by}
use Rattle.framing.specs.declared.refusals.Reason.TheVariants.{ShortTable}
use Rattle.framing.specs.declared.refusals.Refusal.{Refusal}
use Rattle.grammar.specs.Record.{Rec, movement, closing}
use Rattle.grammar.specs.Statements as values
use Rattle.grammar.specs.Statements.{Statement, all_records}
use Rattle.grammar.specs.Files.{Reads, statements_of, check_of}
use Rattle.grammar.specs.Parts.{no_statement}
use Rattle.grammar.proofs.Rows.{adds_then, moves_then}
use Rattle.records.specs.July.{record_size, repeats, coding_of, edition_of}
use Rattle.fields.specs.Rows.{row_of}
use Rattle.readers.specs.declared.Place.{Place}
use Rattle.readers.specs.Places.{place_of, bytes_at}
use Rattle.readers.specs.Steps.{next_of, complements_of}
use Rattle.readers.specs.declared.Step.{Step}
use Rattle.readers.proofs.Movements.{before, rest, movement_there}
use Rattle.contents.specs.Heads.{record_at_of, movements_in}
use Rattle.contents.specs.Movements.{no_movement}
use Rattle.contents.proofs.Records.{record_there}
use Rattle.contents.proofs.Heading.{count_there}
use Rattle.contents.proofs.Moving.{single_end, single_part, row_held, start, cut_reads}
use Rattle.tables.specs.declared.Plan.{Plan}
use Rattle.tables.specs.declared.RowStep.{RowStep}
use Rattle.tables.specs.Tables.{rows_of, laid, table_answer_of, table_of}
use Rattle.tables.specs.Steps.{row_step_of, rows_from, Filling, Refusing}

-- the step that the code takes: at the part's end, with no complement, where there is none
pub stepped : (o : Option Step) (n : ℕ) → unwrap_or o (record { complements = 0; next = n }) ≡ record { complements = complements_of o; next = next_of n o }
stepped None n = refl
stepped (Some s) n = refl

module _ {f : Form} {b : List ℕ} {ss : List Statement} (r : Reads (coding_of f) f b ss) (j : ℕ) (h : j < length ss) where
  abbrev ms : List values.Movement
  ms = (get_or ss j no_statement).movements

  -- the place of movement i, from 0
  abbrev placed : ℕ → ℕ
  placed i = before r j h i * width_of record_size f

  abbrev at : ℕ → values.Movement
  at i = get_or ms i no_movement

  -- its 04 stands there
  movement_here : (i : ℕ) → i < length ms → (l : List Rec) × (drop (before r j h i) (all_records (edition_of f) ss) ≡ movement (get_or ss j no_statement).key (at i).posting ∷ l)
  movement_here i l =
      let s = get_or ss j no_statement in (
        adds_then (repeats s.key (at i).posting) (at i).complements
            (moves_then (edition_of f) s.key (drop (suc i) ms) (closing s.key s.new_date s.new_balance ∷ (rest r j h i).0)),
        (rest r j h i).1 ∙ rw (drop-cons ms i no_movement l),
      )

  -- its row, and the place of the next
  step_there : (i : ℕ) → i < length ms
      → ◌≡◌ {A = RowStep} (row_step_of b f (placed i)) (record { row = row_of (at i).posting (length (at i).complements); next = placed (i + 1) })
  unfolding row_step_of
  step_there i l =
      let o = record_there r (before r j h i) (movement_here i l).1 in
      rw (movement_there r j h i (drop-cons ms i no_movement l))
      (ap (λ x. record { row = x; next = placed (i + 1) }) (row_held (record_at_of b (placed i)) (length (at i).complements) o.whole o.values))

  -- the rows from movement i on
  pub rows_there : (n i : ℕ) → i + n ≡ length ms → rows_from b f (placed i) n ≡ rows_of (drop i ms)
  unfolding rows_from rows_of
  rows_there zero i e =
      let z : i ≡ length ms = omega arith in
      rw z (sym (rw (drop-length ms)))
  rows_there (suc n) i e =
      let l : i < length ms = omega arith in
      let q = rows_there n (i + 1) (omega arith) ∙ ap (λ c. rows_of (drop c ms)) (add-one i) in
      rw (step_there i l, drop-cons ms i no_movement l) (ap (λ rs. row_of (at i).posting (length (at i).complements) ∷ rs) q)

-- the part of statement k
module _ (f : Form) (b : List ℕ) (k : ℕ) {place : Place} (e : Ok place ≡ place_of f b k) where
  abbrev s : Statement
  s = get_or (statements_of (coding_of f) f b) (k - 1) no_statement

  abbrev cut : List ℕ
  cut = bytes_at place b

  -- its first 04 stands behind its 01
  rows_are : {m : ℕ} → m ≡ length s.movements → rows_from cut f (record_size + line_end f) m ≡ rows_of s.movements
  rows_are {m} q =
      let r = cut_reads f b k e in
      rw (start r) (rows_there r 0 (omega arith) m 0 (omega arith))

  module _ (table : ℕ) {m : ℕ} (q : m ≡ movements_in (check_of (coding_of f) f cut)) where
    many : m ≡ length s.movements
    many = q ∙ count_there (cut_reads f b k e)

    -- the rows are filled
    pub planned_rows : {p : Plan} → p.part.now ≡ cut → p.at ≡ record_size + line_end f → p.rows ≡ m → m ≤ table → Filling f b k table p
    unfolding table_answer_of table_of
    planned_rows u v w l =
        record {
          inside = rw w l;
          answer = sym (rw (w, ← e, ← many, le-ltb table m l));
          content = λ t g. rw (u, v, w) (ap (λ rs. laid rs t) (rows_are many) ∙ sym (rw (← e, g, ← many, le-ltb table m l)));
        }

    -- 18
    pub planned_short : table < m → Refusing f b k table (refusal_by ShortTable 0)
    unfolding table_answer_of table_of
    planned_short l =
        record {
          answer = sym (rw (← e, ← many, lt-ltb table m l));
          content = λ t g. sym (rw (← e, g, ← many, lt-ltb table m l));
        }

-- its line ends are those of a form
pub ends_small : (f : Form) (b : List ℕ) (k : ℕ) (p : Place) → Ok p ≡ place_of f b k → line_end f ≤ 2
ends_small f b k p e = single_end f (bytes_at p b) (single_part f b k e)

-- the file's refusals, and 16
pub planned_none : (f : Form) (b : List ℕ) (k table : ℕ) {e : Refusal} → Err e ≡ place_of f b k → Refusing f b k table e
unfolding table_answer_of table_of
planned_none f b k table e = record { answer = sym (rw (← e)); content = λ t g. sym (rw (← e)) }
