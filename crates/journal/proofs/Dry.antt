-- The dry run: what the loop keeps, and one law for each way out of a turn.
use mathlib.Core.Path.{◌≡◌, refl, sym, ap, ap₂, ◌∙◌}
use mathlib.Core.Bool.{Bool, true, false, not}
use mathlib.Core.List.{List, [], ◌∷◌, ◌++◌, append_assoc, append-nil}
use Prim.Native.Nat.{ℕ, suc, ◌+◌, ◌-◌, ◌*◌, ◌/◌, ◌<◌, ◌≤◌}
use native.Mathlib.Numerals.{add-one}
use native.Mathlib.Omega.{arith}
use lib.ListN.{length, take, drop, get_or, set, replicate, length-append, length-set}
use lib.Seq.{drop-cons, drop-length, length-take-le}
use Rattle.std.proofs.lemmas.List.{take_more_set}
use borrow.Author.Tests.{ltb-false, not-true, not-false}
use Rattle.std.specs.Prelude.{Result, Ok, Err}
use Rattle.zones.specs.Choice.{pick}
use Rattle.framing.specs.declared.Form.{Form}
use Rattle.framing.specs.Files.{All, line_end, width_of}
use Rattle.framing.specs.Refusals.{refusal_by}
use Rattle.framing.specs.declared.refusals.Refusal.{Refusal}
use Rattle.framing.specs.declared.refusals.Reason.TheVariants.{UnsoundJournal}
use Rattle.grammar.specs.Statements.{Statement}
use Rattle.grammar.specs.Files.{Reads, Writable, statements_of, check_of}
use Rattle.grammar.specs.Parts.{size_of, records_before, no_statement}
use Rattle.records.specs.July.{record_size, coding_of}
use Rattle.records.proofs.Theorems.{reads}
use Rattle.statements.specs.Answers.{checked_of}
use Rattle.readers.specs.Places.{end_after}
use Rattle.readers.proofs.Rows.{before_next}
use Rattle.readers.proofs.Placed.{refused_of_lem}
use Rattle.readers.proofs.Turns.{last_turn}
use Rattle.bodies.proofs.Single.{reads_writable}
use Rattle.entries.specs.Entries.{most_entries, table_size, line_at}
use Rattle.journal_layout.specs.declared.Free.{Free}
use Rattle.journal_layout.specs.Chains.{held_among}
use Rattle.journal_layout.specs.Layout.{lines_of, journal_of, Journal}
use Rattle.journal_layout.specs.Test.{sound_in, held_of, free_in}
use Rattle.journal_layout.proofs.Adding.{lines_append}
use Rattle.journal_layout.proofs.Exact.{one_lines, journal_length, journal_held, sound_journal}
use Rattle.journal_layout.proofs.Freeing.{free_is}
use Rattle.journal.specs.declared.Bounds.{Bounds}
use Rattle.journal.specs.declared.Rejection.{Rejection}
use Rattle.journal.specs.declared.Verdict.{Verdict}
use Rattle.journal.specs.declared.Verdict.TheVariants.{Hold, Store}
use Rattle.journal.specs.Delivery.{rejection, verdict_of, delivered, refused, proceed, run, lines_in, outcome_of, content_by, content_of}
use Rattle.journal.specs.Arrivals.{span, arrivals, spans_of}
use Rattle.journal.specs.Plans.{part_of, parts_of, Within, Inside, nowhere, spans_at, Reading, written_all, Roomy, Deliverable, Plans, Judgeable, Turned}
use Rattle.journal.proofs.Runs.{hold_held, store_new}
use Rattle.journal.proofs.Values.{has_room}
use Rattle.journal.proofs.Written.{layout_all}
use Rattle.journal.proofs.Turning.{largest_file, file_small, Turn, turn_at}

-- ---- one part more

parts_snoc : (xs : List Bounds) (x : Bounds) (b : List ℕ) → parts_of (xs ++ (x ∷ [])) b ≡ parts_of xs b ++ (part_of x b ∷ [])
parts_snoc [] x b = refl
parts_snoc (y ∷ xs) x b = ap (λ l. part_of y b ∷ l) (parts_snoc xs x b)

spans_snoc : (xs : List Bounds) (x : Bounds) → spans_at (xs ++ (x ∷ [])) ≡ spans_at xs ++ (span x.first (x.end - x.first) ∷ [])
spans_snoc [] x = refl
spans_snoc (y ∷ xs) x = ap (λ l. span y.first (y.end - y.first) ∷ l) (spans_snoc xs x)

inside_snoc : (xs : List Bounds) (x : Bounds) (b : List ℕ) → Inside xs b → Within x b → Inside (xs ++ (x ∷ [])) b
inside_snoc [] x b a w = (w, tt)
inside_snoc (y ∷ xs) x b a w = (a.0, inside_snoc xs x b a.1 w)

reading_snoc : (f : Form) (hs : List (List ℕ)) (P : List Statement) (h : List ℕ) (s : Statement) → Reading f hs P → Reads (coding_of f) f h (s ∷ [])
    → Reading f (hs ++ (h ∷ [])) (P ++ (s ∷ []))
reading_snoc f [] [] h s r q = (q, tt)
reading_snoc f [] (t ∷ P) h s r q = absurd r
reading_snoc f (x ∷ hs) [] h s r q = absurd r
reading_snoc f (x ∷ hs) (t ∷ P) h s r q = (r.0, reading_snoc f hs P h s r.1 q)

roomy_snoc : (e k size : ℕ) (P : List Statement) (s : Statement) → Roomy e k size P → e + length P < most_entries → line_at (k + lines_of P + size_of s) ≤ size
    → Roomy e k size (P ++ (s ∷ []))
unfolding lines_of
roomy_snoc e k size [] s r h l = (omega arith, omega arith, tt)
roomy_snoc e k size (t ∷ P) s r h l = (r.0, r.1, roomy_snoc (e + 1) (k + size_of t) size P s r.2 (omega arith) (omega arith))

reading_writable : (f : Form) (hs : List (List ℕ)) (P : List Statement) → Reading f hs P → All (Writable (coding_of f)) P
reading_writable f [] [] r = tt
reading_writable f [] (s ∷ P) r = absurd r
reading_writable f (h ∷ hs) [] r = absurd r
reading_writable f (h ∷ hs) (s ∷ P) r = (reads_writable r.0, reading_writable f hs P r.1)

-- ---- the run

-- i statements are behind, those of P are planned
pub record Dry (j : List ℕ) (f : Form) (b : List ℕ) (parts : List Bounds) (count taken held at : ℕ) : Type 0 where
  pub i : ℕ
  pub P : List Statement
  pub upto : i ≤ length (statements_of (coding_of f) f b)
  pub place : at ≡ records_before i (statements_of (coding_of f) f b) * width_of record_size f
  pub planned : length P ≡ count
  pub named : length parts ≡ most_entries
  pub few : length (held_of j) + count ≤ most_entries
  pub lines : taken ≡ lines_of (held_of j ++ P)
  pub room : taken ≤ lines_in j
  pub inside : Inside (take count parts) b
  pub reads : Reading f (parts_of (take count parts) b) P
  pub roomy : Roomy (length (held_of j)) (lines_of (held_of j)) (length j) P
  pub helds : held ≤ at
  pub short : length b ≤ largest_file
  pub rest : run (lines_in j) (held_of j ++ P) (records_before i (statements_of (coding_of f) f b)) count held (drop i (statements_of (coding_of f) f b))
      ≡ run (lines_in j) (held_of j) 0 0 0 (statements_of (coding_of f) f b)
  pub new : P ++ arrivals (held_of j ++ P) (drop i (statements_of (coding_of f) f b)) ≡ arrivals (held_of j) (statements_of (coding_of f) f b)
  pub spans : spans_at (take count parts)
      ++ spans_of (width_of record_size f) (held_of j ++ P) (records_before i (statements_of (coding_of f) f b)) (drop i (statements_of (coding_of f) f b))
      ≡ spans_of (width_of record_size f) (held_of j) 0 (statements_of (coding_of f) f b)

module _ {j : List ℕ} {f : Form} {b : List ℕ} (given : Deliverable j f b) where
  abbrev H : List Statement
  H = held_of j

  abbrev S : List Statement
  S = statements_of (coding_of f) f b

  abbrev n : ℕ
  n = lines_in j

  abbrev w : ℕ
  w = width_of record_size f

  journal : Journal j H
  journal = sound_journal j given.sound

  file : Reads (coding_of f) f b S
  file = reads f b given.yes

  outcome : outcome_of j f b ≡ run n H 0 0 0 S
  unfolding outcome_of
  outcome = rw (given.sound, given.yes)

  -- what is small
  pub known_end : line_end f ≤ 2
  known_end = ltb-false 2 (line_end f) file.line

  pub free_there : {x : Free} → x ≡ free_in j → (x.entry ≡ length H) × (x.line ≡ lines_of H)
  free_there e = let q = e ∙ free_is journal in (ap (λ y. y.entry) q, ap (λ y. y.line) q)

  -- the journal's lines
  pub journal_lines : length j ≡ table_size + record_size * n
  journal_lines = let l = journal_length journal in omega arith

  pub begins : Dry j f b (replicate most_entries nowhere) 0 (lines_of H) 0 0
  unfolding records_before
  begins =
      let l = journal_lines in
      let k = journal.kept in
      let r = (journal_held journal).holding.room in
      record {
        i = 0;
        P = [];
        upto = omega arith;
        place = omega arith;
        planned = refl;
        named = refl;
        few = let x = k.few in omega arith;
        lines = rw (append-nil H);
        room = omega arith;
        inside = tt;
        reads = tt;
        roomy = tt;
        helds = omega arith;
        short = file_small file;
        rest = rw (append-nil H);
        new = rw (append-nil H);
        spans = rw (append-nil H);
      }

  journal_layout : j ≡ journal_of n H
  journal_layout =
      let l = journal_length journal in
      let z : journal.lines ≡ n = omega arith in
      journal.layout ∙ ap (λ (m : ℕ). journal_of m H) z

  module _ {parts : List Bounds} {count taken held at : ℕ} (d : Dry j f b parts count taken held at) where
    abbrev P : List Statement
    P = d.P

    abbrev xs : List Bounds
    xs = take count parts

    counted : length xs ≡ count
    counted = let m = d.named in let k = d.few in length-take-le count parts (omega arith)

    -- the file is at its end
    pub ends_there : length b ≤ at → Plans j f b (record { count = count; bounds = parts; entry = length H; line = lines_of H; held = held })
    unfolding content_of run arrivals spans_of
    ends_there l =
        let e = last_turn file d.upto d.place l in
        let q : drop d.i S ≡ [] = ap (λ (m : ℕ). drop m S) e ∙ drop-length S in
        let o : outcome_of j f b ≡ delivered (H ++ P) count held = outcome ∙ sym d.rest ∙ ap (run n (H ++ P) (records_before d.i S) count held) q in
        let m = d.named in
        let k = d.few in
        let z : arrivals (H ++ P) (drop d.i S) ≡ [] = ap (arrivals (H ++ P)) q in
        let y : spans_of w (H ++ P) (records_before d.i S) (drop d.i S) ≡ [] = ap (spans_of w (H ++ P) (records_before d.i S)) q in
        record {
          few = omega arith;
          inside = d.inside;
          storable =
              record {
                list = P;
                reads = d.reads;
                room = d.roomy;
              };
          outcome = o;
          content = ap (written_all (length H) (lines_of H) P) journal_layout
              ∙ layout_all n H P journal.kept.alone (reading_writable f (parts_of xs b) P d.reads) (length j) journal_lines d.roomy
              ∙ sym (ap (content_by j) o);
          sound = given.sound;
          new = sym (append-nil P) ∙ sym (ap (λ l. P ++ l) z) ∙ d.new;
          spans = sym (append-nil (spans_at xs)) ∙ sym (ap (λ l. spans_at xs ++ l) y) ∙ d.spans;
          entry = refl;
        }

    -- one statement more
    module _ {end : ℕ} (more : at < length b) (cursor : end ≡ end_after f b at) where
      pub turn_there : Turn f b S d.i at end
      turn_there = turn_at file d.upto d.place more cursor

      -- what `turn` asks for
      pub judgeable : {x : Free} → x ≡ free_in j → Judgeable j f b xs x.entry (n - taken) (record { first = at; end = end })
      judgeable e =
          let g = turn_there in
          let k = d.few in
          let c = counted in
          let h = (free_there e).0 in
          record {
            statement = get_or S d.i no_statement;
            list = P;
            sound = given.sound;
            entry = h;
            few = omega arith;
            planned = d.reads;
            room = ap (λ (l : ℕ). n - l) d.lines;
            within = record { rises = let r = g.rises in omega arith; within = g.within };
            reads = g.reads;
          }

    -- its verdict
    module _ {end : ℕ} (more : at < length b) (cursor : end ≡ end_after f b at) {x : Free} (free : x ≡ free_in j) {v : Result Verdict Rejection}
        (t : Turned j f b xs x.entry (n - taken) (record { first = at; end = end }) v) where
      abbrev g : Turn f b S d.i at end
      g = turn_there more cursor

      abbrev i : ℕ
      i = d.i

      abbrev s : Statement
      s = get_or S i no_statement

      is_verdict : v ≡ verdict_of n (H ++ P) s (records_before i S + 1)
      unfolding judgeable
      is_verdict = t.verdict (judgeable more cursor free) ∙ ap (λ (m : ℕ). verdict_of n (H ++ P) s (m + 1)) g.behind

      step : proceed v
          (run n (H ++ P) (records_before i S + size_of s) count (held + 1) (drop (suc i) S))
          (run n ((H ++ P) ++ (s ∷ [])) (records_before i S + size_of s) (count + 1) held (drop (suc i) S))
          refused
          ≡ run n H 0 0 0 S
      unfolding run
      step = rw is_verdict (rw (drop-cons S i no_statement g.index) at d.rest)

      -- what is still to arrive, and where
      step_new : P ++ pick (held_among s (H ++ P)) (arrivals (H ++ P) (drop (suc i) S)) (s ∷ arrivals ((H ++ P) ++ (s ∷ [])) (drop (suc i) S)) ≡ arrivals H S
      unfolding arrivals
      step_new = rw (drop-cons S i no_statement g.index) at d.new

      step_spans : spans_at xs
          ++ pick (held_among s (H ++ P)) (spans_of w (H ++ P) (records_before i S + size_of s) (drop (suc i) S))
          (span (records_before i S * w) (size_of s * w) ∷ spans_of w ((H ++ P) ++ (s ∷ [])) (records_before i S + size_of s) (drop (suc i) S))
          ≡ spans_of w H 0 S
      unfolding spans_of
      step_spans = rw (drop-cons S i no_statement g.index) at d.spans

      -- refused: nothing is stored
      pub refused_there : {r : Rejection} → v ≡ Err r → outcome_of j f b ≡ refused r
      refused_there h = outcome ∙ sym (rw h at step)

      -- held: one more is held
      pub held_there : v ≡ Ok Hold → Dry j f b parts count taken (held + 1) end
      held_there h =
          let y = sym is_verdict ∙ h in
          let x = g.index in
          record {
            i = i + 1;
            P = P;
            upto = omega arith;
            place = g.next;
            planned = d.planned;
            named = d.named;
            few = d.few;
            lines = d.lines;
            room = d.room;
            inside = d.inside;
            reads = d.reads;
            roomy = d.roomy;
            helds = let z = d.helds in let r = g.rises in omega arith;
            short = d.short;
            rest = rw (before_next i S x, add-one i) (rw h at step);
            new = rw (add-one i) (rw (hold_held n (H ++ P) s (records_before i S + 1) y) at step_new);
            spans = rw (before_next i S x, add-one i) (rw (hold_held n (H ++ P) s (records_before i S + 1) y) at step_spans);
          }

      -- stored: it is planned behind the others
      pub stored_there : v ≡ Ok Store → Dry j f b (set parts count (record { first = at; end = end })) (count + 1) (taken + (end - at) / width_of record_size f) held end
      stored_there h =
          let y = sym is_verdict ∙ h in
          let o = has_room n (H ++ P) s (records_before i S + 1) y in
          let t : held_among s (H ++ P) ≡ false = store_new n (H ++ P) s (records_before i S + 1) y in
          let w' = width_of record_size f in
          let R = spans_of w' ((H ++ P) ++ (s ∷ [])) (records_before i S + size_of s) (drop (suc i) S) in
          let x = g.index in
          let c = d.planned in
          let m = d.named in
          let a : Bounds = record { first = at; end = end } in
          let q = length-append H P in
          let u : length (H ++ P) < most_entries = o.0 in
          let l : size_of s ≤ n - lines_of (H ++ P) = o.1 in
          let k : taken ≡ lines_of (H ++ P) = d.lines in
          let w = lines_append H P in
          let z : (end - at) / width_of record_size f ≡ size_of s = g.size in
          let e : take (count + 1) (set parts count a) ≡ xs ++ (a ∷ []) = take_more_set parts count a (omega arith) in
          record {
            i = i + 1;
            P = P ++ (s ∷ []);
            upto = omega arith;
            place = g.next;
            planned = length-append P (s ∷ []) ∙ ap (λ (v : ℕ). v + 1) c;
            named = length-set parts count a ∙ m;
            few = omega arith;
            lines = ap₂ ◌+◌ k z ∙ sym (lines_append (H ++ P) (s ∷ []) ∙ one_lines s (lines_of (H ++ P))) ∙ ap lines_of (append_assoc H P (s ∷ []));
            room = let r = d.room in omega arith;
            inside = rw e (inside_snoc xs a b d.inside (record { rises = let r = g.rises in omega arith; within = g.within }));
            reads = rw (e, parts_snoc xs a b) (reading_snoc f (parts_of xs b) P (part_of a b) s d.reads g.reads);
            roomy = roomy_snoc (length H) (lines_of H) (length j) P s d.roomy (omega arith) (let v = journal_lines in omega arith);
            helds = let v = d.helds in let r = g.rises in omega arith;
            short = d.short;
            rest = rw (before_next i S x, add-one i, ← append_assoc H P (s ∷ [])) (rw h at step);
            new = rw (add-one i, ← append_assoc H P (s ∷ []), append_assoc P (s ∷ []) (arrivals ((H ++ P) ++ (s ∷ [])) (drop (suc i) S))) (rw t at step_new);
            spans = rw (before_next i S x, add-one i, ← append_assoc H P (s ∷ []), e, spans_snoc xs a, g.len, append_assoc (spans_at xs) (span at (size_of s * w') ∷ []) R)
                (ap (λ (m : ℕ). spans_at xs ++ (span m (size_of s * w') ∷ R)) d.place ∙ rw t at step_spans);
          }

-- ---- the whole plan, at its returns

module _ (j : List ℕ) (f : Form) (b : List ℕ) {t : Bool} (p : t ≡ sound_in j) where
  pub not_sound : not t ≡ true → outcome_of j f b ≡ refused (rejection (refusal_by UnsoundJournal 0))
  unfolding outcome_of
  not_sound h = rw (← p, not-true t h)

  pub not_read : {e : Refusal} → not t ≡ false → Err e ≡ checked_of (check_of (coding_of f) f b) → outcome_of j f b ≡ refused (rejection e)
  unfolding outcome_of
  not_read h c = let x = refused_of_lem (check_of (coding_of f) f b) c in rw (← p, not-false t h, x.2) (ap (λ q. refused (rejection q)) (sym x.3))
