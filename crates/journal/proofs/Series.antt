-- Demand 3 holds of opening and delivery.
use mathlib.Core.Path.{◌≡◌, refl, sym, ap, ◌∙◌}
use mathlib.Core.Bool.{Bool, true, false, ◌||◌}
use mathlib.Core.List.{List, [], ◌∷◌, ◌++◌, append-nil, append_assoc}
use Prim.Native.Nat.{ℕ, suc, ◌+◌}
use native.Mathlib.Nat.{zero-add}
use native.Mathlib.Omega.{arith}
use lib.ListN.{length}
use lib.IntN.{ℤ, ◌+ℤ◌}
use Rattle.std.specs.Prelude.{Result, Ok, Err}
use Rattle.zones.specs.Choice.{pick}
use Rattle.zones.proofs.Copies.{equal_same}
use Rattle.framing.specs.declared.Form.{Form}
use Rattle.framing.specs.Files.{All, unknown_end}
use Rattle.grammar.specs.declared.Key.{Key}
use Rattle.grammar.specs.Statements.{Movement, Statement, plus}
use Rattle.grammar.specs.Files.{canonical, relined, Reads, Writable, statements_of}
use Rattle.grammar.specs.Parts.{size_of}
use Rattle.records.specs.July.{july, coding_of}
use Rattle.records.proofs.Theorems.{counts, reads, unique, reads_canonical, relined_reads, relined_own}
use Rattle.bodies.specs.Bodies.{body_of, identical}
use Rattle.journal_layout.specs.Chains.{held_among, Chained, of_account, NeverFalls}
use Rattle.journal_layout.specs.Layout.{is_length, journal_of, Journal, opened_of}
use Rattle.journal_layout.proofs.Chain.{chain_never_falls}
use Rattle.journal_layout.proofs.Accounts.{all_account}
use Rattle.journal.specs.declared.Delivery.{Delivery}
use Rattle.journal.specs.declared.Rejection.{Rejection}
use Rattle.journal.specs.Delivery.{Outcome, delivered, refused, run, lines_in, outcome_of, content_of}
use Rattle.journal.specs.Answers.{done, answer_of, Delivers}
use Rattle.journal.specs.Arrivals.{arrivals, movements_in, Summed}
use Rattle.journal.specs.Series.{Event, deliver, Deliver, accepted_by, after_one, after, held_after_one, held_along, held_after, accepted, WhollyHeld, Demand3}
use Rattle.journal.proofs.Values.{held_append}
use Rattle.journal.proofs.Runs.{held_verdict}
use Rattle.journal.proofs.Delivered.{held_then, lines_are, outcome_by_lem, Stored, stored, content_long, then_journal, opened_long, opened}

-- ---- arrivals

-- in two rows
arrivals_append : (H A B : List Statement) → arrivals H (A ++ B) ≡ arrivals H A ++ arrivals (H ++ arrivals H A) B
unfolding arrivals
arrivals_append H [] B = rw (append-nil H)
arrivals_append H (s ∷ A) B = by (held_among s H) (arrivals_append H A B) (arrivals_append (H ++ (s ∷ [])) A B)
  where
    by : (t : Bool) → arrivals H (A ++ B) ≡ arrivals H A ++ arrivals (H ++ arrivals H A) B
        → arrivals (H ++ (s ∷ [])) (A ++ B) ≡ arrivals (H ++ (s ∷ [])) A ++ arrivals ((H ++ (s ∷ [])) ++ arrivals (H ++ (s ∷ [])) A) B
        → pick t (arrivals H (A ++ B)) (s ∷ arrivals (H ++ (s ∷ [])) (A ++ B))
        ≡ pick t (arrivals H A) (s ∷ arrivals (H ++ (s ∷ [])) A) ++ arrivals (H ++ pick t (arrivals H A) (s ∷ arrivals (H ++ (s ∷ [])) A)) B
    by true i j = i
    by false i j = ap (λ l. s ∷ l) (j ∙ rw (append_assoc H (s ∷ []) (arrivals (H ++ (s ∷ [])) A)))

-- ---- any delivery

-- those of the accepted files come behind the statements held before, in order of first arrival
pub held_along_lem : (D : Deliver) (j : List ℕ) (H : List Statement) (es : List Event) → held_along D j H es ≡ H ++ arrivals H (accepted D j es)
unfolding held_along accepted arrivals
held_along_lem D j H [] = sym (append-nil H)
held_along_lem D j H (deliver f b ∷ es) =
    let A = accepted_by (D j f b).answer (statements_of (coding_of f) f b) in
    let B = accepted D (D j f b).journal es in
    rw (arrivals_append H A B, ← append_assoc H (arrivals H A) (arrivals (H ++ arrivals H A) B)) (held_along_lem D (D j f b).journal (H ++ arrivals H A) es)

-- IN THE PAPER'S WORDS: the statements held are those of the accepted files, in order of first arrival
pub held_arrivals : (D : Deliver) (j : List ℕ) (es : List Event) → held_after D j es ≡ arrivals [] (accepted D j es)
held_arrivals D j es = held_along_lem D j [] es

-- a series in two
after_append : (D : Deliver) (j : List ℕ) (es fs : List Event) → after D j (es ++ fs) ≡ after D (after D j es) fs
unfolding after
after_append D j [] fs = refl
after_append D j (e ∷ es) fs = after_append D (after_one D j e) es fs

-- ---- this delivery

abbrev pub ours : Deliver
ours j f b = record { answer = answer_of (outcome_of j f b); journal = content_of j f b }

-- one delivery: what it adds
one_more : {j : List ℕ} {H : List Statement} → Journal j H → (f : Form) (b : List ℕ)
    → held_then H (outcome_of j f b) ≡ H ++ arrivals H (accepted_by (answer_of (outcome_of j f b)) (statements_of (coding_of f) f b))
unfolding arrivals
one_more {j} {H} g f b = by (outcome_of j f b) refl
  where
    by : (o : Outcome) → outcome_of j f b ≡ o → held_then H o ≡ H ++ arrivals H (accepted_by (answer_of o) (statements_of (coding_of f) f b))
    by (delivered L x y) e = (stored g f b e).list
    by (refused r) e = sym (append-nil H)

-- one event: what it leaves
one_event : {j : List ℕ} {H : List Statement} → Journal j H → (e : Event) → Journal (after_one ours j e) (held_after_one ours j H e)
one_event g (deliver f b) = rw (one_more g f b) at (then_journal g f b)

-- a series: what it leaves
pub series : {j : List ℕ} {H : List Statement} → Journal j H → (es : List Event) → Journal (after ours j es) (held_along ours j H es)
unfolding after held_along
series g [] = g
series {j = j} {H = H} g (e ∷ es) = series {j = after_one ours j e} {H = held_after_one ours j H e} (one_event g e) es

-- an event keeps the journal's length
event_long : {j : List ℕ} {H : List Statement} → Journal j H → (e : Event) → length (after_one ours j e) ≡ length j
event_long g (deliver f b) = content_long g f b

-- so does a series
series_long : {j : List ℕ} {H : List Statement} → Journal j H → (es : List Event) → length (after ours j es) ≡ length j
unfolding after
series_long g [] = refl
series_long {j = j} {H = H} g (e ∷ es) = series_long {j = after_one ours j e} {H = held_after_one ours j H e} (one_event g e) es ∙ event_long g e

-- ---- the sum of an account's movements

plus_append : (z : ℤ) (a b : List Movement) → plus z (a ++ b) ≡ plus (plus z a) b
unfolding plus
plus_append z [] b = refl
plus_append z (m ∷ a) b = plus_append (z +ℤ m.posting.amount) a b

-- a chain of statements, each with its own sum
pub chain_summed : (L : List Statement) → Chained L → All (Writable july) L → Summed L
unfolding movements_in
chain_summed [] c w = tt
chain_summed (s ∷ []) c w = rw (append-nil s.movements) w.0.valid.sum
chain_summed (s ∷ t ∷ ts) c w =
    plus_append s.old_balance s.movements (movements_in (t ∷ ts))
    ∙ ap (λ z. plus z (movements_in (t ∷ ts))) (w.0.valid.sum ∙ c.0.balance)
    ∙ chain_summed (t ∷ ts) c.1 w.1

pub journal_summed : {j : List ℕ} {ss : List Statement} → Journal j ss → (k : Key) → Summed (of_account k ss)
journal_summed {j} {ss} g k = chain_summed (of_account k ss) (g.kept.chained k) (all_account (Writable july) k ss g.kept.alone)

pub journal_never_falls : {j : List ℕ} {ss : List Statement} → Journal j ss → (k : Key) → NeverFalls (of_account k ss)
journal_never_falls {j} {ss} g k = chain_never_falls (of_account k ss) (g.kept.chained k) (all_account (Writable july) k ss g.kept.alone)

-- ---- sent again

-- held by these
abbrev pub HeldBy : List Statement → List Statement → Type 0
HeldBy L ss = All (λ s. held_among s L ≡ true) ss

held_more : (L M ss : List Statement) → HeldBy L ss → HeldBy (L ++ M) ss
held_more L M [] h = tt
held_more L M (s ∷ ss) h = (rw (held_append s L M, h.0), held_more L M ss h.1)

-- what was held is held after an event
keeps_held : (D : Deliver) (j : List ℕ) (H ss : List Statement) (e : Event) → HeldBy H ss → HeldBy (held_after_one D j H e) ss
keeps_held D j H ss (deliver f b) h = held_more H (arrivals H (accepted_by (D j f b).answer (statements_of (coding_of f) f b))) ss h

-- and after a series
ever_held : (D : Deliver) (j : List ℕ) (H ss : List Statement) (es : List Event) → HeldBy H ss → HeldBy (held_along D j H es) ss
unfolding held_along
ever_held D j H ss [] h = h
ever_held D j H ss (e ∷ es) h = ever_held D (after_one D j e) (held_after_one D j H e) ss es (keeps_held D j H ss e h)

-- a statement is held where it stands
held_self : (s : Statement) (H M : List Statement) → held_among s (H ++ (s ∷ M)) ≡ true
unfolding held_among identical
held_self s [] M = rw (equal_same (body_of s))
held_self s (h ∷ H) M = by (identical h s) (held_self s H M)
  where
    by : (t : Bool) → held_among s (H ++ (s ∷ M)) ≡ true → (t || held_among s (H ++ (s ∷ M))) ≡ true
    by true e = refl
    by false e = e

-- what arrived is held
pub arrived_held : (H ss : List Statement) → HeldBy (H ++ arrivals H ss) ss
unfolding arrivals
arrived_held H [] = tt
arrived_held H (s ∷ ss) = by (held_among s H) refl (arrived_held H ss) (arrived_held (H ++ (s ∷ [])) ss)
  where
    by : (t : Bool) → held_among s H ≡ t → HeldBy (H ++ arrivals H ss) ss → HeldBy ((H ++ (s ∷ [])) ++ arrivals (H ++ (s ∷ [])) ss) ss
        → HeldBy (H ++ pick t (arrivals H ss) (s ∷ arrivals (H ++ (s ∷ [])) ss)) (s ∷ ss)
    by true e i j = (rw (held_append s H (arrivals H ss), e), i)
    by false e i j = (held_self s H (arrivals (H ++ (s ∷ [])) ss), rw (append_assoc H (s ∷ []) (arrivals (H ++ (s ∷ [])) ss)) at j)

-- a run of what is held stores nothing
run_held : (n : ℕ) (hs : List Statement) (behind stored held : ℕ) (ss : List Statement) → HeldBy hs ss
    → run n hs behind stored held ss ≡ delivered hs stored (held + length ss)
unfolding run
run_held n hs behind stored held [] h = let z : held + 0 ≡ held = omega arith in rw z
run_held n hs behind stored held (s ∷ ss) h =
    let z : held + 1 + length ss ≡ held + suc (length ss) = omega arith in
    rw (held_verdict n hs s (behind + 1) h.0) (run_held n hs (behind + size_of s) stored (held + 1) ss h.1 ∙ ap (delivered hs stored) z)

-- so a file whose statements are all held changes nothing
pub wholly_held : {j : List ℕ} {L ss : List Statement} → Journal j L → (g : Form) (c : List ℕ) → Reads (coding_of g) g c ss → HeldBy L ss
    → WhollyHeld ours j g c ss
unfolding content_of
wholly_held {j} {L} {ss} d g c r h =
    let a = counts r in
    let q : statements_of (coding_of g) g c ≡ ss = unique (reads g c a) r in
    let o : outcome_of j g c ≡ delivered L 0 (length ss) =
    outcome_by_lem d g c ∙ rw (a, q) (run_held (lines_in j) L 0 0 0 ss h ∙ ap (delivered L 0) (zero-add (length ss))) in
    let l : journal_of (lines_in j) L ≡ j = rw (lines_are d) (sym d.layout) in
    rw (o, l)

-- the two counts of an answer
abbrev stores : Result Delivery Rejection → ℕ
stores (Ok d) = d.stored
stores (Err r) = 0

abbrev holds : Result Delivery Rejection → ℕ
holds (Ok d) = d.held
holds (Err r) = 0

-- an answer without a refusal
pub answered : (o : Outcome) {s h : ℕ} → answer_of o ≡ done s h → (L : List Statement) × (o ≡ delivered L s h)
answered (delivered L x y) {s} {h} e = let p : x ≡ s = ap stores e in let q : y ≡ h = ap holds e in (L, rw (p, q))
answered (refused r) e = absurd (let z : ◌≡◌ {A = ℕ} 0 1 = cc in omega arith)

-- ---- DEMAND 3

module _ (j : List ℕ) (right : is_length (length j) ≡ true) where
  from_opening : (es : List Event) → Journal (after ours (opened_of j) es) (held_after ours (opened_of j) es)
  from_opening es = series (opened j right) es

  module _ (es : List Event) (f : Form) (b : List ℕ) (s h : ℕ) (yes : (ours (after ours (opened_of j) es) f b).answer ≡ done s h) where
    -- what this file came to
    abbrev came : (L : List Statement) × Stored (from_opening es) f b L s h
    came = let y = answered (outcome_of (after ours (opened_of j) es) f b) yes in (y.0, stored (from_opening es) f b y.1)

    -- a file of the same statements is wholly held ever after
    sent_alike : (later : List Event) (g : Form) (c : List ℕ) → Reads (coding_of g) g c (statements_of (coding_of f) f b)
        → WhollyHeld ours (after ours (opened_of j) (es ++ (deliver f b ∷ later))) g c (statements_of (coding_of f) f b)
    unfolding after
    sent_alike later g c r =
        let J = after ours (opened_of j) es in
        let H = held_after ours (opened_of j) es in
        let x = came.1 in
        let q : HeldBy came.0 (statements_of (coding_of f) f b) = rw x.list (arrived_held H (statements_of (coding_of f) f b)) in
        rw (after_append ours (opened_of j) es (deliver f b ∷ later))
        (wholly_held (series x.journal later) g c r (ever_held ours (content_of J f b) came.0 (statements_of (coding_of f) f b) later q))

    -- so the file with any of the three line ends
    sent_again : (later : List Event) (g : Form) → unknown_end g ≡ false
        → WhollyHeld ours (after ours (opened_of j) (es ++ (deliver f b ∷ later))) g (relined (coding_of f) f g b) (statements_of (coding_of f) f b)
    sent_again later g k = sent_alike later g (relined (coding_of f) f g b) (relined_reads came.1.read k)

    -- and the file with either zero wherever it has one
    pub either_zero : (later : List Event) (c : List ℕ) → canonical (coding_of f) f c ≡ canonical (coding_of f) f b
        → WhollyHeld ours (after ours (opened_of j) (es ++ (deliver f b ∷ later))) f c (statements_of (coding_of f) f b)
    either_zero later c z = sent_alike later f c (reads_canonical.1 (rw z (reads_canonical.0 came.1.read)))

pub demand3 : Demand3 opened_of ours
demand3 =
    record {
      holds = from_opening;
      room = λ j h es. series_long (opened j h) es ∙ opened_long j h;
      distinct = λ j h es. (from_opening j h es).kept.distinct;
      chained = λ j h es k. (from_opening j h es).kept.chained k;
      summed = λ j h es k. journal_summed (from_opening j h es) k;
      reads = λ j h es f b s y e. (came j h es f b s y e).1.read;
      counts = λ j h es f b s y e. let x = (came j h es f b s y e).1 in (x.stores, x.all);
      again = sent_again;
      alike = sent_alike;
    }

-- whatever delivers by the contract is this delivery
pub delivers_ours : (D : Deliver) → ((j : List ℕ) (f : Form) (b : List ℕ) → Delivers j f b (D j f b).answer (D j f b).journal) → D ≡ ours
delivers_ours D d = λ i j f b. record { answer = (d j f b).answer i; journal = (d j f b).content i }

-- whatever opens and delivers by the contracts meets demand 3
pub deliver_demand3 : (O : List ℕ → List ℕ) (D : Deliver) → ((j : List ℕ) → O j ≡ opened_of j)
    → ((j : List ℕ) (f : Form) (b : List ℕ) → Delivers j f b (D j f b).answer (D j f b).journal) → Demand3 O D
deliver_demand3 O D o d = let p : O ≡ opened_of = λ i j. o j i in rw (p, delivers_ours D d) demand3

-- whatever meets it holds the very file wholly ever after: its own line end is one of the three
pub same_again : {O : List ℕ → List ℕ} {D : Deliver} → Demand3 O D
    → (j : List ℕ) → is_length (length j) ≡ true → (es : List Event) (f : Form) (b : List ℕ) (s h : ℕ) → (D (after D (O j) es) f b).answer ≡ done s h
    → (later : List Event) → WhollyHeld D (after D (O j) (es ++ (deliver f b ∷ later))) f b (statements_of (coding_of f) f b)
same_again d j l es f b s h e later =
    let r = d.reads j l es f b s h e in rw (relined_own r) at (d.again j l es f b s h e later f r.line)

-- and along each account's chain new dates never fall
pub dates_never_fall : {O : List ℕ → List ℕ} {D : Deliver} → Demand3 O D
    → (j : List ℕ) → is_length (length j) ≡ true → (es : List Event) (k : Key) → NeverFalls (of_account k (held_after D (O j) es))
dates_never_fall d j l es k = journal_never_falls (d.holds j l es) k
