-- One estate's bank trouble is nobody else's. What an account has of a run is what it would have of its own deliveries alone, in a journal of its own that is as long: there its statements are the same, and no less room is left. So two runs with the same deliveries for it are one.
use mathlib.Core.Path.{◌≡◌, refl, sym, ap, ap₂, ◌∙◌}
use mathlib.Core.Bool.{Bool, true, false}
use mathlib.Core.List.{List, [], ◌∷◌, ◌++◌, append-nil}
use Prim.Native.Nat.{ℕ, ◌+◌, ◌-◌, ◌≤◌}
use native.Mathlib.Omega.{arith}
use borrow.Author.Tests.{lt-ltb, le-leb, ltb-true, leb-true}
use lib.Dec.{leb, ltb}
use lib.ListN.{length, length-append}
use Rattle.std.specs.Prelude.{Result, Ok, Err}
use Rattle.zones.specs.Choice.{pick}
use Rattle.framing.specs.declared.Form.{Form}
use Rattle.framing.specs.Files.{All}
use Rattle.framing.specs.Refusals.{reason_number, reason_of, refusal_of, refusal_by}
use Rattle.framing.specs.declared.refusals.Reason.TheVariants.{UnsoundJournal, FullContents, FullJournal}
use Rattle.grammar.specs.declared.Key.{Key}
use Rattle.grammar.specs.Record.{same_key}
use Rattle.grammar.specs.Answer as Checks
use Rattle.grammar.specs.Answer.{Answer, accepted}
use Rattle.grammar.specs.Statements.{Statement}
use Rattle.grammar.specs.Files.{Reads, Writable, statements_of, check_of}
use Rattle.grammar.specs.Parts.{size_of}
use Rattle.grammar.proofs.Tests.{clash, same_key_true}
use Rattle.records.specs.July.{july, coding_of}
use Rattle.records.proofs.Theorems.{reads, counts, unique}
use Rattle.statements.proofs.Listed.{check_listed}
use Rattle.entries.specs.Entries.{most_entries}
use Rattle.journal_layout.specs.Chains.{held_among, judgement_of, follows_by, of_account}
use Rattle.journal_layout.specs.Layout.{most_lines, is_length, lines_of, journal_of, Journal, opened_of}
use Rattle.journal_layout.specs.Test.{sound_in}
use Rattle.journal_layout.proofs.Adding.{lines_append, all_append}
use Rattle.journal_layout.proofs.Chain.{account_append}
use Rattle.journal_layout.proofs.Accounts.{few_account, lines_account, account_again, account_kept}
use Rattle.journal_layout.proofs.Exact.{sound_unique, journal_long}
use Rattle.journal.specs.declared.Rejection.{Rejection}
use Rattle.journal.specs.declared.Delivery.{Delivery}
use Rattle.journal.specs.declared.Verdict.TheVariants.{Hold, Store}
use Rattle.journal.specs.Delivery.{rejection, not_next, is_held, verdict_by, verdict_of, Outcome, delivered, refused, proceed, run, lines_in, outcome_by, outcome_of, content_of}
use Rattle.journal.specs.Answers.{answer_of, Delivers}
use Rattle.journal.specs.Arrivals.{arrivals}
use Rattle.journal.specs.Series.{Deliver, after, WhollyHeld}
use Rattle.journal.specs.Runs.{Sent, EachStatement, Named, Apart, events_of, for_account, answers_of, answers_for, HadRoom}
use Rattle.journal.specs.Isolation.{SameFor, Isolation}
use Rattle.journal.proofs.Accounts.{verdict_account}
use Rattle.journal.proofs.Delivered.{file_writable, held_then, unchanged, lines_are, outcome_by_lem, stored, lines_stay, then_journal, opened_lines, opened}
use Rattle.journal.proofs.Series.{ours, series, wholly_held, delivers_ours}

-- ---- two journals beside each other

-- G in a journal of m lines, beside H in one of n lines: the same statements of the account k, no more entries taken, and no fewer lines left
record Beside (k : Key) (n : ℕ) (H : List Statement) (m : ℕ) (G : List Statement) : Type 0 where
  same : of_account k H ≡ of_account k G
  entries : length G ≤ length H
  left : n - lines_of H ≤ m - lines_of G

-- one more of the account in both
beside_store : {k : Key} {n m : ℕ} {H G : List Statement} (s : Statement) → Beside k n H m G → Beside k n (H ++ (s ∷ [])) m (G ++ (s ∷ []))
beside_store {k} {n} {m} {H} {G} s b =
    record {
      same = account_append k H (s ∷ []) ∙ ap (λ l. l ++ of_account k (s ∷ [])) b.same ∙ sym (account_append k G (s ∷ []));
      entries = let e = b.entries in omega (arith, length-append H (s ∷ []), length-append G (s ∷ []));
      left = let l = b.left in omega (arith, lines_append H (s ∷ []), lines_append G (s ∷ []));
    }

-- others in the first
beside_others : {k : Key} {n m : ℕ} {H G : List Statement} (A : List Statement) → of_account k A ≡ [] → Beside k n H m G → Beside k n (H ++ A) m G
beside_others {k} {n} {m} {H} {G} A o b =
    record {
      same = account_append k H A ∙ rw o (append-nil (of_account k H)) ∙ b.same;
      entries = let e = b.entries in omega (arith, length-append H A);
      left = let l = b.left in omega (arith, lines_append H A);
    }

-- ---- a file of the account's statements

module _ (k : Key) (n : ℕ) (H : List Statement) (m : ℕ) (G : List Statement) (b : Beside k n H m G) where
  -- two outcomes: the same answer, and beside each other what is held then
  record Alike (o p : Outcome) : Type 0 where
    answer : answer_of o ≡ answer_of p
    then : Beside k n (held_then H o) m (held_then G p)

  -- A step. Of the four tests of a verdict the first two are the same; where there is an entry and lines in the first journal, there are in the second.
  step : (held follows entry lines entry' lines' : Bool) (r : Rejection) (at : ℕ) (X Y X' Y' : Outcome) → (entry ≡ true → entry' ≡ true) → (lines ≡ true → lines' ≡ true)
      → HadRoom (answer_of (proceed (pick held (Ok Hold) (pick follows (pick entry (pick lines (Ok Store) (Err (rejection (refusal_by FullJournal at)))) (Err (rejection (refusal_by FullContents at)))) (Err r))) X Y refused))
      → (HadRoom (answer_of X) → Alike X X') → (HadRoom (answer_of Y) → Alike Y Y')
      → Alike (proceed (pick held (Ok Hold) (pick follows (pick entry (pick lines (Ok Store) (Err (rejection (refusal_by FullJournal at)))) (Err (rejection (refusal_by FullContents at)))) (Err r))) X Y refused)
      (proceed (pick held (Ok Hold) (pick follows (pick entry' (pick lines' (Ok Store) (Err (rejection (refusal_by FullJournal at)))) (Err (rejection (refusal_by FullContents at)))) (Err r))) X' Y' refused)
  step true f e l e' l' r at X Y X' Y' p q h i j = i h
  step false false e l e' l' r at X Y X' Y' p q h i j = record { answer = refl; then = b }
  step false true false l e' l' r at X Y X' Y' p q h i j = absurd (h.not_23 refl)
  step false true true false e' l' r at X Y X' Y' p q h i j = absurd (h.not_24 refl)
  step false true true true e' l' r at X Y X' Y' p q h i j = rw (p refl, q refl) (j h)

  own_run : (hs gs : List Statement) (behind stored held : ℕ) (ss : List Statement) → Beside k n hs m gs → All (Writable july) hs → All (Writable july) gs → All (Writable july) ss
      → All (λ t. same_key t.key k ≡ true) ss → HadRoom (answer_of (run n hs behind stored held ss))
      → Alike (run n hs behind stored held ss) (run m gs behind stored held ss)
  unfolding run
  own_run hs gs behind stored held [] c v u w o h = record { answer = refl; then = c }
  own_run hs gs behind stored held (s ∷ ss) c v u w o h =
      let J = judgement_of s (of_account k hs) in
      let a = same_key_true s.key k o.0 in
      let p : verdict_of n hs s (behind + 1) ≡ verdict_by J s.old_date s.old_balance (length hs) (n - lines_of hs) (size_of s) (behind + 1) =
      verdict_account n s hs (behind + 1) w.0 v ∙ ap (λ x. verdict_by (judgement_of s (of_account x hs)) s.old_date s.old_balance (length hs) (n - lines_of hs) (size_of s) (behind + 1)) a in
      let q : verdict_of m gs s (behind + 1) ≡ verdict_by J s.old_date s.old_balance (length gs) (m - lines_of gs) (size_of s) (behind + 1) =
      verdict_account m s gs (behind + 1) w.0 u
      ∙ ap (λ x. verdict_by (judgement_of s (of_account x gs)) s.old_date s.old_balance (length gs) (m - lines_of gs) (size_of s) (behind + 1)) a
      ∙ ap (λ l. verdict_by (judgement_of s l) s.old_date s.old_balance (length gs) (m - lines_of gs) (size_of s) (behind + 1)) (sym c.same) in
      let e = c.entries in
      let l = c.left in
      rw (p, q)
      (step (is_held J) (follows_by J s.old_date s.old_balance) (ltb (length hs) most_entries) (leb (size_of s) (n - lines_of hs)) (ltb (length gs) most_entries) (leb (size_of s) (m - lines_of gs)) (not_next J (behind + 1)) (behind + 1) _ _ _ _
      (λ t. lt-ltb (length gs) most_entries (let z = ltb-true (length hs) most_entries t in omega arith))
      (λ t. le-leb (size_of s) (m - lines_of gs) (let z = leb-true (size_of s) (n - lines_of hs) t in omega arith))
      (rw p at h)
      (λ y. own_run hs gs (behind + size_of s) stored (held + 1) ss c v u w.1 o.1 y)
      (λ y.
      own_run (hs ++ (s ∷ [])) (gs ++ (s ∷ [])) (behind + size_of s) (stored + 1) held ss (beside_store s c) (all_append (Writable july) hs (s ∷ []) v (w.0, tt))
      (all_append (Writable july) gs (s ∷ []) u (w.0, tt)) w.1 o.1 y))

-- ---- a delivery

-- none of the account's
account_none : (k : Key) (ss : List Statement) → All (λ t. same_key t.key k ≡ false) ss → of_account k ss ≡ []
unfolding of_account
account_none k [] o = refl
account_none k (s ∷ ss) o = rw o.0 (account_none k ss o.1)

-- what arrives is of the file
arrivals_of : (P : Statement → Type 0) (hs ss : List Statement) → All P ss → All P (arrivals hs ss)
unfolding arrivals
arrivals_of P hs [] o = tt
arrivals_of P hs (s ∷ ss) o = by (held_among s hs) (arrivals_of P hs ss o.1) (arrivals_of P (hs ++ (s ∷ [])) ss o.1)
  where
    by : (t : Bool) → All P (arrivals hs ss) → All P (arrivals (hs ++ (s ∷ [])) ss) → All P (pick t (arrivals hs ss) (s ∷ arrivals (hs ++ (s ∷ [])) ss))
    by true i j = i
    by false i j = (o.0, j)

module _ {i : List ℕ} {H : List Statement} (g : Journal i H) (f : Form) (b : List ℕ) where
  -- ANOTHER'S: the account has nothing of it
  others_delivery : {k : Key} {m : ℕ} {G : List Statement} → EachStatement (λ t. same_key t.key k ≡ false) f b → Beside k (lines_in i) H m G
      → Beside k (lines_in (content_of i f b)) (held_then H (outcome_of i f b)) m G
  others_delivery {k} {m} {G} o c = rw (lines_stay g f b) (by (outcome_of i f b) refl)
    where
      by : (z : Outcome) → outcome_of i f b ≡ z → Beside k (lines_in i) (held_then H z) m G
      by (delivered L x y) e =
          let t = stored g f b e in
          let ss = statements_of (coding_of f) f b in
          rw t.list (beside_others (arrivals H ss) (account_none k (arrivals H ss) (arrivals_of (λ t. same_key t.key k ≡ false) H ss (o ss t.read))) c)
      by (refused r) e = c

  -- ITS OWN, to two journals beside each other: short of 23 and 24 the same answer, and they stay so
  own_delivery : {k : Key} {j : List ℕ} {G : List Statement} → Journal j G → EachStatement (λ t. same_key t.key k ≡ true) f b → (c : Beside k (lines_in i) H (lines_in j) G)
      → HadRoom (answer_of (outcome_of i f b)) → Alike k (lines_in i) H (lines_in j) G c (outcome_of i f b) (outcome_of j f b)
  own_delivery {k} {j} {G} h o c r = rw (outcome_by_lem g f b, outcome_by_lem h f b) (by (check_of (coding_of f) f b) refl (rw (outcome_by_lem g f b) at r))
    where
      ss : List Statement
      ss = statements_of (coding_of f) f b

      by : (a : Answer) → check_of (coding_of f) f b ≡ a → HadRoom (answer_of (outcome_by a (run (lines_in i) H 0 0 0 ss)))
          → Alike k (lines_in i) H (lines_in j) G c (outcome_by a (run (lines_in i) H 0 0 0 ss)) (outcome_by a (run (lines_in j) G 0 0 0 ss))
      by (accepted n) q t =
          let x = reads f b q in own_run k (lines_in i) H (lines_in j) G c H G 0 0 0 ss c g.kept.alone h.kept.alone (file_writable x) (o ss x) t
      by (Checks.refused n at) q t = record { answer = refl; then = c }

-- ---- a run

-- one that is named as the account's, and one that is named as another's
module _ (k : Key) (s : Sent) (R : List Sent) where
  answers_own : (D : Deliver) (j : List ℕ) → same_key s.name k ≡ true
      → answers_for D k j (s ∷ R) ≡ (D j s.form s.file).answer ∷ answers_for D k (D j s.form s.file).journal R
  unfolding answers_for
  answers_own D j e = rw e

  answers_others : (D : Deliver) (j : List ℕ) → same_key s.name k ≡ false → answers_for D k j (s ∷ R) ≡ answers_for D k (D j s.form s.file).journal R
  unfolding answers_for
  answers_others D j e = rw e

  for_own : same_key s.name k ≡ true → for_account k (s ∷ R) ≡ s ∷ for_account k R
  unfolding for_account
  for_own e = rw e

  for_others : same_key s.name k ≡ false → for_account k (s ∷ R) ≡ for_account k R
  unfolding for_account
  for_others e = rw e

-- what the account has of a run on a journal is what it has of its own deliveries on one beside it
beside_run : (k : Key) (R : List Sent) → Apart k R → {i j : List ℕ} {H G : List Statement} → Journal i H → Journal j G → Beside k (lines_in i) H (lines_in j) G
    → All HadRoom (answers_for ours k i R) → SameFor ours k i R j (for_account k R)
unfolding answers_for events_of for_account after
beside_run k [] a g h c r = record { answers = refl; held = λ P Q p q. ap (of_account k) (sound_unique p g) ∙ c.same ∙ ap (of_account k) (sound_unique h q) }
beside_run k (s ∷ R) a {i} {j} {H} {G} g h c r =
    by (same_key s.name k) refl (λ j' G' h' z w. beside_run k R a.1 (then_journal g s.form s.file) h' z w)
  where
    I : List ℕ
    I = content_of i s.form s.file

    by : (t : Bool) → same_key s.name k ≡ t
        → ((j' : List ℕ) (G' : List Statement) → Journal j' G' → Beside k (lines_in I) (held_then H (outcome_of i s.form s.file)) (lines_in j') G'
        → All HadRoom (answers_for ours k I R) → SameFor ours k I R j' (for_account k R))
        → SameFor ours k i (s ∷ R) j (for_account k (s ∷ R))
    by true e next =
        let u = rw (answers_own k s R ours i e) at r in
        let d = own_delivery g s.form s.file h (λ ss x. rw e at (a.0 ss x)) c u.0 in
        let z = rw (← lines_stay g s.form s.file, ← lines_stay h s.form s.file) at d.then in
        let m = next _ _ (then_journal h s.form s.file) z u.1 in
        rw (for_own k s R e)
        (record {
          answers = answers_own k s R ours i e ∙ ap₂ ◌∷◌ d.answer m.answers ∙ sym (answers_own k s (for_account k R) ours j e);
          held = m.held;
        })
    by false e next =
        let m = next _ _ h (others_delivery g s.form s.file (λ ss x. rw e at (a.0 ss x)) c) (rw (answers_others k s R ours i e) at r) in
        rw (for_others k s R e) (record { answers = answers_others k s R ours i e ∙ m.answers; held = m.held })

-- ---- two runs

-- a journal is beside the longest one of the account's own statements alone
beside_own : (k : Key) {j : List ℕ} {H A : List Statement} → Journal j H → of_account k H ≡ A → Beside k (lines_in j) H most_lines A
beside_own k {j} {H} {A} g e =
    let m = g.most in
    let n = lines_are g in
    rw (← e)
    (record {
      same = sym (account_again k H);
      entries = few_account k H;
      left = omega (arith, lines_account k H);
    })

-- so each of two runs is the account's own deliveries on that one
from_then_on : (k : Key) (R S : List Sent) → Apart k R → Apart k S → for_account k R ≡ for_account k S
    → (i j : List ℕ) (P Q : List Statement) → Journal i P → Journal j Q → of_account k P ≡ of_account k Q
    → All HadRoom (answers_for ours k i R) → All HadRoom (answers_for ours k j S) → SameFor ours k i R j S
from_then_on k R S a c same i j P Q g h e r t =
    let o : Journal (journal_of most_lines (of_account k P)) (of_account k P) =
    record { lines = most_lines; most = omega arith; layout = refl; kept = account_kept g.most g.kept k } in
    let l = lines_are o in
    let x = beside_run k R a g o (rw l (beside_own k g refl)) r in
    let y = beside_run k S c h o (rw l (beside_own k h (sym e))) t in
    let z : SameFor ours k j S (journal_of most_lines (of_account k P)) (for_account k R) = rw same y in
    let w = series o (events_of (for_account k R)) in
    record { answers = x.answers ∙ sym z.answers; held = λ M N u v. x.held M _ u w ∙ sym (z.held N _ v w) }

-- ---- from an opening

isolated : (k : Key) (R S : List Sent) → Apart k R → Apart k S → for_account k R ≡ for_account k S
    → (i j : List ℕ) → is_length (length i) ≡ true → is_length (length j) ≡ true
    → All HadRoom (answers_for ours k (opened_of i) R) → All HadRoom (answers_for ours k (opened_of j) S) → SameFor ours k (opened_of i) R (opened_of j) S
isolated k R S a c same i j p q r t = from_then_on k R S a c same (opened_of i) (opened_of j) [] [] (opened i p) (opened j q) refl r t

own_journal : (k : Key) (R : List Sent) → Apart k R → (i j : List ℕ) → is_length (length i) ≡ true → is_length (length j) ≡ true → length i ≤ length j
    → All HadRoom (answers_for ours k (opened_of i) R) → SameFor ours k (opened_of i) R (opened_of j) (for_account k R)
unfolding lines_of
own_journal k R a i j p q l r =
    beside_run k R a (opened i p) (opened j q)
    (record { same = refl; entries = omega arith; left = rw (opened_lines i p, opened_lines j q) (omega arith) })
    r

-- ---- as asked

-- what holds of all in a row, and what follows from it
all_so : {A : Type 0} (P Q : A → Type 0) → ((x : A) → P x → Q x) → (l : List A) → All P l → All Q l
all_so P Q f [] a = tt
all_so P Q f (x ∷ l) a = (f x a.0, all_so P Q f l a.1)

-- where each file is its account's, each account's are apart
pub named_apart : (k : Key) (R : List Sent) → Named R → Apart k R
named_apart k R n =
    all_so _ _ (λ s o ss r. all_so (λ t. t.key ≡ s.name) (λ t. same_key t.key k ≡ same_key s.name k) (λ t e. ap (λ x. same_key x k) e) ss (o ss r)) R n

-- what holds of every answer holds of the account's
for_all : (P : Result Delivery Rejection → Type 0) (D : Deliver) (k : Key) (j : List ℕ) (R : List Sent) → All P (answers_of D j R) → All P (answers_for D k j R)
unfolding answers_of answers_for
for_all P D k j [] r = tt
for_all P D k j (s ∷ R) r = by (same_key s.name k) (for_all P D k (D j s.form s.file).journal R r.1)
  where
    J : List ℕ
    J = (D j s.form s.file).journal

    by : (t : Bool) → All P (answers_for D k J R) → All P (pick t ((D j s.form s.file).answer ∷ answers_for D k J R) (answers_for D k J R))
    by true i = (r.0, i)
    by false i = i

-- AT A LENGTH THAT NO JOURNAL HAS nothing is opened: each delivery is 21, and changes nothing
all_21 : List Sent → List (Result Delivery Rejection)
all_21 [] = []
all_21 (s ∷ R) = Err (rejection (refusal_by UnsoundJournal 0)) ∷ all_21 R

module _ (k : Key) (j : List ℕ) (wrong : is_length (length j) ≡ false) where
  turned_away : (f : Form) (b : List ℕ) → outcome_of j f b ≡ refused (rejection (refusal_by UnsoundJournal 0))
  unfolding outcome_of sound_in
  turned_away f b = rw wrong

  untouched : (f : Form) (b : List ℕ) → content_of j f b ≡ j
  untouched f b = unchanged j f b (turned_away f b)

  no_journal : (R : List Sent) → answers_for ours k j R ≡ all_21 (for_account k R)
  unfolding answers_for for_account all_21
  no_journal [] = refl
  no_journal (s ∷ R) = rw (turned_away s.form s.file, untouched s.form s.file) (by (same_key s.name k) (no_journal R))
    where
      by : (t : Bool) → answers_for ours k j R ≡ all_21 (for_account k R)
          → pick t (Err (rejection (refusal_by UnsoundJournal 0)) ∷ answers_for ours k j R) (answers_for ours k j R) ≡ all_21 (pick t (s ∷ for_account k R) (for_account k R))
      by true i = ap (λ l. Err (rejection (refusal_by UnsoundJournal 0)) ∷ l) i
      by false i = i

  stays : (R : List Sent) → after ours j (events_of R) ≡ j
  unfolding after events_of
  stays [] = refl
  stays (s ∷ R) = ap (λ x. after ours x (events_of R)) (untouched s.form s.file) ∙ stays R

-- two buffers of one length: both are opened, or neither is
asked : (k : Key) (R S : List Sent) → Named R → Named S → for_account k R ≡ for_account k S → (i j : List ℕ) → length i ≡ length j
    → All HadRoom (answers_of ours (opened_of i) R) → All HadRoom (answers_of ours (opened_of j) S) → SameFor ours k (opened_of i) R (opened_of j) S
unfolding opened_of
asked k R S a c same i j l r t = by (is_length (length i)) refl
  where
    by : (u : Bool) → is_length (length i) ≡ u → SameFor ours k (opened_of i) R (opened_of j) S
    by true p =
        isolated k R S (named_apart k R a) (named_apart k S c) same i j p (rw (← l) p) (for_all HadRoom ours k (opened_of i) R r) (for_all HadRoom ours k (opened_of j) S t)
    by false p =
        let q : is_length (length j) ≡ false = rw (← l) p in
        rw (p, q)
        (record {
          answers = no_journal k i p R ∙ ap all_21 same ∙ sym (no_journal k j q S);
          held = λ P Q z w. absurd (clash (journal_long (rw (stays k i p R) at z)) p);
        })

-- ---- anybody's

module _ (f : Form) (b : List ℕ) where
  -- a file is whose its statements are
  pub by_statements : {ss : List Statement} (P : Statement → Type 0) → Reads (coding_of f) f b ss → All P ss → EachStatement P f b
  by_statements P e a ts r = rw (unique r e) a

  -- a file that the check refuses may be named as anybody's: its answer hangs on the file alone
  pub refused_anybodys : {n at : ℕ} → check_of (coding_of f) f b ≡ Checks.refused n at → (P : Statement → Type 0) → EachStatement P f b
  refused_anybodys e P ss r = absurd (let c = counts r in let z : ◌≡◌ {A = ℕ} 0 1 = cc in omega arith)

  pub refused_alike : {n at : ℕ} → check_of (coding_of f) f b ≡ Checks.refused n at → {j : List ℕ} {H : List Statement} → Journal j H → (outcome_of j f b ≡ refused (rejection (refusal_of n at))) × (reason_number (reason_of n) ≡ n)
  refused_alike e g = (outcome_by_lem g f b ∙ rw e, rw e at (check_listed f b))

  -- and so may one without statements: it is answered with none stored and none held, and changes nothing
  pub none_anybodys : Reads (coding_of f) f b [] → (P : Statement → Type 0) → EachStatement P f b
  none_anybodys e P = by_statements P e tt

  pub none_alike : Reads (coding_of f) f b [] → {j : List ℕ} {H : List Statement} → Journal j H → WhollyHeld ours j f b []
  none_alike e g = wholly_held g f b e tt

-- ---- WHATEVER OPENS AND DELIVERS BY THE CONTRACTS

isolation : Isolation opened_of ours
isolation = record { asked = asked; isolated = isolated; from_then_on = from_then_on; own_journal = own_journal }

pub deliver_isolation : (O : List ℕ → List ℕ) (D : Deliver) → ((j : List ℕ) → O j ≡ opened_of j)
    → ((j : List ℕ) (f : Form) (b : List ℕ) → Delivers j f b (D j f b).answer (D j f b).journal) → Isolation O D
deliver_isolation O D o d = let p : O ≡ opened_of = λ i j. o j i in rw (p, delivers_ours D d) isolation
