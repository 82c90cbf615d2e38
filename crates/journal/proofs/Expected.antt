-- What was expected: each refusal of a delivery says it exactly as the paper does, and so does whatever meets the delivery's contract.
use mathlib.Core.Path.{◌≡◌, refl, sym, ap, ◌∙◌}
use mathlib.Core.Bool.{Bool, true, false}
use mathlib.Core.List.{List, [], ◌∷◌, ◌++◌, append_assoc, append-nil}
use Prim.Native.Nat.{ℕ, ◌+◌, ◌-◌}
use native.Mathlib.Nat.{zero-add}
use native.Mathlib.Omega.{arith}
use lib.Dec.{leb, ltb}
use lib.IntN.{ℤ, pos}
use lib.ListN.{length}
use Rattle.std.specs.Prelude.{Result, Ok, Err}
use Rattle.zones.specs.Choice.{pick}
use Rattle.dates.specs.Days.{is_day}
use Rattle.framing.specs.declared.Form.{Form}
use Rattle.framing.specs.Files.{All}
use Rattle.framing.specs.Refusals.{reason_number, reason_of, refusal_of, refusal_by}
use Rattle.framing.specs.declared.refusals.Refusal.{Refusal}
use Rattle.framing.specs.declared.refusals.Reason.TheVariants.{UnsoundJournal, FullContents, FullJournal}
use Rattle.grammar.specs.Answer as G
use Rattle.grammar.specs.Answer.{Answer}
use Rattle.grammar.specs.Statements.{Statement, records_of, records_of_movements}
use Rattle.grammar.specs.Files.{Writable, statements_of, check_of}
use Rattle.grammar.specs.Parts.{size_of}
use Rattle.grammar.proofs.Tests.{clash}
use Rattle.records.specs.July.{Holds, july, coding_of}
use Rattle.records.proofs.Theorems.{reads}
use Rattle.records.proofs.Zones.{closing_day}
use Rattle.statements.proofs.Numbers.{check_number}
use Rattle.statements.proofs.Listed.{check_listed}
use Rattle.entries.specs.Entries.{most_entries}
use Rattle.journal_layout.specs.declared.Judgement.{Judgement}
use Rattle.journal_layout.specs.declared.Judgement.TheVariants.{Held, First, After}
use Rattle.journal_layout.specs.Chains.{held_among, last_among, judgement_of, follows_by, of_account}
use Rattle.journal_layout.specs.Layout.{lines_of}
use Rattle.journal_layout.specs.Test.{sound_in, held_of}
use Rattle.journal_layout.proofs.Chain.{last_of, last_account, linked}
use Rattle.journal_layout.proofs.Adding.{all_append}
use Rattle.journal_layout.proofs.Exact.{sound_journal}
use Rattle.journal_layout.proofs.Accounts.{all_account}
use Rattle.journal.specs.declared.Rejection.{Rejection}
use Rattle.journal.specs.declared.Delivery.{Delivery}
use Rattle.journal.specs.declared.Verdict.{Verdict}
use Rattle.journal.specs.declared.Verdict.TheVariants.{Hold, Store}
use Rattle.journal.specs.Delivery.{rejection, not_next, verdict_by, verdict_of, Outcome, delivered, refused, proceed, run, lines_in, outcome_by, outcome_of, content_of}
use Rattle.journal.specs.Answers.{PaperDelivery, paper_delivery, paper_outcome, answer_of}
use Rattle.journal.specs.Arrivals.{arrivals}
use Rattle.journal.specs.Expected.{Unfollowed, Expects}
use Rattle.journal.proofs.Delivered.{file_writable, unchanged, stored}
use Rattle.journal.proofs.Runs.{hold_held, store_new}
use Rattle.journal.proofs.Series.{arrived_held, wholly_held}
use Rattle.journal.proofs.Skipped.{all_there}
use Rattle.journal.proofs.Paper.{foretells}

-- ---- the last statement of an account

record Ends (L : List Statement) (date : ℕ) (balance : ℤ) : Type 0 where
  pub last : Statement
  pub earlier : List Statement
  pub row : L ≡ earlier ++ (last ∷ [])
  pub date_told : date ≡ last.new_date
  pub balance_told : balance ≡ last.new_balance

ends : (L : List Statement) {d : ℕ} {b : ℤ} → last_of First L ≡ After d b → Ends L d b
ends [] e = absurd (let z : ◌≡◌ {A = ℕ} 0 1 = cc in omega arith)
ends (s ∷ ss) e = from s ss e
  where
    from : (s : Statement) (ss : List Statement) {d : ℕ} {b : ℤ} → last_of (After s.new_date s.new_balance) ss ≡ After d b → Ends (s ∷ ss) d b
    from s [] e = record { last = s; earlier = []; row = refl; date_told = cc; balance_told = cc }
    from s (t ∷ ts) e =
        let x = from t ts e in
        record {
          last = x.last;
          earlier = s ∷ x.earlier;
          row = ap (λ l. s ∷ l) x.row;
          date_told = x.date_told;
          balance_told = x.balance_told;
        }

-- the new date of a statement that can be written is a day that exists
new_day : (s : Statement) → Writable july s → is_day s.new_date ≡ true
unfolding records_of
new_day s w = closing_day s.key s.new_date s.new_balance (all_there Holds (records_of_movements july.edition s.key s.movements) _ [] w.ok.1)

-- ---- a run of statements

-- what a refusal says, so many records being behind
record Told (hs ss : List Statement) (behind : ℕ) (r : Rejection) : Type 0 where
  pub with_22 : reason_number r.refusal.reason ≡ 22 → (at : ℕ) × ((r.refusal.«record» ≡ behind + at) × Unfollowed hs ss at r.expected.date r.expected.balance)
  pub a_day : reason_number r.refusal.reason ≡ 22 → is_day r.expected.date ≡ true
  pub else_zero : (reason_number r.refusal.reason ≡ 22 → ⊥) → (r.expected.date ≡ 0) × (r.expected.balance ≡ pos 0)

-- any other reason has nothing with it
other_reason : (hs ss : List Statement) (behind : ℕ) (e : Refusal) → (reason_number e.reason ≡ 22 → ⊥) → Told hs ss behind (rejection e)
other_reason hs ss behind e d = record { with_22 = λ e. absurd (d e); a_day = λ e. absurd (d e); else_zero = λ _. (refl, refl) }

module _ (hs ss : List Statement) (s : Statement) {at d : ℕ} {b : ℤ} where
  -- behind one that is held
  behind_held : held_among s hs ≡ true → Unfollowed hs ss at d b → Unfollowed hs (s ∷ ss) (size_of s + at) d b
  unfolding lines_of arrivals
  behind_held h u =
      let r = u.record_at in
      record {
        statement = u.statement;
        before = s ∷ u.before;
        behind = u.behind;
        stands = ap (λ l. s ∷ l) u.stands;
        record_at = omega arith;
        last = u.last;
        earlier = u.earlier;
        seen = rw h u.seen;
        date_told = u.date_told;
        balance_told = u.balance_told;
        new = rw h u.new;
        breaks = u.breaks;
      }

  -- behind one that is stored
  behind_stored : held_among s hs ≡ false → Unfollowed (hs ++ (s ∷ [])) ss at d b → Unfollowed hs (s ∷ ss) (size_of s + at) d b
  unfolding lines_of arrivals
  behind_stored h u =
      let r = u.record_at in
      let a = append_assoc hs (s ∷ []) (arrivals (hs ++ (s ∷ [])) u.before) in
      record {
        statement = u.statement;
        before = s ∷ u.before;
        behind = u.behind;
        stands = ap (λ l. s ∷ l) u.stands;
        record_at = omega arith;
        last = u.last;
        earlier = u.earlier;
        seen = rw h (rw a at u.seen);
        date_told = u.date_told;
        balance_told = u.balance_told;
        new = rw h (rw a at u.new);
        breaks = u.breaks;
      }

-- it is this one that is refused
module _ (n : ℕ) (hs ss : List Statement) (s : Statement) (behind : ℕ) (w : All (Writable july) hs) where
  this_one : {q : Rejection} → verdict_of n hs s (behind + 1) ≡ Err q → Told hs (s ∷ ss) behind q
  unfolding verdict_of judgement_of lines_of arrivals
  this_one {q} e = by (held_among s hs) refl e
    where
      -- an entry and lines for it
      room : (t u : Bool) → pick t (pick u (Ok Store) (Err (rejection (refusal_by FullJournal (behind + 1))))) (Err (rejection (refusal_by FullContents (behind + 1)))) ≡ Err q → Told hs (s ∷ ss) behind q
      room true true g = absurd (let z : ◌≡◌ {A = ℕ} 0 1 = cc in omega arith)
      room true false g = let p : q ≡ rejection (refusal_by FullJournal (behind + 1)) = cc in rw p (other_reason hs (s ∷ ss) behind (refusal_by FullJournal (behind + 1)) (λ z. omega arith))
      room false u g = let p : q ≡ rejection (refusal_by FullContents (behind + 1)) = cc in rw p (other_reason hs (s ∷ ss) behind (refusal_by FullContents (behind + 1)) (λ z. omega arith))

      after : (d : ℕ) (b : ℤ) → held_among s hs ≡ false → last_among s.key First hs ≡ After d b → follows_by (After d b) s.old_date s.old_balance ≡ false → q ≡ not_next (After d b) (behind + 1)
          → Told hs (s ∷ ss) behind q
      after d b h k f p =
          let x = ends (of_account s.key hs) (sym (last_account s.key First hs) ∙ k) in
          let v = all_there (Writable july) x.earlier x.last [] (rw x.row at (all_account (Writable july) s.key hs w)) in
          rw p
          (record {
            with_22 = λ _. (
              1,
              (
                refl,
                record {
                  statement = s;
                  before = [];
                  behind = ss;
                  stands = refl;
                  record_at = refl;
                  last = x.last;
                  earlier = x.earlier;
                  seen = rw (append-nil hs) x.row;
                  date_told = x.date_told;
                  balance_told = x.balance_told;
                  new = rw (append-nil hs) h;
                  breaks = λ l. clash (rw (← x.date_told, ← x.balance_told) at (linked x.last s l)) f;
                },
              ),
            );
            a_day = λ _. rw x.date_told (new_day x.last v);
            else_zero = λ z. absurd (z refl);
          })

      says : (j : Judgement) → held_among s hs ≡ false → last_among s.key First hs ≡ j → verdict_by j s.old_date s.old_balance (length hs) (n - lines_of hs) (size_of s) (behind + 1) ≡ Err q → Told hs (s ∷ ss) behind q
      says Held h k g = absurd (let z : ◌≡◌ {A = ℕ} 0 1 = cc in omega arith)
      says First h k g = room (ltb (length hs) most_entries) (leb (size_of s) (n - lines_of hs)) g
      says (After d b) h k g = next (follows_by (After d b) s.old_date s.old_balance) refl g
        where
          next : (t : Bool) → follows_by (After d b) s.old_date s.old_balance ≡ t
              → pick t (pick (ltb (length hs) most_entries) (pick (leb (size_of s) (n - lines_of hs)) (Ok Store) (Err (rejection (refusal_by FullJournal (behind + 1))))) (Err (rejection (refusal_by FullContents (behind + 1))))) (Err (not_next (After d b) (behind + 1))) ≡ Err q
              → Told hs (s ∷ ss) behind q
          next true f g = room (ltb (length hs) most_entries) (leb (size_of s) (n - lines_of hs)) g
          next false f g = after d b h k f cc

      by : (t : Bool) → held_among s hs ≡ t → verdict_by (pick t Held (last_among s.key First hs)) s.old_date s.old_balance (length hs) (n - lines_of hs) (size_of s) (behind + 1) ≡ Err q → Told hs (s ∷ ss) behind q
      by true h g = absurd (let z : ◌≡◌ {A = ℕ} 0 1 = cc in omega arith)
      by false h g = says (last_among s.key First hs) h refl g

told : (n : ℕ) (hs : List Statement) (behind stored held : ℕ) (ss : List Statement) {r : Rejection} → All (Writable july) hs → All (Writable july) ss
    → run n hs behind stored held ss ≡ refused r → Told hs ss behind r
unfolding run
told n hs behind stored held [] w v e = absurd (let z : ◌≡◌ {A = ℕ} 0 1 = cc in omega arith)
told n hs behind stored held (s ∷ ss) {r} w v e =
    by (verdict_of n hs s (behind + 1)) refl e (told n hs (behind + size_of s) stored (held + 1) ss w v.1)
    (told n (hs ++ (s ∷ [])) (behind + size_of s) (stored + 1) held ss (all_append (Writable july) hs (s ∷ []) w (v.0, tt)) v.1)
  where
    by : (x : Result Verdict Rejection) → verdict_of n hs s (behind + 1) ≡ x
        → proceed x (run n hs (behind + size_of s) stored (held + 1) ss) (run n (hs ++ (s ∷ [])) (behind + size_of s) (stored + 1) held ss) refused ≡ refused r
        → (run n hs (behind + size_of s) stored (held + 1) ss ≡ refused r → Told hs ss (behind + size_of s) r)
        → (run n (hs ++ (s ∷ [])) (behind + size_of s) (stored + 1) held ss ≡ refused r → Told (hs ++ (s ∷ [])) ss (behind + size_of s) r) → Told hs (s ∷ ss) behind r
    by (Ok Hold) x g i j =
        let t = i g in
        record {
          with_22 = λ z.
              let u = t.with_22 z in
              let p = u.1.0 in
              (size_of s + u.0, (omega arith, behind_held hs ss s (hold_held n hs s (behind + 1) x) u.1.1));
          a_day = t.a_day;
          else_zero = t.else_zero;
        }
    by (Ok Store) x g i j =
        let t = j g in
        record {
          with_22 = λ z.
              let u = t.with_22 z in
              let p = u.1.0 in
              (size_of s + u.0, (omega arith, behind_stored hs ss s (store_new n hs s (behind + 1) x) u.1.1));
          a_day = t.a_day;
          else_zero = t.else_zero;
        }
    by (Err q) x g i j = let p : q ≡ r = cc in rw (← p) (this_one n hs ss s behind w x)

-- ---- a delivery

-- 21 and the file's own refusals are other numbers
module _ (j : List ℕ) (f : Form) (b : List ℕ) where
  abbrev ss : List Statement
  ss = statements_of (coding_of f) f b

  expects_outcome : Expects j f b (paper_outcome (outcome_of j f b))
  unfolding outcome_of
  expects_outcome = by (sound_in j) refl (check_of (coding_of f) f b) refl
    where
      none : (e : Refusal) → (reason_number e.reason ≡ 22 → ⊥) → Expects j f b (paper_outcome (refused (rejection e)))
      none e d = record { with_22 = λ e. absurd (d e); a_day = λ e. absurd (d e); else_zero = λ _. (refl, refl) }

      ran : (o : Outcome) → ((r : Rejection) → o ≡ refused r → Told (held_of j) ss 0 r) → Expects j f b (paper_outcome o)
      ran (delivered L x y) t = record { with_22 = λ e. absurd (omega arith); a_day = λ e. absurd (omega arith); else_zero = λ _. (refl, refl) }
      ran (refused r) t =
          let x = t r refl in
          record {
            with_22 = λ e. let u = x.with_22 e in let z : r.refusal.«record» ≡ u.0 = u.1.0 ∙ zero-add u.0 in rw z u.1.1;
            a_day = x.a_day;
            else_zero = x.else_zero;
          }

      by : (t : Bool) → sound_in j ≡ t → (a : Answer) → check_of (coding_of f) f b ≡ a
          → Expects j f b (paper_outcome (pick t (outcome_by a (run (lines_in j) (held_of j) 0 0 0 ss)) (refused (rejection (refusal_by UnsoundJournal 0)))))
      by false p a q = none (refusal_by UnsoundJournal 0) (λ z. omega arith)
      by true p (G.refused n r) q =
          let l : reason_number (reason_of n) ≡ n = rw q at (check_listed f b) in
          none (refusal_of n r) (λ z. omega (arith, l, z, check_number f b q))
      by true p (G.accepted c) q =
          ran (run (lines_in j) (held_of j) 0 0 0 ss)
          (λ r e. told (lines_in j) (held_of j) 0 0 0 ss (sound_journal j p).kept.alone (file_writable (reads f b q)) e)

-- the paper's record of a delivery now
abbrev pub foretold : List ℕ → Form → List ℕ → PaperDelivery
foretold j f b = paper_delivery (answer_of (outcome_of j f b))

-- WHAT WAS EXPECTED, of whatever meets the contract of a delivery, or foretells it
pub expects : {j : List ℕ} {f : Form} {b : List ℕ} {r : Result Delivery Rejection} → r ≡ answer_of (outcome_of j f b) → Expects j f b (paper_delivery r)
expects {j} {f} {b} e = rw (foretells {j = j} {f = f} {b = b} e).paper (expects_outcome j f b)

-- one without a refusal was to a sound journal
unsound : (j : List ℕ) (f : Form) (b : List ℕ) {L : List Statement} {x y : ℕ} → sound_in j ≡ false → outcome_of j f b ≡ delivered L x y → ⊥
unfolding outcome_of
unsound j f b {L} {x} {y} p e = let q : refused (rejection (refusal_by UnsoundJournal 0)) ≡ delivered L x y = rw p at e in let z : ◌≡◌ {A = ℕ} 0 1 = cc in omega arith

-- ASKED AGAIN after the delivery, whatever its answer, the two are the same: a refused one left the journal as it was, and of an accepted file all is held
pub asked_after : (j : List ℕ) (f : Form) (b : List ℕ)
    → ((foretold (content_of j f b) f b).expected_date ≡ (foretold j f b).expected_date) × ((foretold (content_of j f b) f b).expected_balance ≡ (foretold j f b).expected_balance)
asked_after j f b = by (outcome_of j f b) refl (sound_in j) refl
  where
    by : (o : Outcome) → outcome_of j f b ≡ o → (t : Bool) → sound_in j ≡ t
        → ((foretold (content_of j f b) f b).expected_date ≡ (foretold j f b).expected_date) × ((foretold (content_of j f b) f b).expected_balance ≡ (foretold j f b).expected_balance)
    by (refused r) e t p = let c = unchanged j f b e in (rw c, rw c)
    by (delivered L x y) e true p =
        let q = stored (sound_journal j p) f b e in
        let h = rw (← q.list) at (arrived_held (held_of j) (statements_of (coding_of f) f b)) in
        let w = ap (λ a. a.answer) (wholly_held q.journal f b q.read h) in
        (rw (w, e), rw (w, e))
    by (delivered L x y) e false p = absurd (unsound j f b p e)
