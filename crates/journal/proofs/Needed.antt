-- The premises of isolation are needed: two pairs of short runs on one journal of four lines, in each of which one premise is missing and the account's answer differs. And two wrong deliveries that isolation shuts out.
use mathlib.Core.Path.{◌≡◌, refl, sym, ap, ◌∙◌}
use mathlib.Core.Bool.{true, false}
use mathlib.Core.List.{List, [], ◌∷◌}
use Prim.Native.Nat.{ℕ}
use native.Mathlib.Omega.{arith}
use lib.IntN.{pos}
use Rattle.std.specs.Prelude.{Err}
use Rattle.zones.specs.Copy.{same_bytes}
use Rattle.framing.specs.declared.Form.{Form}
use Rattle.framing.specs.Files.{All}
use Rattle.framing.specs.Refusals.{reason_number, refusal_by}
use Rattle.framing.specs.declared.refusals.Reason.TheVariants.{NotNext, FullJournal}
use Rattle.grammar.specs.declared.Key.{Key}
use Rattle.grammar.specs.Record.{same_key}
use Rattle.grammar.specs.Statements.{Statement, sizes}
use Rattle.grammar.specs.Files.{Writable}
use Rattle.grammar.proofs.Tests.{clash, same_key_self}
use Rattle.records.specs.July.{july}
use Rattle.records.specs.Worked.{nil}
use Rattle.records.proofs.Theorems as T
use Rattle.records.proofs.Worked.{nil_accepted}
use Rattle.records.proofs.Small.{form, two, other, shared, february, march, first_day, other_february, nil_holds, two_hold, other_holds, shared_holds, two_accepted, other_accepted, shared_accepted}
use Rattle.bodies.specs.Bodies.{identical}
use Rattle.journal_layout.specs.Chains.{held_among, last_among, judgement_of, of_account}
use Rattle.journal_layout.specs.Layout.{lines_of, Journal, opened_of}
use Rattle.journal.specs.declared.Rejection.{Rejection}
use Rattle.journal.specs.Delivery.{rejection, verdict_of, delivered, refused, run, lines_in, outcome_of, content_of}
use Rattle.journal.specs.Answers.{done, Delivers}
use Rattle.journal.specs.Series.{Deliver, after}
use Rattle.journal.specs.Runs.{Sent, EachStatement, Named, events_of, for_account, answers_of, answers_for, HadRoom}
use Rattle.journal.specs.Isolation.{Isolation}
use Rattle.journal.proofs.Delivered.{file_writable, outcome_by_lem, lines_stay, then_journal, opened}
use Rattle.journal.proofs.Series.{ours, delivers_ours}
use Rattle.journal.proofs.Isolation.{named_apart, by_statements}
use Rattle.journal.proofs.Wrong.{room, room_right, four_lines, differ, differ_later, two_written, backwards_written, february_first, nil_comes, two_come}

-- her account, and the neighbour's
abbrev pub her : Key
her = other_february.key

abbrev pub neighbour : Key
neighbour = february.key

abbrev pub sent : Key → List ℕ → Sent
sent k b = record { name = k; form = form 1; file = b }

-- 22 at record 3: the neighbour's last one ends on 28 February with nothing
abbrev pub broken : Rejection
broken = record { refusal = refusal_by NotNext 3; expected = record { date = 20250228; balance = pos 0 } }

-- ---- what each file comes to

abbrev first : List ℕ
first = opened_of room

-- the two accounts are two
her_own : same_key her her ≡ true
her_own = same_key_self her

apart : same_key neighbour her ≡ false
unfolding same_key same_bytes
apart = refl

other_written : All (Writable july) (other_february ∷ [])
other_written = rw other_holds at (file_writable (T.reads (form 1) other other_accepted))

not_hers : (s : Statement) → Writable july s → same_key s.key her ≡ false → identical s other_february ≡ false
not_hers s w a = differ s other_february w other_written.0 (λ e. clash (rw (ap (λ x. x.key) e) her_own) a)

other_first : identical other_february first_day ≡ false
other_first = differ_later other_february first_day other_written.0 backwards_written.1.0 (λ z. omega arith)

alone : outcome_of first (form 1) other ≡ delivered (other_february ∷ []) 1 0
unfolding run verdict_of judgement_of held_among last_among lines_of sizes
alone = outcome_by_lem (opened room room_right) (form 1) other ∙ rw (other_accepted, other_holds, four_lines)

both_alone : outcome_of first (form 1) shared ≡ delivered (other_february ∷ first_day ∷ []) 2 0
unfolding run verdict_of judgement_of held_among last_among lines_of sizes same_key same_bytes
both_alone = outcome_by_lem (opened room room_right) (form 1) shared ∙ rw (shared_accepted, shared_holds, four_lines, other_first)

-- after a delivery of the neighbour's
module _ (b : List ℕ) {L : List Statement} {x y : ℕ} (e : outcome_of first (form 1) b ≡ delivered L x y) where
  abbrev next : List ℕ
  next = content_of first (form 1) b

  next_journal : Journal next L
  next_journal = rw e at (then_journal (opened room room_right) (form 1) b)

  next_lines : lines_in next ≡ 4
  next_lines = lines_stay (opened room room_right) (form 1) b ∙ four_lines

no_room : outcome_of (content_of first (form 1) two) (form 1) other ≡ refused (rejection (refusal_by FullJournal 1))
unfolding run verdict_of judgement_of held_among last_among lines_of sizes same_key same_bytes
no_room =
    outcome_by_lem (next_journal two two_come) (form 1) other
    ∙ rw (other_accepted, other_holds, next_lines two two_come, not_hers february two_written.0 apart, not_hers march two_written.1.0 apart)

both_broken : outcome_of (content_of first (form 1) nil) (form 1) shared ≡ refused broken
unfolding run verdict_of judgement_of held_among last_among lines_of sizes same_key same_bytes
both_broken =
    outcome_by_lem (next_journal nil nil_comes) (form 1) shared
    ∙ rw (shared_accepted, shared_holds, next_lines nil nil_comes, not_hers february two_written.0 apart, february_first, other_first)

-- ---- the two pairs of runs

-- WITHOUT ROOM: two statements of the neighbour's fill the journal. Hers alone is stored; after them it is 24.
pub record WithoutRoom (O : List ℕ → List ℕ) (D : Deliver) : Type 0 where
  pub named : Named (sent her other ∷ [])
  pub named' : Named (sent neighbour two ∷ sent her other ∷ [])
  pub same : for_account her (sent her other ∷ []) ≡ for_account her (sent neighbour two ∷ sent her other ∷ [])
  pub alone : answers_for D her (O room) (sent her other ∷ []) ≡ done 1 0 ∷ []
  pub behind : answers_for D her (O room) (sent neighbour two ∷ sent her other ∷ []) ≡ Err (rejection (refusal_by FullJournal 1)) ∷ []

-- TWO ACCOUNTS IN A FILE, hers and the neighbour's: both are stored; both are turned away with 22 where the neighbour has another one held. No answer is 23 or 24.
pub record TwoAccounts (O : List ℕ → List ℕ) (D : Deliver) : Type 0 where
  pub others_named : Named (sent neighbour nil ∷ [])
  pub same : for_account her (sent her shared ∷ []) ≡ for_account her (sent neighbour nil ∷ sent her shared ∷ [])
  pub room_enough : All HadRoom (answers_of D (O room) (sent her shared ∷ []))
  pub room_enough' : All HadRoom (answers_of D (O room) (sent neighbour nil ∷ sent her shared ∷ []))
  pub alone : answers_for D her (O room) (sent her shared ∷ []) ≡ done 2 0 ∷ []
  pub behind : answers_for D her (O room) (sent neighbour nil ∷ sent her shared ∷ []) ≡ Err broken ∷ []

-- what these files are named as
her_file : EachStatement (λ t. t.key ≡ her) (form 1) other
her_file = by_statements (form 1) other _ (rw other_holds at (T.reads (form 1) other other_accepted)) (refl, tt)

two_file : EachStatement (λ t. t.key ≡ neighbour) (form 1) two
two_file = by_statements (form 1) two _ (rw two_hold at (T.reads (form 1) two two_accepted)) (refl, (refl, tt))

nil_file : EachStatement (λ t. t.key ≡ neighbour) (form 1) nil
nil_file = by_statements (form 1) nil _ (rw nil_holds at (T.reads (form 1) nil nil_accepted)) (refl, tt)

our_without_room : WithoutRoom opened_of ours
unfolding for_account answers_for
our_without_room =
    record {
      named = (her_file, tt);
      named' = (two_file, (her_file, tt));
      same = rw (her_own, apart);
      alone = rw (her_own, alone);
      behind = rw (her_own, apart, no_room);
    }

our_two_accounts : TwoAccounts opened_of ours
unfolding for_account answers_for answers_of
our_two_accounts =
    record {
      others_named = (nil_file, tt);
      same = rw (her_own, apart);
      room_enough = rw both_alone (record { not_23 = omega arith; not_24 = omega arith }, tt);
      room_enough' = rw (nil_comes, both_broken) (record { not_23 = omega arith; not_24 = omega arith }, (record { not_23 = omega arith; not_24 = omega arith }, tt));
      alone = rw (her_own, both_alone);
      behind = rw (her_own, apart, both_broken);
    }

-- of whatever opens and delivers by the contracts
module _ (O : List ℕ → List ℕ) (D : Deliver) (o : (j : List ℕ) → O j ≡ opened_of j) (d : (j : List ℕ) (f : Form) (b : List ℕ) → Delivers j f b (D j f b).answer (D j f b).journal) where
  abbrev opens : O ≡ opened_of
  opens = λ i j. o j i

  pub without_room : WithoutRoom O D
  without_room = rw (opens, delivers_ours D d) our_without_room

  pub two_accounts : TwoAccounts O D
  two_accounts = rw (opens, delivers_ours D d) our_two_accounts

-- ---- wrong deliveries

module _ {O : List ℕ → List ℕ} {D : Deliver} (d : Isolation O D) where
  -- one that looks at the neighbour's last statement: 22, where hers alone is stored
  pub stopped_by_neighbour : (r : Rejection) → reason_number r.refusal.reason ≡ 22 → (D (O room) (form 1) other).answer ≡ done 1 0 → (D (D (O room) (form 1) nil).journal (form 1) other).answer ≡ Err r → ⊥
  unfolding for_account answers_for
  stopped_by_neighbour r n p q =
      let R = sent her other ∷ [] in
      let S = sent neighbour nil ∷ sent her other ∷ [] in
      let x : answers_for D her (O room) R ≡ done 1 0 ∷ [] = rw (her_own, p) in
      let y : answers_for D her (O room) S ≡ Err r ∷ [] = rw (her_own, apart, q) in
      let e =
      (d.isolated her R S (named_apart her R (her_file, tt)) (named_apart her S (nil_file, (her_file, tt))) (rw (her_own, apart)) room room room_right room_right
      (rw x (record { not_23 = omega arith; not_24 = omega arith }, tt))
      (rw y (record { not_23 = λ z. omega arith; not_24 = λ z. omega arith }, tt))).answers in
      let z : done 1 0 ∷ [] ≡ Err r ∷ [] = sym x ∙ e ∙ y in
      let u : ◌≡◌ {A = ℕ} 0 1 = cc in
      omega arith

  -- one that forgets hers when the neighbour's is stored
  pub forgets_hers : (D (O room) (form 1) other).answer ≡ done 1 0 → Journal (D (O room) (form 1) other).journal (other_february ∷ [])
      → Journal (D (D (O room) (form 1) other).journal (form 1) nil).journal (february ∷ []) → ⊥
  unfolding for_account answers_for events_of after of_account
  forgets_hers p g h =
      let R = sent her other ∷ [] in
      let S = sent her other ∷ sent neighbour nil ∷ [] in
      let e =
      (d.isolated her R S (named_apart her R (her_file, tt)) (named_apart her S (her_file, (nil_file, tt))) (rw (her_own, apart)) room room room_right room_right
      (rw (her_own, p) (record { not_23 = omega arith; not_24 = omega arith }, tt))
      (rw (her_own, apart, p) (record { not_23 = omega arith; not_24 = omega arith }, tt))).held (other_february ∷ []) (february ∷ []) g h in
      let z : other_february ∷ [] ≡ [] = rw (her_own, apart) at e in
      let u : ◌≡◌ {A = ℕ} 0 1 = cc in
      omega arith
