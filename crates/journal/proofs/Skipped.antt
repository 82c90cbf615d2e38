-- WHAT AN ACCOUNT HAS SKIPPED IS NEVER STORED, by whatever meets demand 3: a statement that begins before a new date held of its account. So a file that has one is never accepted.
use mathlib.Core.Path.{◌≡◌, refl, ap, ◌∙◌}
use mathlib.Core.Bool.{Bool, true, false, ◌||◌}
use mathlib.Core.List.{List, [], ◌∷◌, ◌++◌, append_assoc}
use Prim.Native.Nat.{ℕ, ◌<◌, ◌≤◌}
use native.Mathlib.Omega.{arith}
use lib.ListN.{length}
use Rattle.zones.specs.Choice.{pick}
use Rattle.framing.specs.declared.Form.{Form}
use Rattle.framing.specs.Files.{All}
use Rattle.grammar.specs.Record.{same_key}
use Rattle.grammar.specs.Statements.{Statement}
use Rattle.grammar.specs.Files.{Writable, statements_of}
use Rattle.grammar.proofs.Tests.{clash, same_key_self}
use Rattle.records.specs.July.{july, coding_of}
use Rattle.bodies.specs.Bodies.{identical}
use Rattle.bodies.proofs.Identical.{identical_equal}
use Rattle.journal_layout.specs.Chains.{held_among, of_account}
use Rattle.journal_layout.specs.Layout.{is_length, Journal}
use Rattle.journal_layout.proofs.Chain.{account_append, InTurn, chain_in_turn}
use Rattle.journal_layout.proofs.Accounts.{all_account}
use Rattle.journal.specs.Answers.{done}
use Rattle.journal.specs.Arrivals.{arrivals}
use Rattle.journal.specs.Series.{Event, deliver, Deliver, after, after_one, held_after_one, held_along, held_after, accepted, Demand3}
use Rattle.journal.proofs.Values.{held_append}
use Rattle.journal.proofs.Series.{held_along_lem, arrived_held}

-- what holds of all in a row holds of each
pub all_there : {A : Type 0} (P : A → Type 0) (front : List A) (x : A) (back : List A) → All P (front ++ (x ∷ back)) → P x
all_there P [] x back h = h.0
all_there P (y ∷ front) x back h = all_there P front x back h.1

-- a series in two: the second part goes on from what the first one held
along_append : (D : Deliver) (j : List ℕ) (H : List Statement) (es fs : List Event) → held_along D j H (es ++ fs) ≡ held_along D (after D j es) (held_along D j H es) fs
unfolding after held_along
along_append D j H [] fs = refl
along_append D j H (e ∷ es) fs = along_append D (after_one D j e) (held_after_one D j H e) es fs

-- in a row in turn those behind a statement begin at its new date or later
behind_turn : (before : List Statement) (h : Statement) (behind more : List Statement) → InTurn ((before ++ (h ∷ behind)) ++ more) → All (λ t. h.new_date ≤ t.old_date) more
behind_turn (b ∷ before) h behind more i = behind_turn before h behind more i.1
behind_turn [] h behind more i = last behind i.0
  where
    last : (behind : List Statement) → All (λ t. h.new_date ≤ t.old_date) (behind ++ more) → All (λ t. h.new_date ≤ t.old_date) more
    last [] a = a
    last (b ∷ behind) a = last behind a.1

-- where all of its account begin on a day or later, a statement that begins before it is not among them
none_there : {x : ℕ} (s : Statement) (M : List Statement) → Writable july s → All (Writable july) M → s.old_date < x → All (λ t. x ≤ t.old_date) (of_account s.key M) → held_among s M ≡ false
unfolding held_among of_account
none_there s [] v w l a = refl
none_there {x} s (m ∷ M) v w l a = by (identical m s) refl (none_there s M v w.1 l (rest (same_key m.key s.key) a))
  where
    rest : (t : Bool) → All (λ t. x ≤ t.old_date) (pick t (m ∷ of_account s.key M) (of_account s.key M)) → All (λ t. x ≤ t.old_date) (of_account s.key M)
    rest true a = a.1
    rest false a = a

    by : (t : Bool) → identical m s ≡ t → held_among s M ≡ false → (t || held_among s M) ≡ false
    by true e i =
        let q : m ≡ s = identical_equal w.0 v e in
        let k : same_key m.key s.key ≡ true = rw q (same_key_self s.key) in
        let d : m.old_date ≡ s.old_date = ap (λ z. z.old_date) q in
        let p : x ≤ m.old_date = (rw k at a).0 in
        absurd (omega arith)
    by false e i = i

module _ {O : List ℕ → List ℕ} {D : Deliver} (d : Demand3 O D) (j : List ℕ) (l : is_length (length j) ≡ true) (es : List Event) where
  abbrev H : List Statement
  H = held_after D (O j) es

  -- s is not held, and begins before the new date of h, which is held of its account: whatever comes later, s is not held
  pub never_stored : (s h : Statement) (before behind : List Statement) → Writable july s → held_among s H ≡ false
      → of_account s.key H ≡ before ++ (h ∷ behind) → s.old_date < h.new_date
      → (later : List Event) → held_among s (held_after D (O j) (es ++ later)) ≡ false
  never_stored s h before behind v n o b later =
      let k = s.key in
      let M = arrivals H (accepted D (after D (O j) es) later) in
      let q : held_after D (O j) (es ++ later) ≡ H ++ M = along_append D (O j) [] es later ∙ held_along_lem D (after D (O j) es) H later in
      let g : Journal (after D (O j) (es ++ later)) (H ++ M) = rw q at (d.holds j l (es ++ later)) in
      let i : InTurn (of_account k (H ++ M)) = chain_in_turn (of_account k (H ++ M)) (g.kept.chained k) (all_account (Writable july) k (H ++ M) g.kept.alone) in
      let t : InTurn ((before ++ (h ∷ behind)) ++ of_account k M) = rw (account_append k H M, o) at i in
      rw (q, held_append s H M, n) (none_there s M v (back H M g.kept.alone) b (behind_turn before h behind (of_account k M) t))
    where
      back : (A B : List Statement) → All (Writable july) (A ++ B) → All (Writable july) B
      back [] B w = w
      back (a ∷ A) B w = back A B w.1

  -- SO A FILE WITH IT IS NEVER ACCEPTED: delivered without a refusal it would leave s held
  pub never_accepted : (s h : Statement) (before behind : List Statement) → Writable july s → held_among s H ≡ false
      → of_account s.key H ≡ before ++ (h ∷ behind) → s.old_date < h.new_date
      → (later : List Event) (f : Form) (b : List ℕ) (x y : ℕ) (front back : List Statement) → statements_of (coding_of f) f b ≡ front ++ (s ∷ back)
      → (D (after D (O j) (es ++ later)) f b).answer ≡ done x y → ⊥
  unfolding held_along
  never_accepted s h before behind v n o u later f b x y front back q e =
      let ss = statements_of (coding_of f) f b in
      let L = held_after D (O j) (es ++ later) in
      let a : held_after D (O j) ((es ++ later) ++ (deliver f b ∷ [])) ≡ L ++ arrivals L ss = along_append D (O j) [] (es ++ later) (deliver f b ∷ []) ∙ rw e in
      let t : held_among s (L ++ arrivals L ss) ≡ true = among (λ z. held_among z (L ++ arrivals L ss) ≡ true) q (arrived_held L ss) in
      let c : held_among s (held_after D (O j) ((es ++ later) ++ (deliver f b ∷ []))) ≡ false =
      rw (append_assoc es later (deliver f b ∷ [])) (never_stored s h before behind v n o u (later ++ (deliver f b ∷ []))) in
      clash t (rw a at c)
    where
      among : (P : Statement → Type 0) {ts : List Statement} → ts ≡ front ++ (s ∷ back) → All P ts → P s
      among P p w = all_there P front s back (rw p at w)
