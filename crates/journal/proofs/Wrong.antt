-- Wrong deliveries, and that demand 3 shuts each of them out: each is caught by a small file, at a journal just opened. And one that expects the last statement held in the place of the last seen.
use mathlib.Core.Path.{◌≡◌, refl, sym, ap, ◌∙◌}
use mathlib.Core.Bool.{Bool, true, false}
use mathlib.Core.List.{List, [], ◌∷◌}
use Prim.Native.Nat.{ℕ, ◌≤◌}
use native.Mathlib.Omega.{arith}
use lib.IntN.{pos}
use lib.ListN.{length, replicate, length-replicate}
use Rattle.std.specs.Prelude.{Result, Err}
use Rattle.zones.specs.Choice.{pick}
use Rattle.zones.specs.Copy.{same_bytes}
use Rattle.framing.specs.declared.Form.{Form}
use Rattle.framing.specs.Files.{All}
use Rattle.framing.specs.Refusals.{refusal_by}
use Rattle.framing.specs.declared.refusals.Reason.TheVariants.{NotNext}
use Rattle.grammar.specs.Answer.{refused}
use Rattle.grammar.specs.Record.{same_key}
use Rattle.grammar.specs.Statements.{Statement, sizes}
use Rattle.grammar.specs.Files.{Writable, check_of, statements_of}
use Rattle.records.specs.July.{july, coding_of}
use Rattle.records.specs.Worked.{nil}
use Rattle.records.proofs.Theorems as T
use Rattle.records.proofs.Worked.{nil_accepted}
use Rattle.records.proofs.Small.{form, nil_crlf, two, backwards, lone, february, march, first_day, nil_holds, two_hold, backwards_hold, two_accepted, backwards_accepted, lone_refused, nil_relined}
use Rattle.bodies.specs.Bodies.{identical}
use Rattle.bodies.proofs.Identical.{identical_equal}
use Rattle.entries.specs.Entries.{line_at}
use Rattle.journal_layout.specs.Chains.{held_among, last_among, judgement_of, Chained, of_account}
use Rattle.journal_layout.specs.Layout.{most_lines, is_length, lines_of, journal_of, Journal, opened_of}
use Rattle.journal_layout.proofs.Exact.{sound_unique, journal_length}
use Rattle.journal.specs.declared.Delivery.{Delivery}
use Rattle.journal.specs.declared.Rejection.{Rejection}
use Rattle.journal.specs.Delivery.{verdict_of, delivered, refused as refused_with, run, lines_in, outcome_of, content_of}
use Rattle.journal.specs.Answers.{paper_delivery, done, Delivers}
use Rattle.journal.specs.Arrivals.{arrivals}
use Rattle.journal.specs.Series.{deliver, Deliver, after, held_along, Demand3}
use Rattle.journal.proofs.Delivered.{file_writable, lines_are, outcome_by_lem, opened_lines, opened}
use Rattle.journal.proofs.Paper.{delivers}
use Rattle.journal.proofs.One.{one_deliver}

-- a journal with room for four records, before it is opened
unfoldable pub room : List ℕ
room = replicate (line_at 4) 0

room_long : length room ≡ line_at 4
unfolding room
room_long = length-replicate {A = ℕ} (line_at 4) 0

pub room_right : is_length (length room) ≡ true
unfolding is_length
room_right = rw room_long

pub four_lines : lines_in (opened_of room) ≡ 4
four_lines = opened_lines room room_right ∙ omega (arith, room_long)

-- what is not the same statement is not identical
pub differ : (s t : Statement) → Writable july s → Writable july t → (s ≡ t → ⊥) → identical s t ≡ false
differ s t w v n = by (identical s t) refl
  where
    by : (u : Bool) → identical s t ≡ u → identical s t ≡ false
    by true e = absurd (n (identical_equal w v e))
    by false e = e

-- nor is what ends on another day
pub differ_later : (s t : Statement) → Writable july s → Writable july t → (s.new_date ≡ t.new_date → ⊥) → identical s t ≡ false
differ_later s t w v n = differ s t w v (λ e. n (ap (λ x. x.new_date) e))

-- the periods can be written, and no two of them are identical
pub two_written : All (Writable july) (february ∷ march ∷ [])
two_written = rw two_hold at (file_writable (T.reads (form 1) two two_accepted))

pub backwards_written : All (Writable july) (march ∷ first_day ∷ [])
backwards_written = rw backwards_hold at (file_writable (T.reads (form 1) backwards backwards_accepted))

two_differ : identical february march ≡ false
two_differ = differ_later february march two_written.0 two_written.1.0 (λ z. omega arith)

pub february_first : identical february first_day ≡ false
february_first = differ_later february first_day two_written.0 backwards_written.1.0 (λ z. omega arith)

march_first : identical march first_day ≡ false
march_first = differ_later march first_day backwards_written.0 backwards_written.1.0 (λ z. omega arith)

-- by the rules the one statement is stored, and both of two are
pub nil_comes : outcome_of (opened_of room) (form 1) nil ≡ delivered (february ∷ []) 1 0
unfolding run verdict_of judgement_of held_among last_among lines_of sizes
nil_comes = outcome_by_lem (opened room room_right) (form 1) nil ∙ rw (nil_accepted, nil_holds, four_lines)

pub two_come : outcome_of (opened_of room) (form 1) two ≡ delivered (february ∷ march ∷ []) 2 0
unfolding run verdict_of judgement_of held_among last_among lines_of sizes same_key same_bytes
two_come = outcome_by_lem (opened room room_right) (form 1) two ∙ rw (two_accepted, two_hold, four_lines, two_differ)

pub right_nil : Delivers (opened_of room) (form 1) nil (done 1 0) (journal_of 4 (february ∷ []))
unfolding content_of
right_nil = delivers (rw nil_comes) (rw (nil_comes, four_lines))

pub right_two : Delivers (opened_of room) (form 1) two (done 2 0) (journal_of 4 (february ∷ march ∷ []))
unfolding content_of
right_two = delivers (rw two_come) (rw (two_come, four_lines))

-- a journal of the first alone
february_alone : (n : ℕ) → 2 ≤ n → n ≤ most_lines → Journal (journal_of n (february ∷ [])) (february ∷ [])
unfolding lines_of sizes of_account
february_alone n few most =
    record {
      lines = n;
      most = omega arith;
      layout = refl;
      kept =
          record {
            few = omega arith;
            room = omega arith;
            alone = rw nil_holds at (file_writable (T.reads (form 1) nil nil_accepted));
            distinct = (tt, tt);
            chained = λ k. by (same_key february.key k);
          };
    }
  where
    by : (t : Bool) → Chained (pick t (february ∷ []) [])
    by true = tt
    by false = tt

two_lines_long : length (journal_of 2 (february ∷ [])) ≡ line_at 2
unfolding february_alone
two_lines_long = journal_length (february_alone 2 (omega arith) (omega arith))

-- THE LAST SEEN, NOT THE LAST HELD: the journal ends with february; of a file the next statement would be stored, and the one behind it does not follow. Expected is what that next one ends with.
pub right_backwards : Delivers (journal_of 4 (february ∷ [])) (form 1) backwards
    (Err (record { refusal = refusal_by NotNext 3; expected = record { date = 20250331; balance = pos 0 } })) (journal_of 4 (february ∷ []))
unfolding content_of run verdict_of judgement_of held_among last_among lines_of sizes same_key same_bytes february_alone
right_backwards =
    let g = february_alone 4 (omega arith) (omega arith) in
    let l : lines_in (journal_of 4 (february ∷ [])) ≡ 4 = lines_are g in
    let o : outcome_of (journal_of 4 (february ∷ [])) (form 1) backwards
    ≡ refused_with (record { refusal = refusal_by NotNext 3; expected = record { date = 20250331; balance = pos 0 } }) =
    outcome_by_lem g (form 1) backwards ∙ rw (backwards_accepted, backwards_hold, l, two_differ, february_first, march_first) in
    delivers (rw o) (rw o)

-- so one that says what the journal ends with, and is right in all else, does not meet the contract
pub says_the_last_held : {j' : List ℕ} → Delivers (journal_of 4 (february ∷ [])) (form 1) backwards
    (Err (record { refusal = refusal_by NotNext 3; expected = record { date = 20250228; balance = pos 0 } })) j' → ⊥
says_the_last_held g = let z : ◌≡◌ {A = ℕ} 20250331 20250228 = ap (λ a. (paper_delivery a).expected_date) (one_deliver right_backwards g).0 in omega arith

-- delivered is not refused
done_refused : {s h : ℕ} {r : Rejection} → done s h ≡ Err r → ⊥
done_refused e = let z : ◌≡◌ {A = ℕ} 0 1 = cc in omega arith

module _ {O : List ℕ → List ℕ} {D : Deliver} (d : Demand3 O D) where
  -- any file on any journal just opened
  module _ (j : List ℕ) (right : is_length (length j) ≡ true) (f : Form) (b : List ℕ) {x y : ℕ} (yes : (D (O j) f b).answer ≡ done x y) where
    -- what must be held after it
    must_hold : Journal (D (O j) f b).journal (arrivals [] (statements_of (coding_of f) f b))
    unfolding after held_along
    must_hold = rw yes at (d.holds j right (deliver f b ∷ []))

    -- the journal is not as it was where the file has a statement
    pub not_unchanged : {s : Statement} {ss : List Statement} → statements_of (coding_of f) f b ≡ s ∷ ss → (D (O j) f b).journal ≡ O j → ⊥
    unfolding after held_along arrivals held_among
    not_unchanged {s} {ss} e n =
        let h : Journal (O j) [] = d.holds j right [] in
        let g : Journal (O j) (s ∷ arrivals (s ∷ []) ss) = rw (n, e) at must_hold in
        let q = sound_unique h g in
        let z : ◌≡◌ {A = ℕ} 0 1 = cc in
        omega arith

    -- and does not hold the first alone where another follows
    pub not_the_first : {s t : Statement} {ss : List Statement} → statements_of (coding_of f) f b ≡ s ∷ t ∷ ss → identical s t ≡ false → Journal (D (O j) f b).journal (s ∷ []) → ⊥
    unfolding arrivals held_among
    not_the_first {s} {t} {ss} e n h =
        let g : Journal (D (O j) f b).journal (s ∷ t ∷ arrivals (s ∷ t ∷ []) ss) = rw (e, n) at must_hold in
        let q = ap length (sound_unique h g) in
        omega arith

    -- the check does not refuse it
    pub not_refused : {n r : ℕ} → check_of (coding_of f) f b ≡ refused n r → ⊥
    unfolding after
    not_refused e =
        let c = T.counts (d.reads j right [] f b x y yes) in
        let z : ◌≡◌ {A = ℕ} 0 1 = cc in
        omega arith

  -- one that does nothing and says that a file of one statement is delivered, with any counts
  pub does_nothing : (s h : ℕ) → D (O room) (form 1) nil ≡ record { answer = done s h; journal = O room } → ⊥
  does_nothing s h e = not_unchanged room room_right (form 1) nil (ap (λ a. a.answer) e) nil_holds (ap (λ a. a.journal) e)

  -- one that stores only the first of two statements
  pub only_the_first : (s h : ℕ) → D (O room) (form 1) two ≡ record { answer = done s h; journal = journal_of 4 (february ∷ []) } → ⊥
  only_the_first s h e =
      not_the_first room room_right (form 1) two (ap (λ a. a.answer) e) two_hold two_differ (rw e (february_alone 4 (omega arith) (omega arith)))

  -- one that cuts off the lines that are free, whatever it answers
  pub cuts_the_room : (a : Result Delivery Rejection) → D (O room) (form 1) nil ≡ record { answer = a; journal = journal_of 2 (february ∷ []) } → ⊥
  unfolding after
  cuts_the_room a e =
      let l = d.room room room_right (deliver (form 1) nil ∷ []) in
      let c : length (journal_of 2 (february ∷ [])) ≡ length room = ap (λ x. length x.journal) (sym e) ∙ l in
      omega (arith, two_lines_long, room_long)

  -- one that makes up its two counts
  pub made_up_counts : (s h : ℕ) → (done s h ≡ done 2 0 → ⊥) → (D (O room) (form 1) two).answer ≡ done s h → ⊥
  unfolding after held_along arrivals held_among
  made_up_counts s h n e =
      let c = rw (two_hold, two_differ) at (d.counts room room_right [] (form 1) two s h e) in
      let p : s ≡ 2 = c.0 in
      let q : h ≡ 0 = omega (arith, c.1) in
      n (rw (p, q))

  -- one that takes a 07 alone for a file: it holds no statement, so only `reads` tells
  pub takes_nonsense : (s h : ℕ) → (D (O room) (form 0) lone).answer ≡ done s h → ⊥
  takes_nonsense s h e = not_refused room room_right (form 0) lone e lone_refused

  -- one that refuses a file when it comes again with CR LF
  pub refuses_again : (s h : ℕ) (r : Rejection) → (D (O room) (form 1) nil).answer ≡ done s h → (D (D (O room) (form 1) nil).journal (form 2) nil_crlf).answer ≡ Err r → ⊥
  unfolding after
  refuses_again s h r e g =
      let w = rw nil_relined at (d.again room room_right [] (form 1) nil s h e [] (form 2) refl) in
      done_refused (sym (ap (λ a. a.answer) w) ∙ g)
