-- The judgement and the verdict on a part of a file are those on its statement.
use mathlib.Core.Path.{◌≡◌, refl, sym, ap, ap₂, ◌∙◌}
use mathlib.Core.Bool.{Bool, true, false, ◌||◌}
use mathlib.Core.List.{List, [], ◌∷◌, ◌++◌}
use Prim.Native.Nat.{ℕ, suc, ◌+◌, ◌-◌, ◌/◌, ◌<◌, ◌≤◌}
use native.Mathlib.Omega.{arith}
use lib.Dec.{leb, ltb}
use lib.ListN.{length, length-append}
use borrow.Author.Tests.{ltb-true, leb-true}
use Rattle.std.specs.Prelude.{Result, Ok, Err}
use Rattle.zones.specs.Choice.{pick}
use Rattle.framing.specs.declared.Form.{Form}
use Rattle.framing.specs.Refusals.{refusal_by}
use Rattle.framing.specs.declared.refusals.Reason.TheVariants.{FullContents, FullJournal}
use Rattle.framing.specs.Files.{width_of}
use Rattle.grammar.specs.declared.Key.{Key}
use Rattle.grammar.specs.Record.{same_key}
use Rattle.grammar.specs.Statements.{Statement}
use Rattle.grammar.specs.Files.{Reads}
use Rattle.grammar.specs.Parts.{size_of}
use Rattle.grammar.proofs.Tests.{or_assoc}
use Rattle.records.specs.July.{record_size, coding_of}
use Rattle.records.specs.Looks.{look_of}
use Rattle.contents.specs.Heads.{record_at_of}
use Rattle.bodies.specs.Bodies.{identical}
use Rattle.bodies.proofs.Ends.{look_date, look_balance}
use Rattle.bodies.proofs.Identical.{same_identical, part_count}
use Rattle.entries.specs.Entries.{most_entries}
use Rattle.journal_layout.specs.declared.Judgement.{Judgement}
use Rattle.journal_layout.specs.declared.Judgement.TheVariants.{Held, First, After}
use Rattle.journal_layout.specs.Chains.{held_among, last_among, judgement_of, follows_by}
use Rattle.journal_layout.specs.Layout.{lines_of}
use Rattle.journal_layout.specs.Test.{held_of}
use Rattle.journal_layout.proofs.Holding.{Holding, later_value, judged_value}
use Rattle.journal_layout.proofs.Exact.{journal_held, sound_journal}
use Rattle.journal.specs.declared.Bounds.{Bounds}
use Rattle.journal.specs.declared.Verdict.{Verdict}
use Rattle.journal.specs.declared.Verdict.TheVariants.{Hold, Store}
use Rattle.journal.specs.declared.Rejection.{Rejection}
use Rattle.journal.specs.Delivery.{rejection, not_next, is_held, verdict_by, verdict_of, lines_in}
use Rattle.journal.specs.Plans.{part_of, parts_of, held_in, last_in, judged_in, judged_all, Reading, Turned}

-- ---- two rows of statements

pub held_append : (s : Statement) (A B : List Statement) → held_among s (A ++ B) ≡ (held_among s A || held_among s B)
unfolding held_among
held_append s [] B = refl
held_append s (a ∷ A) B = ap (λ t. identical a s || t) (held_append s A B) ∙ sym (or_assoc (identical a s) (held_among s A) (held_among s B))

last_append : (k : Key) (last : Judgement) (A B : List Statement) → last_among k last (A ++ B) ≡ last_among k (last_among k last A) B
unfolding last_among
last_append k last [] B = refl
last_append k last (a ∷ A) B = last_append k (pick (same_key a.key k) (After a.new_date a.new_balance) last) A B

-- the last of an account is no held one
pub not_held : (k : Key) (last : Judgement) (A : List Statement) → is_held last ≡ false → is_held (last_among k last A) ≡ false
unfolding last_among
not_held k last [] h = h
not_held k last (a ∷ A) h = not_held k (pick (same_key a.key k) (After a.new_date a.new_balance) last) A (by (same_key a.key k))
  where
    by : (t : Bool) → is_held (pick t (After a.new_date a.new_balance) last) ≡ false
    by true = refl
    by false = h

-- ---- the parts of a file

module _ {f : Form} {x : List ℕ} {t : Statement} (r : Reads (coding_of f) f x (t ∷ [])) where
  held_value : (hs : List (List ℕ)) (P : List Statement) → Reading f hs P → held_in f hs x ≡ held_among t P
  unfolding held_in held_among
  held_value [] [] p = refl
  held_value [] (s ∷ P) p = absurd p
  held_value (h ∷ hs) [] p = absurd p
  held_value (h ∷ hs) (s ∷ P) p = ap₂ ◌||◌ (same_identical p.0 r) (held_value hs P p.1)

  last_value : (last : Judgement) (hs : List (List ℕ)) (P : List Statement) → Reading f hs P → last_in last f hs x ≡ last_among t.key last P
  unfolding last_in last_among
  last_value last [] [] p = refl
  last_value last [] (s ∷ P) p = absurd p
  last_value last (h ∷ hs) [] p = absurd p
  last_value last (h ∷ hs) (s ∷ P) p = ap (λ l. last_in l f hs x) (later_value r last p.0) ∙ last_value (pick (same_key s.key t.key) (After s.new_date s.new_balance) last) hs P p.1

  -- behind the held statements stand the planned ones
  all_value : {j : List ℕ} {H : List Statement} (hs : List (List ℕ)) (P : List Statement) → Holding j H → Reading f hs P
      → judged_all j (length H) f hs x ≡ judgement_of t (H ++ P)
  unfolding judged_all judgement_of judged_in
  all_value {j} {H} hs P g p =
      rw (judged_value r g, held_append t H P, last_append t.key First H P) (by (held_among t H))
    where
      L : Judgement
      L = last_among t.key First H

      by : (u : Bool)
          → pick (is_held (pick u Held L)) Held (pick (held_in f hs x) Held (last_in (pick u Held L) f hs x))
          ≡ pick (u || held_among t P) Held (last_among t.key L P)
      by true = refl
      by false = rw (not_held t.key First H refl, held_value hs P p, last_value L hs P p)

  -- the verdict
  pub verdict_value : {j : List ℕ} {H : List Statement} (hs : List (List ℕ)) (P : List Statement) {g : Judgement} {o : List ℕ} (n entries left size at : ℕ)
      → Holding j H → Reading f hs P → g ≡ judged_all j (length H) f hs x → o ≡ record_at_of x 0
      → entries ≡ length (H ++ P) → left ≡ n - lines_of (H ++ P) → size ≡ size_of t
      → verdict_by g (look_of o).day (look_of o).amount entries left size at ≡ verdict_of n (H ++ P) t at
  unfolding verdict_of
  verdict_value hs P n entries left size at h p e q a b c =
      rw (e, all_value hs P h p, q, look_date r, look_balance r, a, b, c)

-- ---- the turn

-- as many statements as parts
pub reading_length : (f : Form) (hs : List (List ℕ)) (P : List Statement) → Reading f hs P → length P ≡ length hs
reading_length f [] [] r = refl
reading_length f [] (s ∷ P) r = absurd r
reading_length f (h ∷ hs) [] r = absurd r
reading_length f (h ∷ hs) (s ∷ P) r = ap suc (reading_length f hs P r.1)

pub length_parts : (xs : List Bounds) (b : List ℕ) → length (parts_of xs b) ≡ length xs
length_parts [] b = refl
length_parts (x ∷ xs) b = ap suc (length_parts xs b)

-- at its return
module _ (j : List ℕ) (f : Form) (b : List ℕ) (xs : List Bounds) (held left : ℕ) (x : Bounds) where
  abbrev h : List ℕ
  h = part_of x b

  pub turned : {g : Judgement} {o : List ℕ} {v : Result Verdict Rejection} → g ≡ judged_all j held f (parts_of xs b) h → o ≡ record_at_of h 0
      → v ≡ verdict_by g (look_of o).day (look_of o).amount (held + length xs) left (length h / width_of record_size f) (x.first / width_of record_size f + 1)
      → Turned j f b xs held left x v
  turned p q e =
      record {
        verdict = λ t.
            let hs = parts_of xs b in
            let c = reading_length f hs t.list t.planned in
            let d = length_parts xs b in
            let l = length-append (held_of j) t.list in
            let h = t.entry in
            e
            ∙ verdict_value t.reads hs t.list (lines_in j) (held + length xs) left (length (part_of x b) / width_of record_size f) (x.first / width_of record_size f + 1)
            (journal_held (sound_journal j t.sound)).holding t.planned (rw h at p) q (omega arith) t.room (part_count t.reads);
      }

-- ---- what a verdict says

abbrev made : Judgement → (held follows entry lines : Bool) → (at : ℕ) → Result Verdict Rejection
made j a b c d at = pick a (Ok Hold) (pick b (pick c (pick d (Ok Store) (Err (rejection (refusal_by FullJournal at)))) (Err (rejection (refusal_by FullContents at)))) (Err (not_next j at)))

made_room : (j : Judgement) (a b c d : Bool) (at : ℕ) → made j a b c d at ≡ Ok Store → (c ≡ true) × (d ≡ true)
made_room j true b c d at e = absurd (let z : ◌≡◌ {A = ℕ} 0 1 = cc in omega arith)
made_room j false false c d at e = absurd (let z : ◌≡◌ {A = ℕ} 0 1 = cc in omega arith)
made_room j false true false d at e = absurd (let z : ◌≡◌ {A = ℕ} 0 1 = cc in omega arith)
made_room j false true true false at e = absurd (let z : ◌≡◌ {A = ℕ} 0 1 = cc in omega arith)
made_room j false true true true at e = (refl, refl)

-- where one is stored there is an entry, and there are lines
pub has_room : (n : ℕ) (hs : List Statement) (s : Statement) (at : ℕ) → verdict_of n hs s at ≡ Ok Store → (length hs < most_entries) × (size_of s ≤ n - lines_of hs)
unfolding verdict_of
has_room n hs s at e =
    let j = judgement_of s hs in
    let r = made_room j (is_held j) (follows_by j s.old_date s.old_balance) (ltb (length hs) most_entries) (leb (size_of s) (n - lines_of hs)) at e in
    (ltb-true (length hs) most_entries r.0, leb-true (size_of s) (n - lines_of hs) r.1)
