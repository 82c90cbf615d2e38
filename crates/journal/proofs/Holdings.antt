-- What the crates above read of a journal: at the code's returns, and in a sound journal.
use mathlib.Core.Path.{◌≡◌, refl, sym, ap, ◌∙◌}
use mathlib.Core.Bool.{Bool, true, false}
use mathlib.Core.List.{List, [], ◌∷◌}
use Prim.Native.Nat.{ℕ, ◌-◌, ◌/◌, ◌<◌, ◌≤◌}
use native.Mathlib.Omega.{arith}
use lib.Dec.{eqb}
use lib.ListN.{length, get_or}
use borrow.Author.Tests.{eq-eqb, ne_eqb}
use Rattle.std.specs.Prelude.{Result, Ok, Err}
use Rattle.framing.specs.Files.{plain}
use Rattle.framing.specs.Refusals.{refusal_by}
use Rattle.framing.specs.declared.refusals.Reason.TheVariants.{UnsoundJournal}
use Rattle.framing.specs.declared.refusals.Refusal.{Refusal}
use Rattle.zones.specs.Choice.{pick}
use Rattle.grammar.specs.Record.{same_key}
use Rattle.grammar.specs.Statements.{Statement}
use Rattle.grammar.specs.Files.{Reads}
use Rattle.grammar.specs.Parts.{no_statement}
use Rattle.records.specs.July.{record_size, coding_of}
use Rattle.contents.specs.Heads.{record_at_of}
use Rattle.bodies.specs.Bodies.{body_of}
use Rattle.bodies.proofs.Single.{body_reads}
use Rattle.entries.specs.Entries.{table_size, body_at, entry_in}
use Rattle.journal_layout.specs.declared.Usage.{Usage}
use Rattle.journal_layout.specs.Layout.{lines_of, Journal}
use Rattle.journal_layout.specs.Test.{sound_in, held_of, usage_of}
use Rattle.journal_layout.proofs.Holding.{there_alone, there_body}
use Rattle.journal_layout.proofs.Exact.{journal_held, sound_journal}
use Rattle.journal_layout.proofs.Places.{used_held}
use Rattle.journal.specs.Newest.{key_size, key_from, is_account}
use Rattle.journal.specs.Holdings.{holding_of, body_in, of_account_in}
use Rattle.journal.proofs.Latest.{account_value}

-- how many are held, from how much is used
module _ (j : List ℕ) where
  pub counted : {u : Usage} → Ok u ≡ usage_of j → Ok u.entries ≡ holding_of j
  unfolding usage_of holding_of
  counted {u} e = by (sound_in j) (lines_of (held_of j)) ((length j - table_size) / record_size) e
    where
      by : (t : Bool) (v w : ℕ) → Ok u ≡ pick t (Ok (record { entries = length (held_of j); used = v; lines = w })) (Err (refusal_by UnsoundJournal 0))
          → Ok u.entries ≡ pick t (Ok (length (held_of j))) (Err (refusal_by UnsoundJournal 0))
      by true v w q = let z : u.entries ≡ length (held_of j) = cc in rw z
      by false v w q = absurd (let z : ◌≡◌ {A = ℕ} 0 1 = cc in omega arith)

  pub not_counted : {e : Refusal} → Err e ≡ usage_of j → Err e ≡ holding_of j
  unfolding usage_of holding_of
  not_counted {e} p = by (sound_in j) (lines_of (held_of j)) ((length j - table_size) / record_size) p
    where
      by : (t : Bool) (v w : ℕ) → ◌≡◌ {A = Result Usage Refusal} (Err e) (pick t (Ok (record { entries = length (held_of j); used = v; lines = w })) (Err (refusal_by UnsoundJournal 0)))
          → Err e ≡ pick t (Ok (length (held_of j))) (Err (refusal_by UnsoundJournal 0))
      by true v w q = absurd (let z : ◌≡◌ {A = ℕ} 0 1 = cc in omega arith)
      by false v w q = let z : ◌≡◌ {A = Refusal} e (refusal_by UnsoundJournal 0) = cc in rw z

  -- a body
  pub no_entry_lem : (e : ℕ) → e ≡ 0 → [] ≡ body_in j e
  unfolding body_in
  no_entry_lem e z = sym (rw (eq-eqb e 0 z))

  pub some_entry : (e : ℕ) {b : List ℕ} → (e ≡ 0 → ⊥) → b ≡ body_at j (e - 1) → b ≡ body_in j e
  unfolding body_in
  some_entry e h p = p ∙ sym (rw (ne_eqb e 0 h))

-- its account
module _ (x b : List ℕ) where
  pub no_key_lem : (length x ≡ key_size → ⊥) → false ≡ of_account_in x b
  unfolding of_account_in
  no_key_lem h = sym (rw (ne_eqb (length x) key_size h))

  pub some_key : {o : List ℕ} {t : Bool} → length x ≡ key_size → o ≡ record_at_of b 0 → t ≡ is_account x o → t ≡ of_account_in x b
  unfolding of_account_in
  some_key l p q = q ∙ ap (is_account x) p ∙ sym (rw (eq-eqb (length x) key_size l))

-- IN A SOUND JOURNAL
module _ (j : List ℕ) (h : sound_in j ≡ true) where
  abbrev ss : List Statement
  ss = held_of j

  abbrev journal : Journal j ss
  journal = sound_journal j h

  pub sound_held : holding_of j ≡ Ok (length ss)
  unfolding holding_of
  sound_held = rw h

  -- the body of entry e is that of statement e
  pub sound_body : (e : ℕ) → 0 < e → e ≤ length ss → body_in j e ≡ body_of (get_or ss (e - 1) no_statement)
  unfolding body_in
  sound_body e p q = rw (ne_eqb e 0 (λ z. omega arith)) (there_body (journal_held journal).holding (e - 1) (omega arith))

  -- and a file of exactly it
  pub sound_reads : (e : ℕ) → 0 < e → e ≤ length ss → Reads (coding_of plain) plain (body_in j e) (get_or ss (e - 1) no_statement ∷ [])
  sound_reads e p q = rw (sound_body e p q) (body_reads (there_alone (journal_held journal).holding (e - 1) (omega arith)))

  -- its account is the statement's
  pub sound_account : (x : List ℕ) (e : ℕ) → 0 < e → e ≤ length ss
      → of_account_in x (body_in j e) ≡ pick (eqb (length x) key_size) (same_key (get_or ss (e - 1) no_statement).key (key_from x)) false
  unfolding of_account_in
  sound_account x e p q = rw (account_value x (sound_reads e p q))

  -- and there is no other
  pub sound_none : (e : ℕ) → length ss < e → body_in j e ≡ []
  unfolding body_in body_at
  sound_none e l = rw (ne_eqb e 0 (λ z. omega arith)) (by (entry_in j (e - 1)).used refl)
    where
      by : (u : Bool) → (entry_in j (e - 1)).used ≡ u → body_at j (e - 1) ≡ []
      by true v = absurd (omega (arith, used_held journal (e - 1) v))
      by false v = rw v
