-- How much of a journal is used: at the code's returns, and in a sound journal.
use mathlib.Core.Path.{◌≡◌, sym, ◌∙◌}
use mathlib.Core.Bool.{Bool, true, false, not}
use mathlib.Core.List.{List}
use Prim.Native.Nat.{ℕ, ◌-◌, ◌/◌, ◌≤◌}
use native.Mathlib.Omega.{arith}
use lib.ListN.{length}
use borrow.Author.Tests.{not-true, not-false}
use Rattle.grammar.specs.Statements.{Statement}
use Rattle.records.specs.July.{record_size}
use Rattle.entries.specs.Entries.{table_size}
use Rattle.journal_layout.specs.declared.Free.{Free}
use Rattle.std.specs.Prelude.{Ok, Err}
use Rattle.framing.specs.Refusals.{refusal_by}
use Rattle.framing.specs.declared.refusals.Reason.TheVariants.{UnsoundJournal}
use Rattle.journal_layout.specs.Layout.{lines_of, Journal}
use Rattle.journal_layout.specs.Test.{sound_in, held_of, free_in, usage_of}
use Rattle.journal_layout.proofs.Testing.{is_long}
use Rattle.journal_layout.proofs.Exact.{journal_long, journal_length, journal_sound, journal_list, sound_journal}
use Rattle.journal_layout.proofs.Freeing.{free_is}

module _ (j : List ℕ) {t : Bool} (p : t ≡ sound_in j) where
  pub not_counted : not t ≡ true → Err (refusal_by UnsoundJournal 0) ≡ usage_of j
  unfolding usage_of
  not_counted h = sym (rw (← p, not-true t h))

  module _ (h : not t ≡ false) where
    journal : Journal j (held_of j)
    journal = sound_journal j (sym p ∙ not-false t h)

    pub table_there : table_size ≤ length j
    table_there = (is_long (length j) (journal_long journal)).least

    pub counted : {x : Free} → x ≡ free_in j → Ok (record { entries = x.entry; used = x.line; lines = (length j - table_size) / record_size }) ≡ usage_of j
    unfolding usage_of
    counted q = rw (q ∙ free_is journal, ← p, not-false t h)

-- in a sound journal: its statements, their lines, and its lines
pub used_is : {j : List ℕ} {ss : List Statement} → (g : Journal j ss) → usage_of j ≡ Ok (record { entries = length ss; used = lines_of ss; lines = g.lines })
unfolding usage_of
used_is {j} g =
    let n = journal_length g in
    let z : (length j - table_size) / record_size ≡ g.lines = omega arith in
    rw (journal_sound g, journal_list g, z)
