-- The position's answer as the paper gives it, of whatever meets the contract: 21, then 27, then 25, then 18, each with record 0; else the number of days.
use mathlib.Core.Path.{◌≡◌, ap, ◌∙◌}
use mathlib.Core.Bool.{true, false}
use mathlib.Core.List.{List}
use Prim.Native.Nat.{ℕ, ◌<◌, ◌≤◌}
use lib.ListN.{length}
use lib.IntN.{ℤ}
use borrow.Author.Tests.{lt-ltb, le-ltb}
use Rattle.grammar.specs.Statements.{Statement}
use Rattle.journal_layout.specs.Layout.{Journal}
use Rattle.journal_layout.proofs.Exact.{journal_sound, journal_list}
use Rattle.journal_layout.proofs.Paper.{not_sound}
use Rattle.std.specs.Prelude.{Result}
use Rattle.framing.specs.declared.refusals.Refusal.{Refusal}
use Rattle.cash.specs.Spans.{span_days, no_span}
use Rattle.cash.specs.Positions.{no_account, position_of}
use Rattle.cash.specs.Answers.{paper_position, Positions}

module _ {j x : List ℕ} {first last : ℕ} {t : List ℤ} {r : Result ℕ Refusal} {t' : List ℤ} (a : Positions j x first last t r t') where
  pub position_unsound : ((ss : List Statement) → Journal j ss → ⊥) → paper_position r ≡ record { number = 21; at = 0; days = 0 }
  unfolding position_of
  position_unsound n = ap paper_position a.answer ∙ rw (not_sound n)

  module _ {ss : List Statement} (g : Journal j ss) where
    pub position_no_span : no_span first last ≡ true → paper_position r ≡ record { number = 27; at = 0; days = 0 }
    unfolding position_of
    position_no_span s = ap paper_position a.answer ∙ rw (journal_sound g, s)

    module _ (s : no_span first last ≡ false) where
      pub position_no_account : no_account x ss ≡ true → paper_position r ≡ record { number = 25; at = 0; days = 0 }
      unfolding position_of
      position_no_account n = ap paper_position a.answer ∙ rw (journal_sound g, s, journal_list g, n)

      module _ (k : no_account x ss ≡ false) where
        pub position_short : length t < span_days first last → paper_position r ≡ record { number = 18; at = 0; days = 0 }
        unfolding position_of
        position_short l = ap paper_position a.answer ∙ rw (journal_sound g, s, journal_list g, k, lt-ltb (length t) (span_days first last) l)

        pub position_days : span_days first last ≤ length t → paper_position r ≡ record { number = 0; at = 0; days = span_days first last }
        unfolding position_of
        position_days l = ap paper_position a.answer ∙ rw (journal_sound g, s, journal_list g, k, le-ltb (length t) (span_days first last) l)
