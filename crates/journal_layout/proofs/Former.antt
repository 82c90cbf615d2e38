-- JOURNALS ALREADY KEPT STAY SOUND: one that was sound while a statement had to begin on the day of the last new date is sound, and holds the same statements.
use mathlib.Core.Path.{◌≡◌}
use mathlib.Core.Bool.{true}
use mathlib.Core.List.{List, [], ◌∷◌}
use Prim.Native.Nat.{ℕ}
use native.Mathlib.Omega.{arith}
use Rattle.grammar.specs.Statements.{Statement}
use Rattle.journal_layout.specs.Chains.{Links, Chained, of_account}
use Rattle.journal_layout.specs.Former.{FormerLinks, FormerChained, FormerJournal}
use Rattle.journal_layout.specs.Layout.{Journal}
use Rattle.journal_layout.specs.Test.{sound_in, held_of}
use Rattle.journal_layout.proofs.Exact.{journal_sound, journal_list}

-- the same day is at or after
former_links : {s t : Statement} → FormerLinks s t → Links s t
former_links l = let d = l.date in record { date = omega arith; balance = l.balance }

former_chained : (L : List Statement) → FormerChained L → Chained L
former_chained [] c = tt
former_chained (s ∷ []) c = tt
former_chained (s ∷ t ∷ ts) c = (former_links c.0, former_chained (t ∷ ts) c.1)

pub old_chains : {j : List ℕ} {ss : List Statement} → FormerJournal j ss → Journal j ss
old_chains {j} {ss} g =
    record {
      lines = g.lines;
      most = g.most;
      layout = g.layout;
      kept =
          record {
            few = g.few;
            room = g.room;
            alone = g.alone;
            distinct = g.distinct;
            chained = λ k. former_chained (of_account k ss) (g.chained k);
          };
    }

-- so it passes the test, which reads the same statements in it
pub old_sound : {j : List ℕ} {ss : List Statement} → FormerJournal j ss → (sound_in j ≡ true) × (held_of j ≡ ss)
old_sound g = (journal_sound (old_chains g), journal_list (old_chains g))
