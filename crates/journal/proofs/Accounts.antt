-- A verdict looks at one account: only its own account's held statements and the room that is left decide about a statement.
use mathlib.Core.Path.{◌≡◌, refl, sym, ap, ◌∙◌}
use mathlib.Core.Bool.{Bool, true, false, ◌||◌}
use mathlib.Core.List.{List, [], ◌∷◌}
use Prim.Native.Nat.{ℕ, ◌-◌}
use lib.ListN.{length}
use Rattle.zones.specs.Choice.{pick}
use Rattle.framing.specs.Files.{All}
use Rattle.grammar.specs.declared.Key.{Key}
use Rattle.grammar.specs.Record.{same_key}
use Rattle.grammar.specs.Statements.{Statement}
use Rattle.grammar.specs.Files.{Writable}
use Rattle.grammar.specs.Parts.{size_of}
use Rattle.grammar.proofs.Tests.{clash, same_key_self}
use Rattle.records.specs.July.{july}
use Rattle.bodies.specs.Bodies.{identical}
use Rattle.bodies.proofs.Identical.{identical_equal}
use Rattle.journal_layout.specs.declared.Judgement.{Judgement}
use Rattle.journal_layout.specs.declared.Judgement.TheVariants.{First}
use Rattle.journal_layout.specs.Chains.{held_among, last_among, judgement_of, of_account}
use Rattle.journal_layout.specs.Layout.{lines_of}
use Rattle.journal_layout.proofs.Chain.{last_of, last_account}
use Rattle.journal_layout.proofs.Accounts.{account_again}
use Rattle.journal.specs.Delivery.{verdict_by, verdict_of}

-- those of other accounts neither hold it nor come before it
held_account : (s : Statement) (hs : List Statement) → Writable july s → All (Writable july) hs → held_among s hs ≡ held_among s (of_account s.key hs)
unfolding held_among of_account
held_account s [] w a = refl
held_account s (h ∷ hs) w a = by (same_key h.key s.key) refl (identical h s) refl (held_account s hs w a.1)
  where
    by : (t : Bool) → same_key h.key s.key ≡ t → (u : Bool) → identical h s ≡ u → held_among s hs ≡ held_among s (of_account s.key hs)
        → (u || held_among s hs) ≡ held_among s (pick t (h ∷ of_account s.key hs) (of_account s.key hs))
    by true p u q i = rw (← q) (ap (λ t. identical h s || t) i)
    by false p false q i = i
    by false p true q i =
        absurd (let e = identical_equal a.0 w q in clash (rw (ap (λ x. x.key) e) (same_key_self s.key)) p)

last_own : (k : Key) (last : Judgement) (hs : List Statement) → last_among k last hs ≡ last_among k last (of_account k hs)
last_own k last hs = last_account k last hs ∙ sym (last_account k last (of_account k hs) ∙ ap (last_of last) (account_again k hs))

pub judgement_account : (s : Statement) (hs : List Statement) → Writable july s → All (Writable july) hs → judgement_of s hs ≡ judgement_of s (of_account s.key hs)
unfolding judgement_of
judgement_account s hs w a = rw (held_account s hs w a, last_own s.key First hs)

-- the verdict
pub verdict_account : (n : ℕ) (s : Statement) (hs : List Statement) (at : ℕ) → Writable july s → All (Writable july) hs
    → verdict_of n hs s at ≡ verdict_by (judgement_of s (of_account s.key hs)) s.old_date s.old_balance (length hs) (n - lines_of hs) (size_of s) at
unfolding verdict_of
verdict_account n s hs at w a = rw (judgement_account s hs w a)
