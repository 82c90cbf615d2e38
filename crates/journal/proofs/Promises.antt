-- The promises are kept.
use mathlib.Core.Path.{◌≡◌, ◌∙◌}
use mathlib.Core.Bool.{true}
use mathlib.Core.List.{List}
use Prim.Native.Nat.{ℕ, ◌-◌, ◌<◌, ◌≤◌}
use native.Mathlib.Omega.{arith}
use lib.ListN.{length, get_or}
use borrow.Author.Tests.{ne_eqb, lt-ltb, le-ltb}
use Rattle.std.specs.Prelude.{Err}
use Rattle.framing.specs.declared.Form.{Form}
use Rattle.framing.specs.Refusals.{refusal_by}
use Rattle.framing.specs.declared.refusals.Reason.TheVariants.{NoSuchEntry}
use Rattle.grammar.specs.Parts.{no_statement}
use Rattle.bodies.specs.Bodies.{body_of}
use Rattle.journal_layout.specs.Test.{sound_in, held_of, entry_place_of, entry_body_of}
use Rattle.journal_layout.proofs.Exact.{journal_sound, journal_list, sound_journal}
use Rattle.journal.specs.declared.Rejection.{Rejection}
use Rattle.journal.specs.Delivery.{Outcome, delivered, refused, outcome_of}
use Rattle.journal.specs.Answers.{answer_of}
use Rattle.journal.specs.Promises.{Promise, Adds}
use Rattle.journal.proofs.Delivered.{stored, unchanged}
use Rattle.journal.proofs.Holdings.{sound_held, sound_body, sound_reads, sound_account, sound_none}
use Rattle.journal.proofs.Series.{answered, journal_summed, journal_never_falls}

module _ (j : List ℕ) (h : sound_in j ≡ true) where
  body_of_entry : (e : ℕ) → 0 < e → e ≤ length (held_of j) → entry_body_of j e ≡ body_of (get_or (held_of j) (e - 1) no_statement)
  unfolding entry_body_of entry_place_of
  body_of_entry e p q = rw (h, ne_eqb e 0 (omega arith), le-ltb (length (held_of j)) e q)

  past_the_last : (e : ℕ) → length (held_of j) < e → entry_place_of j e ≡ Err (refusal_by NoSuchEntry 0)
  unfolding entry_place_of
  past_the_last e p = rw (h, ne_eqb e 0 (omega arith), lt-ltb (length (held_of j)) e p)

  pub promise : Promise j (held_of j)
  promise =
      let g = sound_journal j h in
      let k = g.kept in
      let r = k.room in
      let m = g.most in
      record {
        alone = k.alone;
        few = k.few;
        lines = omega arith;
        distinct = k.distinct;
        chained = k.chained;
        summed = journal_summed g;
        never_falls = journal_never_falls g;
        entry = body_of_entry;
        no_entry = past_the_last;
        held = sound_held j h;
        body = sound_body j h;
        reads = sound_reads j h;
        account = sound_account j h;
        no_body = sound_none j h;
      }

  pub adds : (f : Form) (b : List ℕ) → Adds j f b
  adds f b =
      let g = sound_journal j h in
      record {
        stored = λ s n e. let x = stored g f b (answered (outcome_of j f b) e).1 in (journal_list x.journal ∙ x.list, journal_sound x.journal);
        counted = λ s n e. let x = stored g f b (answered (outcome_of j f b) e).1 in (x.stores, x.all);
        read = λ s n e. (stored g f b (answered (outcome_of j f b) e).1).read;
        unchanged = λ r e. unchanged j f b (turned_away (outcome_of j f b) e);
      }
    where
      turned_away : (o : Outcome) {r : Rejection} → answer_of o ≡ Err r → o ≡ refused r
      turned_away (delivered L s t) e = absurd (let z : ◌≡◌ {A = ℕ} 0 1 = cc in omega arith)
      turned_away (refused q) {r} e = let v : q ≡ r = cc in rw v
