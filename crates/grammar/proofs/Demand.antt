-- The check meets demand 2. A check that refuses every file does not, and neither does one that answers all files alike.
use mathlib.Core.Path.{◌≡◌, refl, sym, ◌∙◌}
use mathlib.Core.List.{List, []}
use Prim.Native.Nat.{ℕ, ◌*◌}
use native.Mathlib.Nat.{zero-div}
use native.Mathlib.Omega.{arith}
use lib.Seq.{drop-nil}
use Rattle.zones.specs.Pieces.{flat}
use Rattle.framing.specs.declared.Form.{Form}
use Rattle.framing.specs.Files.{width_of, count_of, chunks, file_of}
use Rattle.grammar.specs.Answer.{Counts, Answer, accepted}
use Rattle.grammar.specs.Statements.{Statement, all_records, counts_of}
use Rattle.grammar.specs.Files.{Coding, Lawful, canonical, layout_of, Gives, Reads, check_of}
use Rattle.grammar.specs.Demand.{Demand2}
use Rattle.grammar.proofs.Tests.{clash}
use Rattle.grammar.proofs.Canonical.{check_canonical, canonical_once}
use Rattle.grammar.proofs.Exact.{counts, reads_canonical, gives_reads, written_given, exact_own}

-- the check meets demand 2
pub demand2 : {C : Form → Coding} → ((f : Form) → Lawful (C f)) → Demand2 C (λ f b. check_of (C f) f b)
demand2 {C} L =
    record {
      accepts = λ f b ss g. counts (C f) (L f) (gives_reads (C f) (L f) g);
      only = λ f b c o e. (exact_own (C f) (L f) f b o).0 (c, e);
      alike = λ f b. sym (check_canonical (C f) (L f) f b);
    }

-- Whatever meets it accepts exactly the files that read as some list of statements, with the counts of that list.
module _ {C : Form → Coding} (L : (f : Form) → Lawful (C f)) (check : Form → List ℕ → Answer) (d : Demand2 C check) where
  pub accepted_reads : (f : Form) (b : List ℕ) (ss : List Statement) → Reads (C f) f b ss → check f b ≡ accepted (counts_of ss)
  accepted_reads f b ss r = d.alike f b ∙ d.accepts f (canonical (C f) f b) ss (written_given (C f) (L f) r)

  pub only_reads : (f : Form) (b : List ℕ) (c : Counts) → check f b ≡ accepted c → (ss : List Statement) × Reads (C f) f b ss
  only_reads f b c e =
      let g = d.only f (canonical (C f) f b) c (canonical_once (C f) (L f) f b) (sym (d.alike f b) ∙ e) in
      (g.0, (reads_canonical (C f) (L f)).1 (gives_reads (C f) (L f) g.1))

-- the form with line end n
abbrev form : ℕ → Form
form n = record { line_end = n }

module _ (C : Form → Coding) where
  -- the empty file is no statement
  empty_given : Gives (C (form 0)) (form 0) [] []
  unfolding layout_of all_records file_of flat
  empty_given = record { line = refl; valid = tt; ok = tt; layout = refl; few = omega arith }

  -- and stands as the writer writes it
  empty_own : (f : Form) → canonical (C f) f [] ≡ []
  unfolding canonical flat chunks
  empty_own f =
      let e : count_of (C f).size f [] ≡ 0 = zero-div (width_of (C f).size f) in
      rw e (drop-nil (0 * width_of (C f).size f))

  -- so a check that refuses every file does not meet it
  pub refuses_every_file : (check : Form → List ℕ → Answer) → ((f : Form) (b : List ℕ) (c : Counts) → check f b ≡ accepted c → ⊥) → Demand2 C check → ⊥
  refuses_every_file check refuses d = refuses (form 0) [] (counts_of []) (d.accepts (form 0) [] [] empty_given)

  -- with line end 3 no file is one
  pub alike_for_all : (a : Answer) → Demand2 C (λ f b. a) → ⊥
  alike_for_all a d = clash refl (d.only (form 3) [] (counts_of []) (empty_own (form 3)) (d.accepts (form 0) [] [] empty_given)).1.line
