-- The theorems of the format at the real records.
use mathlib.Core.Path.{◌≡◌, refl, ap, sym, ◌∙◌}
use mathlib.Core.Bool.{true, false, not}
use mathlib.Core.Logic.{◌↔◌}
use mathlib.Core.List.{List, [], ◌∷◌}
use Prim.Native.Nat.{ℕ, ◌+◌, ◌<◌, ◌≤◌}
use native.Mathlib.Omega.{arith}
use lib.ListN.{length, take, get_or}
use lib.Seq.{length-take-le}
use borrow.Author.Tests.{not-true}
use Rattle.zones.proofs.Bools.{and_left, and_right, both}
use Rattle.framing.specs.declared.Form.{Form}
use Rattle.framing.specs.Files.{All, width_of, unknown_end}
use Rattle.framing.proofs.Cuts.{Wide}
use Rattle.grammar.specs.Answer.{Counts, Answer, accepted}
use Rattle.grammar.specs.Statements.{Statement, counts_of}
use Rattle.grammar.specs.Files.{pieces, check_of, canonical, relined, layout_of, Gives, Reads, statements_of, Writable, Ruled}
use Rattle.grammar.specs.Demand.{Demand2}
use Rattle.grammar.specs.Parts.{part_of, no_statement}
use Rattle.grammar.proofs.Canonical as N
use Rattle.grammar.proofs.Exact as G
use Rattle.grammar.proofs.Relined as E
use Rattle.grammar.proofs.Refusal as R
use Rattle.grammar.proofs.Demand as D
use Rattle.grammar.proofs.Trips as T
use Rattle.grammar.proofs.Parts as P
use Rattle.records.specs.July.{record_size, canon_record, has_debit_zero, no_debit_zero, july, coding_of}
use Rattle.records.proofs.Canon.{own_record, record_own}
use Rattle.records.proofs.Lawful.{july_lawful, lawful}

-- a record is no longer than its piece
width_size : (f : Form) → record_size ≤ width_of record_size f
unfolding width_of
width_size f = omega arith

-- accepted exactly if there is a list of valid statements whose layout these bytes are, each record as the writer writes it; there is no second; the counts are its
pub exact : (f : Form) (b : List ℕ) → ((c : Counts) × (check_of (coding_of f) f b ≡ accepted c)) ↔ ((ss : List Statement) × Reads (coding_of f) f b ss)
exact f = G.exact (coding_of f) (lawful f) f

pub unique : {f : Form} {b : List ℕ} {ss ts : List Statement} → Reads (coding_of f) f b ss → Reads (coding_of f) f b ts → ss ≡ ts
unique {f} = G.unique (coding_of f) (lawful f)

pub counts : {f : Form} {b : List ℕ} {ss : List Statement} → Reads (coding_of f) f b ss → check_of (coding_of f) f b ≡ accepted (counts_of ss)
counts {f} = G.counts (coding_of f) (lawful f)

-- the list is `statements_of`
pub reads : (f : Form) (b : List ℕ) {c : Counts} → check_of (coding_of f) f b ≡ accepted c → Reads (coding_of f) f b (statements_of (coding_of f) f b)
reads f = G.reads (coding_of f) (lawful f) f

-- the answer obeys the rule of refusal, and no second answer does
pub ruled : (f : Form) (b : List ℕ) → Ruled (coding_of f) f b (check_of (coding_of f) f b)
ruled f = R.check_ruled (coding_of f) f

pub one_answer : {f : Form} {b : List ℕ} {a c : Answer} → Ruled (coding_of f) f b a → Ruled (coding_of f) f b c → a ≡ c
one_answer {f} = R.one_answer (coding_of f)

-- demand 2, and two wrong checks that it shuts out; a third is in `Worked`
pub demand2 : Demand2 coding_of (λ f b. check_of (coding_of f) f b)
demand2 = D.demand2 lawful

pub refuses_every_file : (check : Form → List ℕ → Answer) → ((f : Form) (b : List ℕ) (c : Counts) → check f b ≡ accepted c → ⊥) → Demand2 coding_of check → ⊥
refuses_every_file = D.refuses_every_file coding_of

pub alike_for_all : (a : Answer) → Demand2 coding_of (λ f b. a) → ⊥
alike_for_all = D.alike_for_all coding_of

-- whatever meets it accepts exactly the files that read as some list of statements, with the counts of that list
pub accepted_reads : (check : Form → List ℕ → Answer) → Demand2 coding_of check → (f : Form) (b : List ℕ) (ss : List Statement)
    → Reads (coding_of f) f b ss → check f b ≡ accepted (counts_of ss)
accepted_reads = D.accepted_reads lawful

pub only_reads : (check : Form → List ℕ → Answer) → Demand2 coding_of check → (f : Form) (b : List ℕ) (c : Counts)
    → check f b ≡ accepted c → (ss : List Statement) × Reads (coding_of f) f b ss
only_reads = D.only_reads lawful

-- a file and the file with each record as the writer writes it have the same answer, refusals included, and the same statements
pub check_canonical : (f : Form) (b : List ℕ) → check_of (coding_of f) f (canonical (coding_of f) f b) ≡ check_of (coding_of f) f b
check_canonical f = N.check_canonical (coding_of f) (lawful f) f

pub statements_canonical : (f : Form) (b : List ℕ) → statements_of (coding_of f) f (canonical (coding_of f) f b) ≡ statements_of (coding_of f) f b
statements_canonical f = N.statements_canonical (coding_of f) (lawful f) f

-- so they read as the same statements, or both as none
pub reads_canonical : {f : Form} {b : List ℕ} {ss : List Statement} → Reads (coding_of f) f b ss ↔ Reads (coding_of f) f (canonical (coding_of f) f b) ss
reads_canonical {f} = G.reads_canonical (coding_of f) (lawful f)

-- with any of the three line ends a file reads as the same statements; with its own it is the same file
pub relined_reads : {f g : Form} {b : List ℕ} {ss : List Statement} → Reads (coding_of f) f b ss → unknown_end g ≡ false → Reads (coding_of g) g (relined (coding_of f) f g b) ss
relined_reads {f} = E.relined_reads (coding_of f) (lawful f)

pub relined_own : {f : Form} {b : List ℕ} {ss : List Statement} → Reads (coding_of f) f b ss → relined (coding_of f) f f b ≡ b
relined_own {f} = E.relined_own (coding_of f) (lawful f)

-- a file and its canonical form are the same exactly if no record has a debit zero
pub own_file : (f : Form) (b : List ℕ) → (canonical (coding_of f) f b ≡ b) ↔ (no_debit_zero (pieces (coding_of f) f b) ≡ true)
unfolding no_debit_zero
own_file f b = (
  (λ e. to (pieces (coding_of f) f b) (N.wide_all (coding_of f) (lawful f) f b) (N.of_own (coding_of f) (lawful f) f b e)),
  (λ h. N.own_of (coding_of f) (lawful f) f b (from (pieces (coding_of f) f b) (N.wide_all (coding_of f) (lawful f) f b) h)),
)
  where
    long : (p : List ℕ) → length p ≡ width_of record_size f → length (take record_size p) ≡ record_size
    long p w = length-take-le record_size p (omega (arith, width_size f))

    to : (ps : List (List ℕ)) → Wide (width_of record_size f) ps → All (λ p. canon_record (take record_size p) ≡ take record_size p) ps → no_debit_zero ps ≡ true
    to [] w h = refl
    to (p ∷ ps) w h = both (ap not (record_own (take record_size p) (long p w.0) h.0)) (to ps w.1 h.1)

    from : (ps : List (List ℕ)) → Wide (width_of record_size f) ps → no_debit_zero ps ≡ true → All (λ p. canon_record (take record_size p) ≡ take record_size p) ps
    from [] w h = tt
    from (p ∷ ps) w h = (
      own_record (take record_size p) (long p w.0) (not-true _ (and_left (not (has_debit_zero (take record_size p))) _ h)),
      from ps w.1 (and_right (not (has_debit_zero (take record_size p))) _ h),
    )

-- what some statements give has none
pub given_own : {f : Form} {b : List ℕ} {ss : List Statement} → Gives (coding_of f) f b ss → no_debit_zero (pieces (coding_of f) f b) ≡ true
given_own {f} {b} g = (own_file f b).0 (sym (G.gives_reads (coding_of f) (lawful f) g).layout ∙ g.layout)

-- so a file without a debit zero is accepted exactly if some list of statements gives those bytes
pub exact_own : (f : Form) (b : List ℕ) → no_debit_zero (pieces (coding_of f) f b) ≡ true
    → ((c : Counts) × (check_of (coding_of f) f b ≡ accepted c)) ↔ ((ss : List Statement) × Gives (coding_of f) f b ss)
exact_own f b h = G.exact_own (coding_of f) (lawful f) f b ((own_file f b).1 h)

-- the round trips, and the values that 19 is not given for
pub read_written : (f : Form) (b : List ℕ) {c : Counts} → check_of (coding_of f) f b ≡ accepted c → layout_of (coding_of f) f (statements_of (coding_of f) f b) ≡ canonical (coding_of f) f b
read_written f = T.read_written (coding_of f) (lawful f) f

-- a file without a debit zero comes back as it was
pub own_written : (f : Form) (b : List ℕ) {c : Counts} → no_debit_zero (pieces (coding_of f) f b) ≡ true → check_of (coding_of f) f b ≡ accepted c → layout_of (coding_of f) f (statements_of (coding_of f) f b) ≡ b
own_written f b h = T.own_written (coding_of f) (lawful f) f b ((own_file f b).1 h)

pub written_read : {f : Form} {b : List ℕ} {ss : List Statement} → Reads (coding_of f) f b ss → statements_of (coding_of f) f (layout_of (coding_of f) f ss) ≡ ss
written_read {f} = T.written_read (coding_of f) (lawful f)

pub writable : (s : Statement) → ((f : Form) × ((b : List ℕ) × Reads (coding_of f) f b (s ∷ []))) ↔ Writable july s
writable = T.writable july july_lawful

-- the part of a statement is a file of exactly that statement
pub part_reads : {f : Form} {b : List ℕ} {ss : List Statement} → Reads (coding_of f) f b ss → (j : ℕ) → j < length ss → Reads (coding_of f) f (part_of (coding_of f) f b (j + 1)) (get_or ss j no_statement ∷ [])
part_reads {f} r j h = P.part_reads (coding_of f) (lawful f) r j h
