-- The answer on a lent table as the paper gives it, of whatever meets the contract: the file's refusals; then 16 and 18 with record 0; else the number of movements.
use mathlib.Core.Path.{◌≡◌, refl, sym, ap, ◌∙◌}
use mathlib.Core.List.{List}
use Prim.Native.Nat.{ℕ, ◌-◌, ◌<◌, ◌≤◌}
use native.Mathlib.Omega.{arith}
use lib.Dec.{eqb}
use lib.ListN.{length, get_or}
use borrow.Author.Tests.{ne_eqb, lt-ltb, le-ltb}
use Rattle.std.specs.Prelude.{Result, Ok, Err}
use Rattle.zones.specs.Choice.{pick}
use Rattle.framing.specs.declared.Form.{Form}
use Rattle.framing.specs.Refusals.{reason_number, reason_of, refusal_of}
use Rattle.framing.specs.declared.refusals.Refusal.{Refusal}
use Rattle.framing.proofs.Reasons.{reason_back, reason_positive}
use Rattle.grammar.specs.Answer.{refused}
use Rattle.grammar.specs.Statements.{Statement}
use Rattle.grammar.specs.Files.{Reads, check_of}
use Rattle.grammar.specs.Parts.{no_statement}
use Rattle.records.specs.July.{coding_of}
use Rattle.records.proofs.Theorems.{counts, reads, unique}
use Rattle.statements.proofs.Listed.{check_listed}
use Rattle.fields.specs.declared.Movement.{Movement}
use Rattle.readers.specs.Places.{place_of}
use Rattle.readers.proofs.Paper.{none_there}
use Rattle.tables.specs.Tables.{table_answer_of}
use Rattle.tables.specs.Answers.{PaperTable, paper_table, Movements}

module _ {f : Form} {b : List ℕ} {k : ℕ} {t u : List Movement} {r : Result ℕ Refusal} (g : Movements f b k t r u) where
  pub movements_refused : {n i : ℕ} → check_of (coding_of f) f b ≡ refused n i → paper_table r ≡ record { number = n; at = i; movements = 0 }
  unfolding table_answer_of place_of
  movements_refused {n} {i} p =
      let l : reason_number (reason_of n) ≡ n = rw p at (check_listed f b) in
      ap paper_table g.answer ∙ rw (p, l)

  module _ {ss : List Statement} (q : Reads (coding_of f) f b ss) where
    pub movements_none : (1 ≤ k → length ss < k) → paper_table r ≡ record { number = 16; at = 0; movements = 0 }
    unfolding table_answer_of place_of
    movements_none h = ap paper_table g.answer ∙ rw (counts q, unique (reads f b (counts q)) q, none_there k (length ss) h)

    module _ (h : 1 ≤ k) (l : k ≤ length ss) where
      abbrev n : ℕ
      n = length (get_or ss (k - 1) no_statement).movements

      pub movements_short : length t < n → paper_table r ≡ record { number = 18; at = 0; movements = 0 }
      unfolding table_answer_of place_of
      movements_short s =
          ap paper_table g.answer
          ∙ rw (counts q, unique (reads f b (counts q)) q, ne_eqb k 0 (λ z. omega arith), le-ltb (length ss) k l, lt-ltb (length t) n s)

      pub movements_there : n ≤ length t → paper_table r ≡ record { number = 0; at = 0; movements = n }
      unfolding table_answer_of place_of
      movements_there s =
          ap paper_table g.answer
          ∙ rw (counts q, unique (reads f b (counts q)) q, ne_eqb k 0 (λ z. omega arith), le-ltb (length ss) k l, le-ltb (length t) n s)

-- the record determines the answer: no two have the same
abbrev table_from : PaperTable → Result ℕ Refusal
table_from p = pick (eqb p.number 0) (Ok p.movements) (Err (refusal_of p.number p.at))

from_paper : (r : Result ℕ Refusal) → table_from (paper_table r) ≡ r
from_paper (Ok n) = refl
from_paper (Err e) = rw (reason_positive e.reason, reason_back e.reason)

pub paper_apart : {r q : Result ℕ Refusal} → paper_table r ≡ paper_table q → r ≡ q
paper_apart {r} {q} p = sym (from_paper r) ∙ ap table_from p ∙ from_paper q
