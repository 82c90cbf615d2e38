-- The place of statement k as the paper gives it, of whatever meets the contract: the file's refusals; then 16 with record 0; else first byte and length.
use mathlib.Core.Path.{◌≡◌, refl, sym, ap, ◌∙◌}
use mathlib.Core.Bool.{Bool, true, false, ◌||◌}
use mathlib.Core.List.{List}
use Prim.Native.Nat.{ℕ, ◌-◌, ◌*◌, ◌<◌, ◌≤◌}
use native.Mathlib.Omega.{arith}
use lib.Dec.{eqb, ltb}
use lib.ListN.{length, get_or}
use borrow.Author.Tests.{ne_eqb, lt-ltb, le-ltb, eqb-false}
use Rattle.zones.specs.Choice.{pick}
use Rattle.framing.specs.declared.Form.{Form}
use Rattle.framing.specs.Files.{width_of}
use Rattle.grammar.specs.Answer.{refused}
use Rattle.grammar.specs.Statements.{Statement}
use Rattle.grammar.specs.Files.{Reads, check_of}
use Rattle.grammar.specs.Parts.{size_of, records_before, no_statement}
use Rattle.records.specs.July.{record_size, coding_of}
use Rattle.records.proofs.Theorems.{counts, reads, unique}
use Rattle.readers.specs.declared.Place.{Place}
use Rattle.std.specs.Prelude.{Result, Ok, Err}
use Rattle.framing.specs.Refusals.{reason_number, reason_of, refusal_of}
use Rattle.framing.specs.declared.refusals.Refusal.{Refusal}
use Rattle.framing.proofs.Reasons.{reason_back, reason_positive}
use Rattle.statements.proofs.Listed.{check_listed}
use Rattle.readers.specs.Places.{place_among, place_of}
use Rattle.readers.specs.Answers.{PaperPlace, paper_place, StatementPlace}

-- a number is 0 or above the last of some
pub none_there : (k n : ℕ) → (1 ≤ k → n < k) → (eqb k 0 || ltb n k) ≡ true
none_there k n h = by (eqb k 0) refl
  where
    by : (t : Bool) → eqb k 0 ≡ t → (t || ltb n k) ≡ true
    by true e = refl
    by false e = let z = eqb-false k 0 e in lt-ltb n k (h (omega arith))

module _ {f : Form} {b : List ℕ} {k : ℕ} {r : Result Place Refusal} (g : StatementPlace f b k r) where
  pub place_refused : {n i : ℕ} → check_of (coding_of f) f b ≡ refused n i → paper_place r ≡ record { number = n; at = i; first = 0; len = 0 }
  unfolding place_of
  place_refused {n} {i} p =
      let l : reason_number (reason_of n) ≡ n = rw p at (check_listed f b) in
      ap paper_place g.answer ∙ rw (p, l)

  module _ {ss : List Statement} (t : Reads (coding_of f) f b ss) where
    among : r ≡ place_among (width_of record_size f) ss k
    unfolding place_of
    among = g.answer ∙ rw (counts t, unique (reads f b (counts t)) t)

    pub place_none : (1 ≤ k → length ss < k) → paper_place r ≡ record { number = 16; at = 0; first = 0; len = 0 }
    place_none h = ap paper_place among ∙ rw (none_there k (length ss) h)

    pub place_there : 1 ≤ k → k ≤ length ss
        → paper_place r
        ≡ record {
          number = 0;
          at = 0;
          first = records_before (k - 1) ss * width_of record_size f;
          len = size_of (get_or ss (k - 1) no_statement) * width_of record_size f;
        }
    place_there h l = ap paper_place among ∙ rw (ne_eqb k 0 (λ z. omega arith), le-ltb (length ss) k l)

-- the record determines the place: no two have the same
abbrev place_from : PaperPlace → Result Place Refusal
place_from p = pick (eqb p.number 0) (Ok (record { first = p.first; len = p.len })) (Err (refusal_of p.number p.at))

from_paper : (r : Result Place Refusal) → place_from (paper_place r) ≡ r
from_paper (Ok p) = refl
from_paper (Err e) = rw (reason_positive e.reason, reason_back e.reason)

pub paper_apart : {r q : Result Place Refusal} → paper_place r ≡ paper_place q → r ≡ q
paper_apart {r} {q} p = sym (from_paper r) ∙ ap place_from p ∙ from_paper q
