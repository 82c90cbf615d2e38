-- The answers as the paper gives them, of whatever meets the contract: the file's refusals; of a head, a movement and a complement then 16 with record 0; of a file's beginning else the earliest old date.
use mathlib.Core.Path.{◌≡◌, refl, sym, ap, ◌∙◌}
use mathlib.Core.List.{List}
use Prim.Native.Nat.{ℕ, ◌<◌, ◌≤◌}
use lib.Dec.{eqb}
use lib.ListN.{length, replicate}
use Rattle.zones.specs.Choice.{pick}
use Rattle.framing.specs.declared.Form.{Form}
use Rattle.grammar.specs.Answer.{refused}
use Rattle.grammar.specs.Statements.{Statement}
use Rattle.grammar.specs.Files.{Reads, check_of}
use Rattle.records.specs.July.{coding_of, text_size}
use Rattle.records.proofs.Theorems.{counts, reads, unique}
use Rattle.fields.specs.Rows.{no_row}
use Rattle.fields.specs.declared.Movement.{Movement}
use Rattle.readers.specs.Places.{place_of}
use Rattle.readers.proofs.Paper.{none_there}
use Rattle.std.specs.Prelude.{Result, Ok, Err}
use Rattle.framing.specs.Refusals.{reason_number, reason_of, refusal_of, refusal_by}
use Rattle.framing.specs.declared.refusals.Reason.TheVariants.{NoSuchStatement}
use Rattle.framing.specs.declared.refusals.Refusal.{Refusal}
use Rattle.framing.proofs.Reasons.{reason_back, reason_positive}
use Rattle.statements.proofs.Listed.{check_listed}
use Rattle.contents.specs.Earliest.{earliest_of, beginning_of}
use Rattle.contents.specs.Heads.{no_head, head_in}
use Rattle.contents.specs.Movements.{movement_in, complement_in}
use Rattle.contents.specs.declared.Summary.{Summary}
use Rattle.contents.specs.Answers.{PaperBeginning, PaperHead, PaperMovement, PaperText, paper_beginning, paper_head, paper_movement, paper_text, EarliestIn, HeadOf, MovementOf, ComplementOf}
use Rattle.contents.proofs.Begun.{earliest_told}

-- the refusals of a statement's place, which are those of a head, a movement and a complement
module _ (f : Form) (b : List ℕ) (k : ℕ) where
  place_refused : {n i : ℕ} → check_of (coding_of f) f b ≡ refused n i → place_of f b k ≡ Err (refusal_of n i)
  unfolding place_of
  place_refused p = rw p

  place_none : {ss : List Statement} → Reads (coding_of f) f b ss → (1 ≤ k → length ss < k) → place_of f b k ≡ Err (refusal_by NoSuchStatement 0)
  unfolding place_of
  place_none {ss} t h = rw (counts t, unique (reads f b (counts t)) t, none_there k (length ss) h)

number_back : (f : Form) (b : List ℕ) {n i : ℕ} → check_of (coding_of f) f b ≡ refused n i → reason_number (reason_of n) ≡ n
number_back f b p = rw p at (check_listed f b)

module _ {f : Form} {b : List ℕ} {k : ℕ} where
  module _ {r : Result Summary Refusal} (g : HeadOf f b k r) where
    pub heads_refused : {n i : ℕ} → check_of (coding_of f) f b ≡ refused n i → paper_head r ≡ record { number = n; at = i; head = no_head; movements = 0 }
    unfolding head_in
    heads_refused p = ap paper_head g.answer ∙ rw (place_refused f b k p, number_back f b p)

    pub heads_none : {ss : List Statement} → Reads (coding_of f) f b ss → (1 ≤ k → length ss < k)
        → paper_head r ≡ record { number = 16; at = 0; head = no_head; movements = 0 }
    unfolding head_in
    heads_none t h = ap paper_head g.answer ∙ rw (place_none f b k t h)

  module _ {m : ℕ} {r : Result Movement Refusal} (g : MovementOf f b k m r) where
    pub movements_refused : {n i : ℕ} → check_of (coding_of f) f b ≡ refused n i → paper_movement r ≡ record { number = n; at = i; movement = no_row }
    unfolding movement_in
    movements_refused p = ap paper_movement g.answer ∙ rw (place_refused f b k p, number_back f b p)

    pub movements_none : {ss : List Statement} → Reads (coding_of f) f b ss → (1 ≤ k → length ss < k)
        → paper_movement r ≡ record { number = 16; at = 0; movement = no_row }
    unfolding movement_in
    movements_none t h = ap paper_movement g.answer ∙ rw (place_none f b k t h)

  module _ {m j : ℕ} {r : Result (List ℕ) Refusal} (g : ComplementOf f b k m j r) where
    pub texts_refused : {n i : ℕ} → check_of (coding_of f) f b ≡ refused n i → paper_text r ≡ record { number = n; at = i; text = replicate text_size 0 }
    unfolding complement_in
    texts_refused p = ap paper_text g.answer ∙ rw (place_refused f b k p, number_back f b p)

    pub texts_none : {ss : List Statement} → Reads (coding_of f) f b ss → (1 ≤ k → length ss < k)
        → paper_text r ≡ record { number = 16; at = 0; text = replicate text_size 0 }
    unfolding complement_in
    texts_none t h = ap paper_text g.answer ∙ rw (place_none f b k t h)

module _ {f : Form} {b : List ℕ} {r : Result ℕ Refusal} (g : EarliestIn f b r) where
  pub begins_refused : {n i : ℕ} → check_of (coding_of f) f b ≡ refused n i → paper_beginning r ≡ record { number = n; at = i; day = 0 }
  unfolding beginning_of
  begins_refused p = ap paper_beginning g.answer ∙ rw (p, number_back f b p)

  pub begins_on : {ss : List Statement} → Reads (coding_of f) f b ss → paper_beginning r ≡ record { number = 0; at = 0; day = earliest_of ss }
  begins_on t = ap paper_beginning (g.answer ∙ earliest_told t)

-- the record determines the beginning: no two have the same
abbrev beginning_from : PaperBeginning → Result ℕ Refusal
beginning_from p = pick (eqb p.number 0) (Ok p.day) (Err (refusal_of p.number p.at))

from_paper : (r : Result ℕ Refusal) → beginning_from (paper_beginning r) ≡ r
from_paper (Ok d) = refl
from_paper (Err e) = rw (reason_positive e.reason, reason_back e.reason)

pub paper_apart : {r q : Result ℕ Refusal} → paper_beginning r ≡ paper_beginning q → r ≡ q
paper_apart {r} {q} p = sym (from_paper r) ∙ ap beginning_from p ∙ from_paper q

-- the same of a head, a movement and a complement
abbrev head_from : PaperHead → Result Summary Refusal
head_from p = pick (eqb p.number 0) (Ok (record { head = p.head; movements = p.movements })) (Err (refusal_of p.number p.at))

head_back : (r : Result Summary Refusal) → head_from (paper_head r) ≡ r
head_back (Ok s) = refl
head_back (Err e) = rw (reason_positive e.reason, reason_back e.reason)

pub heads_apart : {r q : Result Summary Refusal} → paper_head r ≡ paper_head q → r ≡ q
heads_apart {r} {q} p = sym (head_back r) ∙ ap head_from p ∙ head_back q

abbrev movement_from : PaperMovement → Result Movement Refusal
movement_from p = pick (eqb p.number 0) (Ok p.movement) (Err (refusal_of p.number p.at))

movement_back : (r : Result Movement Refusal) → movement_from (paper_movement r) ≡ r
movement_back (Ok m) = refl
movement_back (Err e) = rw (reason_positive e.reason, reason_back e.reason)

pub movements_apart : {r q : Result Movement Refusal} → paper_movement r ≡ paper_movement q → r ≡ q
movements_apart {r} {q} p = sym (movement_back r) ∙ ap movement_from p ∙ movement_back q

abbrev text_from : PaperText → Result (List ℕ) Refusal
text_from p = pick (eqb p.number 0) (Ok p.text) (Err (refusal_of p.number p.at))

text_back : (r : Result (List ℕ) Refusal) → text_from (paper_text r) ≡ r
text_back (Ok t) = refl
text_back (Err e) = rw (reason_positive e.reason, reason_back e.reason)

pub texts_apart : {r q : Result (List ℕ) Refusal} → paper_text r ≡ paper_text q → r ≡ q
texts_apart {r} {q} p = sym (text_back r) ∙ ap text_from p ∙ text_back q
