-- THE ANSWERS AS THE PAPER GIVES THEM, of whatever meets the contracts: a delivery, the newest statement of an account, how many are held.
use mathlib.Core.Path.{◌≡◌, refl, sym, ap, ◌∙◌}
use mathlib.Core.List.{List}
use Prim.Native.Nat.{ℕ, ◌+◌, ◌-◌, ◌*◌, ◌<◌}
use lib.Dec.{eqb}
use lib.IntN.{pos}
use lib.ListN.{length, get_or}
use borrow.Author.Tests.{eq-eqb, ne_eqb, lt-ltb}
use Rattle.std.specs.Prelude.{Result, Ok, Err}
use Rattle.zones.specs.Choice.{pick}
use Rattle.framing.specs.declared.Form.{Form}
use Rattle.framing.specs.Files.{line_end, width_of}
use Rattle.framing.specs.Refusals.{reason_number, reason_of, refusal_of}
use Rattle.framing.specs.declared.refusals.Refusal.{Refusal}
use Rattle.framing.proofs.Reasons.{reason_back, reason_positive}
use Rattle.grammar.specs.Answer as G
use Rattle.grammar.specs.Statements.{Statement}
use Rattle.grammar.specs.Files.{statements_of, check_of}
use Rattle.grammar.specs.Parts.{size_of, records_before, no_statement}
use Rattle.records.specs.July.{record_size, coding_of}
use Rattle.statements.proofs.Listed.{check_listed}
use Rattle.entries.specs.Entries.{table_size}
use Rattle.journal_layout.specs.Layout.{Journal}
use Rattle.journal_layout.proofs.Exact.{journal_sound, journal_list}
use Rattle.journal_layout.proofs.Paper.{not_sound}
use Rattle.journal.specs.declared.Delivery.{Delivery}
use Rattle.journal.specs.declared.Rejection.{Rejection}
use Rattle.journal.specs.declared.Found.{Found}
use Rattle.journal.specs.declared.Found.TheVariants.{InJournal, InFile}
use Rattle.journal.specs.Delivery.{Outcome, delivered, refused, outcome_of, content_of}
use Rattle.journal.specs.Arrivals.{span, arrivals, spans_of, last_index}
use Rattle.journal.specs.Newest.{key_size, key_from, newest_among, newest_of}
use Rattle.journal.specs.Holdings.{holding_of}
use Rattle.journal.specs.Answers.{PaperNewest, PaperHolding, paper_delivery, paper_newest, paper_holding, answer_of, paper_outcome, delivery_by, Delivers, Foretells, NewestPlace, Holds}

-- ---- a delivery

paper_answer : (o : Outcome) → paper_delivery (answer_of o) ≡ paper_outcome o
paper_answer (delivered ss s h) = refl
paper_answer (refused r) = refl

pub foretells : {j : List ℕ} {f : Form} {b : List ℕ} {r : Result Delivery Rejection} → r ≡ answer_of (outcome_of j f b) → Foretells j f b r
foretells {j} {f} {b} p = record { paper = ap paper_delivery p ∙ paper_answer (outcome_of j f b); answer = p }

-- at the code's return
pub delivers : {j : List ℕ} {f : Form} {b : List ℕ} {r : Result Delivery Rejection} {j' : List ℕ} → r ≡ answer_of (outcome_of j f b) → j' ≡ content_of j f b → Delivers j f b r j'
delivers {j} {f} {b} p c = record { paper = (foretells {j = j} {f = f} {b = b} p).paper; answer = p; content = c }

-- what the check refuses has the number and the record of its answer
pub file_refused : {j : List ℕ} {f : Form} {b : List ℕ} {r : Result Delivery Rejection} → Foretells j f b r → {hs : List Statement} → Journal j hs → {n i : ℕ} → check_of (coding_of f) f b ≡ G.refused n i
    → paper_delivery r ≡ record { number = n; at = i; stored = 0; held = 0; expected_date = 0; expected_balance = pos 0 }
unfolding outcome_of
file_refused {j} {f} {b} {r} a g {n = n} {i = i} p =
    let l : reason_number (reason_of n) ≡ n = rw p at (check_listed f b) in
    a.paper ∙ rw (journal_sound g, p, l)

-- ---- the newest statement: delivery's refusals, then 25

module _ {j : List ℕ} {f : Form} {b x : List ℕ} {r : Result Found Refusal} (a : NewestPlace j f b x r) where
  pub newest_refused : {q : Rejection} → outcome_of j f b ≡ refused q
      → paper_newest r ≡ record { number = reason_number q.refusal.reason; at = q.refusal.«record»; source = 0; first = 0; len = 0; line_end = 0 }
  unfolding newest_of
  newest_refused o = ap paper_newest a.answer ∙ rw o

  module _ {hs : List Statement} (g : Journal j hs) {after : List Statement} {s h : ℕ} (o : outcome_of j f b ≡ delivered after s h) where
    -- no account has a key of another length
    pub newest_no_key : (length x ≡ key_size → ⊥) → paper_newest r ≡ record { number = 25; at = 0; source = 0; first = 0; len = 0; line_end = 0 }
    unfolding newest_of
    newest_no_key l = ap paper_newest a.answer ∙ rw (o, ne_eqb (length x) key_size l)

    module _ (l : length x ≡ key_size) where
      among : r ≡ newest_among f (key_from x) hs (statements_of (coding_of f) f b)
      unfolding newest_of
      among = a.answer ∙ rw (o, eq-eqb (length x) key_size l, journal_list g)

      -- the account's last among those of the file that are new, from 1, 0 where there is none; and its last held
      abbrev pub sent : ℕ
      sent = last_index (key_from x) 0 0 (arrivals hs (statements_of (coding_of f) f b))

      abbrev pub held : ℕ
      held = last_index (key_from x) 0 0 hs

      pub newest_sent : 0 < sent
          → paper_newest r
          ≡ record {
            number = 0;
            at = 0;
            source = 2;
            first = (get_or (spans_of (width_of record_size f) hs 0 (statements_of (coding_of f) f b)) (sent - 1) (span 0 0)).first;
            len = (get_or (spans_of (width_of record_size f) hs 0 (statements_of (coding_of f) f b)) (sent - 1) (span 0 0)).len;
            line_end = line_end f;
          }
      unfolding newest_among
      newest_sent p = ap paper_newest among ∙ rw (lt-ltb 0 sent p)

      module _ (z : sent ≡ 0) where
        pub newest_held : 0 < held
            → paper_newest r
            ≡ record {
              number = 0;
              at = 0;
              source = 1;
              first = table_size + record_size * records_before (held - 1) hs;
              len = record_size * size_of (get_or hs (held - 1) no_statement);
              line_end = 0;
            }
        unfolding newest_among
        newest_held p = ap paper_newest among ∙ rw (z, lt-ltb 0 held p)

        pub newest_none : held ≡ 0 → paper_newest r ≡ record { number = 25; at = 0; source = 0; first = 0; len = 0; line_end = 0 }
        unfolding newest_among
        newest_none p = ap paper_newest among ∙ rw (z, p)

-- ---- how many are held

module _ {j : List ℕ} {r : Result ℕ Refusal} (a : Holds j r) where
  pub held_unsound : ((ss : List Statement) → Journal j ss → ⊥) → paper_holding r ≡ record { number = 21; at = 0; statements = 0 }
  unfolding holding_of
  held_unsound n = ap paper_holding a.answer ∙ rw (not_sound n)

  pub held_there : {ss : List Statement} → Journal j ss → paper_holding r ≡ record { number = 0; at = 0; statements = length ss }
  unfolding holding_of
  held_there g = ap paper_holding a.answer ∙ rw (journal_sound g, journal_list g)

-- ---- the record determines the answer: no two have the same

pub delivery_by_lem : (r : Result Delivery Rejection) → delivery_by (paper_delivery r) ≡ r
delivery_by_lem (Ok d) = refl
delivery_by_lem (Err r) = rw (reason_positive r.refusal.reason, reason_back r.refusal.reason)

pub delivery_apart : {r q : Result Delivery Rejection} → paper_delivery r ≡ paper_delivery q → r ≡ q
delivery_apart {r} {q} p = sym (delivery_by_lem r) ∙ ap delivery_by p ∙ delivery_by_lem q

abbrev found_from : PaperNewest → Result Found Refusal
found_from p =
    pick (eqb p.number 0) (pick (eqb p.source 1) (Ok (InJournal p.first p.len)) (Ok (InFile p.first p.len p.line_end)))
    (Err (refusal_of p.number p.at))

from_found : (r : Result Found Refusal) → found_from (paper_newest r) ≡ r
from_found (Ok (InJournal x n)) = refl
from_found (Ok (InFile x n e)) = refl
from_found (Err e) = rw (reason_positive e.reason, reason_back e.reason)

pub newest_apart : {r q : Result Found Refusal} → paper_newest r ≡ paper_newest q → r ≡ q
newest_apart {r} {q} p = sym (from_found r) ∙ ap found_from p ∙ from_found q

abbrev holding_from : PaperHolding → Result ℕ Refusal
holding_from p = pick (eqb p.number 0) (Ok p.statements) (Err (refusal_of p.number p.at))

from_holding : (r : Result ℕ Refusal) → holding_from (paper_holding r) ≡ r
from_holding (Ok n) = refl
from_holding (Err e) = rw (reason_positive e.reason, reason_back e.reason)

pub holding_apart : {r q : Result ℕ Refusal} → paper_holding r ≡ paper_holding q → r ≡ q
holding_apart {r} {q} p = sym (from_holding r) ∙ ap holding_from p ∙ from_holding q
