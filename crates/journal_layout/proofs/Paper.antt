-- THE ANSWERS AS THE PAPER GIVES THEM, of whatever meets the contracts: an entry's place and body, how much is used, opening, and what is said of another statement.
use mathlib.Core.Path.{◌≡◌, refl, sym, ap, ◌∙◌}
use mathlib.Core.Bool.{Bool, true, false}
use mathlib.Core.List.{List, [], ◌∷◌, ◌++◌}
use Prim.Native.Nat.{ℕ, ◌+◌, ◌-◌, ◌*◌, ◌<◌, ◌≤◌}
use native.Mathlib.Omega.{arith}
use lib.Dec.{eqb}
use lib.ListN.{length, take, drop, get_or}
use lib.IntN.{pos}
use borrow.Author.Tests.{ne_eqb, le-ltb}
use Rattle.zones.specs.Choice.{pick}
use Rattle.framing.specs.declared.Form.{Form}
use Rattle.grammar.specs.Record.{same_key}
use Rattle.grammar.specs.Statements.{Statement}
use Rattle.grammar.specs.Files.{Reads}
use Rattle.grammar.specs.Parts.{size_of, records_before, no_statement}
use Rattle.records.specs.July.{record_size, coding_of}
use Rattle.readers.specs.declared.Place.{Place}
use Rattle.readers.specs.Answers.{paper_place}
use Rattle.readers.proofs.Paper.{none_there}
use Rattle.bodies.specs.Bodies.{body_of}
use Rattle.entries.specs.Entries.{table_size}
use Rattle.journal_layout.specs.declared.Judgement.{Judgement}
use Rattle.journal_layout.specs.declared.Judgement.TheVariants as J
use Rattle.std.specs.Prelude.{Result, Ok, Err}
use Rattle.framing.specs.Refusals.{refusal_of}
use Rattle.framing.specs.declared.refusals.Refusal.{Refusal}
use Rattle.framing.proofs.Reasons.{reason_back, reason_positive}
use Rattle.journal_layout.specs.declared.Usage.{Usage}
use Rattle.journal_layout.specs.Chains.{held_among, judgement_of, of_account}
use Rattle.journal_layout.specs.Layout.{is_length, lines_of, place_among, Journal}
use Rattle.journal_layout.specs.Test.{sound_in, held_of, usage_of, entry_place_of, listed_place_of, entry_body_of}
use Rattle.journal_layout.specs.Answers.{PaperUsage, paper_opening, paper_usage, PaperJudgement, paper_judgement, Later, Judged, UsedOf, Opens, EntryPlace, ListedPlace, EntryBody}
use Rattle.journal_layout.proofs.Chain.{last_of, last_account, last_snoc}
use Rattle.journal_layout.proofs.Holding.{there_lines, later_value, judged_value}
use Rattle.journal_layout.proofs.Exact.{journal_held, journal_sound, journal_list, sound_journal}
use Rattle.journal_layout.proofs.Using.{used_is}
use Rattle.journal_layout.proofs.Listing.{listed_sound}

-- what is no layout of any list is not sound
pub not_sound : {j : List ℕ} → ((ss : List Statement) → Journal j ss → ⊥) → sound_in j ≡ false
not_sound {j} n = by (sound_in j) refl
  where
    by : (t : Bool) → sound_in j ≡ t → t ≡ false
    by true e = absurd (n (held_of j) (sound_journal j e))
    by false e = refl

-- ---- an entry: 21 where the journal is not sound, then 25

module _ {j : List ℕ} {e : ℕ} {r : Result Place Refusal} (a : EntryPlace j e r) where
  pub entry_unsound : ((ss : List Statement) → Journal j ss → ⊥) → paper_place r ≡ record { number = 21; at = 0; first = 0; len = 0 }
  unfolding entry_place_of
  entry_unsound n = ap paper_place a.answer ∙ rw (not_sound n)

  module _ {ss : List Statement} (g : Journal j ss) where
    among : r ≡ place_among ss e
    unfolding entry_place_of
    among = a.answer ∙ rw (journal_sound g, journal_list g)

    -- entry 0, and those above the entries used
    pub entry_none : (1 ≤ e → length ss < e) → paper_place r ≡ record { number = 25; at = 0; first = 0; len = 0 }
    entry_none h = ap paper_place among ∙ rw (none_there e (length ss) h)

    pub entry_there : 1 ≤ e → e ≤ length ss
        → paper_place r
        ≡ record {
          number = 0;
          at = 0;
          first = table_size + record_size * records_before (e - 1) ss;
          len = record_size * size_of (get_or ss (e - 1) no_statement);
        }
    entry_there h l = ap paper_place among ∙ rw (ne_eqb e 0 (λ z. omega arith), le-ltb (length ss) e l)

-- there stands the body of statement e
pub entry_stands : {j : List ℕ} {ss : List Statement} → Journal j ss → (e : ℕ) → 1 ≤ e → e ≤ length ss
    → take (record_size * size_of (get_or ss (e - 1) no_statement)) (drop (table_size + record_size * records_before (e - 1) ss) j) ≡ body_of (get_or ss (e - 1) no_statement)
entry_stands g e h l = there_lines (journal_held g).holding (e - 1) (omega arith)

-- and that is the part returned, an empty one with a refusal
module _ {j : List ℕ} {e : ℕ} {r : List ℕ} (a : EntryBody j e r) where
  pub body_unsound : ((ss : List Statement) → Journal j ss → ⊥) → r ≡ []
  unfolding entry_body_of entry_place_of
  body_unsound n = a.answer ∙ rw (not_sound n)

  module _ {ss : List Statement} (g : Journal j ss) where
    pub body_none : (1 ≤ e → length ss < e) → r ≡ []
    unfolding entry_body_of entry_place_of
    body_none h = a.answer ∙ rw (journal_sound g, journal_list g, none_there e (length ss) h)

    pub body_there : 1 ≤ e → e ≤ length ss → r ≡ body_of (get_or ss (e - 1) no_statement)
    unfolding entry_body_of entry_place_of
    body_there h l = a.answer ∙ rw (journal_sound g, journal_list g, ne_eqb e 0 (λ z. omega arith), le-ltb (length ss) e l)

-- an entry listed: 21 for a length that no journal has; in a sound journal it is the entry
pub listed_unlong : {j : List ℕ} {e : ℕ} {r : Result Place Refusal} → ListedPlace j e r → is_length (length j) ≡ false → paper_place r ≡ record { number = 21; at = 0; first = 0; len = 0 }
unfolding listed_place_of
listed_unlong a n = ap paper_place a.answer ∙ rw n

pub listed_entry : {j : List ℕ} {e : ℕ} {r : Result Place Refusal} {ss : List Statement} → ListedPlace j e r → Journal j ss → EntryPlace j e r
listed_entry {j} {e} a g = record { answer = a.answer ∙ listed_sound j e (journal_sound g) }

-- ---- how much is used

module _ {j : List ℕ} {r : Result Usage Refusal} (a : UsedOf j r) where
  pub used_unsound : ((ss : List Statement) → Journal j ss → ⊥) → paper_usage r ≡ record { number = 21; at = 0; entries = 0; used = 0; lines = 0 }
  unfolding usage_of
  used_unsound n = ap paper_usage a.answer ∙ rw (not_sound n)

  pub used_there : {ss : List Statement} → (g : Journal j ss) → paper_usage r ≡ record { number = 0; at = 0; entries = length ss; used = lines_of ss; lines = g.lines }
  used_there g = ap paper_usage (a.answer ∙ used_is g)

-- ---- opening

module _ {j : List ℕ} {r : Result Unit Refusal} {j' : List ℕ} (a : Opens j r j') where
  pub open_long : is_length (length j) ≡ true → paper_opening r ≡ (0, 0)
  open_long h = ap paper_opening a.answer ∙ rw h

  pub open_unlong : is_length (length j) ≡ false → paper_opening r ≡ (21, 0)
  open_unlong h = ap paper_opening a.answer ∙ rw h

-- ---- what is said of another statement s

-- by the statements of a sound journal
module _ {j : List ℕ} {ss : List Statement} (g : Journal j ss) {f : Form} {b : List ℕ} {s : Statement} (t : Reads (coding_of f) f b (s ∷ [])) {r : Judgement} (a : Judged j (length ss) f b r) where
  judged_is : r ≡ judgement_of s ss
  judged_is = a.answer ∙ judged_value t (journal_held g).holding

  pub judged_held : held_among s ss ≡ true → paper_judgement r ≡ record { held = true; first = false; date = 0; balance = pos 0 }
  unfolding judgement_of
  judged_held h = ap paper_judgement judged_is ∙ rw h

  module _ (n : held_among s ss ≡ false) where
    new_is : r ≡ last_of J.First (of_account s.key ss)
    unfolding judgement_of
    new_is = judged_is ∙ rw (n, last_account s.key J.First ss)

    pub judged_first : of_account s.key ss ≡ [] → paper_judgement r ≡ record { held = false; first = true; date = 0; balance = pos 0 }
    judged_first o = ap paper_judgement new_is ∙ rw o

    pub judged_after : (before : List Statement) (h : Statement) → of_account s.key ss ≡ before ++ (h ∷ [])
        → paper_judgement r ≡ record { held = false; first = false; date = h.new_date; balance = h.new_balance }
    judged_after before h o = ap paper_judgement (new_is ∙ ap (last_of J.First) o ∙ last_snoc J.First before h)

-- by one more statement h
module _ {last : Judgement} {f e : Form} {x b : List ℕ} {h s : Statement} (q : Reads (coding_of e) e x (h ∷ [])) (t : Reads (coding_of f) f b (s ∷ [])) {r : Judgement} (a : Later last e x b r) where
  pub later_own : same_key h.key s.key ≡ true → paper_judgement r ≡ record { held = false; first = false; date = h.new_date; balance = h.new_balance }
  later_own k = ap paper_judgement (a.answer ∙ later_value t last q) ∙ rw k

  pub later_other : same_key h.key s.key ≡ false → paper_judgement r ≡ paper_judgement last
  later_other k = ap paper_judgement (a.answer ∙ later_value t last q) ∙ rw k

-- ---- the record determines the answer: no two have the same

abbrev opening_from : ℕ × ℕ → Result Unit Refusal
opening_from p = pick (eqb p.0 0) (Ok tt) (Err (refusal_of p.0 p.1))

from_opening : (r : Result Unit Refusal) → opening_from (paper_opening r) ≡ r
from_opening (Ok u) = refl
from_opening (Err e) = rw (reason_positive e.reason, reason_back e.reason)

pub opening_apart : {r q : Result Unit Refusal} → paper_opening r ≡ paper_opening q → r ≡ q
opening_apart {r} {q} p = sym (from_opening r) ∙ ap opening_from p ∙ from_opening q

abbrev usage_from : PaperUsage → Result Usage Refusal
usage_from p =
    pick (eqb p.number 0) (Ok (record { entries = p.entries; used = p.used; lines = p.lines })) (Err (refusal_of p.number p.at))

from_usage : (r : Result Usage Refusal) → usage_from (paper_usage r) ≡ r
from_usage (Ok u) = refl
from_usage (Err e) = rw (reason_positive e.reason, reason_back e.reason)

pub usage_apart : {r q : Result Usage Refusal} → paper_usage r ≡ paper_usage q → r ≡ q
usage_apart {r} {q} p = sym (from_usage r) ∙ ap usage_from p ∙ from_usage q

abbrev judgement_from : PaperJudgement → Judgement
judgement_from p = pick p.held J.Held (pick p.first J.First (J.After p.date p.balance))

from_judgement : (r : Judgement) → judgement_from (paper_judgement r) ≡ r
from_judgement J.Held = refl
from_judgement J.First = refl
from_judgement (J.After d a) = refl

pub judgement_apart : {r q : Judgement} → paper_judgement r ≡ paper_judgement q → r ≡ q
judgement_apart {r} {q} p = sym (from_judgement r) ∙ ap judgement_from p ∙ from_judgement q
