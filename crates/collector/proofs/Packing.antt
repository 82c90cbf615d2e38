-- A packed number holds its whole answer: the fields fit, and the bits are the paper's answer. So two different answers have different numbers.
use mathlib.Core.Path.{◌≡◌, refl, sym, ap, ◌∙◌}
use mathlib.Core.List.{List}
use Prim.Native.Nat.{ℕ, ◌-◌, ◌*◌, ◌/◌, ◌%◌, ◌≤◌}
use native.Mathlib.Omega.{arith}
use borrow.Author.Rules.{rules}
use lib.IntN.{ℤ}
use Rattle.std.specs.Prelude.{Result, Ok, Err, MatchResult}
use Rattle.dates.specs.Ordinals.{last_day}
use Rattle.packing.specs.Packing.{bit20, Fits, packed, answered_of}
use Rattle.packing.specs.Answers.{RefusalNumber}
use Rattle.packing.proofs.Packing.{a_back, b_back, c_back, kind_back, answered_fits, refused_fits}
use Rattle.framing.specs.declared.Frame.{Frame}
use Rattle.framing.specs.declared.refusals.Refusal.{Refusal}
use Rattle.framing.specs.Answers.{paper_frame}
use Rattle.framing.specs.Refusals.{reason_number}
use Rattle.framing.proofs.Reasons.{reason_positive}
use Rattle.records.specs.July.{record_size, most_in_file}
use Rattle.statements.specs.declared.Counts.{Counts}
use Rattle.statements.specs.Answers.{paper_check, checked_by}
use Rattle.statements.proofs.Paper as S
use Rattle.readers.specs.declared.Place.{Place}
use Rattle.readers.specs.Answers.{paper_place}
use Rattle.readers.proofs.Paper as R
use Rattle.contents.specs.Answers.{paper_beginning}
use Rattle.contents.proofs.Paper as T
use Rattle.entries.specs.Entries.{table_size, line_at}
use Rattle.journal_layout.specs.declared.Usage.{Usage}
use Rattle.journal_layout.specs.Answers.{paper_opening, paper_usage}
use Rattle.journal_layout.specs.Test.{entry_place_of, usage_of}
use Rattle.journal_layout.proofs.Paper as L
use Rattle.journal.specs.declared.Delivery.{Delivery}
use Rattle.journal.specs.declared.Rejection.{Rejection}
use Rattle.journal.specs.Answers.{paper_delivery, delivery_by}
use Rattle.journal.proofs.Paper as J
use Rattle.collector.specs.Packing.{packed_check, packed_opening, packed_delivery, packed_entry, packed_usage, packed_length, packed_beginning, paper_check_in, paper_opening_in, paper_delivery_in, paper_place_in, paper_usage_in, paper_length_in, packed_day, paper_beginning_in}
use Rattle.collector.specs.Bounds.{RefusalBounds, Counted, Told, Body, Lines, Filled, InList, CheckBounds, OpeningBounds, DeliveryBounds, EntryBounds, ListedBounds, UsageBounds, LengthBounds, BeginningBounds}
use Rattle.collector.specs.Answers.{form, check_answer, open_answer, deliver_answer, listed_answer, length_answer, earliest_answer, CheckNumber, OpenNumber, DeliverNumber, ExpectedDate, ExpectedBalance, EntryNumber, UsedNumber, ListedNumber, LengthNumber, EarliestNumber}
use Rattle.collector.proofs.Bounds.{check_bounds, opening_bounds, delivery_bounds, entry_bounds, listed_bounds, usage_bounds, length_bounds, earliest_bounds}

-- ---- numbers within their bounds fit

pub refusal_fits : {n r : ℕ} → RefusalBounds n r → Fits 1 r n 0
refusal_fits k = search rules

pub counted_fits : {s m c : ℕ} → Counted s m c → Fits 0 s m c
counted_fits k = search rules

pub told_fits : {s h : ℕ} → Told s h → Fits 0 s h 0
told_fits k = search rules

pub lines_fits : {x n : ℕ} → Lines x n → Fits 0 (n / record_size) ((x - table_size) / record_size) 0
lines_fits k = search rules

body_lines : {x n : ℕ} → Body x n → Lines x n
body_lines k =
    record { line = k.line; records = k.records; begins = k.begins; runs = k.runs; low = omega arith; few = omega arith }

-- an entry's place is one that is listed
pub entry_lines : (r : Result Place Refusal) → EntryBounds r → ListedBounds r
entry_lines (Ok p) k = body_lines k
entry_lines (Err e) k = k

-- where there is a place it keeps its bounds
pub place_lines : {r a : Result Place Refusal} → r ≡ a → ListedBounds a → (x : Place) → r ≡ Ok x → Lines x.first x.len
place_lines p k x q = rw (sym p ∙ q) at k

pub filled_fits : {e u l : ℕ} → Filled e u l → Fits 0 e u l
filled_fits k = search rules

pub records_fits : {n : ℕ} → n ≤ most_in_file → Fits 0 n 0 0
records_fits k = search rules

pub day_fits : {d : ℕ} → d ≤ last_day → Fits 0 (d % bit20) (d / bit20) 0
day_fits k = search rules

-- ---- what the code packs of an answer within its bounds, its value or its refusal, is the paper's answer packed

abbrev pub Packs : {A : Type 0} → (A → ℕ) → Result A Refusal → ℕ → Type 0
Packs f r n = MatchResult r (λ x. n ≡ f x) (λ e. RefusalNumber e n)

-- a refusal has a number, so it is packed as one
refused_packed : (e : Refusal) {n : ℕ} → InList e → RefusalNumber e n → n ≡ packed (reason_number e.reason) e.«record» 0 0 0
refused_packed e k g = g.answer ∙ refused_fits (refusal_fits k) ∙ rw (reason_positive e.reason)

pub check_packed : {n : ℕ} (r : Result Counts Refusal) → CheckBounds r → Packs (λ c. answered_of c.statements c.movements c.complements) r n → n ≡ packed_check (paper_check r)
check_packed (Ok c) k g = g ∙ answered_fits (counted_fits k)
check_packed (Err e) k g = refused_packed e k g

pub opening_packed : {n : ℕ} (r : Result Unit Refusal) → OpeningBounds r → Packs (λ u. answered_of 0 0 0) r n → n ≡ packed_opening (paper_opening r)
opening_packed (Ok u) k g = g ∙ answered_fits (records_fits (omega arith))
opening_packed (Err e) k g = refused_packed e k g

pub delivery_packed : {n : ℕ} (r : Result Delivery Rejection) → DeliveryBounds r → MatchResult r (λ d. n ≡ answered_of d.stored d.held 0) (λ e. RefusalNumber e.refusal n)
    → n ≡ packed_delivery (paper_delivery r)
delivery_packed (Ok d) k g = g ∙ answered_fits (told_fits k)
delivery_packed (Err e) k g = refused_packed e.refusal k g

pub listed_packed : {n : ℕ} (r : Result Place Refusal) → ListedBounds r → Packs (λ p. packed_entry (paper_place (Ok p))) r n → n ≡ packed_entry (paper_place r)
listed_packed (Ok p) k g = g
listed_packed (Err e) k g = refused_packed e k g

pub usage_packed : {n : ℕ} (r : Result Usage Refusal) → UsageBounds r → Packs (λ u. answered_of u.entries u.used u.lines) r n → n ≡ packed_usage (paper_usage r)
usage_packed (Ok u) k g = g ∙ answered_fits (filled_fits k)
usage_packed (Err e) k g = refused_packed e k g

pub length_packed : {n : ℕ} (r : Result Frame Refusal) → LengthBounds r → Packs (λ c. answered_of c.count 0 0) r n → n ≡ packed_length (paper_frame r)
length_packed (Ok c) k g = g ∙ answered_fits (records_fits k)
length_packed (Err e) k g = refused_packed e k g

pub beginning_packed : {n : ℕ} (r : Result ℕ Refusal) → BeginningBounds r → Packs (λ d. answered_of (d % bit20) (d / bit20) 0) r n → n ≡ packed_beginning (paper_beginning r)
beginning_packed (Ok d) k g = g ∙ answered_fits (day_fits k)
beginning_packed (Err e) k g = refused_packed e k g

-- ---- the bits of a packed answer within its bounds are the paper's answer

pub check_back : (r : Result Counts Refusal) → CheckBounds r → paper_check_in (packed_check (paper_check r)) ≡ paper_check r
check_back (Ok c) k = let f = counted_fits k in rw (kind_back f, a_back f, b_back f, c_back f)
check_back (Err e) k = let f = refusal_fits k in rw (reason_positive e.reason, kind_back f, a_back f, b_back f)

pub opening_back : (r : Result Unit Refusal) → OpeningBounds r → paper_opening_in (packed_opening (paper_opening r)) ≡ paper_opening r
opening_back (Ok u) k = refl
opening_back (Err e) k = let f = refusal_fits k in rw (reason_positive e.reason, kind_back f, a_back f, b_back f)

pub delivery_back : (r : Result Delivery Rejection) → DeliveryBounds r
    → paper_delivery_in (packed_delivery (paper_delivery r)) (paper_delivery r).expected_date (paper_delivery r).expected_balance ≡ paper_delivery r
delivery_back (Ok d) k = let f = told_fits k in rw (kind_back f, a_back f, b_back f)
delivery_back (Err e) k = let f = refusal_fits k in rw (reason_positive e.refusal.reason, kind_back f, a_back f, b_back f)

pub listed_back : (r : Result Place Refusal) → ListedBounds r → paper_place_in (packed_entry (paper_place r)) ≡ paper_place r
listed_back (Ok p) k =
    let f = lines_fits k in
    let b = k.begins in
    let l = k.runs in
    let y : line_at ((p.first - table_size) / record_size) ≡ p.first = omega arith in
    let z : record_size * (p.len / record_size) ≡ p.len = omega arith in
    rw (kind_back f, a_back f, b_back f) (cc)
listed_back (Err e) k = let f = refusal_fits k in rw (reason_positive e.reason, kind_back f, a_back f, b_back f)

pub entry_back : (r : Result Place Refusal) → EntryBounds r → paper_place_in (packed_entry (paper_place r)) ≡ paper_place r
entry_back r k = listed_back r (entry_lines r k)

pub usage_back : (r : Result Usage Refusal) → UsageBounds r → paper_usage_in (packed_usage (paper_usage r)) ≡ paper_usage r
usage_back (Ok u) k = let f = filled_fits k in rw (kind_back f, a_back f, b_back f, c_back f)
usage_back (Err e) k = let f = refusal_fits k in rw (reason_positive e.reason, kind_back f, a_back f, b_back f)

pub length_back : (r : Result Frame Refusal) → LengthBounds r → paper_length_in (packed_length (paper_frame r)) ≡ paper_frame r
length_back (Ok c) k = let f = records_fits k in rw (kind_back f, a_back f)
length_back (Err e) k = let f = refusal_fits k in rw (reason_positive e.reason, kind_back f, a_back f, b_back f)

pub beginning_back : (r : Result ℕ Refusal) → BeginningBounds r → paper_beginning_in (packed_beginning (paper_beginning r)) ≡ paper_beginning r
beginning_back (Ok d) k =
    let f = day_fits k in
    let y : packed_day (packed_beginning (paper_beginning (Ok d))) ≡ d = omega arith in
    rw (kind_back f) (ap (λ (x : ℕ). paper_beginning (Ok x)) y)
beginning_back (Err e) k = let f = refusal_fits k in rw (reason_positive e.reason, kind_back f, a_back f, b_back f)

-- ---- so the bits of an exported number are the paper's answer

pub check_paper : {e : ℕ} {b : List ℕ} {n : ℕ} → CheckNumber e b n → paper_check_in n ≡ paper_check (check_answer e b)
check_paper {e} {b} g = ap paper_check_in g.answer ∙ check_back (check_answer e b) (check_bounds (form e) b)

pub open_paper : {j : List ℕ} {n : ℕ} {j' : List ℕ} → OpenNumber j n j' → paper_opening_in n ≡ paper_opening (open_answer j)
open_paper {j} g = ap paper_opening_in g.answer ∙ opening_back (open_answer j) (opening_bounds j)

-- of a delivery: its number, and the two numbers of what was expected, asked with the same journal and file
pub deliver_paper : {j : List ℕ} {e : ℕ} {b : List ℕ} {n d : ℕ} {a : ℤ} {j' : List ℕ} → DeliverNumber j e b n j' → ExpectedDate j e b d → ExpectedBalance j e b a
    → paper_delivery_in n d a ≡ paper_delivery (deliver_answer j e b)
deliver_paper {j} {e} {b} g x y = rw (g.answer, x.answer, y.answer) (delivery_back (deliver_answer j e b) (delivery_bounds j (form e) b))

pub entry_paper : {j : List ℕ} {e n : ℕ} → EntryNumber j e n → paper_place_in n ≡ paper_place (entry_place_of j e)
entry_paper {j} {e} g = ap paper_place_in g.answer ∙ entry_back (entry_place_of j e) (entry_bounds j e)

pub used_paper : {j : List ℕ} {n : ℕ} → UsedNumber j n → paper_usage_in n ≡ paper_usage (usage_of j)
used_paper {j} g = ap paper_usage_in g.answer ∙ usage_back (usage_of j) (usage_bounds j)

pub listed_paper : {j : List ℕ} {e : ℕ} {w : List ℕ} {n : ℕ} {w' : List ℕ} → ListedNumber j e w n w' → paper_place_in n ≡ paper_place (listed_answer j e w)
listed_paper {j} {e} {w} g = ap paper_place_in g.answer ∙ listed_back (listed_answer j e w) (listed_bounds j e w)

-- the width of a record is the form's, and no part of the answer
pub length_paper : {e m n : ℕ} → LengthNumber e m n → paper_length_in n ≡ paper_frame (length_answer e m)
length_paper {e} {m} g = ap paper_length_in g.answer ∙ length_back (length_answer e m) (length_bounds e m)

pub earliest_paper : {e : ℕ} {b : List ℕ} {n : ℕ} → EarliestNumber e b n → paper_beginning_in n ≡ paper_beginning (earliest_answer e b)
earliest_paper {e} {b} g = ap paper_beginning_in g.answer ∙ beginning_back (earliest_answer e b) (earliest_bounds (form e) b)

-- ---- and one number stands for one answer: two different answers have different numbers

pub check_unpacked : {e : ℕ} {b : List ℕ} {n : ℕ} → CheckNumber e b n → checked_by (paper_check_in n) ≡ check_answer e b
check_unpacked {e} {b} g = ap checked_by (check_paper g) ∙ S.checked_by_lem (check_answer e b)

pub deliver_unpacked : {j : List ℕ} {e : ℕ} {b : List ℕ} {n d : ℕ} {a : ℤ} {j' : List ℕ} → DeliverNumber j e b n j' → ExpectedDate j e b d → ExpectedBalance j e b a
    → delivery_by (paper_delivery_in n d a) ≡ deliver_answer j e b
deliver_unpacked {j} {e} {b} g x y =
    ap delivery_by (deliver_paper g x y) ∙ J.delivery_by_lem (deliver_answer j e b)

pub check_apart : {e d : ℕ} {b a : List ℕ} {n : ℕ} → CheckNumber e b n → CheckNumber d a n → check_answer e b ≡ check_answer d a
check_apart g h = sym (check_unpacked g) ∙ check_unpacked h

pub open_apart : {j i : List ℕ} {n : ℕ} {x y : List ℕ} → OpenNumber j n x → OpenNumber i n y → open_answer j ≡ open_answer i
open_apart {j} {i} g h =
    L.opening_apart {r = open_answer j} {q = open_answer i} (sym (open_paper g) ∙ open_paper h)

-- of a delivery the same three numbers mean the same answer
pub deliver_apart : {j i : List ℕ} {e f : ℕ} {b c : List ℕ} {n d : ℕ} {a : ℤ} {x y : List ℕ} → DeliverNumber j e b n x → ExpectedDate j e b d → ExpectedBalance j e b a
    → DeliverNumber i f c n y → ExpectedDate i f c d → ExpectedBalance i f c a → deliver_answer j e b ≡ deliver_answer i f c
deliver_apart g p q h r s = sym (deliver_unpacked g p q) ∙ deliver_unpacked h r s

pub entry_apart : {j i : List ℕ} {e d n : ℕ} → EntryNumber j e n → EntryNumber i d n → entry_place_of j e ≡ entry_place_of i d
entry_apart {j} {i} {e} {d} g h =
    R.paper_apart {r = entry_place_of j e} {q = entry_place_of i d} (sym (entry_paper g) ∙ entry_paper h)

pub used_apart : {j i : List ℕ} {n : ℕ} → UsedNumber j n → UsedNumber i n → usage_of j ≡ usage_of i
used_apart {j} {i} g h =
    L.usage_apart {r = usage_of j} {q = usage_of i} (sym (used_paper g) ∙ used_paper h)

pub listed_apart : {j i : List ℕ} {e d : ℕ} {w v : List ℕ} {n : ℕ} {x y : List ℕ} → ListedNumber j e w n x → ListedNumber i d v n y
    → listed_answer j e w ≡ listed_answer i d v
listed_apart {j} {i} {e} {d} {w} {v} g h =
    R.paper_apart {r = listed_answer j e w} {q = listed_answer i d v}
    (sym (listed_paper g) ∙ listed_paper h)

pub length_apart : {e d m l n : ℕ} → LengthNumber e m n → LengthNumber d l n → paper_frame (length_answer e m) ≡ paper_frame (length_answer d l)
length_apart g h = sym (length_paper g) ∙ length_paper h

pub earliest_apart : {e d : ℕ} {b a : List ℕ} {n : ℕ} → EarliestNumber e b n → EarliestNumber d a n → earliest_answer e b ≡ earliest_answer d a
earliest_apart {e} {d} {b} {a} g h =
    T.paper_apart {r = earliest_answer e b} {q = earliest_answer d a}
    (sym (earliest_paper g) ∙ earliest_paper h)
