-- Records as the code writes them, group after group.
use mathlib.Core.Path.{◌≡◌, refl, sym, ap, ◌∙◌}
use mathlib.Core.Bool.{Bool, true}
use mathlib.Core.List.{List, [], ◌∷◌, ◌++◌, append_assoc, append-nil}
use Prim.Native.Nat.{ℕ}
use native.Mathlib.Omega.{arith}
use lib.ListN.{length, drop, replicate, length-drop}
use lib.Seq.{take_at}
use lib.IntN.{ℤ}
use borrow.Author.Tests.{eq-eqb}
use Rattle.zones.specs.Number.{digits_of}
use Rattle.zones.specs.Pieces.{flat}
use Rattle.zones.proofs.Decimal.{length_digits}
use Rattle.zones.proofs.Pasted.{Wide, pasted, filled, length_pieces}
use Rattle.dates.specs.Days.{is_day, date_text, put_date}
use Rattle.dates.specs.Answers as date_answers
use Rattle.dates.proofs.RoundTrip as dates
use Rattle.amounts.specs.Amounts.{has_amount, amount_text, put_amount}
use Rattle.amounts.specs.Answers as amount_answers
use Rattle.amounts.proofs.RoundTrip as amounts
use Rattle.layouts.specs.Zone.{part}
use Rattle.grammar.specs.declared.Key.{Key}
use Rattle.records.specs.July.{record_size, text_size, write_balance, write_movement, write_complement, repeats}
use Rattle.fields.specs.declared.Movement.{Movement}
use Rattle.writing.specs.Written.{posting_of, opening_put, closing_put}
use Rattle.writing.specs.Groups.{bank_text, account_text, front_text, balance_text, balance_put, middle_text, last_text}
use Rattle.writing.proofs.Tested.{KeyWide, RowWide}

-- what a call left, where the value can be written
pub date_put : {k : ℕ} {x y : List ℕ} {r : Bool} → date_answers.Put k x r y → length x ≡ 6 → is_day k ≡ true → y ≡ date_text k
unfolding put_date
date_put {k} {x} p l h = p.content ∙ rw (eq-eqb (length x) 6 l, h)

pub amount_put : {v : ℤ} {x y : List ℕ} {r : Bool} → amount_answers.Put v x r y → length x ≡ 14 → has_amount v ≡ true → y ≡ amount_text v
unfolding put_amount
amount_put {v} {x} p l h = p.content ∙ rw (eq-eqb (length x) 14 l, h)

-- the front, for any operation
module _ (c : ℕ) (k : Key) (i o : List ℕ) (d : ℕ) (w : KeyWide k) (p : length i ≡ 4) (q : length o ≡ 2) where
  bank_wide : Wide (2 ∷ 5 ∷ 4 ∷ 5 ∷ []) ((48 ∷ c ∷ []) ∷ k.bank ∷ i ∷ k.branch ∷ [])
  bank_wide = (refl, (w.0, (p, (w.1.0, tt))))

  account_wide : Wide (3 ∷ 2 ∷ 11 ∷ 2 ∷ 6 ∷ []) (k.currency ∷ (k.decimals ∷ 32 ∷ []) ∷ k.account ∷ o ∷ date_text d ∷ [])
  account_wide = (w.1.1.0, (refl, (w.1.1.1.0, (q, (dates.length_text d, tt)))))

  pub bank_put : (x : List ℕ) {a b e f : List ℕ} → length x ≡ 16 → a ≡ 48 ∷ c ∷ [] → b ≡ k.bank → e ≡ i → f ≡ k.branch
      → pasted 0 (2 ∷ 5 ∷ 4 ∷ 5 ∷ []) (a ∷ b ∷ e ∷ f ∷ []) x ≡ bank_text c k i
  unfolding bank_text
  bank_put x l s t u v = rw (s, t, u, v) (filled (2 ∷ 5 ∷ 4 ∷ 5 ∷ []) ((48 ∷ c ∷ []) ∷ k.bank ∷ i ∷ k.branch ∷ []) x bank_wide l)

  pub account_put : (x : List ℕ) {a b e f g : List ℕ} → length x ≡ 24 → a ≡ k.currency → b ≡ k.decimals ∷ 32 ∷ [] → e ≡ k.account → f ≡ o → g ≡ date_text d
      → pasted 0 (3 ∷ 2 ∷ 11 ∷ 2 ∷ 6 ∷ []) (a ∷ b ∷ e ∷ f ∷ g ∷ []) x ≡ account_text k o d
  unfolding account_text
  account_put x l s t u v y =
      rw (s, t, u, v, y) (filled (3 ∷ 2 ∷ 11 ∷ 2 ∷ 6 ∷ []) (k.currency ∷ (k.decimals ∷ 32 ∷ []) ∷ k.account ∷ o ∷ date_text d ∷ []) x account_wide l)

  front_wide : Wide (16 ∷ 24 ∷ []) (bank_text c k i ∷ account_text k o d ∷ [])
  unfolding bank_text account_text
  front_wide = (length_pieces (2 ∷ 5 ∷ 4 ∷ 5 ∷ []) _ bank_wide, (length_pieces (3 ∷ 2 ∷ 11 ∷ 2 ∷ 6 ∷ []) _ account_wide, tt))

  pub front_put : (x : List ℕ) {a b : List ℕ} → length x ≡ 40 → a ≡ bank_text c k i → b ≡ account_text k o d
      → pasted 0 (16 ∷ 24 ∷ []) (a ∷ b ∷ []) x ≡ front_text c k i o d
  unfolding front_text
  front_put x l s t = rw (s, t) (filled (16 ∷ 24 ∷ []) (bank_text c k i ∷ account_text k o d ∷ []) x front_wide l)

  length_front : length (front_text c k i o d) ≡ 40
  unfolding front_text
  length_front = length_pieces (16 ∷ 24 ∷ []) (bank_text c k i ∷ account_text k o d ∷ []) front_wide

-- 01 and 07
pub balance_pasted : (c : ℕ) (k : Key) (d : ℕ) (v : ℤ) → KeyWide k → (x : List ℕ) {a b e f : List ℕ} → length x ≡ record_size
    → a ≡ front_text c k (replicate 4 32) (replicate 2 32) d → b ≡ replicate 50 32 → e ≡ amount_text v → f ≡ replicate 16 32
    → pasted 0 (40 ∷ 50 ∷ 14 ∷ 16 ∷ []) (a ∷ b ∷ e ∷ f ∷ []) x ≡ balance_text c k d v
unfolding balance_text
balance_pasted c k d v w x l s t u y =
    rw (s, t, u, y)
    (filled (40 ∷ 50 ∷ 14 ∷ 16 ∷ []) (front_text c k (replicate 4 32) (replicate 2 32) d ∷ replicate 50 32 ∷ amount_text v ∷ replicate 16 32 ∷ []) x
    (length_front c k (replicate 4 32) (replicate 2 32) d w refl refl, (refl, (amounts.length_text v, (refl, tt)))) l)

-- the groups are the paper's zones
opening_text : (k : Key) (d : ℕ) (a : ℤ) → balance_text 49 k d a ≡ write_balance "01" k d a
unfolding balance_text front_text bank_text account_text flat write_balance
opening_text k d a = simp (append_assoc, append-nil)

closing_text : (k : Key) (d : ℕ) (a : ℤ) → balance_text 55 k d a ≡ write_balance "07" k d a
unfolding balance_text front_text bank_text account_text flat write_balance
closing_text k d a = simp (append_assoc, append-nil)

pub opening_put_lem : (k : Key) (d : ℕ) (a : ℤ) (x : List ℕ) → balance_put 49 k d a x ≡ opening_put k d a x
unfolding balance_put opening_put
opening_put_lem k d a x = rw (opening_text k d a)

pub closing_put_lem : (k : Key) (d : ℕ) (a : ℤ) (x : List ℕ) → balance_put 55 k d a x ≡ closing_put k d a x
unfolding balance_put closing_put
closing_put_lem k d a x = rw (closing_text k d a)

-- the rest of a 04
module _ (m : Movement) (w : RowWide m) where
  middle_wide : Wide (2 ∷ 6 ∷ 31 ∷ 2 ∷ []) (m.reject ∷ date_text m.value ∷ m.label ∷ replicate 2 32 ∷ [])
  middle_wide = (w.1.1.0, (dates.length_text m.value, (w.1.1.1.0, (refl, tt))))

  last_wide : Wide (7 ∷ 2 ∷ 14 ∷ 16 ∷ []) (digits_of 7 m.entry ∷ (m.exempt ∷ m.unavailable ∷ []) ∷ amount_text m.amount ∷ m.reference ∷ [])
  last_wide = (length_digits 7 m.entry, (refl, (amounts.length_text m.amount, (w.1.1.1.1.0, tt))))

  pub middle_put : (x : List ℕ) {a b e f : List ℕ} → length x ≡ 41 → a ≡ m.reject → b ≡ date_text m.value → e ≡ m.label → f ≡ replicate 2 32
      → pasted 0 (2 ∷ 6 ∷ 31 ∷ 2 ∷ []) (a ∷ b ∷ e ∷ f ∷ []) x ≡ middle_text m
  unfolding middle_text
  middle_put x l s t u v =
      rw (s, t, u, v) (filled (2 ∷ 6 ∷ 31 ∷ 2 ∷ []) (m.reject ∷ date_text m.value ∷ m.label ∷ replicate 2 32 ∷ []) x middle_wide l)

  pub last_put : (x : List ℕ) {a b e f : List ℕ} → length x ≡ 39 → a ≡ digits_of 7 m.entry → b ≡ m.exempt ∷ m.unavailable ∷ [] → e ≡ amount_text m.amount → f ≡ m.reference
      → pasted 0 (7 ∷ 2 ∷ 14 ∷ 16 ∷ []) (a ∷ b ∷ e ∷ f ∷ []) x ≡ last_text m
  unfolding last_text
  last_put x l s t u v =
      rw (s, t, u, v) (filled (7 ∷ 2 ∷ 14 ∷ 16 ∷ []) (digits_of 7 m.entry ∷ (m.exempt ∷ m.unavailable ∷ []) ∷ amount_text m.amount ∷ m.reference ∷ []) x last_wide l)

  length_middle : length (middle_text m) ≡ 41
  unfolding middle_text
  length_middle = length_pieces (2 ∷ 6 ∷ 31 ∷ 2 ∷ []) (m.reject ∷ date_text m.value ∷ m.label ∷ replicate 2 32 ∷ []) middle_wide

  length_last : length (last_text m) ≡ 39
  unfolding last_text
  length_last = length_pieces (7 ∷ 2 ∷ 14 ∷ 16 ∷ []) (digits_of 7 m.entry ∷ (m.exempt ∷ m.unavailable ∷ []) ∷ amount_text m.amount ∷ m.reference ∷ []) last_wide

-- a 04
movement_text : (k : Key) (m : Movement) → flat (front_text 52 k m.internal m.code m.booked ∷ middle_text m ∷ last_text m ∷ []) ≡ write_movement k (posting_of m)
unfolding front_text bank_text account_text middle_text last_text flat write_movement
movement_text k m = simp (append_assoc, append-nil)

-- what a 05 repeats is what stands in its own 3-40
front_split : (c : ℕ) (k : Key) (i o : List ℕ) (d : ℕ) → front_text c k i o d ≡ 48 ∷ c ∷ drop 2 (front_text 52 k i o d)
unfolding front_text bank_text flat
front_split c k i o d = refl

repeated_text : (k : Key) (m : Movement) → KeyWide k → RowWide m → repeats k (posting_of m) ≡ drop 2 (front_text 52 k m.internal m.code m.booked)
unfolding repeats flat
repeated_text k m w v =
    let f = front_text 52 k m.internal m.code m.booked in
    let l = length_front 52 k m.internal m.code m.booked w v.0 v.1.0 in
    ap (part 3 40) (sym (movement_text k m))
    ∙ (ap (λ (x : List ℕ). part 3 40 (x ++ flat (middle_text m ∷ last_text m ∷ []))) (front_split 52 k m.internal m.code m.booked)
    ∙ take_at (drop 2 f) (flat (middle_text m ∷ last_text m ∷ [])) 38 (rw length-drop (omega (arith, l))))

complement_text : (k : Key) (m : Movement) (t : List ℕ) → KeyWide k → RowWide m
    → flat (front_text 53 k m.internal m.code m.booked ∷ replicate 5 32 ∷ t ∷ replicate 2 32 ∷ []) ≡ write_complement (repeats k (posting_of m)) t
unfolding flat write_complement
complement_text k m t w v =
    rw (repeated_text k m w v, front_split 53 k m.internal m.code m.booked, append-nil)

-- both from their groups
module _ (k : Key) (m : Movement) (w : KeyWide k) (v : RowWide m) where
  pub movement_filled : (x : List ℕ) {a b e : List ℕ} → length x ≡ record_size
      → a ≡ front_text 52 k m.internal m.code m.booked → b ≡ middle_text m → e ≡ last_text m
      → pasted 0 (40 ∷ 41 ∷ 39 ∷ []) (a ∷ b ∷ e ∷ []) x ≡ write_movement k (posting_of m)
  movement_filled x l s t u =
      rw (s, t, u)
      (filled (40 ∷ 41 ∷ 39 ∷ []) (front_text 52 k m.internal m.code m.booked ∷ middle_text m ∷ last_text m ∷ []) x
      (length_front 52 k m.internal m.code m.booked w v.0 v.1.0, (length_middle m v, (length_last m v, tt))) l)
      ∙ movement_text k m

  pub complement_filled : (t x : List ℕ) {a b e f : List ℕ} → length t ≡ text_size → length x ≡ record_size
      → a ≡ front_text 53 k m.internal m.code m.booked → b ≡ replicate 5 32 → e ≡ t → f ≡ replicate 2 32
      → pasted 0 (40 ∷ 5 ∷ text_size ∷ 2 ∷ []) (a ∷ b ∷ e ∷ f ∷ []) x ≡ write_complement (repeats k (posting_of m)) t
  complement_filled t x n l s g u y =
      rw (s, g, u, y)
      (filled (40 ∷ 5 ∷ text_size ∷ 2 ∷ []) (front_text 53 k m.internal m.code m.booked ∷ replicate 5 32 ∷ t ∷ replicate 2 32 ∷ []) x
      (length_front 53 k m.internal m.code m.booked w v.0 v.1.0, (refl, (n, (refl, tt)))) l)
      ∙ complement_text k m t w v
