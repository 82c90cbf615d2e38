-- Values that a record can hold, and the record they are written as.
use Rattle.std.specs.Prelude.{Bool, ◌&&◌, List, ℕ, eqb, length, ℤ}
use Rattle.zones.specs.Choice.{pick}
use Rattle.zones.specs.Class.{digit, letter, alnum, blank, permitted, flag, all}
use Rattle.dates.specs.Days.{is_day}
use Rattle.amounts.specs.Amounts.{has_amount}
use Rattle.layouts.specs.Zone.{part, text, either, byte, number, holds}
use Rattle.grammar.specs.declared.Key.{Key}
use Rattle.grammar.specs.Record.{Posting}
use Rattle.records.specs.July.{record_size, text_size, is_mmo, write_balance, write_movement, write_complement, repeats}
use Rattle.fields.specs.declared.Movement.{Movement}

-- what a row says of its 04, the number of its complements left out
abbrev pub posting_of : Movement → Posting
posting_of m =
    record {
      internal = m.internal;
      code = m.code;
      booked = m.booked;
      reject = m.reject;
      value = m.value;
      label = m.label;
      entry = m.entry;
      exempt = m.exempt;
      unavailable = m.unavailable;
      amount = m.amount;
      reference = m.reference;
    }

-- bank, branch, currency, decimals, account
unfoldable pub key_holds : Key → Bool
key_holds k =
    holds 5 (text digit) k.bank
    && (holds 5 (text digit) k.branch
    && (holds 3 (text letter) k.currency && (holds 1 (byte digit) k.decimals && holds 11 (text alnum) k.account)))

-- a balance: key, date, amount
abbrev pub balance_holds : Key → ℕ → ℤ → Bool
balance_holds k d a = key_holds k && (is_day d && has_amount a)

-- the zones of a 04 that are not its key, in their order
unfoldable pub posting_holds : Posting → Bool
posting_holds p =
    holds 4 (text permitted) p.internal
    && (holds 2 (text alnum) p.code
    && (is_day p.booked
    && (holds 2 (either digit blank) p.reject
    && (is_day p.value
    && (holds 31 (text permitted) p.label
    && (holds 7 number p.entry
    && (holds 1 (byte flag) p.exempt
    && (holds 1 (byte flag) p.unavailable && (has_amount p.amount && holds 16 (text permitted) p.reference)))))))))

abbrev pub movement_holds : Key → Movement → Bool
movement_holds k m = key_holds k && posting_holds (posting_of m)

-- With qualifier MMO: currency, decimals, unsigned amount, blanks. The text begins at position 46.
unfoldable pub mmo_holds : List ℕ → Bool
mmo_holds t = all letter (part 4 6 t) && (all digit (part 7 7 t) && (all digit (part 8 21 t) && all blank (part 22 73 t)))

-- qualifier and information
unfoldable pub plain_holds : List ℕ → Bool
plain_holds t = all alnum (part 1 3 t) && all permitted (part 4 73 t)

unfoldable pub text_holds : List ℕ → Bool
text_holds t = eqb (length t) text_size && pick (is_mmo t) (mmo_holds t) (plain_holds t)

-- Values that a record can hold go into a lent part of 120 bytes. All else changes nothing.
unfoldable pub opening_put : Key → ℕ → ℤ → List ℕ → List ℕ
opening_put k d a out = pick (eqb (length out) record_size && balance_holds k d a) (write_balance "01" k d a) out

unfoldable pub closing_put : Key → ℕ → ℤ → List ℕ → List ℕ
closing_put k d a out = pick (eqb (length out) record_size && balance_holds k d a) (write_balance "07" k d a) out

unfoldable pub movement_put : Key → Movement → List ℕ → List ℕ
movement_put k m out = pick (eqb (length out) record_size && movement_holds k m) (write_movement k (posting_of m)) out

unfoldable pub complement_put : Key → Movement → (text out : List ℕ) → List ℕ
complement_put k m t out =
    pick (eqb (length out) record_size && (movement_holds k m && text_holds t)) (write_complement (repeats k (posting_of m)) t) out
