-- The records of July 2004: what their bytes hold, how values are written, and the rules 6, 8 and 9.
use Rattle.std.specs.Prelude.{◌≡◌, Bool, true, not, ◌&&◌, ◌||◌, List, [], ◌∷◌, ◌++◌, ℕ, ◌-◌, eqb, length, take, get_or, replicate, ℤ}
use Prim.Native.String.{String}
use Rattle.zones.specs.Choice.{pick}
use Rattle.zones.specs.Class.{digit, letter, alnum, blank, permitted, all}
use Rattle.zones.specs.Copy.{same_bytes}
use Rattle.zones.specs.Number.{value_of}
use Rattle.zones.specs.Text.{bytes}
use Rattle.amounts.specs.Amounts.{amount_of, debit_zero}
use Rattle.dates.specs.Days.{date_of, is_day}
use Rattle.framing.specs.declared.Form.{Form}
use Rattle.layouts.specs.Zone.{part, Kind, Ask, Zone, day_in, value_in, zoned, dated, run, Values, encode, canon, holds_all}
use Rattle.grammar.specs.declared.Key.{Key}
use Rattle.grammar.specs.Record.{Posting, Rec, opening, movement, complement, closing, Edition}
use Rattle.grammar.specs.Files.{Coding}
use Rattle.records.specs.Layouts.{balance, layout01, layout04, layout05, layout_mmo, layout07}

-- Limits (H): 20,000 records in a file, 9,999 in a statement.
abbrev pub most_in_file : ℕ
most_in_file = 20000

abbrev pub most_in_statement : ℕ
most_in_statement = 9999

-- a file is a row of records of 120 bytes
abbrev pub record_size : ℕ
record_size = 120

-- the text of a 05 is its qualifier and information, 73 bytes
abbrev pub text_size : ℕ
text_size = 73

-- the record code
abbrev pub is_code : String → List ℕ → Bool
is_code code b = same_bytes (bytes code) (part 1 2 b)

-- 6: unknown record code
unfoldable pub unknown_code : List ℕ → Bool
unknown_code b = not (is_code "01" b || (is_code "04" b || (is_code "05" b || is_code "07" b)))

-- a text is 46-118 of its 05: qualifier and information
unfoldable pub is_mmo : List ℕ → Bool
is_mmo t = same_bytes (bytes "MMO") (take 3 t)

-- the layout by which a record is judged; that of a 07 where the code is none of the others
abbrev pub layout05_of : List ℕ → List Zone
layout05_of t = pick (is_mmo t) layout_mmo layout05

unfoldable pub layout_for : List ℕ → List Zone
layout_for b =
    pick (is_code "01" b) layout01
    (pick (is_code "04" b) layout04
    (pick (is_code "05" b) (layout05_of (part 46 118 b)) layout07))

-- a record of 120 bytes passes a rule by its layout; one of another length fits none
abbrev pub fits : (Kind → Ask) → List ℕ → Bool
fits rule b = eqb (length b) record_size && run rule (layout_for b) b

-- 8: zone against its table line, or amount not as said
unfoldable pub misfit : List ℕ → Bool
misfit b = not (fits zoned b)

-- 9: date that does not exist
unfoldable pub undated : List ℕ → Bool
undated b = not (fits dated b)

-- what stands in a record, for any bytes
abbrev pub key_in : List ℕ → Key
key_in b =
    record {
      bank = part 3 7 b;
      branch = part 12 16 b;
      currency = part 17 19 b;
      decimals = get_or (part 20 20 b) 0 0;
      account = part 22 32 b;
    }

abbrev pub date_in : List ℕ → ℕ
date_in b = day_in (date_of (part 35 40 b))

abbrev pub amount_in : List ℕ → ℤ
amount_in b = value_in (amount_of (part 91 104 b))

abbrev pub posting_in : List ℕ → Posting
posting_in b =
    record {
      internal = part 8 11 b;
      code = part 33 34 b;
      booked = date_in b;
      reject = part 41 42 b;
      value = day_in (date_of (part 43 48 b));
      label = part 49 79 b;
      entry = value_of (part 82 88 b);
      exempt = get_or (part 89 89 b) 0 0;
      unavailable = get_or (part 90 90 b) 0 0;
      amount = amount_in b;
      reference = part 105 120 b;
    }

unfoldable pub decode_record : List ℕ → Rec
decode_record b =
    pick (is_code "01" b) (opening (key_in b) (date_in b) (amount_in b))
    (pick (is_code "04" b) (movement (key_in b) (posting_in b))
    (pick (is_code "05" b) (complement (part 3 40 b) (part 46 118 b)) (closing (key_in b) (date_in b) (amount_in b))))

-- the values of a record in the order of its zones
abbrev pub balance_values : (code : String) → Key → ℕ → ℤ → Values (balance code)
balance_values code k d a =
    (tt, (k.bank, (tt, (k.branch, (k.currency, (k.decimals, (tt, (k.account, (tt, (d, (tt, (a, (tt, tt)))))))))))))

abbrev pub movement_values : Key → Posting → Values layout04
movement_values k p = (
  tt,
  (
    k.bank,
    (
      p.internal,
      (
        k.branch,
        (
          k.currency,
          (
            k.decimals,
            (
              tt,
              (
                k.account,
                (
                  p.code,
                  (
                    p.booked,
                    (
                      p.reject,
                      (p.value, (p.label, (tt, (p.entry, (p.exempt, (p.unavailable, (p.amount, (p.reference, tt)))))))),
                    ),
                  ),
                ),
              ),
            ),
          ),
        ),
      ),
    ),
  ),
)

unfoldable pub write_balance : (code : String) → Key → ℕ → ℤ → List ℕ
write_balance code k d a = encode (balance code) (balance_values code k d a)

unfoldable pub write_movement : Key → Posting → List ℕ
write_movement k p = encode layout04 (movement_values k p)

unfoldable pub write_complement : (repeated text : List ℕ) → List ℕ
write_complement e t = bytes "05" ++ (e ++ (replicate 5 32 ++ (t ++ replicate 2 32)))

abbrev pub encode_record : Rec → List ℕ
encode_record (opening k d a) = write_balance "01" k d a
encode_record (movement k p) = write_movement k p
encode_record (complement e t) = write_complement e t
encode_record (closing k d a) = write_balance "07" k d a

-- A 05 equals its 04 in positions 3-40.
unfoldable pub repeats : Key → Posting → List ℕ
repeats k p = part 3 40 (write_movement k p)

-- Positions of a 05: of those that it repeats of its 04, 3-40, and of its text, 46-118.
abbrev pub in_repeated : (first last : ℕ) → List ℕ → List ℕ
in_repeated first last e = part (first - 2) (last - 2) e

abbrev pub in_text : (first last : ℕ) → List ℕ → List ℕ
in_text first last t = part (first - 45) (last - 45) t

-- what a 05 can repeat of its 04
pub record HoldsRepeated (e : List ℕ) : Type 0 where
  pub size : length e ≡ 38
  pub bank : all digit (in_repeated 3 7 e) ≡ true
  pub internal : all permitted (in_repeated 8 11 e) ≡ true
  pub branch : all digit (in_repeated 12 16 e) ≡ true
  pub currency : all letter (in_repeated 17 19 e) ≡ true
  pub decimals : all digit (in_repeated 20 20 e) ≡ true
  pub reserved : all blank (in_repeated 21 21 e) ≡ true
  pub account : all alnum (in_repeated 22 32 e) ≡ true
  pub operation : all alnum (in_repeated 33 34 e) ≡ true
  pub date : is_day (day_in (date_of (in_repeated 35 40 e))) ≡ true

-- With qualifier MMO the information is 49-51 currency (A-Z), 52 decimals (digit), 53-66 unsigned amount (digits), 67-118 blank.
pub record HoldsMmo (t : List ℕ) : Type 0 where
  pub currency : all letter (in_text 49 51 t) ≡ true
  pub decimals : all digit (in_text 52 52 t) ≡ true
  pub amount : all digit (in_text 53 66 t) ≡ true
  pub rest : all blank (in_text 67 118 t) ≡ true

-- the text of a 05: 46-48 qualifier (A-Z, 0-9), 49-118 information (any permitted bytes)
pub record HoldsText (t : List ℕ) : Type 0 where
  pub size : length t ≡ text_size
  pub qualifier : all alnum (in_text 46 48 t) ≡ true
  pub information : all permitted (in_text 49 118 t) ≡ true
  pub mmo : is_mmo t ≡ true → HoldsMmo t

-- the values that a record can hold
abbrev pub Holds : Rec → Type 0
Holds (opening k d a) = holds_all layout01 (balance_values "01" k d a) ≡ true
Holds (movement k p) = holds_all layout04 (movement_values k p) ≡ true
Holds (complement e t) = HoldsRepeated e × HoldsText t
Holds (closing k d a) = holds_all layout07 (balance_values "07" k d a) ≡ true

-- A record as the writer writes it, by its layout: the amount of an 01, 04 or 07 with `{` for a debit zero; a 05 as it stands.
unfoldable pub canon_record : List ℕ → List ℕ
canon_record b = canon (layout_for b) b

-- A debit zero stands where an 01, 04 or 07 has its amount: in 91-104 of any record but a 05.
abbrev pub has_debit_zero : List ℕ → Bool
has_debit_zero b = not (is_code "05" b) && same_bytes (part 91 104 b) debit_zero

-- none stands in a row of records, each with what stands after it
unfoldable pub no_debit_zero : List (List ℕ) → Bool
no_debit_zero [] = true
no_debit_zero (p ∷ ps) = not (has_debit_zero (take record_size p)) && no_debit_zero ps

abbrev pub july2004 : Edition
july2004 = record { repeats = repeats; is_mmo = is_mmo; most_in_statement = most_in_statement; most_in_file = most_in_file }

abbrev pub july : Coding
july =
    record {
      size = record_size;
      edition = july2004;
      decode = decode_record;
      encode = encode_record;
      canon = canon_record;
      Ok = Holds;
      unknown_code = unknown_code;
      misfit = misfit;
      undated = undated;
    }

-- the records of a file of some form: those of July 2004, whatever the form
abbrev pub coding_of : Form → Coding
coding_of f = july

abbrev pub edition_of : Form → Edition
edition_of f = (coding_of f).edition
