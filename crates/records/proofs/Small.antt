-- Small files, by which wrong deliveries are caught: what they hold, by computation from the definitions.
use mathlib.Core.Path.{◌≡◌, refl}
use mathlib.Core.List.{List, [], ◌∷◌}
use Prim.Native.Nat.{ℕ}
use Prim.Native.String.{String}
use lib.IntN.{pos}
use Rattle.zones.specs.Class.{every}
use Rattle.zones.specs.Copy.{same_bytes}
use Rattle.zones.specs.Number.{value_from}
use Rattle.zones.specs.Pieces.{flat}
use Rattle.zones.specs.Text.{bytes}
use Rattle.amounts.specs.Amounts.{sign_index, sign_of, is_debit, magnitude, amount_of}
use Rattle.dates.specs.Days.{year_of, days_in, exists, day_of, date_of}
use Rattle.framing.specs.declared.Form.{Form}
use Rattle.framing.specs.Files.{end_of, width_of, chunks, file_of}
use Rattle.grammar.specs.Answer.{refused}
use Rattle.grammar.specs.Record.{same_key}
use Rattle.grammar.specs.Machine.{judge_of, scan}
use Rattle.grammar.specs.Rules.{out_of_place, differs, misdated, unsummed, second_mmo, too_long}
use Rattle.grammar.specs.Statements.{Statement, back}
use Rattle.grammar.specs.Files.{relined, check_of, statements_of}
use Rattle.records.specs.July.{unknown_code, layout_for, misfit, undated, decode_record, coding_of}
use Rattle.records.specs.Worked.{nil_old, nil_new, nil, bare, lf, crlf, counts}

-- the form with line end n
abbrev pub form : ℕ → Form
form n = record { line_end = n }

-- the period after that of `nil`, of the same account and empty too
abbrev next_old : String
next_old = "0112345    00010EUR2 0001234567A  280225                                                  0000000000000{                "

abbrev next_new : String
next_new = "0712345    00010EUR2 0001234567A  310325                                                  0000000000000{                "

-- the end of a period that begins and ends on the first day
abbrev first_new : String
first_new = "0712345    00010EUR2 0001234567A  310125                                                  0000000000000{                "

-- the first period of another account
abbrev other_old : String
other_old = "0112345    00010EUR2 0007654321B  310125                                                  0000000000000{                "

abbrev other_new : String
other_new = "0712345    00010EUR2 0007654321B  280225                                                  0000000000000{                "

-- the first period with CR LF for LF; both periods; the second, and behind it one of the first day; a 07 alone; the other account's period; the same, and behind it that of the first day
abbrev pub nil_crlf : List ℕ
nil_crlf = crlf (nil_old ∷ nil_new ∷ [])

abbrev pub two : List ℕ
two = lf (nil_old ∷ nil_new ∷ next_old ∷ next_new ∷ [])

abbrev pub backwards : List ℕ
backwards = lf (next_old ∷ next_new ∷ nil_old ∷ first_new ∷ [])

abbrev pub lone : List ℕ
lone = bare (nil_new ∷ [])

abbrev pub other : List ℕ
other = lf (other_old ∷ other_new ∷ [])

abbrev pub shared : List ℕ
shared = lf (other_old ∷ other_new ∷ nil_old ∷ first_new ∷ [])

-- their statements
abbrev period : (account : String) → (from to : ℕ) → Statement
period account from to =
    record {
      key = record { bank = bytes "12345"; branch = bytes "00010"; currency = bytes "EUR"; decimals = 50; account = bytes account };
      old_date = from;
      old_balance = pos 0;
      movements = [];
      new_date = to;
      new_balance = pos 0;
    }

abbrev pub february : Statement
february = period "0001234567A" 20250131 20250228

abbrev pub march : Statement
march = period "0001234567A" 20250228 20250331

abbrev pub first_day : Statement
first_day = period "0001234567A" 20250131 20250131

abbrev pub other_february : Statement
other_february = period "0007654321B" 20250131 20250228

-- one statement, two, two, none, one, two
pub nil_holds : statements_of (coding_of (form 1)) (form 1) nil ≡ february ∷ []
unfolding statements_of back decode_record chunks width_of same_bytes date_of day_of year_of exists days_in value_from amount_of sign_of sign_index is_debit magnitude every
nil_holds = refl

pub two_hold : statements_of (coding_of (form 1)) (form 1) two ≡ february ∷ march ∷ []
unfolding statements_of back decode_record chunks width_of same_bytes date_of day_of year_of exists days_in value_from amount_of sign_of sign_index is_debit magnitude every
two_hold = refl

pub backwards_hold : statements_of (coding_of (form 1)) (form 1) backwards ≡ march ∷ first_day ∷ []
unfolding statements_of back decode_record chunks width_of same_bytes date_of day_of year_of exists days_in value_from amount_of sign_of sign_index is_debit magnitude every
backwards_hold = refl

pub lone_holds : statements_of (coding_of (form 0)) (form 0) lone ≡ []
unfolding statements_of back decode_record chunks width_of same_bytes
lone_holds = refl

pub other_holds : statements_of (coding_of (form 1)) (form 1) other ≡ other_february ∷ []
unfolding statements_of back decode_record chunks width_of same_bytes date_of day_of year_of exists days_in value_from amount_of sign_of sign_index is_debit magnitude every
other_holds = refl

pub shared_holds : statements_of (coding_of (form 1)) (form 1) shared ≡ other_february ∷ first_day ∷ []
unfolding statements_of back decode_record chunks width_of same_bytes date_of day_of year_of exists days_in value_from amount_of sign_of sign_index is_debit magnitude every
shared_holds = refl

-- all are accepted but the 07 alone
pub two_accepted : check_of (coding_of (form 1)) (form 1) two ≡ counts 2 0 0
unfolding every same_bytes value_from sign_index sign_of is_debit magnitude amount_of year_of days_in exists day_of date_of end_of width_of chunks same_key judge_of scan out_of_place differs misdated unsummed second_mmo too_long check_of unknown_code layout_for misfit undated decode_record
two_accepted = refl

pub backwards_accepted : check_of (coding_of (form 1)) (form 1) backwards ≡ counts 2 0 0
unfolding every same_bytes value_from sign_index sign_of is_debit magnitude amount_of year_of days_in exists day_of date_of end_of width_of chunks same_key judge_of scan out_of_place differs misdated unsummed second_mmo too_long check_of unknown_code layout_for misfit undated decode_record
backwards_accepted = refl

pub other_accepted : check_of (coding_of (form 1)) (form 1) other ≡ counts 1 0 0
unfolding every same_bytes value_from sign_index sign_of is_debit magnitude amount_of year_of days_in exists day_of date_of end_of width_of chunks same_key judge_of scan out_of_place differs misdated unsummed second_mmo too_long check_of unknown_code layout_for misfit undated decode_record
other_accepted = refl

pub shared_accepted : check_of (coding_of (form 1)) (form 1) shared ≡ counts 2 0 0
unfolding every same_bytes value_from sign_index sign_of is_debit magnitude amount_of year_of days_in exists day_of date_of end_of width_of chunks same_key judge_of scan out_of_place differs misdated unsummed second_mmo too_long check_of unknown_code layout_for misfit undated decode_record
shared_accepted = refl

pub lone_refused : check_of (coding_of (form 0)) (form 0) lone ≡ refused 7 1
unfolding every same_bytes end_of width_of chunks judge_of scan out_of_place check_of unknown_code decode_record
lone_refused = refl

-- the records of the first, each followed by CR LF
pub nil_relined : relined (coding_of (form 1)) (form 1) (form 2) nil ≡ nil_crlf
unfolding relined file_of flat end_of chunks width_of
nil_relined = refl
