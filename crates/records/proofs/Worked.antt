-- The worked files, by computation from the definitions.
use mathlib.Core.Path.{◌≡◌, refl, ap}
use mathlib.Core.Bool.{false}
use mathlib.Core.List.{List, map}
use Prim.Native.Nat.{ℕ}
use Prim.Native.String.{String}
use lib.ListN.{get_or}
use Rattle.zones.specs.Class.{every}
use Rattle.zones.specs.Copy.{same_bytes}
use Rattle.zones.specs.Number.{value_from, digits_into}
use Rattle.zones.specs.Text.{bytes}
use Rattle.amounts.specs.Amounts.{sign_index, sign_of, is_debit, magnitude, amount_of, signed_text, as_written}
use Rattle.dates.specs.Days.{year_of, days_in, exists, day_of, date_of, date_text}
use Rattle.framing.specs.declared.Form.{Form}
use Rattle.framing.specs.Files.{end_of, width_of, chunks}
use Rattle.grammar.specs.Answer.{Counts, Answer, accepted, refused}
use Rattle.grammar.specs.Record.{same_key}
use Rattle.grammar.specs.Machine.{judge_of, scan}
use Rattle.grammar.specs.Rules.{out_of_place, differs, misdated, unsummed, second_mmo, too_long}
use Rattle.grammar.specs.Files.{pieces, check_of}
use Rattle.grammar.specs.Demand.{Demand2}
use Rattle.records.specs.July.{unknown_code, is_mmo, layout_for, misfit, undated, decode_record, write_movement, repeats, canon_record, no_debit_zero, coding_of}
use Rattle.records.specs.Worked.{nil, counts, cases, written, answers, expected}
use Rattle.records.proofs.Theorems.{reads, accepted_reads}

pub worked : answers cases ≡ expected cases
unfolding every same_bytes value_from digits_into sign_index sign_of is_debit magnitude amount_of signed_text year_of days_in exists day_of date_of date_text end_of width_of chunks same_key judge_of scan out_of_place differs misdated unsummed second_mmo too_long check_of unknown_code is_mmo layout_for misfit undated decode_record write_movement repeats
worked = refl

-- the first of them, an empty account, is accepted
pub nil_accepted : check_of (coding_of (record { line_end = 1 })) (record { line_end = 1 }) nil ≡ counts 1 0 0
nil_accepted = ap (λ l. get_or l 0 (refused 0 0)) worked

-- and has a debit zero
nil_debit : no_debit_zero (pieces (coding_of (record { line_end = 1 })) (record { line_end = 1 }) nil) ≡ false
unfolding no_debit_zero same_bytes chunks width_of
nil_debit = refl

-- so a check that refuses files for a debit zero does not meet demand 2
pub refuses_debit_zero : (check : Form → List ℕ → Answer)
    → ((f : Form) (b : List ℕ) (c : Counts) → no_debit_zero (pieces (coding_of f) f b) ≡ false → check f b ≡ accepted c → ⊥) → Demand2 coding_of check → ⊥
refuses_debit_zero check refuses d =
    let f : Form = record { line_end = 1 } in
    refuses f nil _ nil_debit (accepted_reads check d f nil _ (reads f nil nil_accepted))

pub worked_written : map {A = String × String} {B = List ℕ} (λ p. canon_record (bytes p.0)) written ≡ map (λ p. bytes p.1) written
unfolding canon_record layout_for is_mmo same_bytes as_written
worked_written = refl
