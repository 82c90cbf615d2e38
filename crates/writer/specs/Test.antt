-- The test of values row by row, as the code makes it.
use Rattle.std.specs.Prelude.{Option, Some, None, Bool, true, false, not, ◌&&◌, ◌||◌, List, [], ◌∷◌, ℕ, ◌+◌, ◌*◌, ◌^◌, eqb, leb, length, drop, nat_abs, ◌+ℤ◌}
use Rattle.zones.specs.Choice.{pick}
use Rattle.framing.specs.Files.{chunks}
use Rattle.grammar.specs.Record.{same_amount}
use Rattle.records.specs.July.{text_size, most_in_statement, is_mmo}
use Rattle.fields.specs.declared.Movement.{Movement}
use Rattle.contents.specs.declared.Head.{Head}
use Rattle.writing.specs.Written.{balance_holds, movement_holds, text_holds}
use Rattle.writer.specs.declared.Tally.{Tally}

-- The texts of one movement: all fit so far, and an MMO was seen. Each has to fit a 05, and a second MMO fits none.
unfoldable pub texts_hold : (ok seen : Bool) → List (List ℕ) → Bool
texts_hold ok seen [] = ok
texts_hold ok seen (t ∷ ts) = texts_hold (ok && (text_holds t && not (seen && is_mmo t))) (seen || is_mmo t) ts

-- Before the rows 01 and 07 are counted. None where they cannot hold the head.
unfoldable pub begun : Head → Option Tally
begun h =
    pick (balance_holds h.key h.old_date h.old_balance
    && (balance_holds h.key h.new_date h.new_balance && leb h.old_date h.new_date))
    (Some (record { records = 2; balance = h.old_balance; from = 0 }))
    None

abbrev pub grown : Tally → Movement → Tally
grown s m =
    record {
      records = s.records + 1 + m.complements;
      balance = s.balance +ℤ m.amount;
      from = s.from + m.complements * text_size;
    }

-- each booking date is at or after the old balance date and at or before the new one
abbrev pub booked_within : Head → Movement → Bool
booked_within h m = leb h.old_date m.booked && leb m.booked h.new_date

-- more than any balance that 9,999 records give
abbrev pub most_balance : ℕ
most_balance = 10 ^ 18

-- numbers with which the next ones can be reckoned
abbrev pub reckoned : Tally → Movement → (len : ℕ) → Bool
reckoned s m len =
    (leb s.records most_in_statement && leb m.complements most_in_statement) && (leb (nat_abs s.balance) most_balance && leb s.from len)

abbrev pub room_for : Tally → Movement → (len : ℕ) → Bool
room_for s m len = leb (s.records + 1 + m.complements) most_in_statement && leb (s.from + m.complements * text_size) len

-- a row more; None where it does not fit
unfoldable pub tally_of : Head → Tally → Movement → List ℕ → Option Tally
tally_of h s m cs =
    pick (movement_holds h.key m && (booked_within h m && reckoned s m (length cs)))
    (pick (room_for s m (length cs))
    (pick (texts_hold true false (chunks text_size m.complements (drop s.from cs))) (Some (grown s m)) None)
    None)
    None

-- values that do not fit stay so
unfoldable pub tallied : Head → Option Tally → List Movement → List ℕ → Option Tally
tallied h None rows cs = None
tallied h (Some s) [] cs = Some s
tallied h (Some s) (m ∷ ms) cs = tallied h (tally_of h s m cs) ms cs

-- After the rows: all fits, no byte of the complements is left, and the sum is right.
abbrev pub complete : Head → Tally → (len : ℕ) → Bool
complete h s len = leb s.records most_in_statement && (eqb s.from len && same_amount s.balance h.new_balance)

unfoldable pub completed : Head → Option Tally → (len : ℕ) → Bool
completed h None len = false
completed h (Some s) len = complete h s len

-- 19 is given where this is false: exactly where the values are not `Carried`
unfoldable pub carries : Head → List Movement → List ℕ → Bool
carries h rows cs = completed h (tallied h (begun h) rows cs) (length cs)
