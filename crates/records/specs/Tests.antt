-- The rules 7, 11 to 13 and 15 as the code tests them: on numbers, and on answers about parts.
use Rattle.std.specs.Prelude.{Bool, not, ◌&&◌, ◌||◌, List, ℕ, leb, ltb, eqb, length}
use Rattle.zones.specs.Copy.{same_bytes}
use Rattle.layouts.specs.Zone.{part}
use Rattle.grammar.specs.Record.{same_key}
use Rattle.records.specs.declared.rules.LastMovement.{LastMovement}
use Rattle.records.specs.declared.rules.LastMovement.TheVariants.{Absent, Plain, WithMmo}
use Rattle.records.specs.July.{record_size, most_in_statement, key_in}

-- the key, and positions 3 to 40, of two records of 120 bytes
abbrev pub both_records : List ℕ → List ℕ → Bool
both_records a b = eqb (length a) record_size && eqb (length b) record_size

unfoldable pub same_key_in : List ℕ → List ℕ → Bool
same_key_in a b = both_records a b && same_key (key_in a) (key_in b)

unfoldable pub same_front_in : List ℕ → List ℕ → Bool
same_front_in a b = both_records a b && same_bytes (part 3 40 a) (part 3 40 b)

-- the movement of the open statement as a number: 0 where it has none, 1 for one without an MMO, 2 for one with
abbrev pub movement_of : LastMovement → ℕ
movement_of Absent = 0
movement_of Plain = 1
movement_of WithMmo = 2

abbrev pub misplaced_by : (size movement kind : ℕ) → Bool
misplaced_by size movement kind =
    (eqb size 0 && not (eqb kind 1)) || (not (eqb size 0) && (eqb kind 1 || (eqb kind 5 && eqb movement 0)))

abbrev pub second_mmo_by : (size movement kind : ℕ) → Bool → Bool
second_mmo_by size movement kind mmo = not (eqb size 0) && ((eqb kind 5 && eqb movement 2) && mmo)

abbrev pub misdated_by : (size kind day old latest : ℕ) → Bool
misdated_by size kind day old latest =
    not (eqb size 0) && ((eqb kind 4 && ltb day old) || (eqb kind 7 && ltb day latest))

abbrev pub unsummed_by : (size kind : ℕ) → Bool → Bool
unsummed_by size kind same = not (eqb size 0) && (eqb kind 7 && not same)

abbrev pub too_long_by : ℕ → Bool
too_long_by size = not (eqb size 0) && leb most_in_statement size
