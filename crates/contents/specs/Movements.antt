-- One movement and one complement of a statement, by number and by value.
use Rattle.std.specs.Prelude.{◌≡◌, Option, Some, None, Result, Ok, Err, Bool, ◌||◌, List, [], ℕ, zero, suc, ◌+◌, ◌-◌, eqb, ltb, length, get_or, pos}
use Rattle.zones.specs.Choice.{pick}
use Rattle.framing.specs.declared.Form.{Form}
use Rattle.framing.specs.Files.{line_end}
use Rattle.framing.specs.Refusals.{refusal_by}
use Rattle.framing.specs.declared.refusals.Reason.TheVariants.{NoSuchMovement}
use Rattle.framing.specs.declared.refusals.Refusal.{Refusal}
use Rattle.grammar.specs.Statements.{Movement, Statement}
use Rattle.grammar.specs.Files.{statements_of, check_of}
use Rattle.grammar.specs.Parts.{no_statement}
use Rattle.records.specs.July.{record_size, coding_of}
use Rattle.fields.specs.Rows.{row_of}
use Rattle.fields.specs.declared.Movement as Fields
use Rattle.readers.specs.Places.{place_of}
use Rattle.readers.specs.Steps.{step_of, next_of}
use Rattle.readers.specs.declared.Place.{Place}
use Rattle.readers.specs.declared.Step.{Step}
use Rattle.contents.specs.Heads.{movements_in}

-- what stands where there is no movement
abbrev pub no_movement : Movement
no_movement =
    record {
      posting =
          record {
            internal = [];
            code = [];
            booked = 0;
            reject = [];
            value = 0;
            label = [];
            entry = 0;
            exempt = 0;
            unavailable = 0;
            amount = pos 0;
            reference = [];
          };
      complements = [];
    }

-- numbers count from 1
abbrev pub outside : (i count : ℕ) → Bool
outside i count = eqb i 0 || ltb count i

-- 17: no movement of that number
unfoldable pub movement_among : List Movement → ℕ → Result Fields.Movement Refusal
movement_among ms i =
    let m = get_or ms (i - 1) no_movement in
    pick (outside i (length ms)) (Err (refusal_by NoSuchMovement 0)) (Ok (row_of m.posting (length m.complements)))

-- 17: no complement of that number
unfoldable pub text_among : List (List ℕ) → ℕ → Result (List ℕ) Refusal
text_among ts j = pick (outside j (length ts)) (Err (refusal_by NoSuchMovement 0)) (Ok (get_or ts (j - 1) []))

unfoldable pub complement_among : List Movement → (i j : ℕ) → Result (List ℕ) Refusal
complement_among ms i j =
    pick (outside i (length ms)) (Err (refusal_by NoSuchMovement 0)) (text_among (get_or ms (i - 1) no_movement).complements j)

-- the file's refusals, then 16, then 17
abbrev pub movement_by : Result Place Refusal → Statement → ℕ → Result Fields.Movement Refusal
movement_by (Ok p) s i = movement_among s.movements i
movement_by (Err e) s i = Err e

unfoldable pub movement_in : Form → List ℕ → (k i : ℕ) → Result Fields.Movement Refusal
movement_in f b k i = movement_by (place_of f b k) (get_or (statements_of (coding_of f) f b) (k - 1) no_statement) i

abbrev pub complement_by : Result Place Refusal → Statement → (i j : ℕ) → Result (List ℕ) Refusal
complement_by (Ok p) s i j = complement_among s.movements i j
complement_by (Err e) s i j = Err e

unfoldable pub complement_in : Form → List ℕ → (k i j : ℕ) → Result (List ℕ) Refusal
complement_in f b k i j = complement_by (place_of f b k) (get_or (statements_of (coding_of f) f b) (k - 1) no_statement) i j

-- the place after so many movements
unfoldable pub steps_after : Form → List ℕ → (j at : ℕ) → ℕ
steps_after f b zero at = at
steps_after f b (suc j) at = steps_after f b j (next_of (length b) (step_of b f at))

-- the place of movement i
unfoldable pub movement_place : Form → List ℕ → ℕ → Option ℕ
movement_place f b i =
    pick (outside i (movements_in (check_of (coding_of f) f b))) None (Some (steps_after f b (i - 1) (record_size + line_end f)))

-- the place of movement i and the step there, none exactly where it has no place
abbrev pub Found : Form → List ℕ → ℕ → Option (ℕ × Step) → Type 0
Found f b i None = None ≡ movement_place f b i
Found f b i (Some p) = (Some p.0 ≡ movement_place f b i) × (Some p.1 ≡ step_of b f p.0)
