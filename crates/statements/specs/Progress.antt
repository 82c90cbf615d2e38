-- What the code keeps between two records, and the state of the definitions that it stands for.
use Rattle.std.specs.Prelude.{◌≡◌, false, List, ℕ, ◌+◌, ◌*◌, ◌≤◌, max, eqb, take, drop, ℤ, pos, nat_abs, ◌+ℤ◌, unwrap_or}
use Rattle.std.proofs.Math.Option.{Option, none, some}
use Rattle.zones.specs.Choice.{pick}
use Rattle.amounts.specs.Amounts.{most_amount}
use Rattle.layouts.specs.Zone.{part}
use Rattle.framing.specs.declared.Form.{Form}
use Rattle.framing.specs.Files.{line_end, unknown_end}
use Rattle.grammar.specs.declared.Key.{Key}
use Rattle.grammar.specs.Rules.{Open, Current, Mode, out, within, State}
use Rattle.records.specs.July.{record_size, most_in_file, key_in}
use Rattle.records.specs.Tests.{movement_of}
use Rattle.records.specs.declared.Kind.{Kind}
use Rattle.records.specs.declared.Kind.TheVariants.{Opening, Movement, Complement, Closing}
use Rattle.records.specs.declared.Look.{Look}
use Rattle.records.specs.declared.rules.LastMovement.TheVariants.{Absent, Plain, WithMmo}
use Rattle.statements.specs.declared.Totals.{Totals}
use Rattle.statements.specs.declared.Progress.{Progress}

-- the totals after an 01, a 04, a 05 and a 07
abbrev pub opened_of : Totals → ℤ → Totals
opened_of t b = record { statements = t.statements; movements = t.movements; complements = t.complements; balance = b }

abbrev pub moved_of : Totals → ℤ → Totals
moved_of t a =
    record { statements = t.statements; movements = t.movements + 1; complements = t.complements; balance = t.balance +ℤ a }

abbrev pub added_of : Totals → Totals
added_of t =
    record { statements = t.statements; movements = t.movements; complements = t.complements + 1; balance = t.balance }

abbrev pub closed_of : Totals → Totals
closed_of t =
    record { statements = t.statements + 1; movements = t.movements; complements = t.complements; balance = t.balance }

-- what is kept before any record
abbrev pub begin : Progress
begin =
    record {
      opening = 0;
      mark = 0;
      size = 0;
      movement = Absent;
      old = 0;
      latest = 0;
      totals = record { statements = 0; movements = 0; complements = 0; balance = pos 0 };
    }

-- and after a record at a place, by its kind
abbrev pub after_opening : Progress → ℕ → Look → Progress
after_opening p at k =
    record {
      opening = at;
      mark = p.mark;
      size = 1;
      movement = Absent;
      old = k.day;
      latest = k.day;
      totals = opened_of p.totals k.amount;
    }

abbrev pub after_movement : Progress → ℕ → Look → Progress
after_movement p at k =
    record {
      opening = p.opening;
      mark = at;
      size = p.size + 1;
      movement = Plain;
      old = p.old;
      latest = max p.latest k.day;
      totals = moved_of p.totals k.amount;
    }

abbrev pub after_complement : Progress → Look → Progress
after_complement p k =
    record {
      opening = p.opening;
      mark = p.mark;
      size = p.size + 1;
      movement = pick k.mmo WithMmo p.movement;
      old = p.old;
      latest = p.latest;
      totals = added_of p.totals;
    }

abbrev pub after_closing : Progress → Progress
after_closing p =
    record {
      opening = p.opening;
      mark = p.mark;
      size = 0;
      movement = Absent;
      old = p.old;
      latest = p.latest;
      totals = closed_of p.totals;
    }

abbrev pub next_by : Kind → Progress → ℕ → Look → Progress
next_by Opening p at k = after_opening p at k
next_by Movement p at k = after_movement p at k
next_by Complement p at k = after_complement p k
next_by Closing p at k = after_closing p

abbrev pub next_of : Progress → ℕ → Look → Progress
next_of p at k = next_by (unwrap_or k.kind Closing) p at k

-- the mode as numbers and the bytes that they point to
pub record Flags : Type 0 where
  pub size : ℕ
  pub movement : ℕ
  pub key : Key
  pub repeated : List ℕ
  pub old : ℕ
  pub latest : ℕ
  pub balance : ℤ

abbrev pub open_of : Flags → Open
open_of f = record { key = f.key; old = f.old; latest = f.latest; balance = f.balance; size = f.size }

abbrev pub current_of : Flags → Option Current
current_of f =
    pick (eqb f.movement 0) none (some (record { repeated = f.repeated; seen = eqb f.movement 2 }))

unfoldable pub mode_of : Flags → Mode
mode_of f = pick (eqb f.size 0) out (within (open_of f) (current_of f))

abbrev pub record_at : List ℕ → ℕ → List ℕ
record_at file at = take record_size (drop at file)

abbrev pub flags_of : List ℕ → Progress → Flags
flags_of file p =
    record {
      size = p.size;
      movement = movement_of p.movement;
      key = key_in (record_at file p.opening);
      repeated = part 3 40 (record_at file p.mark);
      old = p.old;
      latest = p.latest;
      balance = p.totals.balance;
    }

abbrev pub state_of : List ℕ → Progress → State
state_of file p =
    record {
      counts =
          record {
            statements = p.totals.statements;
            movements = p.totals.movements;
            complements = p.totals.complements;
          };
      mode = mode_of (flags_of file p);
    }

-- the totals of at most i records
pub record Small (i : ℕ) (t : Totals) : Type 0 where
  pub statements : t.statements ≤ i
  pub movements : t.movements ≤ i
  pub complements : t.complements ≤ i
  pub balance : nat_abs t.balance ≤ most_amount * i

-- the places kept lie in a file of so many bytes
pub record Inside (len : ℕ) (p : Progress) : Type 0 where
  pub opening : p.opening + record_size ≤ len
  pub mark : p.mark + record_size ≤ len

-- what a judgement asks: a known line end, a piece of a record and its line end, and places that lie in the file
pub record Fit (f : Form) (len size : ℕ) (p : Progress) : Type 0 where
  pub line : unknown_end f ≡ false
  pub wide : size ≡ record_size + line_end f
  pub places : Inside len p
  pub totals : Small most_in_file p.totals

-- a file of count records of w bytes
pub record Sized (f : Form) (w count size : ℕ) : Type 0 where
  pub line : unknown_end f ≡ false
  pub width : w ≡ record_size + line_end f
  pub whole : size ≡ count * w
  pub few : count ≤ most_in_file
