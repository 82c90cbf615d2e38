-- The first and the last record of a statement, whatever its line ends: how it is kept, and what it holds.
use mathlib.Core.Path.{◌≡◌, ap, ◌∙◌}
use mathlib.Core.List.{List, [], ◌∷◌}
use Prim.Native.Nat.{ℕ, ◌-◌}
use native.Mathlib.Nat.{zero-mul, add-mul}
use native.Mathlib.Omega.{arith}
use lib.ListN.{length}
use borrow.Author.Tests.{eq-eqb, le-ltb}
use Rattle.framing.specs.declared.Form.{Form}
use Rattle.framing.specs.Files.{width_of}
use Rattle.grammar.specs.Statements.{Statement, sizes}
use Rattle.grammar.specs.Files.{Reads}
use Rattle.grammar.specs.Parts.{records_before}
use Rattle.records.specs.July.{record_size, canon_record, coding_of}
use Rattle.records.specs.Looks.{look_of}
use Rattle.records.proofs.Lawful.{july_lawful}
use Rattle.contents.specs.Heads.{record_at_of}
use Rattle.contents.proofs.Records.{record_kept}
use Rattle.contents.proofs.Heading.{Balance, opened, closed, old_date_at, length_part, first_held, last_held}
use Rattle.bodies.specs.Bodies.{kept, opening_text, closing_text, closing_in}

-- a record is as long as it is kept
pub length_kept : (r : List ℕ) → length r ≡ record_size → length (kept r) ≡ record_size
unfolding kept
length_kept r l = (july_lawful.alike r l).sized ∙ l

module _ {f : Form} {b : List ℕ} {s : Statement} (r : Reads (coding_of f) f b (s ∷ [])) where
  abbrev w : ℕ
  w = width_of record_size f

  -- its first record is its 01, kept as the writer writes it
  pub opening_written : kept (record_at_of b 0) ≡ opening_text s
  unfolding opening_text kept
  opening_written = record_kept (first_held r)

  pub opening_there : Balance (record_at_of b 0) s.key s.old_date s.old_balance
  opening_there = opened _ (first_held r).values

  -- its last record is its 07, kept as the writer writes it
  last_found : closing_in f b ≡ record_at_of b (length b - w)
  unfolding closing_in
  last_found = rw (r.line, le-ltb (length b) w (omega (arith, length_part r, add-mul (sizes s.movements) 2 w)))

  pub closing_written : kept (closing_in f b) ≡ closing_text s
  unfolding closing_text kept
  closing_written = ap canon_record last_found ∙ record_kept (last_held r)

  pub closing_there : Balance (closing_in f b) s.key s.new_date s.new_balance
  closing_there = rw last_found (closed _ (last_held r).values)

  -- both are whole
  pub opening_whole : length (record_at_of b 0) ≡ record_size
  opening_whole = (first_held r).whole

  pub closing_whole : length (closing_in f b) ≡ record_size
  closing_whole = rw last_found (last_held r).whole

  -- a look at the 01 gives the old date and the old balance
  pub look_date : (look_of (record_at_of b 0)).day ≡ s.old_date
  unfolding records_before
  look_date = rw (zero-mul w) at (old_date_at r 0 (omega arith))

  pub look_balance : (look_of (record_at_of b 0)).amount ≡ s.old_balance
  unfolding look_of
  look_balance = rw (eq-eqb (length (record_at_of b 0)) record_size opening_whole) opening_there.amount
