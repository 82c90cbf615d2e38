-- Statement k of a file as a part of its bytes.
use Rattle.std.specs.Prelude.{List, [], ◌∷◌, ℕ, zero, suc, ◌+◌, ◌-◌, ◌*◌, take, drop, get_or, pos}
use Rattle.framing.specs.declared.Form.{Form}
use Rattle.framing.specs.Files.{width_of}
use Rattle.grammar.specs.Statements.{Statement, sizes}
use Rattle.grammar.specs.Files.{Coding, statements_of}

-- the number of records of a statement, and of the first j statements
abbrev pub size_of : Statement → ℕ
size_of s = sizes s.movements + 2

unfoldable pub records_before : ℕ → List Statement → ℕ
records_before zero ss = 0
records_before (suc j) [] = 0
records_before (suc j) (s ∷ ss) = size_of s + records_before j ss

-- what stands where there is no statement
abbrev pub no_statement : Statement
no_statement =
    record {
      key = record { bank = []; branch = []; currency = []; decimals = 0; account = [] };
      old_date = 0;
      old_balance = pos 0;
      movements = [];
      new_date = 0;
      new_balance = pos 0;
    }

-- From the first byte of its 01 to the end of its 07, line end included. Statements are numbered from 1.
unfoldable pub part_of : (C : Coding) → Form → List ℕ → ℕ → List ℕ
part_of C f b k =
    let w = width_of C.size f in
    let ss = statements_of C f b in
    take (size_of (get_or ss (k - 1) no_statement) * w) (drop (records_before (k - 1) ss * w) b)
