-- A record's key, a 04's row, and what a balance in value counts of a 04, by value.
use Rattle.std.specs.Prelude.{List, ℕ, eqb, length, replicate, pos}
use Rattle.zones.specs.Choice.{pick}
use Rattle.grammar.specs.declared.Key.{Key}
use Rattle.grammar.specs.Record.{Posting}
use Rattle.records.specs.July.{record_size, key_in, posting_in}
use Rattle.fields.specs.declared.Movement.{Movement}
use Rattle.fields.specs.declared.Valued.{Valued}

-- a posting as a row, with the number of its complements
abbrev pub row_of : Posting → ℕ → Movement
row_of p n =
    record {
      internal = p.internal;
      code = p.code;
      booked = p.booked;
      reject = p.reject;
      value = p.value;
      label = p.label;
      entry = p.entry;
      exempt = p.exempt;
      unavailable = p.unavailable;
      amount = p.amount;
      reference = p.reference;
      complements = n;
    }

-- what a balance in value counts of a posting
abbrev pub valued_of : Posting → Valued
valued_of p = record { value = p.value; amount = p.amount }

-- where there is no record every number and byte is 0
abbrev pub no_key : Key
no_key = record { bank = replicate 5 0; branch = replicate 5 0; currency = replicate 3 0; decimals = 0; account = replicate 11 0 }

abbrev pub no_row : Movement
no_row =
    record {
      internal = replicate 4 0;
      code = replicate 2 0;
      booked = 0;
      reject = replicate 2 0;
      value = 0;
      label = replicate 31 0;
      entry = 0;
      exempt = 0;
      unavailable = 0;
      amount = pos 0;
      reference = replicate 16 0;
      complements = 0;
    }

abbrev pub no_valued : Valued
no_valued = record { value = 0; amount = pos 0 }

unfoldable pub key_at_of : List ℕ → Key
key_at_of b = pick (eqb (length b) record_size) (key_in b) no_key

unfoldable pub row_at_of : List ℕ → ℕ → Movement
row_at_of b n = pick (eqb (length b) record_size) (row_of (posting_in b) n) no_row

unfoldable pub valued_at_of : List ℕ → Valued
valued_at_of b = pick (eqb (length b) record_size) (valued_of (posting_in b)) no_valued
