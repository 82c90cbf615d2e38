-- The row of an entry listed: the answer and what is left of the row, at the code's returns.
use mathlib.Core.Path.{◌≡◌, ap, ◌∙◌}
use mathlib.Core.List.{List, ◌++◌}
use Prim.Native.Nat.{ℕ, ◌+◌, ◌-◌, ◌*◌, ◌≤◌}
use native.Mathlib.Omega.{arith}
use lib.ListN.{length, take, drop}
use lib.Seq.{length-take-le}
use borrow.Author.Tests.{lt-ltb, le-ltb, le-leb, eq-eqb}
use Rattle.std.specs.Prelude.{Ok}
use Rattle.readers.specs.declared.Place.{Place}
use Rattle.entries.specs.Entries.{most_entries, entry_size, row_size, entry_bytes, row_of, row_put}
use Rattle.entries.specs.Answers.{PutRow}
use Rattle.journal_layout.specs.Test.{listed_place_of}
use Rattle.journal_layout.proofs.Testing.{is_long}
use Rattle.journal_layout.proofs.Listing.{listed}
use Rattle.collector.specs.Answers.{listed_content}

-- an entry that is listed has a number from 1
pub some_entry : (j : List ℕ) (e : ℕ) {p : Place} → Ok p ≡ listed_place_of j e → 1 ≤ e
some_entry j e q = (listed j e q).some

-- its bytes are there, so its row is written
pub row_written : (j : List ℕ) (e : ℕ) (row : List ℕ) {p : Place} → Ok p ≡ listed_place_of j e → row_size ≤ length row
    → {y : List ℕ} → PutRow j (e - 1) (take row_size row) y → y ++ drop row_size row ≡ listed_content j e row
unfolding row_put
row_written j e row {p} q h g =
    let s = listed j e q in
    let i = s.index in
    let l = (is_long (length j) s.long).least in
    let a = eq-eqb (length (take row_size row)) row_size (length-take-le row_size row h) in
    let b = lt-ltb (e - 1) most_entries i in
    let c = le-leb (entry_size * (e - 1) + entry_size) (length j) (omega arith) in
    let z : row_put j (e - 1) (take row_size row) ≡ row_of (entry_bytes j (e - 1)) = rw (a, b, c) in
    ap (λ v. v ++ drop row_size row) (g.content ∙ z) ∙ rw (← q, le-ltb (length row) row_size h)
