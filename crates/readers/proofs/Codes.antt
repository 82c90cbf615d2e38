-- The code in a record's piece tells what the record is.
use mathlib.Core.Path.{◌≡◌, refl, sym, ap, ◌∙◌}
use mathlib.Core.Bool.{false}
use mathlib.Core.List.{List}
use Prim.Native.Nat.{ℕ}
use Prim.Native.String.{String}
use native.Mathlib.Omega.{arith}
use lib.ListN.{take}
use lib.Seq.{take-take}
use Rattle.zones.specs.Copy.{same_bytes}
use Rattle.zones.specs.Text.{bytes}
use Rattle.framing.specs.declared.Form.{Form}
use Rattle.grammar.specs.Record.{Rec, is_movement, is_complement, is_closing}
use Rattle.grammar.specs.Files.{Fine, rec_of}
use Rattle.records.specs.July.{record_size, is_code, unknown_code, decode_record, coding_of}
use Rattle.records.proofs.Coded.{Coded, is01, is04, is05, is07, other, coded}

pub record Told (b : List ℕ) (r : Rec) : Type 0 where
  pub four : is_code "04" b ≡ is_movement r
  pub five : is_code "05" b ≡ is_complement r
  pub seven : is_code "07" b ≡ is_closing r

-- a known code tells the values
known : (b : List ℕ) → unknown_code b ≡ false → Told b (decode_record b)
unfolding same_bytes
known b h = by (coded b h)
  where
    by : Coded b → Told b (decode_record b)
    by (is01 p a) = rw a.values (record { four = other "04" "01" b refl p; five = other "05" "01" b refl p; seven = other "07" "01" b refl p })
    by (is04 p a) = rw a.values (record { four = p; five = other "05" "04" b refl p; seven = other "07" "04" b refl p })
    by (is05 p a) = rw a.values (record { four = other "04" "05" b refl p; five = p; seven = other "07" "05" b refl p })
    by (is07 p a) = rw a.values (record { four = other "04" "07" b refl p; five = other "05" "07" b refl p; seven = p })

-- and so it does in the piece of a record
pub told : (f : Form) (p : List ℕ) → Fine (coding_of f) (take record_size p) → Told p (rec_of (coding_of f) p)
told f p o =
    let k = known (take record_size p) o.known in
    let e : (c : String) → is_code c p ≡ is_code c (take record_size p) = λ c. ap (same_bytes (bytes c)) (sym (take-take 2 record_size p (omega arith))) in
    record { four = e "04" ∙ k.four; five = e "05" ∙ k.five; seven = e "07" ∙ k.seven }
