-- 01, 04 and 07: their bytes are the values of their zones.
use mathlib.Core.Path.{◌≡◌, ap}
use mathlib.Core.Bool.{true, not}
use mathlib.Core.List.{List}
use Prim.Native.Nat.{ℕ}
use lib.Dec.{eqb}
use lib.ListN.{length}
use borrow.Author.Tests.{not-false, eq-eqb}
use Rattle.zones.proofs.Bools.{and_right, both}
use Rattle.zones.specs.Class.{permitted, all}
use Rattle.layouts.specs.Zone.{Zone, marked, zoned, dated, run, Values, encode, holds_all, covers}
use Rattle.layouts.proofs.PerLayout.{fits_encode, fits_permitted, length_encode}
use Rattle.grammar.specs.Record.{Rec}
use Rattle.grammar.specs.Files.{Fine}
use Rattle.records.specs.July.{record_size, layout_for, fits, misfit, undated, july}
use Rattle.records.proofs.Coded.{As}

-- the zones and dates of a record to which no rule applies
pub record Judged (zs : List Zone) (b : List ℕ) : Type 0 where
  pub zones : run zoned zs b ≡ true
  pub dates : run dated zs b ≡ true

pub judged : {zs : List Zone} {b : List ℕ} {r : Rec} → length b ≡ record_size → As b zs r → Fine july b → Judged zs b
unfolding misfit undated
judged {zs} {b} l a f =
    record {
      zones = rw a.layout at (and_right (eqb (length b) record_size) (run zoned (layout_for b) b) (not-false (fits zoned b) f.fits));
      dates = rw a.layout at (and_right (eqb (length b) record_size) (run dated (layout_for b) b) (not-false (fits dated b) f.dated));
    }

-- a record that fits its layout has no rule on its bytes alone
pub fine : {zs : List Zone} {b : List ℕ} {r : Rec} → length b ≡ record_size → As b zs r → Judged zs b → all permitted b ≡ true → Fine july b
unfolding misfit undated
fine {zs} {b} l a j p =
    record {
      permitted = ap not p;
      known = a.known;
      fits = rw a.layout (ap not (both (eq-eqb (length b) record_size l) j.zones));
      dated = rw a.layout (ap not (both (eq-eqb (length b) record_size l) j.dates));
    }

-- values that zones can hold, as the record they are written as
module _ (zs : List Zone) (c : covers 0 record_size zs ≡ true) (v : Values zs) (h : holds_all zs v ≡ true) where
  pub written_length : length (encode zs v) ≡ record_size
  written_length = length_encode record_size zs v c h

  pub written_judged : Judged zs (encode zs v)
  written_judged = let f = fits_encode record_size zs v c h in record { zones = f.zones; dates = f.dates }

  pub written_marks : run marked zs (encode zs v) ≡ true
  written_marks = (fits_encode record_size zs v c h).marks

  pub written_permitted : all permitted (encode zs v) ≡ true
  written_permitted = fits_permitted record_size zs (encode zs v) c written_length (fits_encode record_size zs v c h)
