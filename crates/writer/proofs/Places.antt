-- A row put at its place, and the ends around the rows, as the code comes to them.
use mathlib.Core.Path.{◌≡◌, sym, ◌∙◌}
use mathlib.Core.Bool.{Bool, true, ◌&&◌}
use mathlib.Core.List.{List}
use Prim.Native.Nat.{ℕ, ◌+◌, ◌-◌, ◌*◌, ◌≤◌}
use native.Mathlib.Nat.{add-sub_cancel_left}
use native.Mathlib.Omega.{arith}
use lib.Dec.{leb}
use lib.ListN.{length, take, drop, length-drop}
use lib.Seq.{drop-drop}
use borrow.Author.Tests.{leb-true}
use borrow.Rule.Slice.PartMut.{put_mid}
use Rattle.zones.proofs.Bools.{and_left, and_right}
use Rattle.framing.specs.Files.{chunks}
use Rattle.grammar.specs.declared.Key.{Key}
use Rattle.records.specs.July.{text_size, most_in_statement}
use Rattle.fields.specs.declared.Movement.{Movement}
use Rattle.writer.specs.declared.Spot.{Spot}
use Rattle.writer.specs.Steps.{group_put, group_size, placed, room_at, spot_of, row_put}
use Rattle.writer.proofs.Back.{chunks_take}
use Rattle.writer.proofs.Tallied.{room_left}

module _ (bytes : ℕ) (k : Key) (m : Movement) (cs : List ℕ) (p : Spot) (out : List ℕ) where
  abbrev len : ℕ
  len = length cs

  module _ {a : Bool} (q : a ≡ placed bytes m len (length out) p) where
    module _ (e : a ≡ true) where
      ok : placed bytes m len (length out) p ≡ true
      ok = sym q ∙ e

      pub at_inside : p.at ≤ bytes
      at_inside = leb-true p.at bytes (and_left (leb p.at bytes) _ (and_right (leb m.complements most_in_statement && leb bytes (length out)) _ ok))

      pub from_inside : p.from ≤ len
      from_inside = leb-true p.from len (and_right (leb p.at bytes) _ (and_right (leb m.complements most_in_statement && leb bytes (length out)) _ ok))

      abbrev room : Bool
      room = leb (group_size m) (bytes - p.at) && leb (m.complements * text_size) (len - p.from)

      is_room : room_at bytes m len p ≡ room
      is_room = rw (room_left p.at (group_size m) bytes at_inside, room_left p.from (m.complements * text_size) len from_inside)

      module _ (f : room ≡ true) where
        pub texts_inside : p.from + m.complements * text_size ≤ len
        texts_inside =
            let i = from_inside in
            omega (arith, leb-true (m.complements * text_size) (len - p.from) (and_right (leb (group_size m) (bytes - p.at)) _ f))

        pub spot_goes : ◌≡◌ {A = Spot} (record { at = p.at + group_size m; from = p.from + m.complements * text_size }) (spot_of bytes m len (length out) p)
        unfolding spot_of
        spot_goes = sym (rw (ok, is_room, f))

        pub out_goes : {r : List ℕ}
            → r ≡ group_put k m (chunks text_size m.complements (take (p.from + m.complements * text_size - p.from) (drop p.from cs))) (take (p.at + group_size m - p.at) (drop p.at out))
            → put_mid p.at (p.at + group_size m - p.at) out r ≡ row_put bytes k m cs p out
        unfolding row_put
        out_goes {r} g =
            let c = add-sub_cancel_left p.at (group_size m) in
            let d = add-sub_cancel_left p.from (m.complements * text_size) in
            let t : chunks text_size m.complements (take (m.complements * text_size) (drop p.from cs)) ≡ chunks text_size m.complements (drop p.from cs) =
            chunks_take text_size m.complements (drop p.from cs) (omega (arith, length-drop p.from cs, texts_inside)) in
            let w : r ≡ group_put k m (chunks text_size m.complements (drop p.from cs)) (take (group_size m) (drop p.at out)) = rw (d, c, t) at g in
            rw (c, w, drop-drop (group_size m) p.at out) (sym (rw (ok, is_room, f)))
