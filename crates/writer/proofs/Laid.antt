-- What the code writes, row by row, are the records of the statement.
use mathlib.Core.Path.{◌≡◌, refl, sym, ap, ap₂, ◌∙◌}
use mathlib.Core.Bool.{true}
use mathlib.Core.List.{List, [], ◌∷◌, ◌++◌, map, append_assoc}
use Prim.Native.Nat.{ℕ, suc, ◌+◌, ◌*◌, ◌≤◌}
use native.Mathlib.Nat.{suc-mul, zero-mul, add-mul}
use native.Mathlib.Omega.{arith}
use lib.ListN.{length, length-map, take, drop, length-append, length-drop}
use lib.Seq.{take_at, drop_at, drop-drop, length-take-le, take-append-le, drop-append-le}
use borrow.Author.Tests.{eq-eqb, le-leb}
use Rattle.zones.specs.Pieces.{flat}
use Rattle.zones.proofs.Bools.{both}
use Rattle.framing.specs.Files.{All, chunks}
use Rattle.framing.proofs.Cuts.{length_flat, length_chunks}
use Rattle.grammar.specs.declared.Key.{Key}
use Rattle.grammar.specs.Record.{Rec, complement}
use Rattle.grammar.specs.Statements.{sizes, records_of_movement, records_of_movements}
use Rattle.records.specs.July.{record_size, text_size, most_in_statement, repeats, write_movement, write_complement, Holds, july2004, encode_record}
use Rattle.records.proofs.Lawful.{july_lawful}
use Rattle.fields.specs.declared.Movement.{Movement}
use Rattle.contents.specs.declared.Head.{Head}
use Rattle.writing.specs.Written.{posting_of, movement_holds, text_holds, movement_put, complement_put}
use Rattle.writer.specs.declared.Spot.{Spot}
use Rattle.writer.specs.Values.{movements_from, counted_in}
use Rattle.writer.specs.Steps.{texts_put, group_put, group_size, placed, room_at, spot_of, row_put, rows_put}
use Rattle.writer.proofs.Alls.{all_map, all_left}
use Rattle.writer.proofs.Rows.{FineRows}
use Rattle.writer.proofs.Carried.{fine_held}

-- records as they are written, end to end
abbrev pub text : List Rec → List ℕ
text rs = flat (map encode_record rs)

pub text_append : (xs ys : List Rec) → text (xs ++ ys) ≡ text xs ++ text ys
unfolding flat
text_append [] ys = refl
text_append (x ∷ xs) ys = ap (λ l. encode_record x ++ l) (text_append xs ys) ∙ sym (append_assoc (encode_record x) (text xs) (text ys))

pub length_text : (rs : List Rec) → All Holds rs → length (text rs) ≡ length rs * record_size
length_text rs o = length_flat record_size (map encode_record rs) (all_map encode_record Holds (λ b. length b ≡ record_size) (λ r p. july_lawful.wide r p) rs o) ∙ ap (λ (n : ℕ). n * record_size) (length-map rs encode_record)

module _ (k : Key) (m : Movement) (o : movement_holds k m ≡ true) where
  abbrev e : List ℕ
  e = repeats k (posting_of m)

  -- one record into its part
  put_complement : (t b : List ℕ) → text_holds t ≡ true → length b ≡ record_size → complement_put k m t b ≡ write_complement e t
  unfolding complement_put
  put_complement t b p l = rw (both (eq-eqb (length b) record_size l) (both o p))

  put_movement : (b : List ℕ) → length b ≡ record_size → movement_put k m b ≡ write_movement k (posting_of m)
  unfolding movement_put
  put_movement b l = rw (both (eq-eqb (length b) record_size l) o)

  -- each text into its part
  texts_laid : (ts : List (List ℕ)) (out : List ℕ) → All (λ t. text_holds t ≡ true) ts → length out ≡ length ts * record_size
      → texts_put k m ts out ≡ text (map (complement e) ts)
  unfolding texts_put flat
  texts_laid [] [] p l = refl
  texts_laid [] (x ∷ out) p l = absurd (omega (arith, zero-mul record_size))
  texts_laid (t ∷ ts) out p l =
      ap₂ ◌++◌ (put_complement t (take record_size out) p.0 (length-take-le record_size out (omega (arith, suc-mul (length ts) record_size))))
      (texts_laid ts (drop record_size out) p.1 (omega (arith, length-drop record_size out, suc-mul (length ts) record_size)))

  -- a movement and its complements
  pub group_laid : (ts : List (List ℕ)) (out : List ℕ) → All (λ t. text_holds t ≡ true) ts → length out ≡ (1 + length ts) * record_size
      → group_put k m ts out ≡ text (records_of_movement july2004 k (record { posting = posting_of m; complements = ts }))
  unfolding group_put flat records_of_movement
  group_laid ts out p l =
      ap₂ ◌++◌ (put_movement (take record_size out) (length-take-le record_size out (omega arith))) (texts_laid ts (drop record_size out) p (omega (arith, length-drop record_size out)))

length_group : (k : Key) (m : Movement) (ts : List (List ℕ)) → All Holds (records_of_movement july2004 k (record { posting = posting_of m; complements = ts }))
    → length (text (records_of_movement july2004 k (record { posting = posting_of m; complements = ts }))) ≡ (1 + length ts) * record_size
unfolding records_of_movement
length_group k m ts o =
    let e = repeats k (posting_of m) in
    let n : suc (length (map (complement e) ts)) ≡ 1 + length ts = omega (arith, length-map ts (complement e)) in
    length_text (records_of_movement july2004 k (record { posting = posting_of m; complements = ts })) o ∙ ap (λ (z : ℕ). z * record_size) n

joined : (a g x c : List ℕ) → (a ++ g) ++ (x ++ c) ≡ a ++ ((g ++ x) ++ c)
joined a g x c = append_assoc a g (x ++ c) ∙ ap (λ z. a ++ z) (sym (append_assoc g x c))

-- a row at its place
module _ (bytes : ℕ) (k : Key) (m : Movement) (cs : List ℕ) (p : Spot) (a b c : List ℕ) (at : length a ≡ p.at) where
  abbrev out : List ℕ
  out = a ++ (b ++ c)

  module _ (n : m.complements ≤ most_in_statement) (r : bytes ≤ length out) (s : p.at + group_size m ≤ bytes) (f : p.from + m.complements * text_size ≤ length cs) where
    there : placed bytes m (length cs) (length out) p ≡ true
    there =
        both (both (le-leb m.complements most_in_statement n) (le-leb bytes (length out) r))
        (both (le-leb p.at bytes (omega arith)) (le-leb p.from (length cs) (omega arith)))

    room : room_at bytes m (length cs) p ≡ true
    room = both (le-leb (p.at + group_size m) bytes s) (le-leb (p.from + m.complements * text_size) (length cs) f)

    spot_next : spot_of bytes m (length cs) (length out) p ≡ record { at = p.at + group_size m; from = p.from + m.complements * text_size }
    unfolding spot_of
    spot_next = rw (there, room)

    row_laid : group_size m ≤ length b
        → row_put bytes k m cs p out ≡ a ++ (group_put k m (chunks text_size m.complements (drop p.from cs)) (take (group_size m) b) ++ (drop (group_size m) b ++ c))
    unfolding row_put
    row_laid l =
        let d : drop p.at out ≡ b ++ c = drop_at a (b ++ c) p.at at in
        let e : drop (p.at + group_size m) out ≡ drop (group_size m) b ++ c =
        sym (drop-drop (group_size m) p.at out) ∙ ap (drop (group_size m)) d ∙ drop-append-le (group_size m) b c l in
        rw (there, room, take_at a (b ++ c) p.at at, d, e, take-append-le (group_size m) b c l)

-- the rows, one after another
pub rows_laid : (bytes : ℕ) (h : Head) (rows : List Movement) (cs : List ℕ) (p : Spot) (a b c : List ℕ) → FineRows h rows (drop p.from cs) → length a ≡ p.at
    → length b ≡ sizes (movements_from rows (drop p.from cs)) * record_size → sizes (movements_from rows (drop p.from cs)) ≤ most_in_statement
    → p.at + length b ≤ bytes → bytes ≤ length (a ++ (b ++ c)) → p.from + counted_in rows * text_size ≤ length cs
    → rows_put bytes h.key rows cs p (a ++ (b ++ c)) ≡ a ++ (text (records_of_movements july2004 h.key (movements_from rows (drop p.from cs))) ++ c)
unfolding rows_put movements_from sizes counted_in records_of_movements flat
rows_laid bytes h [] cs p a [] c f at l n s r t = refl
rows_laid bytes h [] cs p a (x ∷ b) c f at l n s r t = absurd (omega (arith, zero-mul record_size))
rows_laid bytes h (m ∷ ms) cs p a b c f at l n s r t =
    let k = h.key in
    let ts = chunks text_size m.complements (drop p.from cs) in
    let q = length_chunks text_size m.complements (drop p.from cs) in
    let rest = movements_from ms (drop (m.complements * text_size) (drop p.from cs)) in
    let w = add-mul (1 + m.complements) (sizes rest) record_size in
    let u = add-mul m.complements (counted_in ms) text_size in
    let g : group_size m ≤ length b = omega (arith, l, q, w) in
    let G = text (records_of_movement july2004 k (record { posting = posting_of m; complements = ts })) in
    let v : length (take (group_size m) b) ≡ (1 + length ts) * record_size = length-take-le (group_size m) b g ∙ rw q in
    let x : group_put k m ts (take (group_size m) b) ≡ G = group_laid k m f.0.holds ts (take (group_size m) b) f.0.texts.each v in
    let mm : m.complements ≤ most_in_statement = omega (arith, n, q) in
    let ss : p.at + group_size m ≤ bytes = omega (arith, s, g) in
    let ff : p.from + m.complements * text_size ≤ length cs = omega (arith, t, u) in
    let d : drop (p.from + m.complements * text_size) cs ≡ drop (m.complements * text_size) (drop p.from cs) = sym (drop-drop (m.complements * text_size) p.from cs) in
    let p' : Spot = record { at = p.at + group_size m; from = p.from + m.complements * text_size } in
    let b' = drop (group_size m) b in
    let y : row_put bytes k m cs p (a ++ (b ++ c)) ≡ (a ++ G) ++ (b' ++ c) =
    row_laid bytes k m cs p a b c at mm r ss ff g ∙ ap (λ z. a ++ (z ++ (b' ++ c))) x ∙ sym (append_assoc a G (b' ++ c)) in
    let R = records_of_movement july2004 k (record { posting = posting_of m; complements = ts }) in
    let held : All Holds (R ++ records_of_movements july2004 k rest) = fine_held h (m ∷ ms) (drop p.from cs) f in
    let gl : length G ≡ group_size m = length_group k m ts (all_left Holds R (records_of_movements july2004 k rest) held) ∙ rw q in
    let al : length (a ++ G) ≡ p'.at = omega (arith, length-append a G, gl, at) in
    let bl : length b' ≡ sizes rest * record_size = omega (arith, length-drop (group_size m) b, l, q, w) in
    let le : length ((a ++ G) ++ (b' ++ c)) ≡ length (a ++ (b ++ c)) = omega (arith, length-append (a ++ G) (b' ++ c), length-append b' c, length-append a (b ++ c), length-append b c, al, at, length-drop (group_size m) b, g) in
    let i = rows_laid bytes h ms cs p' (a ++ G) b' c (rw d f.1) al (rw d bl) (rw d (omega (arith, n, q))) (omega (arith, s, length-drop (group_size m) b, g)) (omega (arith, r, le)) (omega (arith, t, u)) in
    ap₂ (λ z o. rows_put bytes k ms cs z o) (spot_next bytes k m cs p a b c at mm r ss ff) y
    ∙ i
    ∙ joined a G (text (records_of_movements july2004 k (movements_from ms (drop (p.from + m.complements * text_size) cs)))) c
    ∙ rw d (ap (λ z. a ++ (z ++ c)) (sym (text_append R (records_of_movements july2004 k rest))))
