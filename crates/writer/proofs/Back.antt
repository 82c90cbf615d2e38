-- Head, rows and complements to a statement, and back.
use mathlib.Core.Path.{◌≡◌, refl, sym, ap, ap₂, ◌∙◌}
use mathlib.Core.List.{List, [], ◌∷◌, ◌++◌, map, append_assoc}
use Prim.Native.Nat.{ℕ, zero, suc, ◌*◌, ◌≤◌}
use native.Mathlib.Nat.{suc-mul, add-mul}
use native.Mathlib.Omega.{arith}
use lib.ListN.{length, take, drop, length-append, length-drop, take-append-drop}
use lib.Seq.{drop_at, take_all, take-add, length-take-le, take-append-le, drop-append-le}
use Rattle.zones.specs.Pieces.{flat}
use Rattle.framing.specs.Files.{All, chunks}
use Rattle.framing.proofs.Cuts.{Wide, chunks_flat, flat_chunks, length_flat, length_chunks}
use Rattle.grammar.specs.declared.Key.{Key}
use Rattle.grammar.specs.Record.{complement}
use Rattle.grammar.specs.Statements as values
use Rattle.grammar.specs.Statements.{records_of_movement, records_of_movements}
use Rattle.records.specs.July.{text_size, repeats, Holds, july2004}
use Rattle.fields.specs.declared.Movement.{Movement}
use Rattle.fields.specs.Rows.{row_of}
use Rattle.writing.specs.Written.{posting_of}
use Rattle.tables.specs.Tables.{rows_of}
use Rattle.writer.specs.Values.{movements_from, counted_in, texts_of}
use Rattle.writer.proofs.Alls.{all_left, all_right, all_unmap}

-- pieces are cut from the front: what follows them does not count
module _ (w : ℕ) where
  pub chunks_front : (n : ℕ) (a r : List ℕ) → n * w ≤ length a → chunks w n (a ++ r) ≡ chunks w n a
  unfolding chunks
  chunks_front zero a r l = refl
  chunks_front (suc n) a r l =
      let h : w ≤ length a = omega (arith, l, suc-mul n w) in
      ap₂ ◌∷◌ (take-append-le w a r h) (ap (chunks w n) (drop-append-le w a r h) ∙ chunks_front n (drop w a) r (omega (arith, l, suc-mul n w, length-drop w a)))

  pub chunks_take : (n : ℕ) (b : List ℕ) → n * w ≤ length b → chunks w n (take (n * w) b) ≡ chunks w n b
  chunks_take n b l =
      sym (chunks_front n (take (n * w) b) (drop (n * w) b) (omega (arith, length-take-le (n * w) b l))) ∙ ap (chunks w n) (take-append-drop (n * w) b)

  flat_front : (n : ℕ) (b : List ℕ) → n * w ≤ length b → flat (chunks w n b) ≡ take (n * w) b
  flat_front n b l = ap flat (sym (chunks_take n b l)) ∙ flat_chunks w n (take (n * w) b) (length-take-le (n * w) b l)

flat_append : (xs ys : List (List ℕ)) → flat (xs ++ ys) ≡ flat xs ++ flat ys
unfolding flat
flat_append [] ys = refl
flat_append (x ∷ xs) ys = ap (λ l. x ++ l) (flat_append xs ys) ∙ sym (append_assoc x (flat xs) (flat ys))

-- values, made a statement, are read from it again
row_back : (m : Movement) (cs : List ℕ) → row_of (posting_of m) (length (chunks text_size m.complements cs)) ≡ m
row_back m cs = rw (length_chunks text_size m.complements cs)

pub rows_back : (rows : List Movement) (cs : List ℕ) → rows_of (movements_from rows cs) ≡ rows
unfolding rows_of movements_from
rows_back [] cs = refl
rows_back (m ∷ ms) cs = ap₂ ◌∷◌ (row_back m cs) (rows_back ms (drop (m.complements * text_size) cs))

texts_front : (rows : List Movement) (cs : List ℕ) → counted_in rows * text_size ≤ length cs → flat (texts_of (movements_from rows cs)) ≡ take (counted_in rows * text_size) cs
unfolding texts_of movements_from counted_in flat
texts_front [] cs l = refl
texts_front (m ∷ ms) cs l =
    let n = m.complements in
    let w = add-mul n (counted_in ms) text_size in
    flat_append (chunks text_size n cs) (texts_of (movements_from ms (drop (n * text_size) cs)))
    ∙ ap₂ ◌++◌ (flat_front text_size n cs (omega (arith, l, w))) (texts_front ms (drop (n * text_size) cs) (omega (arith, l, w, length-drop (n * text_size) cs)))
    ∙ sym (ap (λ (z : ℕ). take z cs) w ∙ take-add (n * text_size) (counted_in ms * text_size) cs)

pub texts_back : (rows : List Movement) (cs : List ℕ) → length cs ≡ counted_in rows * text_size → flat (texts_of (movements_from rows cs)) ≡ cs
texts_back rows cs l = texts_front rows cs (omega arith) ∙ take_all (counted_in rows * text_size) cs (omega arith)

-- the texts of written complements have 73 bytes
wide_texts : (e : List ℕ) (ts : List (List ℕ)) → All Holds (map (complement e) ts) → Wide text_size ts
wide_texts e ts o = all_unmap (complement e) (λ t. length t ≡ text_size) Holds (λ t h. h.1.size) ts o

-- a statement's values, made a statement again, are that statement
pub movements_back : (k : Key) (ms : List values.Movement) → All Holds (records_of_movements july2004 k ms) → movements_from (rows_of ms) (flat (texts_of ms)) ≡ ms
unfolding rows_of movements_from texts_of records_of_movements records_of_movement flat
movements_back k [] o = refl
movements_back k (m ∷ ms) o =
    let e = repeats k m.posting in
    let ts = m.complements in
    let w = wide_texts e ts (all_left Holds (map (complement e) ts) (records_of_movements july2004 k ms) o.1) in
    let l = length_flat text_size ts w in
    let s : flat (ts ++ texts_of ms) ≡ flat ts ++ flat (texts_of ms) = flat_append ts (texts_of ms) in
    let c : chunks text_size (length ts) (flat (ts ++ texts_of ms)) ≡ ts =
    ap (chunks text_size (length ts)) s ∙ chunks_front text_size (length ts) (flat ts) (flat (texts_of ms)) (omega (arith, l)) ∙ chunks_flat text_size ts w in
    let d : drop (length ts * text_size) (flat (ts ++ texts_of ms)) ≡ flat (texts_of ms) =
    ap (drop (length ts * text_size)) s ∙ drop_at (flat ts) (flat (texts_of ms)) (length ts * text_size) l in
    ap₂ ◌∷◌ (ap (λ t. record { posting = m.posting; complements = t }) c)
    (ap (movements_from (rows_of ms)) d ∙ movements_back k ms (all_right Holds (map (complement e) ts) (records_of_movements july2004 k ms) o.1))

-- and they are as many as the rows count
pub texts_counted : (k : Key) (ms : List values.Movement) → All Holds (records_of_movements july2004 k ms) → length (flat (texts_of ms)) ≡ counted_in (rows_of ms) * text_size
unfolding rows_of texts_of counted_in records_of_movements records_of_movement flat
texts_counted k [] o = refl
texts_counted k (m ∷ ms) o =
    let e = repeats k m.posting in
    let ts = m.complements in
    let w = wide_texts e ts (all_left Holds (map (complement e) ts) (records_of_movements july2004 k ms) o.1) in
    ap length (flat_append ts (texts_of ms))
    ∙ omega (arith, length-append (flat ts) (flat (texts_of ms)), length_flat text_size ts w, texts_counted k ms (all_right Holds (map (complement e) ts) (records_of_movements july2004 k ms) o.1), add-mul (length ts) (counted_in (rows_of ms)) text_size)
