-- Any machine's `scan` answers by the rule: the first record to which a number applies, and there the lowest. No second answer does.
use mathlib.Core.Path.{◌≡◌, refl, sym, ◌∙◌, ap, ap₂, subst}
use mathlib.Core.Bool.{Bool, true, false, not, ◌&&◌, ◌||◌}
use mathlib.Core.List.{List, [], ◌∷◌}
use Prim.Native.Nat.{ℕ, suc, ◌+◌, ◌-◌, ◌<◌, ◌≤◌}
use native.Mathlib.Omega.{arith}
use native.Mathlib.Decide.{dec_le, ℕ_discrete}
use lib.ListN.{length, take, get_or}
use lib.Dec.{ltb, eqb, leb-suc-suc, leb-suc-zero}
use borrow.Author.Tests.{ne_eqb, eq-eqb, lt-ltb}
use Rattle.grammar.specs.Answer.{Rule, first_of, is_ruled, Counts, Answer, refused, FirstAt, NoneAt, Verdict, first, cut, whole}
use Rattle.grammar.specs.Machine.{Machine, judge_of, scan, after}
use Rattle.grammar.proofs.Tests.{clash, Rises}

-- below the first number no rule
below : (m : ℕ) (xs : List Rule) → Rises m xs → (j : ℕ) → j ≤ m → is_ruled j xs ≡ false
below m [] g j h = refl
below m (x ∷ xs) g j h = go x.applies (eqb x.number j) (ne_eqb x.number j (omega arith)) (below x.number xs g.1 j (omega arith))
  where
    go : (t u : Bool) → u ≡ false → is_ruled j xs ≡ false → (t && u || is_ruled j xs) ≡ false
    go true u p q = rw p q
    go false u p q = q

-- where the first number is 0 no number applies
none : (m : ℕ) (xs : List Rule) → Rises m xs → first_of xs ≡ 0 → (j : ℕ) → is_ruled j xs ≡ false
none m [] g e j = refl
none m (x ∷ xs) g e j = go x.applies refl (λ q. none x.number xs g.1 q j)
  where
    go : (t : Bool) → x.applies ≡ t → (first_of xs ≡ 0 → is_ruled j xs ≡ false) → is_ruled j (x ∷ xs) ≡ false
    go true p ih = let z : x.number ≡ 0 = rw p at e in absurd (omega arith)
    go false p ih = rw p (ih (rw p at e))

-- the first number applies, and is the lowest that does
pub record Lowest (k : ℕ) (xs : List Rule) : Type 0 where
  pub here : is_ruled k xs ≡ true
  pub lowest : (j : ℕ) → j < k → is_ruled j xs ≡ false

-- a rule that does not apply changes nothing
past : (x : Rule) (k : ℕ) (xs : List Rule) → x.applies ≡ false → is_ruled k xs ≡ true → is_ruled k (x ∷ xs) ≡ true
past x k xs p h = rw p h

-- the first number is the lowest, where there is one
low : (m : ℕ) (xs : List Rule) → Rises m xs → (first_of xs ≡ 0 → ⊥) → Lowest (first_of xs) xs
low m [] g f = absurd (f refl)
low m (x ∷ xs) g f = go x.applies refl (λ q. low x.number xs g.1 q)
  where
    go : (t : Bool) → x.applies ≡ t → ((first_of xs ≡ 0 → ⊥) → Lowest (first_of xs) xs) → Lowest (first_of (x ∷ xs)) (x ∷ xs)
    go true p ih =
        record {
          here = rw (p, eq-eqb x.number x.number refl);
          lowest = λ j h. let l : j < x.number = rw p at h in rw (p, ne_eqb x.number j (omega arith)) (below x.number xs g.1 j (omega arith));
        }
    go false p ih =
        let l = ih (λ z. f (rw p z)) in
        let e : first_of (x ∷ xs) ≡ first_of xs = rw p refl in
        record { here = subst (λ k. is_ruled k (x ∷ xs) ≡ true) (sym e) (past x (first_of xs) xs p l.here); lowest = λ j h. rw p (l.lowest j (rw p at h)) }

module _ (M : Machine) (d : M.Record) where
  -- number k applies to record i of rs, read from the state s on
  abbrev pub applies_from : M.State → List M.Record → (k i : ℕ) → Bool
  applies_from s rs k i = ltb i (length rs) && is_ruled k (M.rules (after M s (take i rs)) (get_or rs i d))

module _ (M : Machine) (d : M.Record) (rise : (s : M.State) (r : M.Record) → Rises 0 (M.rules s r)) (applies : (k i : ℕ) → Bool) where
  -- the answer from here on, where m records are behind to which nothing applies
  pub verdict : (rs : List M.Record) (m : ℕ) (s : M.State) → ((k i : ℕ) → applies k (m + i) ≡ applies_from M d s rs k i)
      → ((h : ℕ) → h < m → (k : ℕ) → applies k h ≡ false)
      → Verdict applies (not (M.closed (after M s rs))) (m + length rs) (M.counts (after M s rs)) (scan M m s rs)
  unfolding scan judge_of
  verdict [] m s on before = go (M.closed s) refl
    where
      clear : (i k : ℕ) → applies k i ≡ false
      clear i k = by (dec_le m i)
        where
          by : Dec (m ≤ i) → applies k i ≡ false
          by (yes h) = let e : i ≡ m + (i - m) = omega arith in ap (applies k) e ∙ rw (leb-suc-zero (i - m)) at (on k (i - m))
          by (no f) = before i (omega arith) k

      go : (t : Bool) → M.closed s ≡ t → Verdict applies (not (M.closed s)) (m + 0) (M.counts s) (scan M m s [])
      go true z = whole (record { none = clear }) (ap not z) (rw z)
      go false z = cut (record { none = clear }) (ap not z) (rw z (ap (refused 14) (omega arith)))
  verdict (r ∷ rs) m s on before = go (λ o b. verdict rs (m + 1) (M.taken s r) o b) (ℕ_discrete (judge_of M s r) 0)
    where
      here : (k : ℕ) → applies k m ≡ is_ruled k (M.rules s r)
      here k = let e : m ≡ m + 0 = omega arith in ap (applies k) e ∙ rw (lt-ltb 0 (suc (length rs)) (omega arith)) at (on k 0)

      later : (k i : ℕ) → applies k (m + 1 + i) ≡ applies_from M d (M.taken s r) rs k i
      later k i = let e : m + 1 + i ≡ m + suc i = omega arith in ap (applies k) e ∙ rw (leb-suc-suc (suc i) (length rs)) at (on k (suc i))

      go : (((k i : ℕ) → applies k (m + 1 + i) ≡ applies_from M d (M.taken s r) rs k i) → ((h : ℕ) → h < m + 1 → (k : ℕ) → applies k h ≡ false)
          → Verdict applies (not (M.closed (after M s (r ∷ rs)))) (m + 1 + length rs) (M.counts (after M s (r ∷ rs))) (scan M (m + 1) (M.taken s r) rs))
          → Dec (judge_of M s r ≡ 0)
          → Verdict applies (not (M.closed (after M s (r ∷ rs)))) (m + length (r ∷ rs)) (M.counts (after M s (r ∷ rs))) (scan M m s (r ∷ rs))
      go ih (yes z) =
          let e : m + suc (length rs) ≡ m + 1 + length rs = omega arith in
          rw (e, eq-eqb (judge_of M s r) 0 z) (ih later (λ h g k. by h k (dec_le m h) g))
        where
          by : (h k : ℕ) → Dec (m ≤ h) → h < m + 1 → applies k h ≡ false
          by h k (yes l) g = let e : h ≡ m = omega arith in ap (applies k) e ∙ here k ∙ none 0 (M.rules s r) (rise s r) z k
          by h k (no f) g = before h (omega arith) k
      go ih (no f) =
          let l = low 0 (M.rules s r) (rise s r) f in
          first (judge_of M s r) m
          (record { here = here (judge_of M s r) ∙ l.here; lowest = λ j h. here j ∙ l.lowest j h; earlier = before })
          (rw (ne_eqb (judge_of M s r) 0 f))

-- two that are both first are the same
module _ {applies : (k i : ℕ) → Bool} where
  -- no first record is before another
  not_before : {k l i j : ℕ} → FirstAt applies k i → FirstAt applies l j → i < j → ⊥
  not_before {k} {l} {i} f g h = clash f.here (g.earlier i h k)

  -- no lowest number is below another
  not_below : {k l i j : ℕ} → FirstAt applies k i → FirstAt applies l j → i ≡ j → k < l → ⊥
  not_below {k} f g e h = clash f.here (rw e (g.lowest k h))

  -- so they are the same
  only : {k l i j : ℕ} → FirstAt applies k i → FirstAt applies l j → (k ≡ l) × (i ≡ j)
  only {k} {l} {i} {j} f g =
      let a : ¬ (i < j) = not_before f g in
      let b : ¬ (j < i) = not_before g f in
      let e : i ≡ j = omega arith in
      let c : ¬ (k < l) = not_below f g e in
      let d : ¬ (l < k) = not_below g f (sym e) in
      (omega arith, e)

  -- where nothing applies nothing is first
  unmet : {k i : ℕ} → FirstAt applies k i → NoneAt applies → ⊥
  unmet {k} {i} f g = clash f.here (g.none i k)

  -- no second answer satisfies the rule
  pub one_verdict : {inside : Bool} {records : ℕ} {counts : Counts} {a b : Answer} → Verdict applies inside records counts a
      → Verdict applies inside records counts b → a ≡ b
  one_verdict (first k i f e) (first l j g e') = e ∙ ap₂ (λ x y. refused x (y + 1)) (only f g).0 (only f g).1 ∙ sym e'
  one_verdict (first k i f e) (cut g o e') = absurd (unmet f g)
  one_verdict (first k i f e) (whole g o e') = absurd (unmet f g)
  one_verdict (cut g o e) (first k i f e') = absurd (unmet f g)
  one_verdict (cut g o e) (cut g' o' e') = e ∙ sym e'
  one_verdict (cut g o e) (whole g' o' e') = absurd (clash o o')
  one_verdict (whole g o e) (first k i f e') = absurd (unmet f g)
  one_verdict (whole g o e) (cut g' o' e') = absurd (clash o' o)
  one_verdict (whole g o e) (whole g' o' e') = e ∙ sym e'
