-- THE CHECK'S NUMBERS: 1 to 15, those from 4 on at a record that the file has, or 14.
use mathlib.Core.Path.{◌≡◌, refl, sym, ◌∙◌}
use mathlib.Core.Bool.{Bool, true, false, ◌&&◌, ◌||◌, false≢true}
use mathlib.Core.List.{List, [], ◌∷◌, map}
use Prim.Native.Nat.{ℕ, ◌<◌, ◌≤◌}
use native.Mathlib.Omega.{arith}
use lib.Dec.{eqb, ltb}
use lib.ListN.{length, take, get_or}
use borrow.Author.Tests.{eqb-true, ltb-true}
use Rattle.zones.proofs.Bools.{and_left, and_right}
use Rattle.framing.specs.declared.Form.{Form}
use Rattle.framing.specs.Files.{count_of, width_of}
use Rattle.framing.proofs.Cuts.{length_chunks}
use Rattle.grammar.specs.Answer.{Rule, is_ruled, Answer, refused, first, cut, whole}
use Rattle.grammar.specs.Since.{since_opening}
use Rattle.grammar.specs.Files.{rec_of, pieces, check_of, rules_after, applies_in, Ruled, line, multiple, many, records}
use Rattle.records.specs.July.{record_size, coding_of}
use Rattle.records.proofs.Theorems.{ruled}

-- the last number of a file's own refusals
abbrev pub last_of_file : ℕ
last_of_file = 15

-- numbers of rules behind the three of a file's length
abbrev Listed : List Rule → Type 0
Listed [] = Unit
Listed (x ∷ xs) = ((4 ≤ x.number) × (x.number ≤ last_of_file)) × Listed xs

listed : (k : ℕ) (xs : List Rule) → Listed xs → is_ruled k xs ≡ true → (4 ≤ k) × (k ≤ last_of_file)
listed k [] l h = absurd (false≢true h)
listed k (x ∷ xs) l h = by x.applies (eqb x.number k) refl h (listed k xs l.1)
  where
    by : (t u : Bool) → eqb x.number k ≡ u → (t && u || is_ruled k xs) ≡ true → (is_ruled k xs ≡ true → (4 ≤ k) × (k ≤ last_of_file)) → (4 ≤ k) × (k ≤ last_of_file)
    by true true e g ih = let z = eqb-true x.number k e in (omega arith, omega arith)
    by true false e g ih = ih g
    by false u e g ih = ih g

module _ (f : Form) (b : List ℕ) where
  pub count_pieces : length (pieces (coding_of f) f b) ≡ count_of record_size f b
  count_pieces = length_chunks (width_of record_size f) (count_of record_size f b) b

  -- what applies to a record
  pub record Applied (k i : ℕ) : Type 0 where
    pub behind : 4 ≤ k
    pub listed_there : k ≤ last_of_file
    pub within : i < length (pieces (coding_of f) f b)

  pub applied : {k i : ℕ} → applies_in (coding_of f) f (pieces (coding_of f) f b) k i ≡ true → Applied k i
  unfolding applies_in
  applied {k} {i} h =
      let ps = pieces (coding_of f) f b in
      let rules = rules_after (coding_of f) f (since_opening (map (rec_of (coding_of f)) (take i ps))) (get_or ps i []) in
      let z = listed k rules (omega arith) (and_right (ltb i (length ps)) (is_ruled k rules) h) in
      record { behind = z.0; listed_there = z.1; within = ltb-true i (length ps) (and_left (ltb i (length ps)) (is_ruled k rules) h) }

  -- the number of any refusal of the check
  pub check_number : {n r : ℕ} → check_of (coding_of f) f b ≡ refused n r → n ≤ last_of_file
  check_number {n} {r} q = by (ruled f b) q
    where
      by : {a : Answer} → Ruled (coding_of f) f b a → a ≡ refused n r → n ≤ last_of_file
      by (line p e) h = let u = sym e ∙ h in let v : ◌≡◌ {A = ℕ} 1 n = cc in omega arith
      by (multiple p q e) h = let u = sym e ∙ h in let v : ◌≡◌ {A = ℕ} 2 n = cc in omega arith
      by (many p q r e) h = let u = sym e ∙ h in let v : ◌≡◌ {A = ℕ} 3 n = cc in omega arith
      by (records p q r (first k i x e)) h = let u = sym e ∙ h in let v : k ≡ n = cc in let w = (applied x.here).listed_there in omega arith
      by (records p q r (cut m i e)) h = let u = sym e ∙ h in let v : ◌≡◌ {A = ℕ} 14 n = cc in omega arith
      by (records p q r (whole m i e)) h = absurd (let u = sym e ∙ h in let v : ◌≡◌ {A = ℕ} 0 1 = cc in omega arith)
