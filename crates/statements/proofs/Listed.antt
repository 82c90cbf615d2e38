-- Each number with which the check refuses stands in the list, so a reason says as much as its number.
use mathlib.Core.Path.{◌≡◌, refl}
use mathlib.Core.Bool.{Bool, true, false}
use mathlib.Core.List.{List, [], ◌∷◌}
use Prim.Native.Nat.{ℕ, ◌+◌}
use lib.Dec.{eqb}
use borrow.Author.Tests.{eqb-false}
use Rattle.zones.specs.Choice.{pick}
use Rattle.framing.specs.declared.Form.{Form}
use Rattle.framing.specs.Files.{All, unknown_end, uneven, too_many}
use Rattle.framing.specs.Refusals.{reason_number, reason_of, listed}
use Rattle.grammar.specs.Answer.{Rule, first_of, Answer, accepted, refused}
use Rattle.grammar.specs.Machine.{judge_of, scan}
use Rattle.grammar.specs.Rules.{State, start}
use Rattle.grammar.specs.Files.{files, file_rules, check_of, pieces}
use Rattle.records.specs.July.{coding_of, record_size, most_in_file}

abbrev pub Listed : ℕ → Type 0
Listed n = reason_number (reason_of n) ≡ n

abbrev pub AllListed : Answer → Type 0
AllListed (accepted c) = Unit
AllListed (refused n r) = Listed n

first_listed : (xs : List Rule) → All (λ x. Listed x.number) xs → (first_of xs ≡ 0 → ⊥) → Listed (first_of xs)
first_listed [] l z = absurd (z refl)
first_listed (x ∷ xs) l z = by x.applies refl (first_listed xs l.1)
  where
    by : (t : Bool) → x.applies ≡ t → ((first_of xs ≡ 0 → ⊥) → Listed (first_of xs)) → Listed (pick x.applies x.number (first_of xs))
    by true e rest = rw e l.0
    by false e rest = rw e (rest (rw e at z))

pub judge_listed : (f : Form) (s : State) (p : List ℕ) → (judge_of (files (coding_of f) f) s p ≡ 0 → ⊥) → Listed (judge_of (files (coding_of f) f) s p)
unfolding judge_of reason_of listed
judge_listed f s p z = first_listed (file_rules (coding_of f) f s.mode p) (refl, (refl, (refl, (refl, (refl, (refl, (refl, (refl, (refl, (refl, (refl, tt))))))))))) z

scan_listed : (f : Form) (i : ℕ) (s : State) (ps : List (List ℕ)) → AllListed (scan (files (coding_of f) f) i s ps)
unfolding scan reason_of listed
scan_listed f i s [] = by ((files (coding_of f) f).closed s) refl
  where
    by : (t : Bool) → (files (coding_of f) f).closed s ≡ t
        → AllListed (pick ((files (coding_of f) f).closed s) (accepted ((files (coding_of f) f).counts s)) (refused 14 i))
    by true e = rw e tt
    by false e = rw e refl
scan_listed f i s (p ∷ ps) = by (eqb (judge_of (files (coding_of f) f) s p) 0) refl (scan_listed f (i + 1) ((files (coding_of f) f).taken s p) ps)
  where
    by : (t : Bool) → eqb (judge_of (files (coding_of f) f) s p) 0 ≡ t → AllListed (scan (files (coding_of f) f) (i + 1) ((files (coding_of f) f).taken s p) ps)
        → AllListed (pick (eqb (judge_of (files (coding_of f) f) s p) 0) (scan (files (coding_of f) f) (i + 1) ((files (coding_of f) f).taken s p) ps) (refused (judge_of (files (coding_of f) f) s p) (i + 1)))
    by true e rest = rw e rest
    by false e rest = rw e (judge_listed f s p (eqb-false _ 0 e))

pub check_listed : (f : Form) (b : List ℕ) → AllListed (check_of (coding_of f) f b)
unfolding check_of reason_of listed
check_listed f b =
    by (unknown_end f) (uneven record_size f b) (too_many record_size most_in_file f b) _ (scan_listed f 0 start (pieces (coding_of f) f b))
  where
    by : (x y z : Bool) (a : Answer) → AllListed a → AllListed (pick x (refused 1 0) (pick y (refused 2 0) (pick z (refused 3 0) a)))
    by true y z a l = refl
    by false true z a l = refl
    by false false true a l = refl
    by false false false a l = l
