-- The check answers by the rule of refusal, said of each record and the records before it; and no other answer satisfies that rule.
use mathlib.Core.Path.{◌≡◌, refl, sym, ◌∙◌, ap}
use mathlib.Core.Bool.{Bool, true, false, not, ◌&&◌}
use mathlib.Core.List.{List, [], map}
use Prim.Native.Nat.{ℕ}
use native.Mathlib.Omega.{arith}
use lib.Dec.{ltb}
use lib.ListN.{length, take, get_or}
use Rattle.framing.specs.declared.Form.{Form}
use Rattle.framing.specs.Files.{width_of, count_of, unknown_end, uneven, too_many}
use Rattle.framing.proofs.Cuts.{length_chunks}
use Rattle.grammar.specs.Answer.{is_ruled, Counts, Answer, Verdict}
use Rattle.grammar.specs.Machine.{scan}
use Rattle.grammar.specs.Record.{Rec}
use Rattle.grammar.specs.Rules.{is_out, start}
use Rattle.grammar.specs.Since.{since_opening, inside, tally}
use Rattle.grammar.specs.Files.{Coding, rec_of, pieces, file_rules, files, check_of, rules_after, applies_in, Ruled, line, multiple, many, records}
use Rattle.grammar.proofs.Tests.{clash}
use Rattle.grammar.proofs.Firsts.{applies_from, verdict, one_verdict}
use Rattle.grammar.proofs.Since.{counts_after}
use Rattle.grammar.proofs.After.{mode_after, inside_after, place_after, differs_after_lem, second_after, misdated_after_lem, unsummed_after_lem, long_after}
use Rattle.grammar.proofs.Seam.{after_same}

not_not : (t : Bool) → not (not t) ≡ t
not_not true = refl
not_not false = refl

-- a verdict in other words
restated : {applies : (k i : ℕ) → Bool} {x y : Bool} {m n : ℕ} {c d : Counts} {a : Answer} → x ≡ y → m ≡ n → c ≡ d → Verdict applies x m c a
    → Verdict applies y n d a
restated p q r v = rw (← p, ← q, ← r) v

module _ (C : Coding) (f : Form) where
  -- the rules on the state are the rules on the records before
  rules_same : (rs : List Rec) (p : List ℕ) → rules_after C f (since_opening rs) p ≡ file_rules C f (mode_after C.edition rs) p
  rules_same rs p =
      let E = C.edition in
      let r = rec_of C p in
      rw (place_after E rs r, differs_after_lem E rs r, second_after E rs r, misdated_after_lem E rs r, unsummed_after_lem E rs r, long_after E rs)

  -- so the same numbers apply
  applies_same : (ps : List (List ℕ)) (k i : ℕ) → applies_in C f ps k i ≡ applies_from (files C f) [] start ps k i
  unfolding applies_in
  applies_same ps k i =
      ap (λ l. ltb i (length ps) && is_ruled k l)
      (rules_same (map (rec_of C) (take i ps)) (get_or ps i []) ∙ ap (λ s. file_rules C f s.mode (get_or ps i [])) (sym (after_same C f (take i ps) start)))

  -- the rules 4 to 15, from the first record on
  scan_ruled : (b : List ℕ)
      → Verdict (applies_in C f (pieces C f b)) (inside (since_opening (map (rec_of C) (pieces C f b)))) (count_of C.size f b) (tally (map (rec_of C) (pieces C f b)))
      (scan (files C f) 0 start (pieces C f b))
  scan_ruled b =
      let ps = pieces C f b in
      restated (ap (λ s. not (is_out s.mode)) (after_same C f ps start) ∙ ap not (inside_after C.edition (map (rec_of C) ps)) ∙ not_not _)
      (omega (arith, length_chunks (width_of C.size f) (count_of C.size f b) b))
      (ap (λ s. s.counts) (after_same C f ps start) ∙ counts_after C.edition (map (rec_of C) ps))
      (verdict (files C f) [] (λ s p. omega arith) (applies_in C f ps) ps 0 start (λ k i. ap (applies_in C f ps k) (omega arith) ∙ applies_same ps k i)
      (λ h g. absurd (omega arith)))

module _ (C : Coding) where
  -- the check answers by the rule
  pub check_ruled : (f : Form) (b : List ℕ) → Ruled C f b (check_of C f b)
  unfolding check_of
  check_ruled f b = by (unknown_end f) (uneven C.size f b) (too_many C.size C.edition.most_in_file f b) refl refl refl
    where
      by : (t u v : Bool) → unknown_end f ≡ t → uneven C.size f b ≡ u → too_many C.size C.edition.most_in_file f b ≡ v → Ruled C f b (check_of C f b)
      by true u v p q r = line p (rw p)
      by false true v p q r = multiple p q (rw (p, q))
      by false false true p q r = many p q r (rw (p, q, r))
      by false false false p q r = records p q r (rw (p, q, r) (scan_ruled C f b))

  -- no second answer satisfies it
  pub one_answer : {f : Form} {b : List ℕ} {a c : Answer} → Ruled C f b a → Ruled C f b c → a ≡ c
  one_answer (line p e) (line p' e') = e ∙ sym e'
  one_answer (line p e) (multiple p' q' e') = absurd (clash p p')
  one_answer (line p e) (many p' q' r' e') = absurd (clash p p')
  one_answer (line p e) (records p' q' r' v') = absurd (clash p p')
  one_answer (multiple p q e) (line p' e') = absurd (clash p' p)
  one_answer (multiple p q e) (multiple p' q' e') = e ∙ sym e'
  one_answer (multiple p q e) (many p' q' r' e') = absurd (clash q q')
  one_answer (multiple p q e) (records p' q' r' v') = absurd (clash q q')
  one_answer (many p q r e) (line p' e') = absurd (clash p' p)
  one_answer (many p q r e) (multiple p' q' e') = absurd (clash q' q)
  one_answer (many p q r e) (many p' q' r' e') = e ∙ sym e'
  one_answer (many p q r e) (records p' q' r' v') = absurd (clash r r')
  one_answer (records p q r v) (line p' e') = absurd (clash p' p)
  one_answer (records p q r v) (multiple p' q' e') = absurd (clash q' q)
  one_answer (records p q r v) (many p' q' r' e') = absurd (clash r' r)
  one_answer (records p q r v) (records p' q' r' v') = one_verdict v v'
