-- No rule applies to a record in a mode: the six tests by name.
use mathlib.Core.Path.{◌≡◌}
use mathlib.Core.Bool.{false}
use native.Mathlib.Omega.{arith}
use Rattle.grammar.specs.Answer.{first_of}
use Rattle.grammar.specs.Record.{Rec, Edition}
use Rattle.grammar.specs.Rules.{Mode, out_of_place, differs, second_mmo, misdated, unsummed, too_long, rules}
use Rattle.grammar.proofs.Tests.{off, of_off}

module _ (E : Edition) where
  -- what it says that no rule applies
  pub record Quiet (m : Mode) (r : Rec) : Type 0 where
    pub place : out_of_place m r ≡ false
    pub same : differs m r ≡ false
    pub single : second_mmo E m r ≡ false
    pub dated : misdated m r ≡ false
    pub summed : unsummed m r ≡ false
    pub short : too_long E m ≡ false

  -- the first number is 0 exactly if all is quiet
  pub quiet : (m : Mode) (r : Rec) → first_of (rules E m r) ≡ 0 → Quiet m r
  quiet m r j =
      let f = off 0 (rules E m r) (omega arith) j in
      record {
        place = f.0;
        same = f.1.0;
        single = f.1.1.0;
        dated = f.1.1.1.0;
        summed = f.1.1.1.1.0;
        short = f.1.1.1.1.1.0;
      }

  -- and the other way round
  pub of_quiet : (m : Mode) (r : Rec) → Quiet m r → first_of (rules E m r) ≡ 0
  of_quiet m r q = of_off (rules E m r) (q.place, (q.same, (q.single, (q.dated, (q.summed, (q.short, tt))))))
