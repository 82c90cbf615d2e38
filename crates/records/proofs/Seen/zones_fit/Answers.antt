use mathlib.Core.Path.{sym, ◌∙◌}
use Rattle.records.proofs.Looking.{fit_four, fit_balance, fit_mmo, fit_plain}
use Rattle.records.proofs.Seen.zones_fit.Goals as goal

pub returns-in-Movement : goal.returns-in-Movement
returns-in-Movement c = let s = c.args.self.now in fit_four s.r.now s.judged c.in-Movement.is c.movement_zones.ensures

pub returns-in-Complement : goal.returns-in-Complement
returns-in-Complement c = let s = c.args.self.now in fit_mmo s.r.now s.judged c.in-Complement.is (sym s.qualified ∙ c.if-self.true) c.mmo_zones.ensures

pub returns-in-Complement-2 : goal.returns-in-Complement-2
returns-in-Complement-2 c = let s = c.args.self.now in fit_plain s.r.now s.judged c.in-Complement.is (sym s.qualified ∙ c.if-self.false) c.plain_zones.ensures

pub returns-in-Opening : goal.returns-in-Opening
returns-in-Opening c = let s = c.args.self.now in fit_balance s.r.now s.judged c.in-Opening.is c.balance_zones.ensures
