use Rattle.std.proofs.Common.{refl, sym, ◌∙◌}
use Rattle.plus_validator.specs.Account.{progress}
use Rattle.plus_validator.proofs.Waiting.{halts_after_end, halts_without_value, halts_going_back}
use Rattle.plus_validator.proofs.run.Run.moment.Goals as goal

pub returns-then-self-clause-stops : goal.returns-then-self-clause-stops
returns-then-self-clause-stops g c = λ N P sent. halts_after_end P (g.T.Teller.telling N P) (progress g.T.Teller.told sent c.args.self.now) c.args.line c.args.time.now c.broken.result c.if-self.true c.broken.ensures

pub returns-then-is_past-clause-stops : goal.returns-then-is_past-clause-stops
returns-then-is_past-clause-stops g c = λ N P sent.
    halts_going_back P (g.T.Teller.telling N P) (progress g.T.Teller.told sent c.args.self.now) c.args.line c.args.time.now c.in-Ok.at c.broken-then-is_past.result c.requires c.if-self.false c.in-Ok.ensures
    (sym c.is_past.ensures ∙ c.if-is_past.true) c.broken-then-is_past.ensures

pub returns-in-Err-clause-stops : goal.returns-in-Err-clause-stops
returns-in-Err-clause-stops g c = λ N P sent. halts_without_value P (g.T.Teller.telling N P) (progress g.T.Teller.told sent c.args.self.now) c.args.line c.args.time.now _ c.if-self.false c.in-Err.ensures refl
