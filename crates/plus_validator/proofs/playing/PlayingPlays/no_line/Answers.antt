use Rattle.plus_validator.specs.PlayRules.{labels_in, problem_in}
use Rattle.plus_validator.proofs.PlayingLemmas.{bad_halts}
use Rattle.plus_validator.proofs.playing.PlayingPlays.no_line.Goals as goal

pub returns : goal.returns
returns g c = λ first start lines h.
    bad_halts g.T.Teller.told g.T.Teller.telling g.T.Teller.kept g.O.Sink.taken g.O.Sink.faults c.args.self.now c.args._out.now first start lines h c.args.fault c.fault_halt.result (g.met.T.Teller.behind (labels_in c.args.self.now) (problem_in c.args.self.now) h.sent c.args.self.now.run.teller) c.fault_halt.ensures.says (c.fault_halt.ensures.fits (problem_in c.args.self.now))
