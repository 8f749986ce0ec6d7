use Rattle.plus_validator.proofs.PlayingLemmas.{long_halts}
use Rattle.plus_validator.proofs.playing.PlayingPlays.too_long.Goals as goal

pub returns : goal.returns
returns g c = λ first start lines h. long_halts g.T.Teller.told g.T.Teller.telling g.T.Teller.kept g.O.Sink.taken g.O.Sink.faults c.args.self.now c.args._out.now first start lines h
