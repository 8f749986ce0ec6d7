use Rattle.plus_numeric.proofs.PlayingLemmas.{stops_long}
use Rattle.plus_numeric.proofs.playing.PlayingPlays.too_long.Goals as goal

pub returns : goal.returns
returns g c = λ first start lines h. stops_long c.args.self.now.play first.play lines h
