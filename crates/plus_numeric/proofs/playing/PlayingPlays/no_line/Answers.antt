use Rattle.plus_numeric.specs.Playing.{domain_in, problem_in}
use Rattle.plus_numeric.proofs.PlayingLemmas.{stops_bad}
use Rattle.plus_numeric.proofs.playing.PlayingPlays.no_line.Goals as goal

pub returns : goal.returns
returns g c = λ first start lines h.
    stops_bad c.args.self.now.play c.args.fault c.fault_halt.result c.fault_halt.ensures.says (c.fault_halt.ensures.fits (domain_in c.args.self.now.play) (problem_in c.args.self.now.play)) first.play lines h
