use Rattle.plus_play.specs.Rules.{StopsAt, at_end}
use Rattle.plus_play.proofs.FeedLemmas.{on_one}
use Rattle.plus_numeric.specs.Playing.{domain_in, problem_in, HaltsAt, HaltFits}
use Rattle.plus_numeric.specs.Asked.{end_tests}
use Rattle.plus_numeric.specs.PlayRules.{play_rules}
use Rattle.plus_numeric.proofs.PlayingLemmas.{err_both, ends_play, stops_end}
use Rattle.plus_numeric.proofs.playing.PlayingPlays.end.Goals as goal

pub returns-clause-ends : goal.returns-clause-ends
returns-clause-ends g c = on_one c.finish.result (λ t first start lines h. ends_play c.args.self.now.play t first.play lines h) c.finish.ensures.passes

pub returns-clause-stops : goal.returns-clause-stops
returns-clause-stops g c =
    let a = c.args.self.now.play in
    err_both c.finish.result (HaltsAt a.source (end_tests (domain_in a) (problem_in a) a.numeric)) (HaltFits (domain_in a) (problem_in a))
    (StopsAt play_rules at_end c.args.self.now c.args._out.now c.args.self.now c.args._out.now)
    (λ halt x f first start lines h. stops_end a halt x f first.play lines h) c.finish.ensures.halts c.finish.ensures.fits
