use Rattle.std.proofs.Common.{◌≡◌, refl}
use Rattle.std.specs.Prelude.{Result, Ok, Err, IfErr}
use Rattle.plus_play.specs.Rules.{StopsAt, on_line}
use Rattle.plus_play.proofs.FeedLemmas.{on_one}
use Rattle.plus_numeric.specs.Playing.{domain_in, problem_in, HaltsIn, HaltFits}
use Rattle.plus_numeric.specs.Asked.{line_tests}
use Rattle.plus_numeric.specs.PlayRules.{play_rules}
use Rattle.plus_numeric.specs.declared.halt.Halt.{Halt}
use Rattle.plus_numeric.specs.declared.playing.Playing.{Playing}
use Rattle.plus_numeric.proofs.PlayingLemmas.{on_both, err_both, still_can, goes_line, stops_line}
use Rattle.plus_numeric.proofs.playing.PlayingPlays.line.Goals as goal

pub returns-clause-can : goal.returns-clause-can
returns-clause-can g c =
    let new : Playing = record { play = c.line.new.self; ground = c.args.self.now.ground } in
    on_one c.line.result (λ k. still_can c.args.self.now new refl c.line.ensures.stays c.requires.can) c.line.ensures.keeps

pub returns-clause-goes : goal.returns-clause-goes
returns-clause-goes g c =
    on_both c.line.result (λ l k first start lines h. goes_line c.args.self.now.play c.line.new.self c.args.read.now c.line.ensures.stays l k first.play lines h) c.line.ensures.leads c.line.ensures.keeps

pub returns-clause-stops : goal.returns-clause-stops
returns-clause-stops g c =
    let old = c.args.self.now.play in
    let new : Playing = record { play = c.line.new.self; ground = c.args.self.now.ground } in
    err_both c.line.result (HaltsIn old.source (line_tests (domain_in old) (problem_in old) c.args.read.now old.numeric)) (HaltFits (domain_in old) (problem_in old))
    (StopsAt play_rules (on_line c.args.read.now) c.args.self.now c.args._out.now new c.args._out.now)
    (λ halt x f first start lines h. stops_line old c.line.new.self c.args.read.now c.line.ensures.stays halt x f first.play lines h) c.line.ensures.halts c.line.ensures.fits
