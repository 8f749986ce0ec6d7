use Rattle.plus_number.specs.Frac.{fraction_of}
use Rattle.plus_state.specs.View.{problem_of}
use Rattle.plus_replay.proofs.Failing.{fits_there}
use Rattle.plus_replay.proofs.replay.Replay.ask.Goals as goal

pub append_failing-requires : goal.append_failing-requires
append_failing-requires c =
    let P = problem_of fraction_of c.args.ground.now in
    fits_there P c.args.self.now.timeline.line c.requires.rests.goes.knows.serves c.finish.new.self.line c.state.result.now P.goal c.finish.ensures.after c.state.ensures.fits c.args.ground.now.fits.goal
