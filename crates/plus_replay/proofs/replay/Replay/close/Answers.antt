use Rattle.plus_number.specs.Frac.{fraction_of}
use Rattle.plus_state.specs.View.{problem_of}
use Rattle.plus_timeline.specs.Finish.{IsPaused}
use Rattle.plus_replay.specs.Replay.{Rests}
use Rattle.plus_replay.proofs.Standing.{on_true}
use Rattle.plus_replay.proofs.replay.Replay.close.Goals as goal

pub ask-requires-clause-rests : goal.ask-requires-clause-rests
ask-requires-clause-rests c = on_true c.reach-there.result (Rests (problem_of fraction_of c.args.ground.now) c.reach-there.new.timeline) c.if-there.true c.reach-there.ensures.rests

pub ask-requires-clause-paused : goal.ask-requires-clause-paused
ask-requires-clause-paused c = on_true c.reach-there.result (IsPaused c.reach-there.new.timeline.line) c.if-there.true c.reach-there.ensures.paused
