use Rattle.std.proofs.Common.{map}
use Rattle.plus_state.specs.View.{problem_of}
use Rattle.plus_trim.specs.Acts.{act_of}
use Rattle.plus_trim.proofs.Working.{mark_read}
use Rattle.plus_trim.proofs.tries.Work.try_without.Goals as goal

pub play_behind-tried-requires-clause-mark : goal.play_behind-tried-requires-clause-mark
play_behind-tried-requires-clause-mark g c =
    let v = g.Q.Exact.value in
    mark_read g.Q.Exact.fits (problem_of v c.args.ground.now) c.args.bounds.now.happenings (map (act_of v) c.args.acts.now) (v c.args.bounds.now.end) c.args.self.now.places.items c.args.self.now.marks.items c.requires.marked c.args.index c.index.result.now c.in_ok-line.line c.requires.mark c.index.ensures c.in_ok-line.ensures
