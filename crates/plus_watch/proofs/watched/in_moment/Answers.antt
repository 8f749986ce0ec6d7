use Rattle.std.proofs.Common.{sym, ◌∙◌}
use Rattle.plus_state.specs.View.{condition_of}
use Rattle.plus_watch.specs.View.{when_of}
use Rattle.plus_watch.proofs.Moments.{moment_told, moment_none}
use Rattle.plus_watch.proofs.watched.in_moment.Goals as goal

pub returns-then-regards : goal.returns-then-regards
returns-then-regards g c =
    let v = g.Q.Exact.value in
    moment_told v g.Q.Exact.fits (when_of v c.args.one.now.rule) (condition_of v c.args.one.now.cond) (v c.args.time) c.args.state.now c.is_lasting.result c.in_state.result c.is_lasting.ensures (sym c.regards.ensures ∙ c.if-regards.true) c.in_state.ensures

pub returns-else-regards : goal.returns-else-regards
returns-else-regards g c =
    let v = g.Q.Exact.value in
    moment_none g.Q.Exact.fits (when_of v c.args.one.now.rule) (condition_of v c.args.one.now.cond) (v c.args.time) c.args.state.now (sym c.regards.ensures ∙ c.if-regards.false)
