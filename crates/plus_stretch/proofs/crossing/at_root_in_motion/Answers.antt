use Rattle.std.proofs.lemmas.Result.{err_from_is_err_and}
use Rattle.std.specs.Prelude.{Some, None}
use Rattle.plus_state.specs.View.{problem_of}
use Rattle.plus_stretch.proofs.CrossingLemmas.{halt_moment, halt_moves, halt_here, pass_here, fits_ahead, rates_ahead, along_there, there_along}
use Rattle.plus_stretch.proofs.HereLemmas.{nodes_pass, fits_along}
use Rattle.plus_stretch.proofs.Known.{known_at}
use Rattle.plus_stretch.proofs.crossing.at_root_in_motion.Goals as goal

pub returns-in_err-moment-clause-told : goal.returns-in_err-moment-clause-told
returns-in_err-moment-clause-told g c =
    let p = err_from_is_err_and c.from_residual.result c.from_residual.ensures.1 in
    rw (p.1, p.2) (halt_moment (problem_of g.Q.Exact.value c.args.ground.now) _ _ _ _ _ _ _ _ c.in_err-moment.ensures)

pub set_motions-requires-clause-ahead : goal.set_motions-requires-clause-ahead
set_motions-requires-clause-ahead g c = fits_along _ _ _ c.requires.along

pub begins_here-requires-clause-state : goal.begins_here-requires-clause-state
begins_here-requires-clause-state g c = fits_ahead _ _ _ _ _ c.requires.state (along_there _ _ _ _ _ c.requires.along c.set_motions.ensures)

pub begins_here-requires-clause-rates : goal.begins_here-requires-clause-rates
begins_here-requires-clause-rates g c = rates_ahead _ _ _ c.requires.rates (along_there _ _ _ _ _ c.requires.along c.set_motions.ensures)

pub begins_here-requires-clause-others : goal.begins_here-requires-clause-others
begins_here-requires-clause-others g c = known_at _ (problem_of g.Q.Exact.value c.args.ground.now) _ _ _ _ _ _ (there_along _ _ _ _ _ c.requires.along c.set_motions.ensures) c.requires.others

pub returns-in_err-begins_here-clause-told : goal.returns-in_err-begins_here-clause-told
returns-in_err-begins_here-clause-told g c =
    let p = err_from_is_err_and c.from_residual-in_err-begins_here.result c.from_residual-in_err-begins_here.ensures.1 in
    rw (p.1, p.2) (halt_here (problem_of g.Q.Exact.value c.args.ground.now) _ _ _ _ _ _ _ _ _ _ c.in_ok-moment.ensures.1 (there_along _ _ _ _ _ c.requires.along c.set_motions.ensures) c.in_ok-moment.ensures.0 (nodes_pass _ _ c.requires.fit) c.in_err-begins_here.ensures)

pub returns-in_err-begins_here-clause-along : goal.returns-in_err-begins_here-clause-along
returns-in_err-begins_here-clause-along g c = along_there _ _ _ _ _ c.requires.along c.set_motions.ensures

pub returns-in-None-clause-told : goal.returns-in-None-clause-told
returns-in-None-clause-told g c =
    let h = rw c.in-None.is at c.in_ok-begins_here.ensures in
    pass_here (problem_of g.Q.Exact.value c.args.ground.now) _ _ _ _ _ _ None _ _ c.in_ok-moment.ensures.1 (there_along _ _ _ _ _ c.requires.along c.set_motions.ensures) c.in_ok-moment.ensures.0 (nodes_pass _ _ c.requires.fit) h

pub returns-in-None-clause-along : goal.returns-in-None-clause-along
returns-in-None-clause-along g c = along_there _ _ _ _ _ c.requires.along c.set_motions.ensures

pub move_ahead-requires-clause-along : goal.move_ahead-requires-clause-along
move_ahead-requires-clause-along g c = along_there _ _ _ _ _ c.requires.along c.set_motions.ensures

pub returns-in-Err-clause-told : goal.returns-in-Err-clause-told
returns-in-Err-clause-told g c = halt_moves (problem_of g.Q.Exact.value c.args.ground.now) _ _ _ _ _ _ _ _ c.in_ok-moment.ensures.0 c.in-Err.ensures.told

pub returns-in-Ok-clause-told : goal.returns-in-Ok-clause-told
returns-in-Ok-clause-told g c =
    let h = rw c.in-Some.is at c.in_ok-begins_here.ensures in
    let w = pass_here (problem_of g.Q.Exact.value c.args.ground.now) _ _ _ _ _ _ (Some _) _ _ c.in_ok-moment.ensures.1 (there_along _ _ _ _ _ c.requires.along c.set_motions.ensures) c.in_ok-moment.ensures.0 (nodes_pass _ _ c.requires.fit) h in
    (w.0, record { time = c.in_ok-moment.ensures.1; comes = c.in-Ok.ensures.told.1; ends = w.1 })
