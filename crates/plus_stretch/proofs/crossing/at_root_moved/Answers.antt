use Rattle.std.proofs.lemmas.Result.{err_from_is_err_and}
use Rattle.std.specs.Prelude.{Some, None}
use Rattle.plus_state.specs.View.{problem_of}
use Rattle.plus_stretch.proofs.CrossingLemmas.{halt_moment, halt_moves, halt_here, pass_here, fits_ahead, rates_ahead}
use Rattle.plus_stretch.proofs.Known.{known_at}
use Rattle.plus_stretch.proofs.crossing.at_root_moved.Goals as goal

pub returns-in_err-moment-clause-told : goal.returns-in_err-moment-clause-told
returns-in_err-moment-clause-told g c =
    let p = err_from_is_err_and c.from_residual.result c.from_residual.ensures.1 in
    rw (p.1, p.2) (halt_moment (problem_of g.Q.Exact.value c.args.ground.now) _ _ _ _ _ _ _ _ c.in_err-moment.ensures)

pub returns-in_err-move_ahead-clause-told : goal.returns-in_err-move_ahead-clause-told
returns-in_err-move_ahead-clause-told g c =
    let p = err_from_is_err_and c.from_residual-in_err-move_ahead.result c.from_residual-in_err-move_ahead.ensures.1 in
    rw (p.1, p.2) (halt_moves (problem_of g.Q.Exact.value c.args.ground.now) _ _ _ _ _ _ _ _ c.in_ok-moment.ensures.0 c.in_err-move_ahead.ensures.told)

pub begins_here-requires-clause-state : goal.begins_here-requires-clause-state
begins_here-requires-clause-state g c = fits_ahead _ _ _ _ _ c.requires.state c.move_ahead.ensures.along

pub begins_here-requires-clause-rates : goal.begins_here-requires-clause-rates
begins_here-requires-clause-rates g c = rates_ahead _ _ _ c.requires.rates c.move_ahead.ensures.along

pub begins_here-requires-clause-others : goal.begins_here-requires-clause-others
begins_here-requires-clause-others g c = known_at _ (problem_of g.Q.Exact.value c.args.ground.now) _ _ _ _ _ _ c.in_ok-move_ahead.ensures.there c.requires.others

pub returns-in-Err-clause-told : goal.returns-in-Err-clause-told
returns-in-Err-clause-told g c =
    halt_here (problem_of g.Q.Exact.value c.args.ground.now) _ _ _ _ _ _ _ _ _ _ c.in_ok-moment.ensures.1 c.in_ok-move_ahead.ensures.there c.in_ok-moment.ensures.0 c.in_ok-move_ahead.ensures.told.0 c.in-Err.ensures

pub returns-in-Ok-None-clause-told : goal.returns-in-Ok-None-clause-told
returns-in-Ok-None-clause-told g c =
    let h = rw c.in-Ok-None.field-0-is at c.in-Ok-None.ensures in
    pass_here (problem_of g.Q.Exact.value c.args.ground.now) _ _ _ _ _ _ None _ _ c.in_ok-moment.ensures.1 c.in_ok-move_ahead.ensures.there c.in_ok-moment.ensures.0 c.in_ok-move_ahead.ensures.told.0 h

pub returns-in-Ok-Some-clause-told : goal.returns-in-Ok-Some-clause-told
returns-in-Ok-Some-clause-told g c =
    let h = rw c.in-Ok-Some.field-0-is at c.in-Ok-Some.ensures in
    let w = pass_here (problem_of g.Q.Exact.value c.args.ground.now) _ _ _ _ _ _ (Some _) _ _ c.in_ok-moment.ensures.1 c.in_ok-move_ahead.ensures.there c.in_ok-moment.ensures.0 c.in_ok-move_ahead.ensures.told.0 h in
    (w.0, record { time = c.in_ok-moment.ensures.1; comes = c.in_ok-move_ahead.ensures.told.1; ends = w.1 })
