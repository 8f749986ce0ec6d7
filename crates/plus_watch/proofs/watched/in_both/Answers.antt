use Rattle.std.proofs.Common.{◌++◌, subst}
use Rattle.std.proofs.lemmas.Result.{err_from_is_err_and}
use Rattle.std.specs.Prelude.{Ok}
use Rattle.plus_state.specs.View.{condition_of}
use Rattle.plus_watch.specs.View.{when_of}
use Rattle.plus_watch.specs.Looks.{moment_looks}
use Rattle.plus_watch.specs.Told.{LooksTold}
use Rattle.plus_watch.proofs.Telling.{comes_start, told_over, told_found, told_stop, told_all}
use Rattle.plus_watch.proofs.watched.in_both.Goals as goal

pub returns-in_err-place : goal.returns-in_err-place
returns-in_err-place g c =
    let v = g.Q.Exact.value in
    let fits = g.Q.Exact.fits in
    let xs = moment_looks (when_of v c.args.one.now.rule) (condition_of v c.args.one.now.cond) (v c.args.time) c.args.arrival.now in
    let ys = moment_looks (when_of v c.args.one.now.rule) (condition_of v c.args.one.now.cond) (v c.args.time) c.args.state.now in
    let p = err_from_is_err_and c.from_residual.result c.from_residual.ensures.1 in
    rw (p.1, p.2) (told_stop fits xs ys (xs ++ ys) (comes_start fits (xs ++ ys)) v _ c.in_err-place.ensures)

pub returns-in-Some : goal.returns-in-Some
returns-in-Some g c =
    let v = g.Q.Exact.value in
    let fits = g.Q.Exact.fits in
    let xs = moment_looks (when_of v c.args.one.now.rule) (condition_of v c.args.one.now.cond) (v c.args.time) c.args.arrival.now in
    let ys = moment_looks (when_of v c.args.one.now.rule) (condition_of v c.args.one.now.cond) (v c.args.time) c.args.state.now in
    told_found fits xs ys (xs ++ ys) (comes_start fits (xs ++ ys)) v c.in-Some.place (subst (λ o. LooksTold v fits xs (Ok o)) c.in-Some.is c.in_ok-place.ensures)

pub returns-in-None : goal.returns-in-None
returns-in-None g c =
    let v = g.Q.Exact.value in
    let fits = g.Q.Exact.fits in
    let xs = moment_looks (when_of v c.args.one.now.rule) (condition_of v c.args.one.now.cond) (v c.args.time) c.args.arrival.now in
    let ys = moment_looks (when_of v c.args.one.now.rule) (condition_of v c.args.one.now.cond) (v c.args.time) c.args.state.now in
    told_all v fits ys (xs ++ ys) c.in_moment-in-None.result (told_over fits xs ys (xs ++ ys) (comes_start fits (xs ++ ys)) v (subst (λ o. LooksTold v fits xs (Ok o)) c.in-None.is c.in_ok-place.ensures)) c.in_moment-in-None.ensures
