use Rattle.std.proofs.Common.{[], ◌∷◌, refl, subst}
use Rattle.std.proofs.lemmas.Result.{err_from_is_err_and}
use Rattle.std.specs.Prelude.{Ok}
use Rattle.plus_state.specs.View.{condition_of}
use Rattle.plus_watch.specs.Looks.{state_look, after_look}
use Rattle.plus_watch.specs.Told.{LooksTold}
use Rattle.plus_watch.proofs.Telling.{root_looks, root_moment_stop, root_ahead_stop, root_left, stop_by, told_over, told_found, told_stop, told_last}
use Rattle.plus_watch.proofs.stretch.at_root.Goals as goal

pub returns-in_err-time : goal.returns-in_err-time
returns-in_err-time g c =
    let v = g.Q.Exact.value in
    let p = err_from_is_err_and c.from_residual.result c.from_residual.ensures.1 in
    rw (p.1, p.2) (stop_by v g.Q.Exact.fits _ _ _ (root_moment_stop g.Q.Exact.fits c.args.lasting (condition_of v c.args.cond.now) (v c.args.begin) c.args.state.now c.args.rates.now (v c.args.root)) c.in_err-time.ensures)

pub returns-in_err-there : goal.returns-in_err-there
returns-in_err-there g c =
    let v = g.Q.Exact.value in
    let p = err_from_is_err_and c.from_residual-in_err-there.result c.from_residual-in_err-there.ensures.1 in
    rw (p.1, p.2) (stop_by v g.Q.Exact.fits _ _ _ (λ m u. root_ahead_stop g.Q.Exact.fits c.args.lasting (condition_of v c.args.cond.now) (v c.args.begin) c.args.state.now c.args.rates.now (v c.args.root) m c.in_ok-time.ensures.0 u) c.in_err-there.ensures.told)

pub returns-in_err-place : goal.returns-in_err-place
returns-in_err-place g c =
    let v = g.Q.Exact.value in
    let fits = g.Q.Exact.fits in
    let k = condition_of v c.args.cond.now in
    let p = err_from_is_err_and c.from_residual-in_err-place.result c.from_residual-in_err-place.ensures.1 in
    let h = root_left fits c.args.lasting k (v c.args.begin) c.args.state.now c.args.rates.now (v c.args.root) (v c.in_ok-time.time) c.in_ok-there.there c.in_ok-time.ensures.1 c.in_ok-there.ensures.told.1 c.in_ok-time.ensures.0 c.in_ok-there.ensures.told.0 in
    rw (p.1, p.2) (told_stop fits (state_look c.args.lasting k [] (v c.in_ok-time.time) c.in_ok-there.there ∷ []) (after_look c.args.lasting k (v c.in_ok-time.time) c.in_ok-there.there c.args.rates.now ∷ []) _ h v _ c.in_err-place.ensures)

pub returns-in-Some : goal.returns-in-Some
returns-in-Some g c =
    let v = g.Q.Exact.value in
    let fits = g.Q.Exact.fits in
    let k = condition_of v c.args.cond.now in
    let xs = state_look c.args.lasting k [] (v c.in_ok-time.time) c.in_ok-there.there ∷ [] in
    let h = root_left fits c.args.lasting k (v c.args.begin) c.args.state.now c.args.rates.now (v c.args.root) (v c.in_ok-time.time) c.in_ok-there.there c.in_ok-time.ensures.1 c.in_ok-there.ensures.told.1 c.in_ok-time.ensures.0 c.in_ok-there.ensures.told.0 in
    told_found fits xs (after_look c.args.lasting k (v c.in_ok-time.time) c.in_ok-there.there c.args.rates.now ∷ []) _ h v c.in-Some.place (subst (λ o. LooksTold v fits xs (Ok o)) c.in-Some.is c.in_ok-place.ensures)

pub returns : goal.returns
returns g c =
    let v = g.Q.Exact.value in
    let fits = g.Q.Exact.fits in
    let k = condition_of v c.args.cond.now in
    let whole = root_looks c.args.lasting k (v c.args.begin) c.args.state.now c.args.rates.now (v c.args.root) in
    let xs = state_look c.args.lasting k [] (v c.in_ok-time.time) c.in_ok-there.there ∷ [] in
    let ys = after_look c.args.lasting k (v c.in_ok-time.time) c.in_ok-there.there c.args.rates.now ∷ [] in
    let h = root_left fits c.args.lasting k (v c.args.begin) c.args.state.now c.args.rates.now (v c.args.root) (v c.in_ok-time.time) c.in_ok-there.there c.in_ok-time.ensures.1 c.in_ok-there.ensures.told.1 c.in_ok-time.ensures.0 c.in_ok-there.ensures.told.0 in
    let n = told_over fits xs ys whole h v (subst (λ o. LooksTold v fits xs (Ok o)) c.in-None.is c.in_ok-place.ensures) in
    told_last fits ys [] whole n v c.soon_after.result refl c.soon_after.ensures
