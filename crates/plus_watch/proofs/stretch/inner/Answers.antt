use Rattle.std.proofs.Common.{[], ◌∷◌, map, ap, subst, ◌∙◌}
use Rattle.std.proofs.lemmas.Result.{err_from_is_err_and}
use Rattle.std.specs.Prelude.{Ok}
use Rattle.plus_state.specs.View.{condition_of}
use Rattle.plus_watch.specs.Looks.{after_look}
use Rattle.plus_watch.specs.Told.{LooksTold}
use Rattle.plus_watch.proofs.Telling.{behind, portion_start, roots_stop, roots_over, told_over, told_found, told_stop, told_all}
use Rattle.plus_watch.proofs.stretch.inner.Goals as goal

pub returns-in_err-place : goal.returns-in_err-place
returns-in_err-place g c =
    let v = g.Q.Exact.value in
    let fits = g.Q.Exact.fits in
    let k = condition_of v c.args.cond.now in
    let p = err_from_is_err_and c.from_residual.result c.from_residual.ensures.1 in
    let h = portion_start fits c.args.lasting k (v c.args.begin) c.args.state.now c.args.rates.now (v c.args.low) (v c.args.from) c.args.start.now (v c.args.high) in
    rw (p.1, p.2) (told_stop fits (after_look c.args.lasting k (v c.args.from) c.args.start.now c.args.rates.now ∷ []) _ _ h v _ c.in_err-place.ensures)

pub returns-in-Some : goal.returns-in-Some
returns-in-Some g c =
    let v = g.Q.Exact.value in
    let fits = g.Q.Exact.fits in
    let k = condition_of v c.args.cond.now in
    let xs = after_look c.args.lasting k (v c.args.from) c.args.start.now c.args.rates.now ∷ [] in
    let h = portion_start fits c.args.lasting k (v c.args.begin) c.args.state.now c.args.rates.now (v c.args.low) (v c.args.from) c.args.start.now (v c.args.high) in
    told_found fits xs _ _ h v c.in-Some.place (subst (λ o. LooksTold v fits xs (Ok o)) c.in-Some.is c.in_ok-place.ensures)

pub returns-in_err-roots-in-None : goal.returns-in_err-roots-in-None
returns-in_err-roots-in-None g c =
    let v = g.Q.Exact.value in
    let fits = g.Q.Exact.fits in
    let k = condition_of v c.args.cond.now in
    let xs = after_look c.args.lasting k (v c.args.from) c.args.start.now c.args.rates.now ∷ [] in
    let h = portion_start fits c.args.lasting k (v c.args.begin) c.args.state.now c.args.rates.now (v c.args.low) (v c.args.from) c.args.start.now (v c.args.high) in
    let n = told_over fits xs (behind fits c.args.lasting k (v c.args.begin) c.args.state.now c.args.rates.now (v c.args.low) (v c.args.from) c.args.start.now (v c.args.high)) _ h v (subst (λ o. LooksTold v fits xs (Ok o)) c.in-None.is c.in_ok-place.ensures) in
    let p = err_from_is_err_and c.from_residual-in_err-roots-in-None.result c.from_residual-in_err-roots-in-None.ensures.1 in
    rw (p.1, p.2) (roots_stop fits c.args.lasting k (v c.args.begin) c.args.state.now c.args.rates.now (v c.args.low) (v c.args.from) c.args.start.now (v c.args.high) v _ n c.in_err-roots-in-None.ensures)

pub returns-in_ok-roots-in-None : goal.returns-in_ok-roots-in-None
returns-in_ok-roots-in-None g c =
    let v = g.Q.Exact.value in
    let fits = g.Q.Exact.fits in
    let k = condition_of v c.args.cond.now in
    let xs = after_look c.args.lasting k (v c.args.from) c.args.start.now c.args.rates.now ∷ [] in
    let h = portion_start fits c.args.lasting k (v c.args.begin) c.args.state.now c.args.rates.now (v c.args.low) (v c.args.from) c.args.start.now (v c.args.high) in
    let n = told_over fits xs (behind fits c.args.lasting k (v c.args.begin) c.args.state.now c.args.rates.now (v c.args.low) (v c.args.from) c.args.start.now (v c.args.high)) _ h v (subst (λ o. LooksTold v fits xs (Ok o)) c.in-None.is c.in_ok-place.ensures) in
    let l = roots_over fits c.args.lasting k (v c.args.begin) c.args.state.now c.args.rates.now (v c.args.low) (v c.args.from) c.args.start.now (v c.args.high) (map v c.deref.result.now) (ap (map v) c.deref.ensures.value ∙ c.in_ok-roots-in-None.ensures.1) n c.in_ok-roots-in-None.ensures.0 in
    told_all v fits _ _ c.walk.result l c.walk.ensures
