use Rattle.std.proofs.Common.{true, [], ◌∷◌, refl, subst}
use Rattle.std.proofs.lemmas.Result.{err_from_is_err_and}
use Rattle.std.specs.Prelude.{Ok}
use Rattle.plus_fraction.specs.Fraction.{◌-ℚ◌}
use Rattle.plus_state.specs.View.{condition_of}
use Rattle.plus_watch.specs.Looks.{state_look}
use Rattle.plus_watch.specs.Told.{LooksTold}
use Rattle.plus_watch.proofs.Telling.{stop_by, told_over, told_found, told_stop, told_all}
use Rattle.plus_watch.proofs.Portions.{onward, from_wait_stop, from_ahead_stop, from_left}
use Rattle.plus_watch.proofs.stretch.from_on.Goals as goal

pub returns-in_err-low : goal.returns-in_err-low
returns-in_err-low g c =
    let v = g.Q.Exact.value in
    let p = err_from_is_err_and c.from_residual.result c.from_residual.ensures.1 in
    rw (p.1, p.2) (stop_by v g.Q.Exact.fits _ _ _ (from_wait_stop g.Q.Exact.fits (condition_of v c.args.cond.now) (v c.args.begin) c.args.state.now c.args.rates.now (v c.args.from) (v c.args.last)) c.in_err-low.ensures)

pub returns-in_err-there : goal.returns-in_err-there
returns-in_err-there g c =
    let v = g.Q.Exact.value in
    let p = err_from_is_err_and c.from_residual-in_err-there.result c.from_residual-in_err-there.ensures.1 in
    rw (p.1, p.2) (stop_by v g.Q.Exact.fits _ _ _ (λ m u. from_ahead_stop g.Q.Exact.fits (condition_of v c.args.cond.now) (v c.args.begin) c.args.state.now c.args.rates.now (v c.args.from) (v c.args.last) (v c.in_ok-low.low) m c.in_ok-low.ensures.1 c.in_ok-low.ensures.0 u) c.in_err-there.ensures.told)

pub returns-in_err-place : goal.returns-in_err-place
returns-in_err-place g c =
    let v = g.Q.Exact.value in
    let fits = g.Q.Exact.fits in
    let k = condition_of v c.args.cond.now in
    let xs = state_look true k [] (v c.args.from) c.in_ok-there.there ∷ [] in
    let h = from_left fits (condition_of v c.args.cond.now) (v c.args.begin) c.args.state.now c.args.rates.now (v c.args.from) (v c.args.last) (v c.in_ok-low.low) (v c.args.last -ℚ v c.args.begin) c.in_ok-there.there c.in_ok-low.ensures.1 refl c.in_ok-there.ensures.told.1 c.in_ok-low.ensures.0 c.in_ok-there.ensures.told.0 in
    let ys = onward fits (condition_of v c.args.cond.now) (v c.args.begin) c.args.state.now c.args.rates.now (v c.args.from) (v c.args.last) (v c.in_ok-low.low) c.in_ok-there.there (v c.args.last -ℚ v c.args.begin) in
    let p = err_from_is_err_and c.from_residual-in_err-place.result c.from_residual-in_err-place.ensures.1 in
    rw (p.1, p.2) (told_stop fits xs ys _ h v _ c.in_err-place.ensures)

pub returns-in-Some : goal.returns-in-Some
returns-in-Some g c =
    let v = g.Q.Exact.value in
    let fits = g.Q.Exact.fits in
    let k = condition_of v c.args.cond.now in
    let xs = state_look true k [] (v c.args.from) c.in_ok-there.there ∷ [] in
    let h = from_left fits (condition_of v c.args.cond.now) (v c.args.begin) c.args.state.now c.args.rates.now (v c.args.from) (v c.args.last) (v c.in_ok-low.low) (v c.args.last -ℚ v c.args.begin) c.in_ok-there.there c.in_ok-low.ensures.1 refl c.in_ok-there.ensures.told.1 c.in_ok-low.ensures.0 c.in_ok-there.ensures.told.0 in
    let ys = onward fits (condition_of v c.args.cond.now) (v c.args.begin) c.args.state.now c.args.rates.now (v c.args.from) (v c.args.last) (v c.in_ok-low.low) c.in_ok-there.there (v c.args.last -ℚ v c.args.begin) in
    told_found fits xs ys _ h v c.in-Some.place (subst (λ o. LooksTold v fits xs (Ok o)) c.in-Some.is c.in_ok-place.ensures)

pub returns : goal.returns
returns g c =
    let v = g.Q.Exact.value in
    let fits = g.Q.Exact.fits in
    let k = condition_of v c.args.cond.now in
    let xs = state_look true k [] (v c.args.from) c.in_ok-there.there ∷ [] in
    let h = from_left fits (condition_of v c.args.cond.now) (v c.args.begin) c.args.state.now c.args.rates.now (v c.args.from) (v c.args.last) (v c.in_ok-low.low) (v c.span.result) c.in_ok-there.there c.in_ok-low.ensures.1 c.span.ensures c.in_ok-there.ensures.told.1 c.in_ok-low.ensures.0 c.in_ok-there.ensures.told.0 in
    let ys = onward fits (condition_of v c.args.cond.now) (v c.args.begin) c.args.state.now c.args.rates.now (v c.args.from) (v c.args.last) (v c.in_ok-low.low) c.in_ok-there.there (v c.span.result) in
    told_all v fits ys _ c.inner.result (told_over fits xs ys _ h v (subst (λ o. LooksTold v fits xs (Ok o)) c.in-None.is c.in_ok-place.ensures)) c.inner.ensures
