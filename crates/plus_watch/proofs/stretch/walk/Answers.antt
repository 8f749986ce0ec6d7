use Rattle.std.proofs.Common.{List, [], ◌∷◌, map, drop, subst}
use Rattle.std.proofs.lemmas.Result.{err_from_is_err_and}
use Rattle.std.proofs.Common.{◌+◌}
use Rattle.std.specs.Prelude.{Ok}
use Rattle.plus_state.specs.View.{condition_of}
use Rattle.plus_state.proofs.TestsLemmas.{next_member, no_member}
use Rattle.plus_watch.specs.Between.{above}
use Rattle.plus_fraction.specs.Fraction.{Fraction}
use Rattle.plus_watch.specs.Looks.{Look, walk_looks}
use Rattle.plus_watch.specs.Told.{LooksTold}
use Rattle.plus_watch.proofs.Telling.{walk_next, told_over, told_stop, told_end}
use Rattle.plus_watch.proofs.stretch.walk.Goals as goal

pub each-preserved : goal.each-preserved
each-preserved g c =
    let v = g.Q.Exact.value in
    let fits = g.Q.Exact.fits in
    let k = condition_of v c.args.cond.now in
    let low = v c.args.low in
    let looks : List Fraction → List Look = λ rs. walk_looks c.args.lasting k (v c.args.begin) c.args.state.now c.args.rates.now (above low rs) [] in
    let left = map v (drop (c.each.root-index + 1) c.args.roots.now) in
    let e = next_member v c.args.roots.now c.each.root-index c.root-item.result c.each-test.true c.root-item.is in
    let h = walk_next fits c.args.lasting k (v c.args.begin) c.args.state.now c.args.rates.now low (v c.root-item.result) left _ (rw e at c.each.invariant) in
    told_over fits (looks (v c.root-item.result ∷ [])) (looks left) _ h v (subst (λ o. LooksTold v fits (looks (v c.root-item.result ∷ [])) (Ok o)) c.in-None.is c.in_ok-place.ensures)

pub returns-in_err-place : goal.returns-in_err-place
returns-in_err-place g c =
    let v = g.Q.Exact.value in
    let fits = g.Q.Exact.fits in
    let k = condition_of v c.args.cond.now in
    let low = v c.args.low in
    let looks : List Fraction → List Look = λ rs. walk_looks c.args.lasting k (v c.args.begin) c.args.state.now c.args.rates.now (above low rs) [] in
    let left = map v (drop (c.each.root-index + 1) c.args.roots.now) in
    let e = next_member v c.args.roots.now c.each.root-index c.root-item.result c.each-test.true c.root-item.is in
    let h = walk_next fits c.args.lasting k (v c.args.begin) c.args.state.now c.args.rates.now low (v c.root-item.result) left _ (rw e at c.each.invariant) in
    let p = err_from_is_err_and c.from_residual.result c.from_residual.ensures.1 in
    rw (p.1, p.2) (told_stop fits (looks (v c.root-item.result ∷ [])) (looks left) _ h v _ c.in_err-place.ensures)

pub returns : goal.returns
returns g c = told_end g.Q.Exact.fits _ (rw (no_member g.Q.Exact.value c.args.roots.now c.each.root-index c.each-test.false) at c.each.invariant)
