use Rattle.std.proofs.Common.{sym, ◌∙◌, arith}
use Rattle.std.proofs.lemmas.Result.{err_from_is_err_and}
use Rattle.plus_watch.specs.Watched.{both_looks}
use Rattle.plus_watch.proofs.Going.{going_start, going_end, over_decided, taken, halted}
use Rattle.plus_watch.proofs.watching.see_both.Goals as goal

pub each-init : goal.each-init
each-init g c = going_start g.Q.Exact.value g.Q.Exact.fits (both_looks (g.Q.Exact.value c.args.time) c.args.arrival.now c.args.state.now) c.args.watched.now c.args.firsts.now

pub each-preserved-then-not-is_open : goal.each-preserved-then-not-is_open
each-preserved-then-not-is_open g c =
    over_decided g.Q.Exact.value g.Q.Exact.fits (both_looks (g.Q.Exact.value c.args.time) c.args.arrival.now c.args.state.now) c.args.watched.now c.args.firsts.now c.each.index c.each.firsts c.index-watched-index.result c.each.invariant c.each-test.true c.index-watched-index.is
    c.requires.each (sym c.is_open.ensures ∙ c.if-not-is_open.true)

pub each-preserved : goal.each-preserved
each-preserved g c =
    rw c.note.ensures (taken g.Q.Exact.value g.Q.Exact.fits (both_looks (g.Q.Exact.value c.args.time) c.args.arrival.now c.args.state.now) c.args.watched.now c.args.firsts.now c.each.index c.each.firsts c.index-watched-index.result c.each.invariant c.each-test.true c.index-watched-index.is
    c.in_both.result c.in_ok-place.place (sym c.is_open.ensures ∙ c.if-not-is_open.false) c.in_both.ensures c.in_ok-place.ensures)

pub returns-in_err-place : goal.returns-in_err-place
returns-in_err-place g c =
    let p = err_from_is_err_and c.from_residual.result c.from_residual.ensures.1 in
    rw (p.1, p.2) (halted g.Q.Exact.value g.Q.Exact.fits (both_looks (g.Q.Exact.value c.args.time) c.args.arrival.now c.args.state.now) c.args.watched.now c.args.firsts.now c.each.index c.each.firsts c.index-watched-index.result c.each.invariant c.each-test.true c.index-watched-index.is
    c.in_both.result _ (sym c.is_open.ensures ∙ c.if-not-is_open.false) c.in_both.ensures c.in_err-place.ensures)

pub returns : goal.returns
returns g c = going_end g.Q.Exact.value g.Q.Exact.fits (both_looks (g.Q.Exact.value c.args.time) c.args.arrival.now c.args.state.now) c.args.watched.now c.args.firsts.now c.each.index c.each.firsts c.each.invariant (omega (arith, c.each-test.false))
