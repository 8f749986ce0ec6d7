use Rattle.std.proofs.Common.{◌+◌, map, drop}
use Rattle.std.proofs.lemmas.List.Elements.{All-cons}
use Rattle.plus_model.specs.Terms.{Timed}
use Rattle.plus_state.specs.View.{timed_of}
use Rattle.plus_state.proofs.TestsLemmas.{next_member}
use Rattle.plus_stepped.specs.Grid.{OnGrid}
use Rattle.plus_stepped.proofs.LiteralLemmas.{all_here}
use Rattle.plus_stepped.proofs.grid.on_grid.Goals as goal

pub returns-in-None : goal.returns-in-None
returns-in-None g c = (
  λ t. cc,
  λ a. absurd (c.in-None.ensures
      (all_here (timed_of g.Q.Exact.value) (λ (l : Timed). OnGrid (g.Q.Exact.value c.args.interval) l.time) c.args.ground.now.timed.items c.each.literal-index c.literal-item.result a
      (rw c.deref-literal-items.ensures.value at c.each-test.true) (rw c.deref-literal-items.ensures.value at c.literal-item.is))),
)

pub each-preserved : goal.each-preserved
each-preserved g c rest =
    let h = rw c.deref-literal-items.ensures.value at c.each-test.true in
    let is = rw c.deref-literal-items.ensures.value at c.literal-item.is in
    let e = next_member (timed_of g.Q.Exact.value) c.args.ground.now.timed.items c.each.literal-index c.literal-item.result h is in
    let P = λ (l : Timed). OnGrid (g.Q.Exact.value c.args.interval) l.time in
    let x = timed_of g.Q.Exact.value c.literal-item.result in
    c.each.invariant (rw e (All-cons P x (map (timed_of g.Q.Exact.value) (drop (c.each.literal-index + 1) c.args.ground.now.timed.items)) (record { steps = c.in-Some.field-0; few = c.in-Some.ensures.0; at = c.in-Some.ensures.1 }) rest))
