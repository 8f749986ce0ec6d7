use Rattle.std.proofs.Common.{ap, ◌∙◌}
use Rattle.plus_planner.specs.Places.{base_in}
use Rattle.plus_planner.proofs.TakenLemmas.{base_act, base_wait}
use Rattle.plus_planner.proofs.places.Place.base.Goals as goal
use Rattle.plus_planner.proofs.places.Place.base.Goals.{then-taken-actions, else-taken-actions}

pub loop-taken-preserved : goal.loop-taken-preserved
loop-taken-preserved g c = elim c.if-taken-actions.branch [
  | then-taken-actions w ↦ base_act c.args.actions c.loop-taken.base.now c.if-taken-actions.base.now (base_in c.args.actions c.args.self.now.start c.args.self.now.taken.items)
      c.deref-taken-items.result.now c.loop-taken.taken-index c.taken-item.result c.loop-taken-test.true c.taken-item.is w.if-taken-actions.true (ap (λ b. b.now) w.base-is ∙ w.get-base.ensures) c.loop-taken.invariant
  | else-taken-actions w ↦ base_wait c.args.actions c.loop-taken.base.now c.if-taken-actions.base.now (base_in c.args.actions c.args.self.now.start c.args.self.now.taken.items)
      c.deref-taken-items.result.now c.loop-taken.taken-index c.taken-item.result c.loop-taken-test.true c.taken-item.is w.if-taken-actions.false (ap (λ b. b.now) w.base-is) c.loop-taken.invariant
]
