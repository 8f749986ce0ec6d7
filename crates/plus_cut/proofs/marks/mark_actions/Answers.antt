use Rattle.std.proofs.Common.{refl}
use Rattle.plus_never.specs.Adds.{some_adds, action_adds}
use Rattle.plus_state.specs.View.{action_of}
use Rattle.plus_cut.proofs.MarkLemmas.{marking_start, marking_next, marking_end}
use Rattle.plus_cut.proofs.marks.mark_actions.Goals as goal

pub actions-init : goal.actions-init
actions-init g c = marking_start _ _

pub actions-preserved : goal.actions-preserved
actions-preserved g c =
    marking_next (action_of g.Q.Exact.value) (λ a b. some_adds a b.effects) action_adds (λ a b bs. refl) c.args.actions.now _ _ c.actions.action-index _ c.action-item.result c.actions-test.true c.action-item.is
    c.actions.invariant (rw c.deref.ensures.value at c.mark_effects.ensures)

pub returns : goal.returns
returns g c =
    marking_end (action_of g.Q.Exact.value) (λ a b. some_adds a b.effects) action_adds (λ a b bs. refl) c.args.actions.now _ _ c.actions.action-index (λ a. refl) c.actions-test.false c.actions.invariant
