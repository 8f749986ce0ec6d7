use Rattle.std.proofs.Common.{map, drop}
use Rattle.plus_state.specs.View.{action_of}
use Rattle.plus_never.specs.Adds.{action_adds}
use Rattle.plus_cut.proofs.MarkLemmas.{Marking}
use Rattle.plus_cut.proofs.marks.mark_actions.Given as goal

abbrev pub invariant-actions : goal.invariant-actions
invariant-actions g l =
    Marking l.initial.marks l.marks (λ a. action_adds a (map (action_of g.Q.Exact.value) l.actions))
    (λ a. action_adds a (map (action_of g.Q.Exact.value) (drop l.action-index l.actions)))
