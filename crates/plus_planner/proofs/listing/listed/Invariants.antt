use Rattle.std.proofs.Common.{◌≡◌, ◌++◌, map, drop}
use Rattle.plus_state.specs.View.{action_of}
use Rattle.plus_planner.specs.Listing.{acts_of, labels_in}
use Rattle.plus_planner.proofs.listing.listed.Given as goal

abbrev pub invariant-taken : goal.invariant-taken
invariant-taken g l =
    let actions = map (action_of g.Q.Exact.value) l.actions in
    acts_of g.Q.Exact.value l.acts.items ++ labels_in actions (drop l.taken-index l.taken-items) ≡ labels_in actions l.taken-items
