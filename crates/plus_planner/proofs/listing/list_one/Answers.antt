use Rattle.std.proofs.Common.{◌≡◌, ◌≤◌, map, ap, subst, sym, ◌∙◌}
use Rattle.plus_state.specs.View.{action_of}
use Rattle.plus_timeline.specs.Timeline.{TimelineView}
use Rattle.plus_state.specs.declared.problem.Action.{Action}
use Rattle.plus_planner.proofs.DecidingLemmas.{action_at, length_mapped}
use Rattle.plus_planner.proofs.ListingLemmas.{list_wait, list_act}
use Rattle.plus_planner.proofs.listing.list_one.Goals as goal

label_of : {Q : Type 0} (a b : Action Q) → a ≡ b → a.label ≡ b.label
label_of {Q} a b e = ap (λ (x : Action Q). x.label) e

pub returns-then-number-actions : goal.returns-then-number-actions
returns-then-number-actions g c =
    let v = g.Q.Exact.value in
    list_wait v (map (action_of v) c.args.actions.now) c.args.acts.now.items c.args.taken.now.decision c.args.taken.now.timeline.now.time
    (subst (λ n. n ≤ c.args.taken.now.decision) (sym (length_mapped (action_of v) c.args.actions.now)) c.if-number-actions.true)

pub returns : goal.returns
returns g c =
    let v = g.Q.Exact.value in
    let action = c.index-actions-number.result in
    list_act v (map (action_of v) c.args.actions.now) c.args.acts.now.items c.args.taken.now.decision c.args.taken.now.timeline.now.time
    c.push.new.self.items (action_of v action) c.time.result c.in_ok-label.label
    (action_at (action_of v) c.args.actions.now c.args.taken.now.decision action c.if-number-actions.false c.index-actions-number.is)
    (c.in_ok-label.ensures ∙ c.bytes.ensures ∙ label_of _ action (sym c.index-actions-number.is)) (c.time.ensures ∙ ap (λ (t : TimelineView). t.now.time) c.get.ensures) c.in_ok-push.ensures.items
