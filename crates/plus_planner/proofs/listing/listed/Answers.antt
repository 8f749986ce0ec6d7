use Rattle.std.proofs.Common.{map, ap, ◌∙◌}
use Rattle.plus_state.specs.View.{action_of}
use Rattle.plus_timeline.specs.Timeline.{TimelineView}
use Rattle.plus_planner.specs.Listing.{labels_in}
use Rattle.plus_planner.proofs.ListingLemmas.{list_more, list_end}
use Rattle.plus_planner.proofs.listing.listed.Goals as goal

pub taken-preserved : goal.taken-preserved
taken-preserved g c =
    let v = g.Q.Exact.value in
    let actions = map (action_of v) c.args.actions.now in
    let taken = c.deref-taken-items.result.now in
    list_more v actions taken c.taken.acts.items c.taken.taken-index (labels_in actions taken) c.list_one.new.acts.items c.taken-item.result
    c.taken-test.true c.taken-item.is c.in_ok-list_one.ensures c.taken.invariant

pub returns : goal.returns
returns g c =
    let v = g.Q.Exact.value in
    let actions = map (action_of v) c.args.actions.now in
    let taken = c.deref-taken-items.result.now in
    record {
      acts = list_end v actions taken c.taken.acts.items c.taken.taken-index (labels_in actions taken) c.taken-test.false c.taken.invariant
          ∙ ap (labels_in actions) c.deref-taken-items.ensures.value;
      ends = c.time.ensures ∙ ap (λ (t : TimelineView). t.now.time) c.now.ensures;
    }
