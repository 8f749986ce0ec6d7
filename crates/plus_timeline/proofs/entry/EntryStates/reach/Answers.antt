use Rattle.std.proofs.Common.{◌≡◌, ◌∙◌, ap, subst}
use Rattle.plus_model.specs.Terms.{State}
use Rattle.plus_timeline.specs.EntryStates.{EntryView}
use Rattle.plus_state.specs.View.{problem_of}
use Rattle.plus_settle.specs.Members.{process_numbers}
use Rattle.plus_stretch.specs.Arrives.{arrived_at, StretchTold}
use Rattle.plus_timeline.proofs.Entries.{reached_by}
use Rattle.plus_timeline.proofs.entry.EntryStates.reach.Goals as goal

pub returns-clause-told : goal.returns-clause-told
returns-clause-told g c =
    let same : c.state.result.now ≡ c.args.self.now.state = c.state.ensures ∙ ap (λ (e : EntryView). e.state) c.self.view_is in
    subst (λ (s : State). StretchTold g.Q.Exact.value g.Q.Exact.fits (problem_of g.Q.Exact.value c.args.ground.now) (g.Q.Exact.value c.args.until) (g.Q.Exact.value c.args.time) s (process_numbers c.args.running.now.members.items) c.args.running.now.rates (arrived_at c.reach_in.new.ahead.arrival c.reach_in.result)) same c.reach_in.ensures.told

pub returns-clause-reached : goal.returns-clause-reached
returns-clause-reached g c =
    let same : c.state.result.now ≡ c.args.self.now.state = c.state.ensures ∙ ap (λ (e : EntryView). e.state) c.self.view_is in
    reached_by g.Q.Exact.value g.Q.Exact.fits (problem_of g.Q.Exact.value c.args.ground.now) _ _ c.state.result.now c.args.self.now.state _ (process_numbers c.args.running.now.members.items) c.args.running.now.rates c.reach_in.new.ahead.arrival c.reach_in.result same c.reach_in.ensures.told c.reach_in.ensures.arrived
