use Rattle.std.proofs.Common.{ℕ, subst, sym}
use Rattle.std.proofs.lemmas.List.{length-map}
use Rattle.plus_model.specs.Running.{Settled}
use Rattle.plus_settle.specs.Members.{AreMembers}
use Rattle.plus_state.specs.View.{problem_of, process_of}
use Rattle.plus_state.specs.Looked.{events_looked, processes_looked}
use Rattle.plus_stretch.specs.Among.{AreKnownAlong}
use Rattle.plus_timeline.specs.Timeline.{TimelineView, process_numbers}
use Rattle.plus_timeline.proofs.Members.{members_are, rates_size, settled_as}
use Rattle.plus_timeline.proofs.timeline.Timeline.reach.Goals as goal

pub reach-requires-clause-members : goal.reach-requires-clause-members
reach-requires-clause-members g c =
    let s : Settled (problem_of g.Q.Exact.value c.args.ground.now) c.self.inside.states.state (process_numbers c.self.inside.running.members.items) c.self.inside.running.rates = settled_as (problem_of g.Q.Exact.value c.args.ground.now) c.self.view_is c.requires.serves c.requires.runs in
    subst (λ (n : ℕ). AreMembers n (process_numbers c.self.inside.running.members.items)) (length-map c.args.ground.now.processes.items (process_of g.Q.Exact.value)) (members_are (problem_of g.Q.Exact.value c.args.ground.now) c.self.inside.states.state c.self.inside.running.rates (process_numbers c.self.inside.running.members.items) s.confirmed)

pub reach-requires-clause-size : goal.reach-requires-clause-size
reach-requires-clause-size g c =
    let s : Settled (problem_of g.Q.Exact.value c.args.ground.now) c.self.inside.states.state (process_numbers c.self.inside.running.members.items) c.self.inside.running.rates = settled_as (problem_of g.Q.Exact.value c.args.ground.now) c.self.view_is c.requires.serves c.requires.runs in
    rates_size (problem_of g.Q.Exact.value c.args.ground.now) c.self.inside.states.state (process_numbers c.self.inside.running.members.items) c.self.inside.running.rates s.own_is

pub reach-requires-clause-rates : goal.reach-requires-clause-rates
reach-requires-clause-rates g c =
    let s : Settled (problem_of g.Q.Exact.value c.args.ground.now) c.self.inside.states.state (process_numbers c.self.inside.running.members.items) c.self.inside.running.rates = settled_as (problem_of g.Q.Exact.value c.args.ground.now) c.self.view_is c.requires.serves c.requires.runs in
    s.own_is

pub reach-requires-clause-on : goal.reach-requires-clause-on
reach-requires-clause-on g c =
    let s : Settled (problem_of g.Q.Exact.value c.args.ground.now) c.self.inside.states.state (process_numbers c.self.inside.running.members.items) c.self.inside.running.rates = settled_as (problem_of g.Q.Exact.value c.args.ground.now) c.self.view_is c.requires.serves c.requires.runs in
    s.confirmed

pub reach-requires-clause-known : goal.reach-requires-clause-known
reach-requires-clause-known g c =
    subst (λ (v : TimelineView). AreKnownAlong g.Q.Exact.fits (problem_of g.Q.Exact.value c.args.ground.now) v.now.state v.rates (events_looked c.args.events) (processes_looked c.args.processes)) (sym c.self.view_is) c.requires.known
