use Rattle.std.proofs.Common.{sym, ◌∙◌}
use Rattle.plus_state.specs.View.{problem_of}
use Rattle.plus_settle.specs.Members.{process_numbers}
use Rattle.plus_settle.proofs.ConfirmsLemmas.{differs_stops}
use Rattle.plus_stretch.specs.Here.{MomentlessHere}
use Rattle.plus_stretch.proofs.Places.{condition_members}
use Rattle.plus_stretch.proofs.HereLemmas.{stop_events, holds_here, stop_processes, ends_here, on_here, stop_soon}
use Rattle.plus_stretch.proofs.crossing.begins_here.Goals as goal

pub event_holds-requires-clause-known : goal.event_holds-requires-clause-known
event_holds-requires-clause-known g c = record {
  members = condition_members g.Q.Exact.value c.args.ground.now _ c.requires.events;
  pass = c.requires.others.pass;
  silent = c.requires.others.silent;
}

pub first_other-requires-clause-others : goal.first_other-requires-clause-others
first_other-requires-clause-others g c = rw c.deref.ensures.value c.requires.others.confirmed

pub none_soon-requires-clause-others : goal.none_soon-requires-clause-others
none_soon-requires-clause-others g c = c.requires.others.soon

pub returns-in-Err : goal.returns-in-Err
returns-in-Err g c =
    stop_events (problem_of g.Q.Exact.value c.args.ground.now) (g.Q.Exact.value c.args.time) _ _ _ _ g.Q.Exact.value
    (MomentlessHere (problem_of g.Q.Exact.value c.args.ground.now) (g.Q.Exact.value c.args.time) c.args.state.now (process_numbers c.args.running.now.members.items) c.args.running.now.rates) c.in-Err.halt c.in-Err.ensures

pub returns-then-holds : goal.returns-then-holds
returns-then-holds g c =
    holds_here (problem_of g.Q.Exact.value c.args.ground.now) _ _ _ _ _ c.in-Ok.ensures.0 (sym c.if-holds.true ∙ c.in-Ok.ensures.1)

pub returns-in-Err-first_other : goal.returns-in-Err-first_other
returns-in-Err-first_other g c =
    let h = rw c.deref.ensures.value at c.in-Err-first_other.ensures in
    rw c.go_halt.ensures (stop_processes (problem_of g.Q.Exact.value c.args.ground.now) (g.Q.Exact.value c.args.time) _ _ _ _ g.Q.Exact.value
    (MomentlessHere (problem_of g.Q.Exact.value c.args.ground.now) (g.Q.Exact.value c.args.time) c.args.state.now (process_numbers c.args.running.now.members.items) c.args.running.now.rates) c.in-Err-first_other.stop c.in-Ok.ensures.0 (sym c.if-holds.false ∙ c.in-Ok.ensures.1) h)

pub returns-in-Ok-Some : goal.returns-in-Ok-Some
returns-in-Ok-Some g c =
    let h = rw (c.in-Ok-Some.field-0-is, c.deref.ensures.value) at c.in-Ok-Some.ensures in
    ends_here (problem_of g.Q.Exact.value c.args.ground.now) _ _ _ _ _ _ c.in-Ok.ensures.0 (sym c.if-holds.false ∙ c.in-Ok.ensures.1) h.0 h.1
    (differs_stops (problem_of g.Q.Exact.value c.args.ground.now) _ _ _ _ h.2)

pub returns-in-Err-none_soon : goal.returns-in-Err-none_soon
returns-in-Err-none_soon g c =
    let h = rw (c.in-Ok-None.field-0-is, c.deref.ensures.value) at c.in-Ok-None.ensures in
    stop_soon (problem_of g.Q.Exact.value c.args.ground.now) _ _ _ _ _ g.Q.Exact.value _ c.in-Ok.ensures.0 (sym c.if-holds.false ∙ c.in-Ok.ensures.1) h.0 h.1 h.2 c.in-Err-none_soon.ensures

pub returns-in-Ok-none_soon : goal.returns-in-Ok-none_soon
returns-in-Ok-none_soon g c =
    let h = rw (c.in-Ok-None.field-0-is, c.deref.ensures.value) at c.in-Ok-None.ensures in
    on_here (problem_of g.Q.Exact.value c.args.ground.now) _ _ _ _ _ c.in-Ok.ensures.0 (sym c.if-holds.false ∙ c.in-Ok.ensures.1) h.0 h.1 h.2 c.in-Ok-none_soon.ensures.0 c.in-Ok-none_soon.ensures.1
