use Rattle.std.proofs.Common.{sym, subst}
use Rattle.plus_state.specs.View.{problem_of}
use Rattle.plus_state.proofs.TestsLemmas.{next_member, no_member}
use Rattle.plus_stretch.proofs.SearchLemmas.{walking_start, walking_halt, walking_arrives, end_tells}
use Rattle.plus_stretch.specs.Here.{IsAlong}
use Rattle.plus_stretch.specs.Marked.{AreOwners}
use Rattle.plus_stretch.proofs.Marks.{first_marks}
use Rattle.plus_stretch.proofs.WalkLemmas.{stepping_start, owners_here, known_by_owners, stepping_next}
use Rattle.plus_stretch.proofs.search.walk.Goals as goal

pub each-init : goal.each-init
each-init g c = record {
  stepping = stepping_start _ (problem_of g.Q.Exact.value c.args.ground.now) _ _ _ _ _ _ _ (walking_start _ (problem_of g.Q.Exact.value c.args.ground.now) _ _ _ _ _ _ c.requires.on c.requires.none c.requires.roots) c.requires.ascending;
  quiet = λ e. c.requires.quiet;
  along = c.requires.along;
  extent = tt;
}

pub cross_behind-requires-clause-state : goal.cross_behind-requires-clause-state
cross_behind-requires-clause-state g c = c.requires.state

pub cross_behind-requires-clause-members : goal.cross_behind-requires-clause-members
cross_behind-requires-clause-members g c = c.requires.members

pub cross_behind-requires-clause-rates : goal.cross_behind-requires-clause-rates
cross_behind-requires-clause-rates g c = c.requires.size

pub cross_behind-requires-clause-along : goal.cross_behind-requires-clause-along
cross_behind-requires-clause-along g c = c.each.invariant.along

pub cross_behind-requires-clause-events : goal.cross_behind-requires-clause-events
cross_behind-requires-clause-events g c = c.requires.events

pub cross_behind-requires-clause-processes : goal.cross_behind-requires-clause-processes
cross_behind-requires-clause-processes g c = c.requires.processes

pub cross_behind-requires-clause-extent : goal.cross_behind-requires-clause-extent
cross_behind-requires-clause-extent g c = c.each.invariant.extent

pub cross_behind-requires-clause-owners : goal.cross_behind-requires-clause-owners
cross_behind-requires-clause-owners g c =
    let e = next_member g.Q.Exact.value c.args.roots.now c.each.root-index c.root-item.result c.each-test.true c.root-item.is in
    subst (AreOwners (problem_of g.Q.Exact.value c.args.ground.now)) (sym (first_marks g.Q.Exact.value c.up_to-count.result c.each.rest.now))
    (owners_here _ (problem_of g.Q.Exact.value c.args.ground.now) _ _ _ _ _ _ _ _ c.requires.linear _ _ (rw e at c.each.invariant.stepping) _ c.up_to-count.ensures.first c.requires.marked.owners)

pub cross_behind-requires-clause-others : goal.cross_behind-requires-clause-others
cross_behind-requires-clause-others g c =
    let e = next_member g.Q.Exact.value c.args.roots.now c.each.root-index c.root-item.result c.each-test.true c.root-item.is in
    rw (first_marks g.Q.Exact.value c.up_to-count.result c.each.rest.now)
    (known_by_owners _ (problem_of g.Q.Exact.value c.args.ground.now) _ _ _ _ _ _ _ _ c.requires.linear _ _ (rw e at c.each.invariant.stepping) _ c.up_to-count.ensures.first _ _ c.requires.marked c.requires.simple_events c.requires.simple_processes)

pub returns-in-Err-clause-told : goal.returns-in-Err-clause-told
returns-in-Err-clause-told g c =
    let e = next_member g.Q.Exact.value c.args.roots.now c.each.root-index c.root-item.result c.each-test.true c.root-item.is in
    walking_halt (problem_of g.Q.Exact.value c.args.ground.now) _ _ _ _ _ c.requires.rates g.Q.Exact.value _ _ _ c.requires.length c.requires.linear _ _ (rw e at c.each.invariant.stepping).walking _ c.in-Err.ensures.told

pub returns-in-Err-clause-along : goal.returns-in-Err-clause-along
returns-in-Err-clause-along g c = c.cross_behind.ensures.along

pub returns-in-Err-clause-arrived : goal.returns-in-Err-clause-arrived
returns-in-Err-clause-arrived g c = tt

pub returns-in-Ok-true-clause-told : goal.returns-in-Ok-true-clause-told
returns-in-Ok-true-clause-told g c =
    let e = next_member g.Q.Exact.value c.args.roots.now c.each.root-index c.root-item.result c.each-test.true c.root-item.is in
    let h = rw c.in-Ok-true.field-0-test at c.in-Ok-true.ensures.told in
    walking_arrives (problem_of g.Q.Exact.value c.args.ground.now) _ _ _ _ _ c.requires.rates g.Q.Exact.value _ _ _ c.requires.length c.requires.linear _ _ (rw e at c.each.invariant.stepping).walking _ h.0 h.1

pub returns-in-Ok-true-clause-along : goal.returns-in-Ok-true-clause-along
returns-in-Ok-true-clause-along g c = c.cross_behind.ensures.along

pub returns-in-Ok-true-clause-arrived : goal.returns-in-Ok-true-clause-arrived
returns-in-Ok-true-clause-arrived g c = rw c.in-Ok-true.field-0-test at c.in-Ok-true.ensures.arrived

pub each-preserved : goal.each-preserved
each-preserved g c =
    let e = next_member g.Q.Exact.value c.args.roots.now c.each.root-index c.root-item.result c.each-test.true c.root-item.is in
    let h = rw c.in-Ok-false.field-0-test at c.in-Ok-false.ensures.told in
    record {
      stepping = stepping_next _ (problem_of g.Q.Exact.value c.args.ground.now) _ _ _ _ _ _ _ _ c.requires.linear _ _ (rw e at c.each.invariant.stepping) _ c.up_to-count.ensures.first _ h.0 h.1 c.behind-rest.ensures;
      quiet = λ f. cc;
      along = subst (IsAlong c.args.state.now c.args.running.now.rates) (sym c.extent_behind-extent.ensures.ahead) c.cross_behind.ensures.along;
      extent = c.extent_behind-extent.ensures.extent;
    }

pub cross_behind-requires-clause-quiet : goal.cross_behind-requires-clause-quiet
cross_behind-requires-clause-quiet g c =
    let e = next_member g.Q.Exact.value c.args.roots.now c.each.root-index c.root-item.result c.each-test.true c.root-item.is in
    λ f. (rw e at c.each.invariant).quiet f

pub finish-requires-clause-rates : goal.finish-requires-clause-rates
finish-requires-clause-rates g c = c.requires.size

pub finish-requires-clause-along : goal.finish-requires-clause-along
finish-requires-clause-along g c = c.each.invariant.along

pub returns-clause-told : goal.returns-clause-told
returns-clause-told g c =
    let e = no_member g.Q.Exact.value c.args.roots.now c.each.root-index c.each-test.false in
    end_tells (problem_of g.Q.Exact.value c.args.ground.now) _ _ _ _ _ c.requires.rates g.Q.Exact.value _ _ _ c.requires.length c.requires.linear _ c.requires.later (rw e at c.each.invariant.stepping).walking c.finish.ensures.told
