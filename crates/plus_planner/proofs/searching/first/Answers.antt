use Rattle.std.proofs.Common.{arith}
use Rattle.plus_state.specs.View.{problem_of}
use Rattle.plus_indexed.proofs.Beginning.{knows_nothing}
use Rattle.plus_planner.proofs.KinLemmas.{rooted_reach, rooted_kin, rooted_moment, first_carried}
use Rattle.plus_planner.proofs.Beginning.{begun_reach}
use Rattle.plus_planner.proofs.searching.first.Goals as goal

pub carry-requires-clause-reach : goal.carry-requires-clause-reach
carry-requires-clause-reach g c =
    let v = g.Q.Exact.value in
    let P = problem_of v c.args.ground.now in
    rooted_reach P (v c.zero.result) c.in_ok-timeline.timeline c.root_large.new.timeline c.root_large.ensures
    (begun_reach P 10000 c.in_ok-timeline.timeline (v c.zero.result) c.in_ok-timeline.ensures c.zero.ensures (omega arith))

pub carry-requires-clause-kin : goal.carry-requires-clause-kin
carry-requires-clause-kin g c = rooted_kin (problem_of g.Q.Exact.value c.args.ground.now) 10000 c.in_ok-timeline.timeline c.root_large.new.timeline c.in_ok-timeline.ensures c.root_large.ensures

pub returns-in-Ok-clause-carried : goal.returns-in-Ok-clause-carried
returns-in-Ok-clause-carried g c =
    let v = g.Q.Exact.value in
    first_carried g.Q.Exact.fits (problem_of v c.args.ground.now) 10000 (v c.zero.result) c.in_ok-timeline.timeline c.root_large.new.timeline c.carry.new.timeline c.in-Ok.fate
    c.zero.ensures c.in_ok-timeline.ensures c.root_large.ensures c.in-Ok.ensures.carried

pub carry-requires-clause-knows : goal.carry-requires-clause-knows
carry-requires-clause-knows g c =
    let v = g.Q.Exact.value in
    let P = problem_of v c.args.ground.now in
    let reach = rooted_reach P (v c.zero.result) c.in_ok-timeline.timeline c.root_large.new.timeline c.root_large.ensures
    (begun_reach P 10000 c.in_ok-timeline.timeline (v c.zero.result) c.in_ok-timeline.ensures c.zero.ensures (omega arith)) in
    knows_nothing g.Q.Exact.fits P (record { line = c.root_large.new.timeline; kept = c.args.stepper.now }) reach.goes.knows c.requires.index c.requires.events c.requires.processes
    (rooted_moment P 10000 c.in_ok-timeline.timeline c.root_large.new.timeline c.in_ok-timeline.ensures c.root_large.ensures)
