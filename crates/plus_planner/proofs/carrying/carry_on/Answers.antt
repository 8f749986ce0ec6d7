use Rattle.std.proofs.Common.{◌∙◌, subst}
use Rattle.plus_state.specs.View.{problem_of}
use Rattle.plus_planner.specs.Standing.{Steps}
use Rattle.plus_planner.proofs.Resting.{steps_reach, steps_then}
use Rattle.plus_planner.proofs.WorldLemmas.{then}
use Rattle.plus_planner.proofs.carrying.carry_on.Goals as goal

pub returns-in-Some-clause-carried : goal.returns-in-Some-clause-carried
returns-in-Some-clause-carried g c =
    let P = problem_of g.Q.Exact.value c.args.ground.now in
    let u = g.Q.Exact.value c.args.until in
    subst (Steps g.Q.Exact.fits P u c.args.timeline.now c.leave.new.timeline) c.in-Some.is c.in_ok-fate.ensures.steps

pub carry-requires-clause-reach : goal.carry-requires-clause-reach
carry-requires-clause-reach g c =
    steps_reach g.Q.Exact.fits (problem_of g.Q.Exact.value c.args.ground.now) (g.Q.Exact.value c.args.until) c.args.timeline.now c.leave.new.timeline _ c.in-None.is c.in_ok-fate.ensures.steps

pub returns-in-None-clause-carried : goal.returns-in-None-clause-carried
returns-in-None-clause-carried g c =
    steps_then g.Q.Exact.fits (problem_of g.Q.Exact.value c.args.ground.now) (g.Q.Exact.value c.args.until) c.args.timeline.now c.leave.new.timeline c.carry.new.timeline _ c.carry.result c.in-None.is c.requires.reach c.in_ok-fate.ensures.steps c.carry.ensures.carried

pub carry-requires-clause-knows : goal.carry-requires-clause-knows
carry-requires-clause-knows g c = c.in_ok-fate.ensures.knows c.in-None.is

pub returns-in-None-clause-index : goal.returns-in-None-clause-index
returns-in-None-clause-index g c = then c.carry.result (λ e. e ∙ c.in_ok-fate.ensures.index) c.carry.ensures.index
