use Rattle.std.proofs.Common.{◌∙◌, subst}
use Rattle.plus_state.specs.View.{problem_of}
use Rattle.plus_planner.specs.Standing.{Steps}
use Rattle.plus_planner.proofs.Carries.{along_step, along_done}
use Rattle.plus_planner.proofs.carrying.carry.Goals as goal

pub returns-in-Some-clause-carried : goal.returns-in-Some-clause-carried
returns-in-Some-clause-carried g c =
    let fits = g.Q.Exact.fits in
    let P = problem_of g.Q.Exact.value c.args.ground.now in
    let u = g.Q.Exact.value c.args.until in
    along_done fits P u c.args.timeline.now c.steps.timeline c.step.new.timeline c.in-Some.fate c.steps.invariant.along
    (subst (Steps fits P u c.steps.timeline c.step.new.timeline) c.in-Some.is c.in_ok-fate.ensures.steps)

pub steps-preserved : goal.steps-preserved
steps-preserved g c =
    let fits = g.Q.Exact.fits in
    let P = problem_of g.Q.Exact.value c.args.ground.now in
    let u = g.Q.Exact.value c.args.until in
    record {
      along = along_step fits P u c.args.timeline.now c.steps.timeline c.step.new.timeline c.steps.invariant.along
          (subst (Steps fits P u c.steps.timeline c.step.new.timeline) c.in-None.is c.in_ok-fate.ensures.steps);
      kin = c.in_ok-fate.ensures.kin;
      knows = c.in_ok-fate.ensures.knows c.in-None.is;
      index = c.in_ok-fate.ensures.index ∙ c.steps.invariant.index;
    }

pub returns-in-Some-clause-index : goal.returns-in-Some-clause-index
returns-in-Some-clause-index g c = c.in_ok-fate.ensures.index ∙ c.steps.invariant.index
