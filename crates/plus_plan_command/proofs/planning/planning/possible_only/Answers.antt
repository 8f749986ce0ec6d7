use Rattle.std.proofs.Common.{ap, map}
use Rattle.plus_number.specs.Frac.{fraction_of}
use Rattle.plus_state.specs.View.{problem_of, action_of}
use Rattle.plus_plan_command.proofs.PlanningLemmas.{narrowed_can, narrowed_is}
use Rattle.plus_plan_command.proofs.planning.planning.possible_only.Goals as goal

pub narrow-requires : goal.narrow-requires
narrow-requires c = c.requires.fit

pub new-requires : goal.new-requires
new-requires c = record {
  can = narrowed_can (problem_of fraction_of c.args.problem) (map (action_of fraction_of) c.args.actions.items) (map (action_of fraction_of) c.narrow.new.actions.items) (fraction_of c.args.interval)
      c.in_ok-narrow.ensures.kept c.requires;
}

pub returns : goal.returns
returns c =
    let new = c.new.result in
    narrowed_is (problem_of fraction_of c.args.problem) (problem_of fraction_of new.problem) (map (action_of fraction_of) c.args.actions.items) (map (action_of fraction_of) c.narrow.new.actions.items)
    (map (action_of fraction_of) new.actions.items) (fraction_of c.args.interval) (fraction_of new.interval)
    (ap (λ x. problem_of fraction_of x) c.new.ensures.problem) (ap (λ v. map (action_of fraction_of) v.items) c.new.ensures.actions) (ap fraction_of c.new.ensures.interval)
    c.in_ok-narrow.ensures.kept
