use Rattle.std.proofs.Common.{◌≤◌, ◌+◌, ◌*◌, ◌^◌, length, map, refl, subst}
use Rattle.std.specs.Prelude.{IfOk}
use Rattle.plus_number.specs.Frac.{fraction_of, IsFrac64}
use Rattle.plus_planner.specs.Places.{task_from}
use Rattle.plus_planner.specs.Searches.{IsNotSpent}
use Rattle.plus_cut.specs.Answers.{CutAnswers}
use Rattle.plus_cut.specs.Lost.{some_false}
use Rattle.plus_state.specs.View.{problem_of, action_of}
use Rattle.plus_plan_command.proofs.PlanningLemmas.{asked_answers, kept_possible, answers_possible, enough_possible}
use Rattle.plus_plan_command.proofs.planning.planning.search_with.Goals as goal

pub over-planner-requires : goal.over-planner-requires
over-planner-requires c =
    let all = c.args.planner in
    let few = c.in_ok-planner.planner in
    record {
      kept = kept_possible c.args.is_cut (task_from (problem_of fraction_of all.problem) (map (action_of fraction_of) all.actions.items) (fraction_of all.interval))
          (task_from (problem_of fraction_of few.problem) (map (action_of fraction_of) few.actions.items) (fraction_of few.interval))
          c.in_ok-cut.cut.atoms.items all.can.above c.in_ok-cut.ensures c.in_ok-planner.ensures;
    }

pub returns-clause-answers : goal.returns-clause-answers
returns-clause-answers c =
    let all = c.args.planner in
    let few = c.in_ok-planner.planner in
    let k = c.args.decisions in
    let n = c.args.tries in
    let r = c.search.result in
    let over = c.over-planner.result in
    let atoms = c.in_ok-cut.cut.atoms.items in
    let task = task_from (problem_of fraction_of all.problem) (map (action_of fraction_of) all.actions.items) (fraction_of all.interval) in
    let narrow = task_from (problem_of fraction_of few.problem) (map (action_of fraction_of) few.actions.items) (fraction_of few.interval) in
    asked_answers c.args.is_cut task atoms k n r c.in_ok-cut.ensures
    (answers_possible task narrow (λ s m. some_false atoms s) k n r c.in_ok-planner.ensures
    (subst (λ y. IfOk r (CutAnswers fraction_of IsFrac64 narrow (λ s m. some_false y.atoms.items s) k n)) c.over-planner.ensures.cut
    (subst (λ x. IfOk r (CutAnswers fraction_of IsFrac64 (task_from (problem_of fraction_of x.problem) (map (action_of fraction_of) x.actions.items) (fraction_of x.interval)) (λ s m. some_false over.cut.atoms.items s) k n))
    c.over-planner.ensures.planner c.search.ensures.answers)))

pub returns-clause-enough : goal.returns-clause-enough
returns-clause-enough c =
    let all = c.args.planner in
    let few = c.in_ok-planner.planner in
    λ e.
    subst (λ x. (c.args.decisions + 1) * ((length x.actions.items + 2) ^ c.args.decisions) ≤ c.args.tries → IfOk c.search.result IsNotSpent)
    c.over-planner.ensures.planner c.search.ensures.enough
    (enough_possible (action_of fraction_of) (task_from (problem_of fraction_of all.problem) (map (action_of fraction_of) all.actions.items) (fraction_of all.interval))
    (task_from (problem_of fraction_of few.problem) (map (action_of fraction_of) few.actions.items) (fraction_of few.interval))
    all.actions.items few.actions.items c.args.decisions c.args.tries c.in_ok-planner.ensures refl refl e)
