use Rattle.plus_planner.specs.declared.searching.Answer.TheVariants.{Plan}
use Rattle.plus_plan_command.specs.Plan.{answer_text}
use Rattle.laws_found.proofs.checked.found_plan_is_valid.Goals as goal

pub returns : goal.returns
returns c =
    λ domain problem d p q k tries most cut plan t above planned room more.
    let s = c.found_plan_is_said.ensures domain problem d p q k tries cut plan t above planned room in
    c.grid_plan_is_answered_as_valid.ensures d p q k planned.answers.decisions most (answer_text k (Plan plan)) s.0 planned.inside.pair planned.answers.is s.1 s.2 more
