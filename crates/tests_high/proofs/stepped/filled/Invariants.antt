use Rattle.plus_number.specs.Frac.{fraction_of}
use Rattle.plus_state.specs.View.{problem_of}
use Rattle.plus_stepped.specs.Steps.{Serves}
use Rattle.tests_high.proofs.stepped.filled.Given as goal

abbrev pub invariant-loop-step : goal.invariant-loop-step
invariant-loop-step l = Serves (problem_of fraction_of l.ground) l.plan
