-- The command that a value of the code stands for.
use Rattle.plus_run.specs.declared.command.Command as code
use Rattle.plus_run.specs.declared.command.Command.TheVariants as codes
use Rattle.plus_number.specs.Frac.{fraction_of}
use Rattle.plus_run.specs.Command.{Command, Check, ShowDomain, ShowProblem, Numeric, Trial, Translate, Lift, Plan, Trim}

abbrev pub meant : code.Command → Command
meant (codes.Check c) = Check c.domain.now c.problem.now c.plan.now c.happenings.number
meant (codes.ShowDomain file) = ShowDomain file.now
meant (codes.ShowProblem file) = ShowProblem file.now
meant (codes.Numeric f) = Numeric f.domain.now f.problem.now f.plan.now
meant (codes.Trial t) = Trial t.number
meant (codes.Translate file w) = Translate file (fraction_of w.interval.value) w.domain.now w.problem.now
meant (codes.Lift w) = Lift (fraction_of w.interval.value) w.domain.now w.problem.now w.plan.now
meant (codes.Plan w) = Plan (fraction_of w.search.interval.value) w.search.decisions.number w.search.tries.number w.search.is_cut w.domain.now w.problem.now
meant (codes.Trim f) = Trim f.domain.now f.problem.now f.plan.now
