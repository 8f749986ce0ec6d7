-- The calls of a plan text without times, and the ground actions that they name.
use Rattle.std.specs.Prelude.{List, [], ◌∷◌, ◌++◌}
use Rattle.std.specs.List.{flat_map}
use Rattle.plus_model.specs.Plan.{Called}
use Rattle.plus_tree.specs.declared.trees.Domain.{Domain}
use Rattle.plus_tree.specs.declared.trees.Problem as tree
use Rattle.plus_tree.specs.declared.trees.Call.{Call}
use Rattle.plus_plan.specs.declared.forms.Line.{Line}
use Rattle.plus_plan.specs.declared.forms.Line.TheVariants.{Step}
use Rattle.plus_expansion.specs.Calls.{called_of}
use Rattle.plus_expansion.specs.Expansion.{expanded}
use Rattle.plus_steps.specs.Numeric.{NumericPlan}

-- the call of a line, where it has one
abbrev pub line_calls : Line → List Call
line_calls (Step n call) = call ∷ []
line_calls _ = []

abbrev pub calls_of : List Line → List Call
calls_of lines = flat_map line_calls lines

-- the ground action that a call names
abbrev pub call_meant : Domain → tree.Problem → Call → Called
call_meant d p call = called_of d p call.name call.args

-- these calls are a plan of the pair: one after the other, without time, they lead to its goal
abbrev pub PlanOf : Domain → tree.Problem → List Call → Type 0
PlanOf d p calls = NumericPlan (call_meant d p) (expanded d p).goal (expanded d p).initial calls
