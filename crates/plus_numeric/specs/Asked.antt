-- What is asked, in order, of a well-typed pair and a plan text without times: one list of tests. The first that fails is why
-- the plan is refused; where all pass, it is a plan of the pair.
use Rattle.std.specs.Prelude.{ℕ, List, [], ◌∷◌, ◌++◌, map, length, nat_lt, if◌then◌else◌, Result, Ok, Err}
use Rattle.plus_model.specs.Terms.{State}
use Rattle.plus_model.specs.Joint.{joint}
use Rattle.plus_model.specs.Plan.{Called, Instance, UnknownAction, WrongArguments}
use Rattle.plus_tree.specs.declared.trees.Domain.{Domain}
use Rattle.plus_tree.specs.declared.trees.Problem as tree
use Rattle.plus_types.specs.declared.faults.File.{File}
use Rattle.plus_types.specs.declared.faults.File.TheVariants as files
use Rattle.plus_tree.specs.declared.terms.Literal.{Literal}
use Rattle.plus_expansion.specs.declared.counts.Count.TheVariants.{Nodes}
use Rattle.plus_plan.specs.declared.forms.Line.{Line}
use Rattle.plus_plan.specs.declared.forms.Line.TheVariants.{Blank, Act, End, Step}
use Rattle.plus_plan.specs.declared.forms.PlanForm.TheVariants.{Untimed}
use Rattle.plus_plan.specs.declared.faults.PlanFault.{PlanFault}
use Rattle.plus_play.specs.Cut.{text_lines}
use Rattle.plus_expansion.specs.Expansion.{expanded}
use Rattle.plus_expansion.specs.Nodes.{action_nodes}
use Rattle.plus_expansion.specs.Literals.{literals_of, call_literals}
use Rattle.plus_expansion.specs.Counting.{counts_of, most_nodes}
use Rattle.plus_stepped.specs.Asked.{where_ok, action_tests, goal_tests}
use Rattle.plus_numeric.specs.Level.{beyond_level_two}
use Rattle.plus_io.specs.Limits.{text_limit}
use Rattle.plus_numeric.specs.Calls.{call_meant}
use Rattle.plus_numeric.specs.Tests.{Test, beyond, count, literal, no_line, too_long, unknown_action, wrong_arguments, in_line, at_end}

-- ---- the pair

-- a literal in its text
abbrev pub in_text : File × Literal → Test
in_text l = literal l.0 l.1

-- nothing beyond level two, then the counts, then the literals
unfoldable pub pair_tests : Domain → tree.Problem → List Test
pair_tests d p = map beyond (beyond_level_two d p) ++ (map count (counts_of d p) ++ map in_text (literals_of d p))

-- ---- the plan

-- the call of line n: its name, its arguments, the nodes and the literals of the instance, its condition and its effects
unfoldable pub call_tests : Domain → ℕ → List ℕ → Called → State → List Test
call_tests d n name (UnknownAction unknown) s = unknown_action n unknown ∷ []
call_tests d n name (WrongArguments wrong) s = wrong_arguments n wrong ∷ []
call_tests d n name (Instance action) s =
    count (record { kind = Nodes; most = most_nodes; number = action_nodes action })
    ∷ (map (literal files.Domain) (call_literals d name) ++ map (in_line n action.label) (action_tests action s))

-- what is asked in the state after it
abbrev pub after_call : Called → State → (State → List Test) → List Test
after_call (Instance action) s more = where_ok (joint action.effects s) more
after_call _ s more = []

-- a line, and what is asked behind it
abbrev pub line_tests : Domain → tree.Problem → Line → State → (State → List Test) → List Test
line_tests d p (Step n call) s more = call_tests d n call.name (call_meant d p call) s ++ after_call (call_meant d p call) s more
line_tests d p _ s more = more s

-- lines, and what is asked behind them
abbrev pub lines_tests : Domain → tree.Problem → List (Result Line PlanFault) → State → (State → List Test) → List Test
lines_tests d p [] s more = more s
lines_tests d p (Ok line ∷ rest) s more = line_tests d p line s (λ after. lines_tests d p rest after more)
lines_tests d p (Err fault ∷ rest) s more = no_line fault ∷ []

-- the goal, in the state at the end
abbrev pub end_tests : Domain → tree.Problem → State → List Test
end_tests d p s = map at_end (goal_tests (expanded d p).goal s)

-- ---- the text

-- at its end stands the goal, where it does not go on behind its limit
unfoldable pub last_tests : Domain → tree.Problem → List ℕ → State → List Test
last_tests d p bytes s = if nat_lt text_limit (length bytes) then too_long ∷ [] else end_tests d p s

unfoldable pub text_tests : Domain → tree.Problem → List ℕ → List Test
text_tests d p bytes = lines_tests d p (text_lines Untimed bytes) (expanded d p).initial (last_tests d p bytes)

-- ---- all of it
unfoldable pub numeric_tests : Domain → tree.Problem → List ℕ → List Test
numeric_tests d p bytes = pair_tests d p ++ text_tests d p bytes
