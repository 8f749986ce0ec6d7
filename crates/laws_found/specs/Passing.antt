-- What `check` asks of a plan, and of which plan: the one that a search on a grid of times found.
use Rattle.std.specs.Prelude.{◌≡◌, ℕ, ◌≤◌, List, length, map, Ok}
use Rattle.plus_fraction.specs.Fraction.{Fraction}
use Rattle.plus_model.specs.Terms as terms
use Rattle.plus_model.specs.Plan.{Plan}
use Rattle.plus_model.specs.History.{Part}
use Rattle.plus_model.specs.Trajectory.{Trajectory}
use Rattle.plus_tree.specs.declared.trees.Domain.{Domain}
use Rattle.plus_tree.specs.declared.trees.Problem.{Problem}
use Rattle.plus_number.specs.Frac.{IsFrac64}
use Rattle.plus_plan.specs.declared.forms.Line.{Line}
use Rattle.plus_plan.specs.declared.forms.Line.TheVariants as forms
use Rattle.plus_plan.specs.declared.forms.PlanForm.TheVariants.{Timed}
use Rattle.plus_plan.specs.Lines.{plan_lines}
use Rattle.plus_stretch.specs.Tests.{Test, AllPass}
use Rattle.plus_planner.specs.Grid.{timed}
use Rattle.plus_plan_command.specs.Planning.Planned.{task_of}
use Rattle.plus_io.specs.Limits.{text_limit}
use Rattle.plus_validator.specs.Plans.{pair, lines_meant}
use Rattle.plus_timeline.specs.Played.{entries_of}
use Rattle.plus_validator.specs.Asking.{call_tests, instances_of, NoneFails, IsClear}

-- ---- the plan of a ground problem

-- what is asked in front of each action passes
abbrev pub AreClean : (ℕ → List Test) → Type 0
AreClean instance = (i : ℕ) → AllPass IsFrac64 (instance i)

-- The history is what happens of this plan; it enters at most so many moments; and all that is asked passes, with these tests in
-- front of each action: at each shorter history, and at the history.
pub record PassesCheck (P : terms.Problem) (L : Plan) (most : ℕ) (instance : ℕ → List Test) (h : List Part) : Type 0 where
  pub happens : Trajectory P L h
  pub few : entries_of h ≤ most
  pub clear : IsClear P L most instance h
  pub passed : NoneFails P L most instance h

-- ---- its text

-- the text says this list of decisions: it is within its length, each of its lines is a line, and they are those of the list
pub record IsTextOf (d : Domain) (p : Problem) (q : Fraction) (ds : List ℕ) (text : List ℕ) (lines : List Line) : Type 0 where
  pub within : length text ≤ text_limit
  pub read : plan_lines Timed text ≡ map Ok lines
  pub meant : lines_meant (pair d p) lines ≡ (timed (task_of d p q) ds).lines

-- no instance that the lines call is over a limit
abbrev pub InstancesPass : Domain → Problem → List Line → Type 0
InstancesPass d p lines = AreClean (instances_of (pair d p) lines)

-- the same of the call of one line, where it has one
abbrev pub CallPasses : Domain → Problem → Line → Type 0
CallPasses d p (forms.Act n t call) = AllPass IsFrac64 (call_tests (pair d p) call)
CallPasses d p _ = Unit {0}
