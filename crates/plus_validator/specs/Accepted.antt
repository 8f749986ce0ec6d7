-- When a plan text is accepted: its pair is inside the limits, each of its lines is a line, exactly one trajectory has its
-- actions, each event fires in exactly the states where it holds, and the report is that trajectory's text.
use Rattle.std.specs.Prelude.{◌≡◌, ℕ, ◌≤◌, true, List, ◌++◌, length, map, Ok, All, codes}
use Rattle.plus_model.specs.History.{Part}
use Rattle.plus_model.specs.Trajectory.{Trajectory}
use Rattle.plus_tree.specs.declared.trees.Domain.{Domain}
use Rattle.plus_tree.specs.declared.trees.Problem.{Problem}
use Rattle.plus_plan.specs.declared.forms.Line.{Line}
use Rattle.plus_plan.specs.declared.forms.PlanForm.TheVariants.{Timed}
use Rattle.plus_plan.specs.Lines.{plan_lines}
use Rattle.plus_number.specs.Frac.{IsFrac64}
use Rattle.plus_expansion.specs.Expansion.{expanded, labels_meant}
use Rattle.plus_expansion.specs.Counting.{IsGroundable}
use Rattle.plus_report.specs.Report.{report_of}
use Rattle.plus_validator.specs.Plans.{pair, plan_of, HasValue}
use Rattle.plus_timeline.specs.Played.{entries_of}
use Rattle.plus_validator.specs.Asking.{instances_of, NoneFails, IsClear}
use Rattle.plus_validator.specs.Fires.{FiresExactly}
use Rattle.plus_io.specs.Limits.{text_limit}

pub record IsAccepted (d : Domain) (p : Problem) (most : ℕ) (text bytes : List ℕ) : Type 0 where
  pub groundable : IsGroundable IsFrac64 d p
  pub within : length text ≤ text_limit
  pub lines : List Line
  pub read : plan_lines Timed text ≡ map Ok lines
  pub history : List Part
  pub happens : Trajectory (expanded d p) (plan_of (pair d p) lines true) history
  pub only : (other : List Part) → Trajectory (expanded d p) (plan_of (pair d p) lines true) other → other ≡ history
  -- in each of its states exactly the events fire that hold there
  pub fires : FiresExactly (expanded d p) history
  pub few : entries_of history ≤ most
  -- no limit stands: the time of each line is a value, and all that is asked passes, at each shorter history and at the end
  pub times : All HasValue lines
  pub clear : IsClear (expanded d p) (plan_of (pair d p) lines true) most (instances_of (pair d p) lines) history
  pub passed : NoneFails (expanded d p) (plan_of (pair d p) lines true) most (instances_of (pair d p) lines) history
  pub written : bytes ≡ report_of (labels_meant d p) (expanded d p) (plan_of (pair d p) lines true) history ++ codes "valid\n"
