-- When a plan stays inside the limits: none of them stands anywhere in what its lines tell.
use Rattle.std.specs.Prelude.{◌≡◌, ℕ, ◌≤◌, true, false, List, [], ◌∷◌, ◌++◌, length, map, Ok}
use Rattle.plus_model.specs.Terms.{Problem}
use Rattle.plus_model.specs.Plan as plan
use Rattle.plus_model.specs.Plan.{Plan, IsInOrder}
use Rattle.plus_model.specs.History.{Part}
use Rattle.plus_model.specs.Trajectory.{Prefix, Trajectory}
use Rattle.plus_number.specs.Frac.{IsFrac64}
use Rattle.plus_stretch.specs.Tests.{Test, IsLimit}
use Rattle.plus_tree.specs.declared.trees.Domain.{Domain}
use Rattle.plus_tree.specs.declared.trees.Problem as tree
use Rattle.plus_plan.specs.declared.forms.Line.{Line}
use Rattle.plus_plan.specs.declared.forms.PlanForm.TheVariants.{Timed}
use Rattle.plus_plan.specs.Lines.{plan_lines}
use Rattle.plus_expansion.specs.Expansion.{expanded}
use Rattle.plus_expansion.specs.Counting.{IsGroundable}
use Rattle.plus_validator.specs.Plans.{Pair, pair, lines_meant, plan_of, HasValue}
use Rattle.plus_validator.specs.Asking.{instances_of, Fails}
use Rattle.plus_validator.specs.Refused.{IsWaiting}
use Rattle.plus_io.specs.Limits.{text_limit}

-- at no prefix of the plan is the first test that fails a limit
abbrev pub StaysInside : Problem → Plan → ℕ → (ℕ → List Test) → Type 0
StaysInside P L most instance =
    (h : List Part) (test : Test) → Prefix P L h → Fails P L most instance h test → IsLimit test → ⊥

-- a line may stand behind these: they are in order, and the last is no end
pub record IsOpenBehind (d : Pair) (lines : List Line) : Type 0 where
  pub line : plan.Line
  pub ordered : IsInOrder (lines_meant d lines ++ line ∷ [])

-- The plan of these lines stays inside the limits at the end of its text, and so does that of each beginning while the text is
-- read; and where a beginning is worked in a history and a line may stand behind it, the time of the next is a value.
pub record IsTame (d : Pair) (P : Problem) (most : ℕ) (lines : List Line) : Type 0 where
  pub at_end : StaysInside P (plan_of d lines true) most (instances_of d lines)
  pub on_way :
      (front back : List Line) → lines ≡ front ++ back → StaysInside P (plan_of d front false) most (instances_of d front)
  pub times :
      (front : List Line) (line : Line) (back : List Line) (h : List Part) → lines ≡ front ++ line ∷ back → IsOpenBehind d front
      → Prefix P (plan_of d front false) h → IsWaiting P (plan_of d front false) most (instances_of d front) h → HasValue line

-- the text is within its length and its lines are lines, and the pair and the plan stay inside the limits
pub record IsTameText (d : Domain) (p : tree.Problem) (most : ℕ) (text : List ℕ) : Type 0 where
  pub groundable : IsGroundable IsFrac64 d p
  pub within : length text ≤ text_limit
  pub lines : List Line
  pub read : plan_lines Timed text ≡ map Ok lines
  pub tame : IsTame (pair d p) (expanded d p) most lines

-- the text is a valid plan: each of its lines is a line, and there is a trajectory with its actions
pub record HasTrajectory (d : Domain) (p : tree.Problem) (text : List ℕ) : Type 0 where
  pub lines : List Line
  pub read : plan_lines Timed text ≡ map Ok lines
  pub history : List Part
  pub happens : Trajectory (expanded d p) (plan_of (pair d p) lines true) history
