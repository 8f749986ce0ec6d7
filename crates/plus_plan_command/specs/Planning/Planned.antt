-- What a search for a plan of a pair answers.
use Rattle.std.specs.Prelude.{ℕ, Bool, true, false, ◌⊎◌, ◌≤◌, ◌+◌, ◌*◌, ◌^◌, List, [], length}
use Rattle.plus_fraction.specs.Fraction.{Fraction}
use Rattle.plus_model.specs.Terms as model
use Rattle.plus_number.specs.declared.frac.Frac64.{Frac64}
use Rattle.plus_number.specs.Frac.{fraction_of, IsFrac64}
use Rattle.plus_tree.specs.declared.trees.Domain.{Domain}
use Rattle.plus_tree.specs.declared.trees.Problem.{Problem}
use Rattle.plus_expansion.specs.Expansion.{expanded}
use Rattle.plus_expansion.specs.Counting as pair
use Rattle.plus_numbering.specs.declared.faults.GroundFault.{GroundFault}
use Rattle.plus_ground.specs.Refusals.{RefusesGround}
use Rattle.plus_actions.specs.Actions as actions
use Rattle.plus_actions.specs.Actions.{ground_actions, RefusesActions}
use Rattle.plus_planner.specs.declared.searching.Answer.{Answer}
use Rattle.plus_planner.specs.Grid.{Task}
use Rattle.plus_planner.specs.Places.{task_from}
use Rattle.plus_planner.specs.Searches.{IsNotSpent}
use Rattle.plus_cut.specs.Answers.{CutAnswers}
use Rattle.plus_cut.specs.Lost.{lost_atoms, some_false}

-- what is searched: the ground problem of the pair, its ground actions, and the grid of this interval
abbrev pub task_of : Domain → Problem → Fraction → Task
task_of d p q = task_from (expanded d p) (ground_actions d p) q

-- The atoms that the cut looks at: those of the goal that nothing adds, where the cut is asked for. A search without a cut looks at none.
abbrev pub cut_atoms : Bool → Task → List ℕ
cut_atoms true task = lost_atoms task.problem task.actions
cut_atoms false task = []

-- the cut says yes where one of them is false in the state, and so never where it looks at none
abbrev pub cut_asked : Bool → Task → model.State → ℕ → Bool
cut_asked cut task s m = some_false (cut_atoms cut task) s

-- the ground problem and the ground actions of the pair are inside the limits, and their literals are numbers
pub record IsInside (d : Domain) (p : Problem) : Type 0 where
  pub pair : pair.IsGroundable IsFrac64 d p
  pub actions : actions.IsGroundable IsFrac64 d p

-- the answer of a search by at most k decisions, with so many tries, and with the cut or without; tries that suffice for all lists are
-- never spent
pub record IsPlanned (d : Domain) (p : Problem) (q : Fraction) (k tries : ℕ) (cut : Bool) (answer : Answer Frac64) : Type 0 where
  pub inside : IsInside d p
  pub answers : CutAnswers fraction_of IsFrac64 (task_of d p q) (cut_asked cut (task_of d p q)) k tries answer
  pub enough : (k + 1) * (length (ground_actions d p) + 2) ^ k ≤ tries → IsNotSpent answer

-- there is no search: the pair is not grounded; or it is, and its ground actions are not
abbrev pub IsUnplanned : Domain → Problem → GroundFault → Type 0
IsUnplanned d p fault = RefusesGround IsFrac64 d p fault ⊎ (pair.IsGroundable IsFrac64 d p × RefusesActions IsFrac64 d p fault)
