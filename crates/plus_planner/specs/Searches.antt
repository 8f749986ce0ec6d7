-- What a search on a grid answers.
use Rattle.std.specs.Prelude.{◌≡◌, ◌≢◌, ◌⊎◌, ℕ, suc, ◌<◌, ◌≤◌, List, [], ◌∷◌, ◌++◌, length}
use Rattle.plus_fraction.specs.Fraction.{Fraction}
use Rattle.plus_state.specs.declared.outcome.TimedPlan.{TimedPlan}
use Rattle.plus_search.specs.Lists.{Number, MoreThan}
use Rattle.plus_planner.specs.declared.searching.Answer.{Answer}
use Rattle.plus_planner.specs.declared.searching.Answer.TheVariants.{Plan, NoPlan, Spent}
use Rattle.plus_planner.specs.Grid.{Task, IsAlive, EndsBeyond, ReachesGoal, LeavesOpen, GridPlan}
use Rattle.plus_planner.specs.Listing.{IsPlanOf}

-- the list of at most k decisions counts as beyond: it ends in a limit, or is alive and its goal test does
pub record CountsBeyond (fits : Fraction → Type 0) (task : Task) (k : ℕ) (ds : List ℕ) : Type 0 where
  pub short : length ds ≤ k
  pub beyond : EndsBeyond fits task ds ⊎ (IsAlive fits task ds × LeavesOpen fits task ds)

-- a search may have to try the list of 1 to k decisions: each is one of the task, and each beginning of the list but the
-- whole is alive and no plan
pub record MayBeTried (fits : Fraction → Type 0) (task : Task) (k : ℕ) (ds : List ℕ) : Type 0 where
  pub some : ds ≢ []
  pub short : length ds ≤ k
  pub within : (ps qs : List ℕ) (d : ℕ) → ds ≡ ps ++ d ∷ qs → d < suc (length task.actions)
  pub goes : (ps qs : List ℕ) → qs ≢ [] → ds ≡ ps ++ qs → IsAlive fits task ps × (ReachesGoal fits task ps → ⊥)

-- the timed plan of a list of at most k decisions that is a plan on the grid
pub record IsFound {Q : Type 0} (v : Q → Fraction) (fits : Fraction → Type 0) (task : Task) (k : ℕ) (plan : TimedPlan Q) : Type 0 where
  pub decisions : List ℕ
  pub is : GridPlan fits task k decisions
  pub timed : IsPlanOf v task decisions plan

-- no list of at most k decisions is a plan on the grid, and so many lists are beyond
pub record HasNone (fits : Fraction → Type 0) (task : Task) (k beyond : ℕ) : Type 0 where
  pub none : (ds : List ℕ) → GridPlan fits task k ds → ⊥
  pub number : Number (CountsBeyond fits task k) beyond

-- What is found is a plan on the grid. There is none only where no list of decisions is one. The tries are spent only
-- where more lists than they may have to be tried.
abbrev pub Answers : {Q : Type 0} → (Q → Fraction) → (Fraction → Type 0) → Task → ℕ → ℕ → Answer Q → Type 0
Answers v fits task k tries (Plan plan) = IsFound v fits task k plan
Answers v fits task k tries (NoPlan beyond) = HasNone fits task k beyond
Answers v fits task k tries (Spent tried) = (tried ≡ tries) × MoreThan (MayBeTried fits task k) tries

abbrev pub IsNotSpent : {Q : Type 0} → Answer Q → Type 0
IsNotSpent (Spent tried) = ⊥
IsNotSpent answer = Unit {0}
