-- The tree that is searched with a cut, and where a walk over it stands.
use Rattle.std.specs.Prelude.{ℕ, Bool, not, ◌&&◌, nat_lt, List}
use Rattle.plus_fraction.specs.Fraction.{Fraction}
use Rattle.plus_model.specs.Terms.{State}
use Rattle.plus_search.specs.Tree.{IsTree}
use Rattle.plus_reads.specs.declared.index.Index.{Index}
use Rattle.plus_timeline.specs.Timeline.{TimelineView}
use Rattle.plus_planner.specs.Grid.{Task, grid}
use Rattle.plus_planner.specs.declared.places.Taken.{Taken}
use Rattle.plus_planner.specs.declared.places.Tried.{Tried}
use Rattle.plus_planner.specs.Worlds.{Holds}

-- the cut is asked with at most 64 decisions left
abbrev pub bounded : (State → ℕ → Bool) → State → ℕ → Bool
bounded cut s m = not (nat_lt 64 m) && cut s m

-- the walk stands as it does without a cut, and the lists of decisions with the cut are a tree
pub record HoldsCut {Q : Type 0} (fits : Fraction → Type 0) (task : Task) (cut : State → ℕ → Bool) (start : TimelineView) (taken : List (Taken Q)) (tried : List (Tried Q)) (spares : List TimelineView) (index : Index) : Type 0 where
  pub holds : Holds fits task start taken tried spares index
  pub tree : IsTree (grid fits task cut)
