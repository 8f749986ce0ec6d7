-- Where a walk over a ground problem stands.
use Rattle.std.specs.Prelude.{List}
use Rattle.plus_fraction.specs.Fraction.{Fraction}
use Rattle.plus_search.specs.Tree.{IsTree}
use Rattle.plus_reads.specs.Indexing.{Indexes}
use Rattle.plus_reads.specs.declared.index.Index.{Index}
use Rattle.plus_timeline.specs.Timeline.{TimelineView}
use Rattle.plus_planner.specs.declared.places.Taken.{Taken}
use Rattle.plus_planner.specs.Grid.{Task}
use Rattle.plus_planner.specs.Kin.{AreKin}
use Rattle.plus_planner.specs.declared.places.Tried.{Tried}
use Rattle.plus_planner.specs.Places.{uncut, path_of, StandsBehind}
use Rattle.plus_planner.specs.Tried.{AllReturn}

-- the walk stands behind its decisions, in the tree that is searched, and what it keeps can be taken again
pub record Stands {Q : Type 0} (fits : Fraction → Type 0) (task : Task) (start : TimelineView) (taken : List (Taken Q)) (tried : List (Tried Q)) : Type 0 where
  pub behind : StandsBehind fits task start taken
  pub returns : AllReturn fits task (path_of taken) tried
  pub tree : IsTree (uncut fits task)

-- each of its timelines, and of those that are spared, may become a fork of each other one, and the index is that of the problem
pub record Holds {Q : Type 0} (fits : Fraction → Type 0) (task : Task) (start : TimelineView) (taken : List (Taken Q)) (tried : List (Tried Q)) (spares : List TimelineView) (index : Index) : Type 0 where
  pub stands : Stands fits task start taken tried
  pub kin : AreKin task.problem start taken tried spares
  pub indexes : Indexes task.problem index
