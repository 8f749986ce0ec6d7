use Rattle.std.proofs.Common.{◌≡◌, ◌-◌, ◌≤◌, [], vec_len, Contains, Some, None}
use Rattle.plus_io.specs.Files.{KeepsFiles, Takes}
use Rattle.plus_io.specs.Picks.{with_pick}
use Rattle.plus_io.proofs.shelf.read_all.Given as goal

abbrev pub invariant-loop-count : goal.invariant-loop-count
invariant-loop-count g l = record {
  within : vec_len l.into ≤ l.limit;
  picked : Contains (g.S.Shelf.names l.fn.shelf) l.name → g.S.Shelf.picked l.shelf ≡ Some l.name;
  front : Takes (g.S.Shelf.bytes l.fn.shelf l.name) (g.S.Shelf.rest l.shelf) l.into.items;
  told : g.S.Shelf.picks l.shelf ≡ with_pick l.name (vec_len l.into) (g.S.Shelf.picks l.fn.shelf);
  outside : ¬ Contains (g.S.Shelf.names l.fn.shelf) l.name → (l.into.items ≡ []) × (g.S.Shelf.picked l.shelf ≡ None) × (g.S.Shelf.faults l.shelf ≡ g.S.Shelf.faults l.fn.shelf);
  keeps : KeepsFiles g.S.Shelf.names g.S.Shelf.bytes g.S.Shelf.faults l.fn.shelf l.shelf;
}

abbrev pub decreases-loop-count : goal.decreases-loop-count
decreases-loop-count g l = l.limit - vec_len l.into
