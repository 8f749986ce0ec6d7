use Rattle.std.proofs.Common.{◌≡◌, map}
use Rattle.plus_translate.specs.Placed.{shown, lists_of}
use Rattle.plus_translate.proofs.PlacedLemmas.{PutSoFar}
use Rattle.plus_translate.proofs.placed.+put.Given as goal

abbrev pub decreases-put : goal.decreases-put
decreases-put l = goal.size-put l

abbrev pub invariant-members : goal.invariant-members
invariant-members l = record {
  same : l.lists.items ≡ l.initial.lists.items;
  put : PutSoFar (lists_of l.initial.lists.items) l.member-items l.member-index (map shown l.initial.into.items) (map shown l.into.items);
}
