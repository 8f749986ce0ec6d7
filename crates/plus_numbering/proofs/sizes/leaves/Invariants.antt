use Rattle.std.proofs.Common.{◌≡◌, ◌+◌, drop, sum_by}
use Rattle.plus_numbering.specs.Sizes.{held, leaf_size}
use Rattle.plus_numbering.proofs.sizes.leaves.Given as goal

-- the nodes of the writes seen so far
abbrev pub invariant-leaves : goal.invariant-leaves
invariant-leaves l = record {
  counted : held (l.total + sum_by (leaf_size l.guard) (drop l.write-index l.leaves)) ≡ held (sum_by (leaf_size l.guard) l.leaves);
  no_more : l.total ≡ held l.total;
}
