use Rattle.std.proofs.Common.{◌≡◌, ◌+◌, drop}
use Rattle.plus_tree.specs.Cond.{conds_of}
use Rattle.plus_numbering.specs.Sizes.{held, conditions_size}
use Rattle.plus_numbering.specs.Numbered.{context}
use Rattle.plus_numbering.proofs.sizes.+condition.Given as goal

abbrev pub decreases-condition : goal.decreases-condition
decreases-condition l = goal.size-condition l

-- one node, and those of the members seen so far
abbrev pub invariant-members : goal.invariant-members
invariant-members l = record {
  counted : held (l.total + conditions_size (context l.numbering) (conds_of (drop l.member-index l.member-items))) ≡ held (1 + conditions_size (context l.numbering) (conds_of l.member-items));
  no_more : l.total ≡ held l.total;
}
