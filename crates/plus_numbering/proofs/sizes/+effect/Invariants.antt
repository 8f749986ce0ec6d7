use Rattle.std.proofs.Common.{◌≡◌, ◌+◌, drop}
use Rattle.plus_tree.specs.Effect.{effects_of}
use Rattle.plus_numbering.specs.Sizes.{held, effects_size}
use Rattle.plus_numbering.specs.Numbered.{context}
use Rattle.plus_numbering.proofs.sizes.+effect.Given as goal

abbrev pub decreases-effect : goal.decreases-effect
decreases-effect l = goal.size-effect l

-- the nodes of the members seen so far
abbrev pub invariant-members : goal.invariant-members
invariant-members l = record {
  counted : held (l.total + effects_size (context l.numbering) (effects_of (drop l.member-index l.member-items))) ≡ held (effects_size (context l.numbering) (effects_of l.member-items));
  no_more : l.total ≡ held l.total;
}
