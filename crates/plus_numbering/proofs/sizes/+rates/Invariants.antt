use Rattle.std.proofs.Common.{◌≡◌, ◌+◌, drop}
use Rattle.plus_tree.specs.Effect.{effects_of}
use Rattle.plus_numbering.specs.Sizes.{held, all_rates_size}
use Rattle.plus_numbering.specs.Numbered.{context}
use Rattle.plus_numbering.proofs.sizes.+rates.Given as goal

abbrev pub decreases-rates : goal.decreases-rates
decreases-rates l = goal.size-rates l

-- the nodes of the members seen so far
abbrev pub invariant-members : goal.invariant-members
invariant-members l = record {
  counted : held (l.total + all_rates_size (context l.numbering) (effects_of (drop l.member-index l.member-items))) ≡ held (all_rates_size (context l.numbering) (effects_of l.member-items));
  no_more : l.total ≡ held l.total;
}
