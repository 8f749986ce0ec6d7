use Rattle.std.proofs.Common.{sum_by}
use Rattle.std.proofs.lemmas.List.Sums.{sum_by-cons}
use Rattle.plus_numbering.specs.Sizes.{leaf_size}
use Rattle.plus_numbering.proofs.Steps.{sum_more, no_more}
use Rattle.plus_numbering.proofs.sizes.leaves.Goals as goal

pub leaves-preserved : goal.leaves-preserved
leaves-preserved c =
    record {
      counted = sum_more (sum_by (leaf_size c.args.guard)) (leaf_size c.args.guard) (sum_by-cons (leaf_size c.args.guard)) c.args.leaves.now c.leaves.write-index c.write-item.result _ c.leaves.total
          c.leaf.result c.sum-total.result c.leaves-test.true c.write-item.is c.leaves.invariant.counted c.leaf.ensures c.sum-total.ensures;
      no_more = no_more _ _ c.sum-total.ensures;
    }
