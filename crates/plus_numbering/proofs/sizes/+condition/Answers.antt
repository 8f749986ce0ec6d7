use Rattle.std.proofs.Common.{refl}
use Rattle.plus_tree.specs.Cond.{conds_of}
use Rattle.plus_numbering.specs.Sizes.{condition_size, conditions_size}
use Rattle.plus_numbering.specs.Numbered.{context}
use Rattle.plus_numbering.proofs.Steps.{sum_more, no_more}
use Rattle.plus_numbering.proofs.sizes.+condition.Goals as goal

pub members-preserved : goal.members-preserved
members-preserved t c =
    let k = context c.args.numbering.now in
    record {
      counted = sum_more (λ xs. conditions_size k (conds_of xs)) (condition_size k) (λ x xs. refl) c.deref-member-items.result.now c.members.member-index c.member-item.result _ c.members.total
          c.condition-in-members.result c.sum-total.result c.members-test.true c.member-item.is c.members.invariant.counted c.condition-in-members.ensures c.sum-total.ensures;
      no_more = no_more _ _ c.sum-total.ensures;
    }
