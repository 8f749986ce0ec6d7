use Rattle.std.proofs.Common.{refl}
use Rattle.plus_tree.specs.Expr.{exprs_of}
use Rattle.plus_numbering.specs.Sizes.{expression_size, expressions_size}
use Rattle.plus_numbering.proofs.Steps.{sum_more, no_more}
use Rattle.plus_numbering.proofs.sizes.+expression.Goals as goal

pub members-preserved : goal.members-preserved
members-preserved t c =
    record {
      counted = sum_more (λ xs. expressions_size (exprs_of xs)) (expression_size) (λ x xs. refl) c.deref-member-items.result.now c.members.member-index c.member-item.result _ c.members.total
          c.expression-in-members.result c.sum-total.result c.members-test.true c.member-item.is c.members.invariant.counted c.expression-in-members.ensures c.sum-total.ensures;
      no_more = no_more _ _ c.sum-total.ensures;
    }
