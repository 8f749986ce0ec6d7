use Rattle.std.proofs.Common.{refl, List}
use Rattle.plus_tree.specs.declared.trees.Constraint.{Constraint}
use Rattle.plus_numbering.specs.Sizes.{condition_size, conditions_size}
use Rattle.plus_numbering.specs.Numbered.{context}
use Rattle.plus_numbering.proofs.Steps.{sum_more, no_more}
use Rattle.plus_rules.specs.Written.{conditions_in}
use Rattle.plus_rules.proofs.sizes.conditions.Goals as goal

pub rules-preserved : goal.rules-preserved
rules-preserved c =
    let k = context c.args.numbering.now in
    record {
      counted = sum_more (λ (xs : List Constraint). conditions_size k (conditions_in xs)) (λ (x : Constraint). condition_size k x.cond) (λ x xs. refl) c.args.rules.now c.rules.rule-index c.rule-item.result _ c.rules.total
          c.condition.result c.sum-total.result c.rules-test.true c.rule-item.is c.rules.invariant.counted c.condition.ensures c.sum-total.ensures;
      no_more = no_more _ _ c.sum-total.ensures;
    }
