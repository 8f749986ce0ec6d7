use Rattle.std.proofs.Common.{ℕ, ◌*◌, ap, ap₂, ◌∙◌}
use Rattle.std.proofs.lemmas.List.Sums.{sum_by-cons}
use Rattle.plus_numbering.specs.Sizes.{held, choices, schema_size, schemas_size}
use Rattle.plus_numbering.specs.Numbered.{context}
use Rattle.plus_numbering.proofs.Holding.{held-product}
use Rattle.plus_numbering.proofs.Steps.{sum_more, no_more}
use Rattle.plus_numbering.proofs.counting.nodes.Goals as goal

pub schemas-preserved : goal.schemas-preserved
schemas-preserved c =
    let k = context c.args.numbering.now in
    let a = c.schema-item.result in
    let repeated = c.choices-repeated.ensures ∙ ap (λ vs. held (choices k vs)) c.as_slice.ensures in
    let added = c.product.ensures ∙ ap₂ (λ (m n : ℕ). held (m * n)) repeated c.schema.ensures ∙ held-product (choices k a.params) (schema_size k c.args.process a) in
    record {
      counted = sum_more (schemas_size k (schema_size k c.args.process)) (λ a. choices k a.params * schema_size k c.args.process a)
          (sum_by-cons (λ a. choices k a.params * schema_size k c.args.process a)) c.args.schemas.now c.schemas.schema-index a _ c.schemas.total
          c.product.result c.sum-total.result c.schemas-test.true c.schema-item.is c.schemas.invariant.counted added c.sum-total.ensures;
      no_more = no_more _ _ c.sum-total.ensures;
    }
