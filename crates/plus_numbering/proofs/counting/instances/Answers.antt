use Rattle.std.proofs.Common.{ap, ◌∙◌}
use Rattle.std.proofs.lemmas.List.Sums.{sum_by-cons}
use Rattle.plus_numbering.specs.Sizes.{held, choices, instances}
use Rattle.plus_numbering.specs.Numbered.{context}
use Rattle.plus_numbering.proofs.Steps.{sum_more, no_more}
use Rattle.plus_numbering.proofs.counting.instances.Goals as goal

pub schemas-preserved : goal.schemas-preserved
schemas-preserved c =
    let k = context c.args.numbering.now in
    let added = c.choices.ensures ∙ ap (λ vs. held (choices k vs)) c.as_slice.ensures in
    record {
      counted = sum_more (instances k) (λ a. choices k a.params) (sum_by-cons (λ a. choices k a.params)) c.args.schemas.now c.schemas.schema-index c.schema-item.result _ c.schemas.total
          c.choices.result c.sum-total.result c.schemas-test.true c.schema-item.is c.schemas.invariant.counted added c.sum-total.ensures;
      no_more = no_more _ _ c.sum-total.ensures;
    }
