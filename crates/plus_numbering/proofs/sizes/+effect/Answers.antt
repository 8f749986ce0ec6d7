use Rattle.std.proofs.Common.{ℕ, refl, ap, ◌∙◌, sum_by}
use Rattle.plus_tree.specs.Effect.{effects_of}
use Rattle.plus_numbering.specs.Sizes.{held, condition_size, leaf_size, effect_size, effects_size}
use Rattle.plus_numbering.specs.Numbered.{context}
use Rattle.plus_numbering.proofs.Steps.{sum_more, no_more, held-guard}
use Rattle.plus_numbering.proofs.sizes.+effect.Goals as goal

pub members-preserved : goal.members-preserved
members-preserved t c =
    let k = context c.args.numbering.now in
    record {
      counted = sum_more (λ xs. effects_size k (effects_of xs)) (effect_size k) (λ x xs. refl) c.deref-member-items.result.now c.members.member-index c.member-item.result _ c.members.total
          c.effect.result c.sum-total.result c.members-test.true c.member-item.is c.members.invariant.counted c.effect.ensures c.sum-total.ensures;
      no_more = no_more _ _ c.sum-total.ensures;
    }

pub returns-in-When : goal.returns-in-When
returns-in-When t c =
    let k = context c.args.numbering.now in
    let ls = c.as_slice-in-When.result.now in
    let e =
    c.leaves.ensures ∙ ap (λ (g : ℕ). held (sum_by (leaf_size g) ls)) c.condition.ensures ∙ held-guard (condition_size k c.deref-in-When.result.now) ls
    ∙ ap (λ xs. held (sum_by (leaf_size (condition_size k c.deref-in-When.result.now)) xs)) c.as_slice-in-When.ensures in
    rw (← c.effect_tree.view_is, c.in-When.is, ← c.deref-in-When.ensures) e
