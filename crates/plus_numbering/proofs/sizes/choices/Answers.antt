use Rattle.std.proofs.Common.{refl, ap, ◌∙◌, length}
use Rattle.plus_expansion.specs.Objects.{members_of}
use Rattle.plus_numbering.specs.Sizes.{held, choices}
use Rattle.plus_numbering.specs.Numbered.{context}
use Rattle.plus_numbering.proofs.Steps.{product_more, no_more}
use Rattle.plus_numbering.proofs.sizes.choices.Goals as goal

pub vars-preserved : goal.vars-preserved
vars-preserved c =
    let k = context c.args.numbering.now in
    let added =
    c.count.ensures ∙ ap (λ os. held (length os)) c.members-members.ensures ∙ ap (λ name. held (length (members_of k name))) c.bytes.ensures in
    record {
      counted = product_more (choices k) (λ v. length (members_of k v.kind.name)) (λ v vs. refl) c.args.vars.now c.vars.var-index c.var-item.result _ c.vars.total
          c.count.result c.product-total.result c.vars-test.true c.var-item.is c.vars.invariant.counted added c.product-total.ensures;
      no_more = no_more _ _ c.product-total.ensures;
    }
