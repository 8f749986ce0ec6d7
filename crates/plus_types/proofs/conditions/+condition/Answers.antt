use Rattle.std.proofs.Common.{refl, inl, inr}
use Rattle.std.proofs.lemmas.Result.{err_from_is_err_and}
use Rattle.plus_tree.specs.Cond.{conds_of}
use Rattle.plus_types.specs.Faults.{cond_faults, conds_faults}
use Rattle.plus_types.specs.Known.{context}
use Rattle.plus_types.proofs.WalkLemmas.{walk_err}
use Rattle.plus_types.proofs.conditions.+condition.Goals as goal

pub returns-in_err-condition-in-All-clause-walks : goal.returns-in_err-condition-in-All-clause-walks
returns-in_err-condition-in-All-clause-walks t c =
    let p = err_from_is_err_and c.from_residual-in_err-condition-in-All.result c.from_residual-in_err-condition-in-All.ensures.1 in
    let k = context c.args.known.now in
    let vs = c.args.vars.now in
    let e = rw c.members.invariant.kept at c.in_err-condition-in-All.ensures.walks in
    let f = walk_err _ (λ xs. conds_faults k vs (conds_of xs)) (cond_faults k vs) (λ x xs. conds_faults k vs (conds_of xs)) (λ x xs. refl)
    c.deref-member-items.result.now c.members.member-index c.member-item.result _ c.members-test.true c.member-item.is c.members.invariant.walked e in
    elim c.in-All.is [
      | inl q ↦ rw (p.1, p.2) (rw (← c.cond.view_is, q, ← c.deref-member-items.ensures.value) f)
      | inr q ↦ rw (p.1, p.2) (rw (← c.cond.view_is, q, ← c.deref-member-items.ensures.value) f)
    ]
