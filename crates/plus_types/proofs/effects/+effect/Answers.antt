use Rattle.std.proofs.Common.{refl}
use Rattle.std.proofs.lemmas.Result.{err_from_is_err_and}
use Rattle.plus_tree.specs.Effect.{effects_of}
use Rattle.plus_types.specs.Faults.{effect_faults, effects_faults}
use Rattle.plus_types.specs.Known.{context}
use Rattle.plus_types.proofs.WalkLemmas.{walk_err}
use Rattle.plus_types.proofs.effects.+effect.Goals as goal

pub returns-in_err-effect-in-All-clause-walks : goal.returns-in_err-effect-in-All-clause-walks
returns-in_err-effect-in-All-clause-walks t c =
    let p = err_from_is_err_and c.from_residual.result c.from_residual.ensures.1 in
    let k = context c.args.known.now in
    let vs = c.args.vars.now in
    let e = rw c.members.invariant.kept at c.in_err-effect-in-All.ensures.walks in
    let f = walk_err _ (λ xs. effects_faults k vs c.args.process (effects_of xs)) (effect_faults k vs c.args.process) (λ x xs. effects_faults k vs c.args.process (effects_of xs)) (λ x xs. refl)
    c.deref-member-items.result.now c.members.member-index c.member-item.result _ c.members-test.true c.member-item.is c.members.invariant.walked e in
    rw (p.1, p.2) (rw (← c.effect_tree.view_is, c.in-All.is, ← c.deref-member-items.ensures.value) f)
