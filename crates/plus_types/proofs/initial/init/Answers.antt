use Rattle.std.proofs.Common.{refl}
use Rattle.std.proofs.lemmas.Result.{err_from_is_err_and}
use Rattle.plus_types.specs.Faults.{initial_faults, init_faults, valued_after}
use Rattle.plus_types.specs.Known.{context}
use Rattle.plus_types.proofs.WalkLemmas.{walk_err}
use Rattle.plus_types.proofs.initial.init.Goals as goal

pub returns-in_err-initial : goal.returns-in_err-initial
returns-in_err-initial c =
    let p = err_from_is_err_and c.from_residual.result c.from_residual.ensures.1 in
    let k = context c.args.known.now in
    rw (p.1, p.2) (walk_err _ (init_faults k c.members.valued) (initial_faults k c.members.valued) (λ i is. init_faults k (valued_after c.members.valued i) is) (λ i is. refl)
    c.args.members.now c.members.member-index c.member-item.result _ c.members-test.true c.member-item.is c.members.invariant c.in_err-initial.ensures.walks)
