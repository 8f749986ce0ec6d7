use Rattle.std.proofs.Common.{refl}
use Rattle.std.proofs.lemmas.Result.{err_from_is_err_and}
use Rattle.plus_types.specs.Faults.{leaf_faults, leaves_faults}
use Rattle.plus_types.specs.Known.{context}
use Rattle.plus_types.proofs.WalkLemmas.{walk_err}
use Rattle.plus_types.proofs.effects.leaves.Goals as goal

pub returns-in_err-leaf : goal.returns-in_err-leaf
returns-in_err-leaf c =
    let p = err_from_is_err_and c.from_residual.result c.from_residual.ensures.1 in
    rw (p.1, p.2) (walk_err _ (leaves_faults (context c.args.known.now) c.args.vars.now c.args.process) (leaf_faults (context c.args.known.now) c.args.vars.now c.args.process)
    (λ l ls. leaves_faults (context c.args.known.now) c.args.vars.now c.args.process ls) (λ l ls. refl) c.args.leaves.now c.leaves.write-index c.write-item.result _
    c.leaves-test.true c.write-item.is c.leaves.invariant c.in_err-leaf.ensures)
