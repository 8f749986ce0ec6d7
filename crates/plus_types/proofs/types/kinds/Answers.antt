use Rattle.std.proofs.Common.{◌∙◌}
use Rattle.plus_types.proofs.TypesLemmas.{take-past, kinds-any}
use Rattle.plus_types.proofs.types.kinds.Goals as goal

pub returns : goal.returns
returns c = λ k.
    let e = rw (take-past c.args.types.now c.types.member-index c.types-test.false) at c.types.invariant k in
    e ∙ kinds-any c.args.types.now k
