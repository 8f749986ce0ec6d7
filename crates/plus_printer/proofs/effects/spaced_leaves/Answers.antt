use Rattle.std.proofs.lemmas.Result.{err_from_is_err_and}
use Rattle.plus_printer.specs.Canon.{leaf_text}
use Rattle.plus_printer.proofs.AppendedLemmas.{member_broken}
use Rattle.plus_printer.proofs.effects.spaced_leaves.Goals as goal

pub returns-in_err-spaced_leaf : goal.returns-in_err-spaced_leaf
returns-in_err-spaced_leaf c =
    let p = err_from_is_err_and c.from_residual.result c.from_residual.ensures.1 in
    rw p.1 (member_broken leaf_text c.args.leaves.now c.members.write-index c.write-item.result _ _ _ _ c.members-test.true c.write-item.is c.members.invariant c.in_err-spaced_leaf.ensures)
