use Rattle.std.proofs.Common.{drop}
use Rattle.plus_tree.specs.Cond.{conds_of}
use Rattle.plus_expansion.specs.Literals.{conditions_literals}
use Rattle.plus_numbering.proofs.Unfits.{Left}
use Rattle.plus_numbering.proofs.fitting.+condition.Given as goal

abbrev pub decreases-condition : goal.decreases-condition
decreases-condition g l = goal.size-condition g l

-- the literals of the members walked so far fit
abbrev pub invariant-members : goal.invariant-members
invariant-members g l = Left g.Q.Exact.fits (conditions_literals (conds_of l.member-items)) (conditions_literals (conds_of (drop l.member-index l.member-items)))
