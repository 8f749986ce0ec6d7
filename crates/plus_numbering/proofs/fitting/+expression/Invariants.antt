use Rattle.std.proofs.Common.{drop}
use Rattle.plus_tree.specs.Expr.{exprs_of}
use Rattle.plus_expansion.specs.Literals.{expressions_literals}
use Rattle.plus_numbering.proofs.Unfits.{Left}
use Rattle.plus_numbering.proofs.fitting.+expression.Given as goal

abbrev pub decreases-expression : goal.decreases-expression
decreases-expression g l = goal.size-expression g l

-- the literals of the members walked so far fit
abbrev pub invariant-members : goal.invariant-members
invariant-members g l = Left g.Q.Exact.fits (expressions_literals (exprs_of l.member-items)) (expressions_literals (exprs_of (drop l.member-index l.member-items)))
