use Rattle.std.proofs.Common.{◌≡◌, drop}
use Rattle.plus_tree.specs.Expr.{exprs_of}
use Rattle.plus_types.specs.Faults.{exprs_faults}
use Rattle.plus_types.specs.Known.{context}
use Rattle.plus_types.proofs.uses.+expression.Given as goal

abbrev pub decreases-expression : goal.decreases-expression
decreases-expression l = goal.size-expression l

-- the members walked so far have no fault
abbrev pub invariant-members : goal.invariant-members
invariant-members l =
    exprs_faults (context l.known) l.vars l.clock (exprs_of l.member-items)
    ≡ exprs_faults (context l.known) l.vars l.clock (exprs_of (drop l.member-index l.member-items))
