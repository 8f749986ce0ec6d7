use Rattle.std.proofs.Common.{◌≡◌, ◌-◌, drop}
use Rattle.plus_tree.specs.Expr.{exprs_of}
use Rattle.plus_translation.specs.Depth.{exprs_within}
use Rattle.plus_translate.proofs.depth.+expr_within.Given as goal

abbrev pub decreases-expr_within : goal.decreases-expr_within
decreases-expr_within l = goal.size-expr_within l

-- the members so far are within
abbrev pub invariant-members : goal.invariant-members
invariant-members l = exprs_within (l.room - 1) (exprs_of l.member-items) ≡ exprs_within (l.room - 1) (exprs_of (drop l.member-index l.member-items))
