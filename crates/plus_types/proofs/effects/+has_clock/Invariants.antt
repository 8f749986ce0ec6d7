use Rattle.std.proofs.Common.{◌≡◌, drop}
use Rattle.plus_tree.specs.Expr.{exprs_of}
use Rattle.plus_types.specs.Faults.{have_clock}
use Rattle.plus_types.proofs.effects.+has_clock.Given as goal

abbrev pub decreases-has_clock : goal.decreases-has_clock
decreases-has_clock l = goal.size-has_clock l

-- no `#t` stands in the members seen so far
abbrev pub invariant-members : goal.invariant-members
invariant-members l = have_clock (exprs_of l.member-items) ≡ have_clock (exprs_of (drop l.member-index l.member-items))
