use Rattle.std.proofs.Common.{drop}
use Rattle.plus_tree.specs.Effect.{effects_of}
use Rattle.plus_expansion.specs.Literals.{effects_literals}
use Rattle.plus_numbering.proofs.Unfits.{Left}
use Rattle.plus_numbering.proofs.fitting.+effect.Given as goal

abbrev pub decreases-effect : goal.decreases-effect
decreases-effect g l = goal.size-effect g l

-- the literals of the members walked so far fit
abbrev pub invariant-members : goal.invariant-members
invariant-members g l = Left g.Q.Exact.fits (effects_literals (effects_of l.member-items)) (effects_literals (effects_of (drop l.member-index l.member-items)))
