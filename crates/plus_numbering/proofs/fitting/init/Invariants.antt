use Rattle.std.proofs.Common.{drop}
use Rattle.std.specs.List.{flat_map}
use Rattle.plus_expansion.specs.Literals.{init_literals}
use Rattle.plus_numbering.proofs.Unfits.{Left}
use Rattle.plus_numbering.proofs.fitting.init.Given as goal

-- the literals of those walked so far fit
abbrev pub invariant-members : goal.invariant-members
invariant-members g l = Left g.Q.Exact.fits (flat_map init_literals l.members) (flat_map init_literals (drop l.member-index l.members))
