use Rattle.std.proofs.Common.{List}
use Rattle.plus_types.specs.Types.{Binding}
use Rattle.plus_types.specs.Jumps.{AllLeadUp, AreAlike}
use Rattle.plus_types.proofs.jumps.Jumps.reach.Given as goal

-- the type that is reached is alike the first, up to the depth
abbrev pub invariant-steps : goal.invariant-steps
invariant-steps l = (types : List Binding) → AllLeadUp types l.self.depths.items l.self.steps.items → AreAlike types l.self.depths.items l.depth l.start l.at

abbrev pub decreases-steps : goal.decreases-steps
decreases-steps l = l.left
