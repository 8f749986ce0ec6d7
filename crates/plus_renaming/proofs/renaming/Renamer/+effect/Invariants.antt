use Rattle.plus_renaming.proofs.SoFar.{EffectsSoFar}
use Rattle.plus_renaming.proofs.renaming.Renamer.+effect.Given as goal

abbrev pub decreases-effect : goal.decreases-effect
decreases-effect l = goal.size-effect l

abbrev pub invariant-all : goal.invariant-all
invariant-all l = EffectsSoFar l.initial.self l.self l.member-items l.member-index l.copy.items
