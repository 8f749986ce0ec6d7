use Rattle.plus_renaming.proofs.SoFar.{CondsSoFar}
use Rattle.plus_renaming.proofs.renaming.Renamer.+condition.Given as goal

abbrev pub decreases-condition : goal.decreases-condition
decreases-condition l = goal.size-condition l

abbrev pub invariant-all : goal.invariant-all
invariant-all l = CondsSoFar l.initial.self l.self l.member-items l.member-index l.copy.items

abbrev pub invariant-any : goal.invariant-any
invariant-any l = CondsSoFar l.initial.self l.self l.member-items l.member-index l.copy.items
