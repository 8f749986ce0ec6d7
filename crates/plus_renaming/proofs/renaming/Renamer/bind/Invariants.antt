use Rattle.plus_renaming.proofs.SoFar.{ListSoFar}
use Rattle.plus_renaming.proofs.renaming.Renamer.bind.Given as goal

abbrev pub invariant-list : goal.invariant-list
invariant-list l = ListSoFar l.initial.self l.self l.list l.member-index l.names
