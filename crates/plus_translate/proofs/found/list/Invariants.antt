use Rattle.std.proofs.Common.{drop}
use Rattle.plus_translation.specs.Names.{taken_list}
use Rattle.plus_translate.specs.Found.{first_of}
use Rattle.plus_translate.proofs.FoundLemmas.{Looked}
use Rattle.plus_translate.proofs.found.list.Given as goal

abbrev pub invariant-members : goal.invariant-members
invariant-members l = Looked l.found (first_of l.initial.found (taken_list l.file l.members)) (taken_list l.file (drop l.member-index l.members))
