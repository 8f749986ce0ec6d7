use Rattle.std.proofs.Common.{drop}
use Rattle.std.specs.List.{flat_map}
use Rattle.plus_translation.specs.Names.{taken_head}
use Rattle.plus_translate.specs.Found.{first_of}
use Rattle.plus_translate.proofs.FoundLemmas.{Looked}
use Rattle.plus_translate.proofs.found.heads.Given as goal

abbrev pub invariant-members : goal.invariant-members
invariant-members l = Looked l.found (first_of l.initial.found (flat_map taken_head l.members)) (flat_map taken_head (drop l.member-index l.members))
