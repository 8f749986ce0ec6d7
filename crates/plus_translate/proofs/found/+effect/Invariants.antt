use Rattle.std.proofs.Common.{drop}
use Rattle.plus_tree.specs.Effect.{effects_of}
use Rattle.plus_translation.specs.Names.{taken_in_effects}
use Rattle.plus_translate.specs.Found.{first_of}
use Rattle.plus_translate.proofs.FoundLemmas.{Looked}
use Rattle.plus_translate.proofs.found.+effect.Given as goal

abbrev pub decreases-effect : goal.decreases-effect
decreases-effect l = goal.size-effect l

abbrev pub invariant-members : goal.invariant-members
invariant-members l = Looked l.found (first_of l.initial.found (taken_in_effects l.file (effects_of l.member-items))) (taken_in_effects l.file (effects_of (drop l.member-index l.member-items)))
