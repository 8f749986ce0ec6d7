use Rattle.std.proofs.Common.{drop}
use Rattle.plus_tree.specs.Cond.{conds_of}
use Rattle.plus_translation.specs.Names.{taken_among}
use Rattle.plus_translate.specs.Found.{first_of}
use Rattle.plus_translate.proofs.FoundLemmas.{Looked}
use Rattle.plus_translate.proofs.found.+condition.Given as goal

abbrev pub decreases-condition : goal.decreases-condition
decreases-condition l = goal.size-condition l

abbrev pub invariant-members : goal.invariant-members
invariant-members l = Looked l.found (first_of l.initial.found (taken_among l.file (conds_of l.member-items))) (taken_among l.file (conds_of (drop l.member-index l.member-items)))
