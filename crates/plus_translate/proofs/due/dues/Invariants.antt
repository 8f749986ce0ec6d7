use Rattle.plus_number.specs.Frac.{fraction_of}
use Rattle.plus_translate.proofs.DueLemmas.{DuesSoFar}
use Rattle.plus_translate.proofs.due.dues.Given as goal

abbrev pub invariant-init : goal.invariant-init
invariant-init l = DuesSoFar (fraction_of l.interval) l.init l.member-index l.found.items
