use Rattle.std.proofs.Common.{arith}
use Rattle.std.proofs.lemmas.Bool.Decides.{nat_tests}
use Rattle.plus_state.specs.ChangesView.{atom_change}
use Rattle.plus_state.proofs.PlainLemmas.{under_last}
use Rattle.plus_state.proofs.plain.is_new_atom.Goals as goal

pub returns-in-Some : goal.returns-in-Some
returns-in-Some c = λ t r. under_last atom_change c.args.atom.0 c.in-Some.last.now c.args.atoms.now r c.in-Some.ensures.value (grind (arith, nat_tests))
