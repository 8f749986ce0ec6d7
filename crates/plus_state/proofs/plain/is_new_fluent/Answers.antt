use Rattle.std.proofs.Common.{arith}
use Rattle.std.proofs.lemmas.Bool.Decides.{nat_tests}
use Rattle.plus_state.specs.ChangesView.{fluent_change}
use Rattle.plus_state.proofs.PlainLemmas.{under_last}
use Rattle.plus_state.proofs.plain.is_new_fluent.Goals as goal

pub returns-in-Some : goal.returns-in-Some
returns-in-Some g c = λ t r. under_last (fluent_change g.Q.Exact.value) c.args.fluent.0 c.in-Some.last.now c.args.fluents.now r c.in-Some.ensures.value (grind (arith, nat_tests))
