use Rattle.plus_state.proofs.Testing.{one_test}
use Rattle.plus_settle.proofs.laws.one_step.Goals as goal

pub returns : goal.returns
returns g c = one_test _
