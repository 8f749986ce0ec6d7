use Rattle.plus_state.proofs.Testing.{one_test}
use Rattle.plus_stepped.proofs.laws.one_test.Goals as goal

pub returns : goal.returns
returns g c = one_test _
