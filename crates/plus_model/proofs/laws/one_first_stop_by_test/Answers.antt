use Rattle.plus_model.proofs.Longest.{one_first_stop_by_test}
use Rattle.plus_model.proofs.laws.one_first_stop_by_test.Goals as goal

pub returns : goal.returns
returns c = one_first_stop_by_test
