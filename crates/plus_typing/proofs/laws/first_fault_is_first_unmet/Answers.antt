use Rattle.plus_typing.proofs.First.{first_fault_is_first_unmet}
use Rattle.plus_typing.proofs.laws.first_fault_is_first_unmet.Goals as goal

pub returns : goal.returns
returns c = first_fault_is_first_unmet
