use Rattle.plus_typing.proofs.Typed.{faults_name_rules}
use Rattle.plus_typing.proofs.laws.faults_name_rules.Goals as goal

pub returns : goal.returns
returns c = faults_name_rules
