use Rattle.plus_trim_command.proofs.OneStatus.{one_status}
use Rattle.plus_trim_command.proofs.laws.one_status.Goals as goal

pub returns : goal.returns
returns c = one_status
