use Rattle.plus_run.proofs.Deciding as deciding
use Rattle.plus_run.proofs.laws.decides.Goals as goal

pub returns : goal.returns
returns c = deciding.decides
