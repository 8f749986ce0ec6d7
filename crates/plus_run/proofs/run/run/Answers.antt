use Rattle.plus_run.proofs.Deciding.{decides_for}
use Rattle.plus_run.proofs.run.run.Goals as goal

pub returns-clause-decides : goal.returns-clause-decides
returns-clause-decides g c = decides_for _ _ _ _ _ _ _ _ _ c.carry_out.ensures.answers
