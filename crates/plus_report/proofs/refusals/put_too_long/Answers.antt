use Rattle.plus_report.specs.Refusals.{early_text}
use Rattle.plus_report.proofs.refusals.put_too_long.Goals as goal

pub returns : goal.returns
unfolding early_text
returns g c = rw c.name_of.ensures at c.put_three.ensures
