use Rattle.plus_report.specs.Refusals.{early_text}
use Rattle.plus_report.proofs.refusals.put_line_too_long.Goals as goal

pub returns : goal.returns
unfolding early_text
returns g c = c.put_numbered.ensures
