use Rattle.rows.proofs.GroundRows.{problem_rows}
use Rattle.rows.proofs.expansion.problem_rows.Goals as goal

pub returns : goal.returns
returns c = problem_rows
