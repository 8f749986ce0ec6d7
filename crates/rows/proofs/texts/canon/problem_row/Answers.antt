use Rattle.rows.proofs.TextsLemmas.CanonRows.{problem_row_holds}
use Rattle.rows.proofs.texts.canon.problem_row.Goals as goal

pub returns : goal.returns
returns c = problem_row_holds
