use Rattle.rows.proofs.TextsLemmas.CanonRows.{bare_row_holds}
use Rattle.rows.proofs.texts.canon.bare_row.Goals as goal

pub returns : goal.returns
returns c = bare_row_holds
