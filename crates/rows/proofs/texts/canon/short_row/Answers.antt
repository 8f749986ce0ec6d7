use Rattle.rows.proofs.TextsLemmas.CanonRows.{short_row_holds}
use Rattle.rows.proofs.texts.canon.short_row.Goals as goal

pub returns : goal.returns
returns c = short_row_holds
