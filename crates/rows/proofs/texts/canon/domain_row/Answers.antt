use Rattle.rows.proofs.TextsLemmas.CanonRows.{domain_row_holds}
use Rattle.rows.proofs.texts.canon.domain_row.Goals as goal

pub returns : goal.returns
returns c = domain_row_holds
