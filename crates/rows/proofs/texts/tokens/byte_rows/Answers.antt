use Rattle.rows.proofs.TextsLemmas.TokenRows.{byte_rows}
use Rattle.rows.proofs.texts.tokens.byte_rows.Goals as goal

pub returns : goal.returns
returns c = byte_rows
