use Rattle.rows.proofs.TextsLemmas.TokenRows.{token_rows}
use Rattle.rows.proofs.texts.tokens.token_rows.Goals as goal

pub returns : goal.returns
returns c = token_rows
