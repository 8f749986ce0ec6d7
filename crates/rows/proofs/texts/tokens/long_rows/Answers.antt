use Rattle.rows.proofs.TextsLemmas.TokenRows.{long_rows}
use Rattle.rows.proofs.texts.tokens.long_rows.Goals as goal

pub returns : goal.returns
returns c = long_rows
