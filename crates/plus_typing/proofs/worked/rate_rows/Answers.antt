use Rattle.plus_typing.proofs.TypingRows.{rate_rows}
use Rattle.plus_typing.proofs.worked.rate_rows.Goals as goal

pub returns : goal.returns
returns c = rate_rows
