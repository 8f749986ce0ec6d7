use Rattle.plus_typing.proofs.TypingRows.{use_rows}
use Rattle.plus_typing.proofs.worked.use_rows.Goals as goal

pub returns : goal.returns
returns c = use_rows
