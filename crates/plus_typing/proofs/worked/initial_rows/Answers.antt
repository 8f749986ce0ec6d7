use Rattle.plus_typing.proofs.TypingRows.{initial_rows}
use Rattle.plus_typing.proofs.worked.initial_rows.Goals as goal

pub returns : goal.returns
returns c = initial_rows
