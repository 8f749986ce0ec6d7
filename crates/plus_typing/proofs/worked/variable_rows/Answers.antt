use Rattle.plus_typing.proofs.TypingRows.{variable_rows}
use Rattle.plus_typing.proofs.worked.variable_rows.Goals as goal

pub returns : goal.returns
returns c = variable_rows
