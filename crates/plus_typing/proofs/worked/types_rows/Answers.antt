use Rattle.plus_typing.proofs.TypingRows.{types_rows}
use Rattle.plus_typing.proofs.worked.types_rows.Goals as goal

pub returns : goal.returns
returns c = types_rows
