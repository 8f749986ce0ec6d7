use Rattle.plus_typing.proofs.TypingRows.{declaration_rows}
use Rattle.plus_typing.proofs.worked.declaration_rows.Goals as goal

pub returns : goal.returns
returns c = declaration_rows
