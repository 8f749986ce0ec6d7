use Rattle.plus_typing.proofs.TypingRows.{type_list_rows}
use Rattle.plus_typing.proofs.worked.type_list_rows.Goals as goal

pub returns : goal.returns
returns c = type_list_rows
