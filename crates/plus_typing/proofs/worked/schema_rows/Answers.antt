use Rattle.plus_typing.proofs.TypingRows.{schema_rows}
use Rattle.plus_typing.proofs.worked.schema_rows.Goals as goal

pub returns : goal.returns
returns c = schema_rows
