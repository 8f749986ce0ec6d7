use Rattle.plus_typing.proofs.AloneRows.{alone_rows}
use Rattle.plus_typing.proofs.rows.alone_rows.Goals as goal

pub returns : goal.returns
returns c = alone_rows
