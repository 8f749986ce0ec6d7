use Rattle.plus_typing.proofs.Typed.{well_typed_by_statements}
use Rattle.plus_typing.proofs.laws.well_typed_by_statements.Goals as goal

pub returns : goal.returns
returns c = well_typed_by_statements
