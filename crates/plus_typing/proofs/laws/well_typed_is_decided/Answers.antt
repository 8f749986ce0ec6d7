use Rattle.plus_typing.proofs.Typed.{well_typed_is_decided}
use Rattle.plus_typing.proofs.laws.well_typed_is_decided.Goals as goal

pub returns : goal.returns
returns c = well_typed_is_decided
