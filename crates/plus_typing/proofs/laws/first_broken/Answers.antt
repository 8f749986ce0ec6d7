use Rattle.plus_typing.proofs.Told.{first_broken}
use Rattle.plus_typing.proofs.laws.first_broken.Goals as goal

pub returns : goal.returns
returns c = first_broken
