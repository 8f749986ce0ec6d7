use Rattle.std.proofs.Common.{rules}
use Rattle.plus_literal.proofs.Powers.{ten-above}
use Rattle.plus_translate.proofs.grid.power_of_ten.Goals as goal

pub returns-clause-above : goal.returns-clause-above
returns-clause-above c = search (rules, ten-above)
