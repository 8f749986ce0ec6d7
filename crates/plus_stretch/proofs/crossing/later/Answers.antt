use Rattle.plus_state.specs.declared.term.Sign.TheVariants.{Plus}
use Rattle.plus_stretch.proofs.HereLemmas.{node_pass, node_fail}
use Rattle.plus_stretch.proofs.crossing.later.Goals as goal

pub returns-in-Ok : goal.returns-in-Ok
returns-in-Ok g c = (node_pass _ Plus _ _ _ c.in-Ok.ensures.0 c.in-Ok.ensures.1, c.in-Ok.ensures.0)

pub returns-in-Err : goal.returns-in-Err
returns-in-Err g c = node_fail _ Plus _ _ _ c.in-Err.ensures.0 c.in-Err.ensures.1
