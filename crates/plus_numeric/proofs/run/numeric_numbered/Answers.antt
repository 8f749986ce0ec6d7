use Rattle.plus_numeric.proofs.RunLemmas.{pair_stops}
use Rattle.plus_numeric.proofs.run.numeric_numbered.Goals as goal

pub returns-in-Err-clause-stops : goal.returns-in-Err-clause-stops
returns-in-Err-clause-stops g c =
    let domain = c.args.numbering.now.typed.now.domain in
    let problem = c.args.numbering.now.typed.now.problem in
    pair_stops c.args.source domain problem _ _ _ c.ungrounded.result (c.ungrounded.ensures domain problem c.requires.level_two c.in-Err.ensures.limits)
