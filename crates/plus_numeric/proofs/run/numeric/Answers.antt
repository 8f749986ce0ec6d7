use Rattle.plus_number.specs.Frac.{IsFrac64}
use Rattle.plus_ground.proofs.RefusalLemmas.{names_refused}
use Rattle.plus_numeric.specs.Level.{beyond_level_two}
use Rattle.plus_numeric.proofs.RunLemmas.{pair_stops, no_place}
use Rattle.plus_numeric.proofs.run.numeric.Goals as goal

pub returns-in-Some-clause-stops : goal.returns-in-Some-clause-stops
returns-in-Some-clause-stops g c =
    let domain = c.args.typed.now.domain in
    let problem = c.args.typed.now.problem in
    pair_stops c.args.source domain problem _ _ _ c.beyond.result (c.beyond.ensures domain problem c.in-Some.ensures)

pub returns-in-Err-clause-stops : goal.returns-in-Err-clause-stops
returns-in-Err-clause-stops g c =
    let domain = c.args.typed.now.domain in
    let problem = c.args.typed.now.problem in
    pair_stops c.args.source domain problem _ _ _ c.ungrounded.result
    (c.ungrounded.ensures domain problem (no_place (beyond_level_two domain problem) c.first_beyond.result c.first_beyond.ensures c.in_default.not-Some) (names_refused IsFrac64 domain problem c.in-Err.fault c.in-Err.ensures.counts))
