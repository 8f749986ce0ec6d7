use Rattle.std.proofs.Common.{map}
use Rattle.plus_state.specs.View.{problem_of}
use Rattle.plus_trim.specs.Acts.{act_of, plan_of}
use Rattle.plus_trim.proofs.Working.{halts_going}
use Rattle.plus_trim.proofs.Round.{refusal_answers, valid_kept}
use Rattle.plus_trim.proofs.trimming.trim.Goals as goal

pub refused-requires : goal.refused-requires
refused-requires g c =
    let v = g.Q.Exact.value in
    halts_going v g.Q.Exact.fits (problem_of v c.args.ground.now) c.args.happenings (plan_of (map (act_of v) c.args.acts.now) (v c.args.end)) c.in-Err.stop c.in-Err.ensures.halts

pub returns-in-Err-clause-answers : goal.returns-in-Err-clause-answers
returns-in-Err-clause-answers g c =
    let v = g.Q.Exact.value in
    refusal_answers v g.Q.Exact.fits (problem_of v c.args.ground.now) c.args.happenings (map (act_of v) c.args.acts.now) (v c.args.end) c.in-Err.stop c.refused.result c.in-Err.ensures.halts c.refused.ensures

pub returns-in-Err-clause-kept : goal.returns-in-Err-clause-kept
returns-in-Err-clause-kept g c i =
    let v = g.Q.Exact.value in
    valid_kept v g.Q.Exact.fits (problem_of v c.args.ground.now) c.args.happenings (map (act_of v) c.args.acts.now) (v c.args.end) c.refused.result
    (refusal_answers v g.Q.Exact.fits (problem_of v c.args.ground.now) c.args.happenings (map (act_of v) c.args.acts.now) (v c.args.end) c.in-Err.stop c.refused.result c.in-Err.ensures.halts c.refused.ensures) i
