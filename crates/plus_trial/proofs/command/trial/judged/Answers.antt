use Rattle.std.proofs.Common.{◌∙◌}
use Rattle.plus_trial.proofs.CommandLemmas.TrialLemmas.{plan_judged}
use Rattle.plus_trial.proofs.command.trial.judged.Goals as goal

pub returns : goal.returns
returns c =
    plan_judged c.args.tanks c.args.typed.now.domain c.args.typed.now.problem c.as_slice.result.now c.judge.result
    (c.as_slice.ensures.value ∙ c.in_ok-plan.ensures) c.judge.ensures.judged
