use Rattle.std.proofs.Common.{◌∙◌}
use Rattle.plus_trial.proofs.CommandLemmas.TrialLemmas.{farm_read, farm_not_read}
use Rattle.plus_trial.proofs.command.trial.farm.Goals as goal

pub returns-clause-read : goal.returns-clause-read
returns-clause-read c =
    farm_read c.args.tanks c.as_slice.result.now c.as_slice-2.result.now c.pair_of.result
    (c.as_slice.ensures.value ∙ c.in-Ok.ensures) (c.as_slice-2.ensures.value ∙ c.in-Ok-problem_text.ensures) c.pair_of.ensures.read

pub returns-clause-not_read : goal.returns-clause-not_read
returns-clause-not_read c =
    farm_not_read c.args.tanks c.as_slice.result.now c.as_slice-2.result.now c.pair_of.result
    (c.as_slice.ensures.value ∙ c.in-Ok.ensures) (c.as_slice-2.ensures.value ∙ c.in-Ok-problem_text.ensures) c.pair_of.ensures.not_read
