use Rattle.std.proofs.Common.{ap, ◌∙◌}
use Rattle.plus_validator.specs.Outcomes.{status_of}
use Rattle.plus_trial.proofs.CommandLemmas.TrialLemmas.{told_trial, told_plain}
use Rattle.plus_trial.proofs.command.trial.told.Goals as goal

pub returns-clause-replies : goal.returns-clause-replies
returns-clause-replies c =
    told_trial c.args.tanks c.args.typed.now.domain c.args.typed.now.problem c.in_ok-judged.judged c.status.result c.in_ok-text.text.items
    c.requires c.args.typed.now.well_typed c.in_ok-judged.ensures (c.status.ensures ∙ ap status_of c.outcome.ensures) c.in_ok-text.ensures

pub returns-clause-plain : goal.returns-clause-plain
returns-clause-plain c = told_plain c.in_ok-judged.judged c.status.result (c.status.ensures ∙ ap status_of c.outcome.ensures)
