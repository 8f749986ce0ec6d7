use Rattle.planplus.proofs.EndingLemmas.{ends_unknown, ends_usage, may_end}
use Rattle.planplus.proofs.perform.Goals as goal

pub returns-in-Ok-clause-no_command : goal.returns-in-Ok-clause-no_command
returns-in-Ok-clause-no_command g c none = ends_unknown _ _ _ _ _ _ _ _ _ c.conclude-code.ensures.answers none

pub returns-in-Ok-clause-usage : goal.returns-in-Ok-clause-usage
returns-in-Ok-clause-usage g c four = ends_usage _ _ _ _ _ _ _ _ _ c.conclude-code.ensures.answers four

pub returns-in-Ok-clause-allowed : goal.returns-in-Ok-clause-allowed
returns-in-Ok-clause-allowed g c = may_end _ _ _ _ _ _ _ _ _ c.conclude-code.ensures.answers
