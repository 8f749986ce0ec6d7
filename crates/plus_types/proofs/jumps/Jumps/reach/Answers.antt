use Rattle.std.proofs.Common.{◌∙◌, refl}
use Rattle.plus_types.proofs.jumps.Jumps.reach.Goals as goal

pub steps-init : goal.steps-init
steps-init c = λ types lead high l. refl

pub steps-preserved : goal.steps-preserved
steps-preserved c = λ types lead high l. c.steps.invariant types lead high l ∙ c.in-Some.ensures types lead high l
