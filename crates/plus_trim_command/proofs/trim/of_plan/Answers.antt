use Rattle.std.proofs.Common.{subst, IfOk}
use Rattle.plus_expansion.specs.Expansion.{expanded}
use Rattle.plus_types.specs.declared.typed.Typed.{Typed}
use Rattle.plus_validator.specs.Plans.{pair_in, lines_meant}
use Rattle.plus_trim_command.specs.Trim.{TrimsPlan}
use Rattle.plus_trim_command.proofs.trim.of_plan.Goals as goal

pub returns-in-Ok : goal.returns-in-Ok
returns-in-Ok c =
    subst (λ (t : Typed). IfOk c.of_numbered.result (λ r. TrimsPlan (expanded t.domain t.problem) (lines_meant (pair_in t) c.args.lines.now) r.status r.text.items))
    c.in-Ok.ensures.of c.of_numbered.ensures
