use Rattle.std.proofs.Common.{ap, ◌∙◌}
use Rattle.plus_number.specs.Frac.{fraction_of}
use Rattle.plus_watch.specs.Watched.{constraints_of}
use Rattle.plus_watch_command.proofs.Replying.{played_told, refused_told, refused_memory}
use Rattle.plus_watch_command.proofs.watch.on_ground.Goals as goal

pub returns-in-Ok-clause-replies : goal.returns-in-Ok-clause-replies
returns-in-Ok-clause-replies c =
    played_told c.args.numbering.now.typed.now.domain c.args.numbering.now.typed.now.problem c.args.happenings c.args.bytes.now c.args.rules.now (constraints_of fraction_of c.deref.result.now)
    c.on_plan.result c.in-Ok.ensures.limits (ap (constraints_of fraction_of) c.deref.ensures.value ∙ c.in-Ok.ensures.meant) c.on_plan.ensures.replies

pub returns-in-Err-clause-replies : goal.returns-in-Err-clause-replies
returns-in-Err-clause-replies c =
    refused_told c.args.numbering.now.typed.now.domain c.args.numbering.now.typed.now.problem c.args.happenings c.args.bytes.now c.args.rules.now
    c.in-Err.fault c.refuse_rules.result c.refused.result c.in-Err.ensures.limits c.refuse_rules.ensures c.refused.ensures

pub returns-in-Err-clause-memory : goal.returns-in-Err-clause-memory
returns-in-Err-clause-memory c = refused_memory c.in-Err.fault c.refuse_rules.result c.refused.result c.refuse_rules.ensures c.refused.ensures
