use Rattle.plus_number.specs.Frac.{fraction_of}
use Rattle.plus_watch.specs.Watched.{constraints_of}
use Rattle.plus_watch_command.proofs.Replying.{each_noted, plan_told}
use Rattle.plus_watch_command.proofs.watch.on_plan.Goals as goal

pub reply_of-requires : goal.reply_of-requires
reply_of-requires c = record {
  each = each_noted c.args.numbering.now.typed.now.domain c.args.numbering.now.typed.now.problem c.args.watched.now c.args.happenings c.args.bytes.now c.in-Ok.findings c.in-Ok.ensures;
}

pub returns-in-Ok-clause-replies : goal.returns-in-Ok-clause-replies
returns-in-Ok-clause-replies c =
    plan_told c.args.numbering.now.typed.now.domain c.args.numbering.now.typed.now.problem c.args.happenings c.args.bytes.now (constraints_of fraction_of c.args.watched.now) c.in-Ok.findings
    c.reply_of.result c.in-Ok.ensures c.reply_of.ensures.status c.reply_of.ensures.text
