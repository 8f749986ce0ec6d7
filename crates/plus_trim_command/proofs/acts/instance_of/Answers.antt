use Rattle.plus_trim_command.proofs.ActLemmas.{only_memory}
use Rattle.plus_trim_command.proofs.acts.instance_of.Goals as goal

pub wanting-requires : goal.wanting-requires
wanting-requires c =
    only_memory c.args.numbering.now.typed.now.domain c.args.numbering.now.typed.now.problem c.args.call.now c.in-Err.fault c.requires c.in-Err.ensures.called
