use Rattle.plus_trim_command.proofs.Accepted.{grounded}
use Rattle.plus_trim_command.proofs.trim.of_numbered.Goals as goal

pub wanting-requires : goal.wanting-requires
wanting-requires c =
    grounded c.args.numbering.now.typed.now.domain c.args.numbering.now.typed.now.problem c.args.lines.now c.in-Err.fault c.requires.accepted c.in-Err.ensures.limits
