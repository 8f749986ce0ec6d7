use Rattle.plus_trim_command.proofs.Reading.{only_memory}
use Rattle.plus_trim_command.proofs.lines.read_one.Goals as goal

pub wanting-requires : goal.wanting-requires
wanting-requires c = only_memory c.args.text.now c.args.from c.args.number c.in-Err.fault c.requires.lines c.in-Err.ensures.refused
