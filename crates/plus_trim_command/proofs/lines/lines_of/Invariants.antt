use Rattle.std.proofs.Common.{◌-◌, length}
use Rattle.plus_trim_command.specs.Lines.{HaveRead}
use Rattle.plus_trim_command.proofs.lines.lines_of.Given as goal

abbrev pub invariant-reading : goal.invariant-reading
invariant-reading l = HaveRead l.text l.from l.number l.lines.items

abbrev pub decreases-reading : goal.decreases-reading
decreases-reading l = length l.text - l.from
