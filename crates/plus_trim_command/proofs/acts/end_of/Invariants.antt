use Rattle.std.proofs.Common.{◌≡◌, drop}
use Rattle.plus_number.specs.Frac.{fraction_of}
use Rattle.plus_validator.specs.Plans.{Pair, lines_meant}
use Rattle.plus_trim_command.specs.Acts.{last_time}
use Rattle.plus_trim_command.specs.Playable.{time_after}
use Rattle.plus_trim_command.proofs.acts.end_of.Given as goal

abbrev pub invariant-each : goal.invariant-each
invariant-each l = (d : Pair) → time_after (lines_meant d (drop l.line-index l.lines)) (fraction_of l.end) ≡ last_time (lines_meant d l.lines)
