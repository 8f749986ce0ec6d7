use Rattle.std.proofs.Common.{◌≡◌, ◌+◌, ◌≤◌, drop}
use Rattle.plus_validator.specs.Plans.{Pair, lines_meant}
use Rattle.plus_trim_command.specs.Acts.{act_count}
use Rattle.plus_trim_command.proofs.acts.count.Given as goal

abbrev pub invariant-each : goal.invariant-each
invariant-each l =
    ((d : Pair) → l.count + act_count (lines_meant d (drop l.line-index l.lines)) ≡ act_count (lines_meant d l.lines)) × (l.count ≤ l.line-index)
