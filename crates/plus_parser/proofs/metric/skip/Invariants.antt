use Rattle.std.proofs.Common.{◌≡◌, ◌+◌, length}
use Rattle.plus_parser.specs.Balanced.{skipped}
use Rattle.plus_parser.proofs.Skips.{Skips}
use Rattle.plus_parser.proofs.metric.skip.Given as goal

abbrev pub invariant-token : goal.invariant-token
invariant-token l =
    Skips l.left l.inside l.reader (skipped l.room l.initial.reader) (length l.initial.reader) × (l.left + l.inside ≡ l.room)

abbrev pub decreases-token : goal.decreases-token
decreases-token l = length l.reader
