use Rattle.std.proofs.Common.{◌≡◌, ◌≤◌, ◌-◌, length}
use Rattle.plus_plan.specs.Cut.{line_end}
use Rattle.plus_plan.proofs.lines.line_end.Given as goal

abbrev pub invariant-loop-at : goal.invariant-loop-at
invariant-loop-at l = record { inside : l.at ≤ length l.text; same : line_end l.text l.at ≡ line_end l.text l.from }

abbrev pub decreases-loop-at : goal.decreases-loop-at
decreases-loop-at l = length l.text - l.at
