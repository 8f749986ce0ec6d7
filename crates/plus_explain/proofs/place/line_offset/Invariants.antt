-- The line that was begun last has this number, and begins behind the last line feed so far.
use Rattle.std.proofs.Common.{◌≡◌, ◌≤◌, ◌<◌, ◌+◌, ◌-◌, ℕ, get_or}
use Rattle.plus_explain.specs.Place.{line_at}
use Rattle.plus_explain.proofs.place.line_offset.Given as goal

abbrev pub invariant-loop-at : goal.invariant-loop-at
invariant-loop-at l =
    (l.start ≤ l.at) × (l.line ≡ line_at l.text l.at) × (l.line ≡ line_at l.text l.start)
    × (0 < l.start → get_or l.text (l.start - 1) 0 ≡ 10)
