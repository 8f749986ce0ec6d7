-- Behind the present place, up to the offset, there is no line feed.
use Rattle.std.proofs.Common.{◌≡◌, ◌≤◌, ◌<◌, ℕ, get_or}
use Rattle.plus_explain.proofs.place.line_start.Given as goal

abbrev pub invariant-back : goal.invariant-back
invariant-back l = (l.start ≤ l.offset) × ((k : ℕ) → l.start ≤ k → k < l.offset → get_or l.text k 0 ≡ 10 → ⊥)

abbrev pub decreases-back : goal.decreases-back
decreases-back l = l.start
