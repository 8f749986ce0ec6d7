-- From the offset up to the present place there is no line feed.
use Rattle.std.proofs.Common.{◌≡◌, ◌≤◌, ◌<◌, ◌-◌, ℕ, get_or, length}
use Rattle.plus_explain.proofs.place.line_end.Given as goal

abbrev pub invariant-on : goal.invariant-on
invariant-on l =
    (l.offset ≤ l.«end») × (l.«end» ≤ length l.text) × ((k : ℕ) → l.offset ≤ k → k < l.«end» → get_or l.text k 0 ≡ 10 → ⊥)

abbrev pub decreases-on : goal.decreases-on
decreases-on l = length l.text - l.«end»
