use Rattle.std.proofs.Common.{◌≡◌, ℕ, List, ◌||◌, ◌&&◌, not}
use Rattle.std.specs.Str.{bytes_eq}
use Rattle.plus_types.specs.Types.{is_among, is_under, is_above_within, object_name}
use Rattle.plus_types.proofs.types.Types.ups.Given as goal

-- the type is under those gathered, and those above the one that is reached, in the steps that are left
abbrev pub invariant-steps : goal.invariant-steps
invariant-steps l = (k : List ℕ) → is_under l.self l.fn.low k ≡ (is_among l.ups k || (not (bytes_eq k object_name) && is_above_within l.self l.left k l.at))

abbrev pub decreases-steps : goal.decreases-steps
decreases-steps l = l.left
