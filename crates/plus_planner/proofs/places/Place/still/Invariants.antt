use Rattle.std.proofs.Common.{◌≡◌, length, take}
use Rattle.plus_planner.specs.Tried.{AllBehind}
use Rattle.plus_planner.proofs.places.Place.still.Given as goal

-- those that were looked at
abbrev pub invariant-tried : goal.invariant-tried
invariant-tried g l = (l.count ≡ l.tried-index) × AllBehind (length l.self.taken.items) (take l.tried-index l.tried-items)
