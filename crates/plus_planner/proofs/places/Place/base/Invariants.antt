use Rattle.std.proofs.Common.{◌≡◌, drop}
use Rattle.plus_planner.specs.Places.{base_in}
use Rattle.plus_planner.proofs.places.Place.base.Given as goal

abbrev pub invariant-loop-taken : goal.invariant-loop-taken
invariant-loop-taken g l = base_in l.actions l.base (drop l.taken-index l.taken-items) ≡ base_in l.actions l.self.start l.self.taken.items
