-- That a search may be made is so in one way at most, so that a value can keep it.
use Rattle.std.proofs.Props.{props}
use Rattle.plus_state.specs.FitsOnce.{Fits-prop, AllEffectsFit-prop}
use Rattle.plus_planner.specs.Grid.{Task}
use Rattle.plus_planner.specs.Places.{CanSearch}

pub CanSearch-prop : (task : Task) → IsProp (CanSearch task)
CanSearch-prop task = hlevel (props, Fits-prop, AllEffectsFit-prop)
