-- What follows from what is told, over the definitions alone.
use Rattle.std.specs.Prelude.{◌≡◌, List}
use Rattle.std.specs.List.{All}
use Rattle.plus_model.specs.Terms.{Problem}
use Rattle.plus_model.specs.Plan.{Plan}
use Rattle.plus_model.specs.History.{Part}
use Rattle.plus_model.specs.Trajectory.{Prefix}
use Rattle.plus_number.specs.Frac.{fraction_of}
use Rattle.plus_constraints.specs.Found.{IsFound}
use Rattle.plus_watch.specs.Laws.{found_along}
use Rattle.plus_watch.specs.Watched.{firsts_along, places_of}
use Rattle.plus_watcher.specs.declared.watcher.Standing.TheVariants.{Going}
use Rattle.plus_watcher.specs.declared.watcher.Watcher.{Watcher}
use Rattle.plus_watcher.specs.Told.{LengthsFit}
use Rattle.plus_watcher.specs.Stands.{constraints_in, AreOver, TellsOf}

-- the places that are noted are those along the history, and what they tell of each constraint is what is found of it
pub record TellsFound (P : Problem) (h : List Part) (w : Watcher) : Type 0 where
  pub places : places_of fraction_of w.firsts.items ≡ firsts_along P (constraints_in w.rules) h
  pub found : All (λ c. IsFound P h c (found_along P c h)) (constraints_in w.rules)

-- where no limit of a constraint came
abbrev pub WatchedIsFound : Type 0
WatchedIsFound =
    (P : Problem) (L : Plan) (h : List Part) (w : Watcher)
    → Prefix P L h → AreOver P w.rules → LengthsFit P h → TellsOf P h w → w.standing ≡ Going → TellsFound P h w
