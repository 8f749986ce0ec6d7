-- What one who watches constraints knows of a history.
use Rattle.std.specs.Prelude.{◌≡◌, List, map, None, pos}
use Rattle.plus_fraction.specs.Fraction.{whole}
use Rattle.plus_model.specs.Terms.{Problem}
use Rattle.plus_model.specs.History.{Part}
use Rattle.plus_number.specs.Frac.{fraction_of}
use Rattle.plus_constraints.specs.Constraint.{Constraint}
use Rattle.plus_watch.specs.Watched.{firsts_along, constraints_of, places_of}
use Rattle.plus_watcher.specs.declared.rules.Rules.{Rules}
use Rattle.plus_watcher.specs.declared.watcher.Standing.{Standing}
use Rattle.plus_watcher.specs.declared.watcher.Standing.TheVariants.{Going, Limit, Lost}
use Rattle.plus_watcher.specs.declared.watcher.Watcher.{Watcher}
use Rattle.plus_watcher.specs.Told.{behind, LengthsFit, AreWatched, IsLimited}

-- the constraints that are watched
abbrev pub constraints_in : Rules → List Constraint
constraints_in r = constraints_of fraction_of r.watched.now

-- they are those of a problem with as many atoms and fluents
pub record AreOver (P : Problem) (r : Rules) : Type 0 where
  pub atoms : r.atoms ≡ P.atoms
  pub fluents : r.fluents ≡ P.fluents

-- all parts of the history are looked at: all that is asked there passes, and the places are those that are found along it
pub record HasSeen (P : Problem) (h : List Part) (w : Watcher) : Type 0 where
  pub since : fraction_of w.since ≡ (behind P h).time
  pub firsts : places_of fraction_of w.firsts.items ≡ firsts_along P (constraints_in w.rules) h
  pub passed : AreWatched P (constraints_in w.rules) h

-- so it is, or a limit of a constraint came first; what is lost is so where the tests of the plan would not pass
abbrev pub StandsBy : Problem → List Part → Watcher → Standing → Type 0
StandsBy P h w Going = HasSeen P h w
StandsBy P h w (Limit index stop) = IsLimited P (constraints_in w.rules) h index stop
StandsBy P h w Lost = ⊥

abbrev pub TellsOf : Problem → List Part → Watcher → Type 0
TellsOf P h w = AreOver P w.rules → LengthsFit P h → StandsBy P h w w.standing

-- nothing is looked at yet
pub record IsFirst (w : Watcher) : Type 0 where
  pub going : w.standing ≡ Going
  pub since : fraction_of w.since ≡ whole (pos 0)
  pub none : places_of fraction_of w.firsts.items ≡ map (λ (c : Constraint). None) (constraints_in w.rules)
