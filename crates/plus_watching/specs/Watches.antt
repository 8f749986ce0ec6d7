-- What is told of a plan text that is watched: the judgement on it, and what is seen on the history of that judgement, which is all
-- that happens where the plan is accepted, and else what happens before it is refused.
use Rattle.std.specs.Prelude.{◌≡◌, ℕ, Bool, List, Option, Result}
use Rattle.std.specs.List.{All}
use Rattle.plus_model.specs.Terms.{Problem}
use Rattle.plus_model.specs.History.{Part}
use Rattle.plus_number.specs.Frac.{fraction_of}
use Rattle.plus_state.specs.View.{Labels}
use Rattle.plus_tree.specs.declared.trees.Domain.{Domain}
use Rattle.plus_tree.specs.declared.trees.Problem as tree
use Rattle.plus_expansion.specs.Expansion.{expanded}
use Rattle.plus_constraints.specs.Constraint.{Constraint}
use Rattle.plus_constraints.specs.Place.{Place}
use Rattle.plus_constraints.specs.Found.{IsFound}
use Rattle.plus_watch.specs.Laws.{found_along}
use Rattle.plus_watch.specs.Watched.{firsts_along, places_of}
use Rattle.plus_validator.specs.declared.halt.Halt.{Halt}
use Rattle.plus_validator.specs.declared.judge.Judged.{Judged}
use Rattle.plus_validator.specs.declared.run.Run.{Run}
use Rattle.plus_validator.specs.Judged.{Says}
use Rattle.plus_validator.specs.Validates.{IsRead}
use Rattle.plus_validator.specs.Verdicts.{JudgesWhole, accepted, refused}
use Rattle.plus_watching.specs.declared.findings.Findings.{Findings}
use Rattle.plus_watcher.specs.declared.watcher.Standing.{Standing}
use Rattle.plus_watcher.specs.declared.watcher.Standing.TheVariants.{Going, Limit, Lost}
use Rattle.plus_watching.specs.declared.telling.Observer.{Observer}
use Rattle.plus_watcher.specs.Told.{AreWatched, IsLimited}

-- what was seen is kept beside what is said of the plan
pub record Gathers (N : Labels) (P : Problem) (run : Run Observer) (played : Result (Unit {0}) Halt) (f : Findings) : Type 0 where
  pub says : Says N P run played f.judged
  pub firsts : f.firsts.items ≡ run.teller.watcher.firsts.items
  pub standing : f.standing ≡ run.teller.watcher.standing

-- all that constraints ask on a history passes, these are the first places of each, and what they tell is what is found
pub record AreSeen (P : Problem) (cs : List Constraint) (firsts : List (Option Place)) (h : List Part) : Type 0 where
  pub passed : AreWatched P cs h
  pub places : firsts ≡ firsts_along P cs h
  pub found : All (λ c. IsFound P h c (found_along P c h)) cs

-- so it is, or a limit of a constraint came first
abbrev pub SeenOn : Problem → List Constraint → List (Option Place) → Standing → List Part → Type 0
SeenOn P cs firsts Going h = AreSeen P cs firsts h
SeenOn P cs firsts (Limit index stop) h = IsLimited P cs h index stop
SeenOn P cs firsts Lost h = ⊥

-- of the history of a judgement this is so
abbrev pub OnWhole : (d : Domain) (p : tree.Problem) (most : ℕ) (text : List ℕ) (goes_on : Bool) (j : Judged) → JudgesWhole d p most text goes_on j → (List Part → Type 0) → Type 0
OnWhole d p most text goes_on j (accepted e a) Q = Q a.accepted.history
OnWhole d p most text goes_on j (refused r) Q = Q r.refused.refusal.history

-- the text that is read of these bytes is judged, and this is seen
pub record WatchesText (d : Domain) (p : tree.Problem) (cs : List Constraint) (most : ℕ) (bytes : List ℕ) (f : Findings) : Type 0 where
  pub text : List ℕ
  pub goes_on : Bool
  pub read : IsRead bytes text goes_on
  pub judges : JudgesWhole d p most text goes_on f.judged
  pub seen : OnWhole d p most text goes_on f.judged judges (SeenOn (expanded d p) cs (places_of fraction_of f.firsts.items) f.standing)
