-- What the lines of a plan text do to a run.
use Rattle.std.specs.Prelude.{◌≡◌, ℕ, suc, ◌≤◌, Bool, true, false, List, [], ◌∷◌, ◌++◌, map, All, Some, None, Ok}
use Rattle.plus_fraction.specs.Fraction.{Fraction, ◌≤ℚ◌}
use Rattle.plus_model.specs.Terms.{Problem}
use Rattle.plus_model.specs.Plan.{Plan, ActLine}
use Rattle.plus_model.specs.History.{Part}
use Rattle.plus_model.specs.Trajectory.{HasBegun, next_line, Trajectory}
use Rattle.plus_number.specs.declared.frac.Frac64.{Frac64}
use Rattle.plus_number.specs.Frac.{fraction_of}
use Rattle.plus_number.specs.declared.exact.Exact.{Ghosts}
use Rattle.plus_state.specs.declared.problem.Ground.{Ground}
use Rattle.plus_state.specs.View.{problem_of, labels_of}
use Rattle.plus_indexed.specs.Indexed.{IndexedView}
use Rattle.plus_tree.specs.declared.trees.Domain.{Domain}
use Rattle.plus_tree.specs.declared.trees.Problem as tree
use Rattle.plus_plan.specs.declared.forms.Time.{Time}
use Rattle.plus_plan.specs.declared.forms.Line.{Line}
use Rattle.plus_plan.specs.declared.forms.PlanForm.TheVariants.{Timed}
use Rattle.plus_plan.specs.TimeValue.{value_of}
use Rattle.plus_plan.specs.Lines.{plan_lines}
use Rattle.plus_expansion.specs.Expansion.{expanded, labels_meant}
use Rattle.plus_stretch.specs.Tests.{Test}
use Rattle.plus_tree.specs.declared.trees.Call.{Call}
use Rattle.plus_timeline.specs.Played.{entries_of}
use Rattle.plus_validator.specs.Asking.{call_tests, instances_of, NoneFails, IsClear}
use Rattle.plus_validator.specs.Plans.{Pair, plan_of, HasValue}
use Rattle.plus_expansion.specs.Calls.{called_of}
use Rattle.plus_validator.specs.Account.{Account, Progress}
use Rattle.plus_validator.specs.Standing.{IsTold, IsPlayed, CanGoOn, IsReady, IsReached}
use Rattle.plus_validator.specs.Told.{Telling}

-- the ground form of a pair
pub record IsGroundOf {E : Ghosts Frac64} (d : Domain) (p : tree.Problem) (g : Ground Frac64 E) : Type 0 where
  pub expands : problem_of fraction_of g ≡ expanded d p
  pub labels : labels_of g ≡ labels_meant d p

-- the time of a line that may be played: none stands after an end, and time does not go back
pub record IsInTime (ended : Bool) (now : Fraction) (time : Time) (at : Frac64) : Type 0 where
  pub is : fraction_of at ≡ value_of time
  pub not_ended : ended ≡ false
  pub ahead : now ≤ℚ fraction_of at

-- the action that is called is done; what is asked of its instance passes
pub record ActsOnce {V : Type 0} (d : Pair) (P : Problem) (T : Telling P V) (call : Call) (old new : Progress V) : Type 0 where
  pub can : CanGoOn P new.timeline
  pub moment : new.timeline.line.now.running ≡ None
  pub most : new.timeline.line.most ≡ old.timeline.line.most
  pub ended : new.ended ≡ old.ended
  pub time : new.timeline.line.now.time ≡ old.timeline.line.now.time
  pub acted_is : new.timeline.line.now.acted ≡ suc old.timeline.line.now.acted
  pub acted :
      (L : Plan) (instance : ℕ → List Test) (h : List Part) → HasBegun L → instance old.timeline.line.now.acted ≡ call_tests d call
      → IsReached P T L instance old.timeline.line.now.acted old.timeline.line.now.time h old.timeline.line old.account
      → next_line L old.timeline.line.now ≡ Some (ActLine old.timeline.line.now.time (called_of d.domain d.problem call.name call.args))
      → (h' : List Part) × IsPlayed P T L instance h' new.timeline.line new.account

-- the run stands ready for the next line of this plan
abbrev pub Readied : {V : Type 0} (P : Problem) → Telling P V → Plan → (ℕ → List Test) → List Part → Progress V → Type 0
Readied P T L instance h run = IsReady P T L instance run.ended h run.timeline.line run.account

-- it does so for the line behind these lines of the text
abbrev pub ReadiedFor : {V : Type 0} → Pair → (P : Problem) → Telling P V → List Line → List Part → Progress V → Type 0
ReadiedFor d P T ls h run = Readied P T (plan_of d ls false) (instances_of d ls) h run

-- the run may play on: it stands at a moment
pub record IsResting (P : Problem) (most : ℕ) (t : IndexedView) : Type 0 where
  pub can : CanGoOn P t
  pub moment : t.line.now.running ≡ None
  pub most_is : t.line.most ≡ most

-- a line of the text is played
pub record PlaysLine {V : Type 0} (d : Pair) (P : Problem) (T : Telling P V) (line : Line) (old new : Progress V) : Type 0 where
  pub rests : IsResting P old.timeline.line.most new.timeline
  pub value : HasValue line
  pub ready :
      (ls : List Line) (h : List Part) → ReadiedFor d P T ls h old
      → (h' : List Part) × ReadiedFor d P T (ls ++ line ∷ []) h' new

-- the plan whose text was read to its end
abbrev pub closed : Plan → Plan
closed L = record { lines = L.lines; closed = true }

-- what happens has ended, the goal holds, and all that is asked passes
pub record Ends {V : Type 0} (P : Problem) (T : Telling P V) (L : Plan) (most : ℕ) (instance : ℕ → List Test) (h : List Part) (account : Account V) : Type 0 where
  pub happens : Trajectory P L h
  pub few : entries_of h ≤ most
  pub clear : IsClear P L most instance h
  pub passed : NoneFails P L most instance h
  pub told : IsTold P T L account h

pub record Closes {V : Type 0} (P : Problem) (T : Telling P V) (old new : Progress V) : Type 0 where
  pub ends :
      (L : Plan) (instance : ℕ → List Test) (h : List Part) → Readied P T L instance h old
      → (h' : List Part) × Ends P T (closed L) old.timeline.line.most instance h' new.account

-- a run is begun: it is ready for the first line of a text
pub record Begins {V : Type 0} (P : Problem) (T : Telling P V) (most : ℕ) (run : Progress V) : Type 0 where
  pub rests : IsResting P most run.timeline
  pub ready :
      (L : Plan) (instance : ℕ → List Test) → L.lines ≡ [] → L.closed ≡ false
      → (h : List Part) × Readied P T L instance h run

-- a text is played to its end, and the goal holds there
pub record PlaysAll {V : Type 0} (d : Pair) (P : Problem) (T : Telling P V) (text : List ℕ) (old new : Progress V) : Type 0 where
  pub lines : List Line
  pub read : plan_lines Timed text ≡ map Ok lines
  pub times : All HasValue lines
  pub ends :
      (h : List Part) → ReadiedFor d P T [] h old
      → (h' : List Part) × Ends P T (plan_of d lines true) old.timeline.line.most (instances_of d lines) h' new.account
