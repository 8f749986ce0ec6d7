-- A plan whose text is played.
use Rattle.std.specs.Prelude.{ℕ, ◌≤◌, Bool, List, [], length, All, Result, Ok, Err}
use Rattle.plus_model.specs.Terms.{Problem}
use Rattle.plus_model.specs.History.{Part}
use Rattle.plus_plan.specs.declared.forms.Line.{Line}
use Rattle.plus_validator.specs.declared.halt.Halt.{Halt}
use Rattle.plus_validator.specs.declared.run.Run.{Run}
use Rattle.plus_validator.specs.Account.{Progress, progress}
use Rattle.plus_validator.specs.Handing.{Left, left}
use Rattle.plus_io.specs.Limits.{text_limit}
use Rattle.plus_validator.specs.Plans.{Pair, HasValue}
use Rattle.plus_validator.specs.Playing.{ReadiedFor, IsResting, PlaysAll}
use Rattle.plus_validator.specs.Refused.{WholeLines}
use Rattle.plus_validator.specs.Stopped.{IsWorkedOut, StopsInText}
use Rattle.plus_validator.specs.Told.{Telling}
use Rattle.plus_validator.specs.Validates.{IsRead}

-- ---- the lines

-- these lines are played, since the run was so
pub record HasPlayed {V : Type 0} (d : Pair) (P : Problem) (T : Telling P V) (lines : List Line) (first now : Progress V) : Type 0 where
  pub rests : IsResting P first.timeline.line.most now.timeline
  pub times : All HasValue lines
  pub ready : (h : List Part) → ReadiedFor d P T [] h first → (h' : List Part) × ReadiedFor d P T lines h' now

-- ---- what becomes of it

-- the run halts in the plan text that stands in these bytes
pub record StopsOn {V : Type 0} (d : Pair) (P : Problem) (T : Telling P V) (most : ℕ) (bytes : List ℕ) (new : Left V) (halt : Halt) : Type 0 where
  pub text : List ℕ
  pub goes_on : Bool
  pub read : IsRead bytes text goes_on
  pub whole : List ℕ
  pub piece : List ℕ
  pub cut : WholeLines goes_on text whole piece
  pub stopped : StopsInText d P T most goes_on whole piece new halt

-- so it does, from where it began
pub record HaltsWith {V : Type 0} (d : Pair) (P : Problem) (T : Telling P V) (bytes : List ℕ) (first : Progress V) (new : Left V) (halt : Halt) : Type 0 where
  pub stops : (h : List Part) → ReadiedFor d P T [] h first → StopsOn d P T first.timeline.line.most bytes new halt

-- ---- the end of the text

-- the plan text is within the limit, it is played to its end, and the goal holds there
pub record PlaysText {V : Type 0} (d : Pair) (P : Problem) (T : Telling P V) (bytes : List ℕ) (first new : Progress V) : Type 0 where
  pub within : length bytes ≤ text_limit
  pub plays : PlaysAll d P T bytes first new
  pub works : (h : List Part) → ReadiedFor d P T [] h first → IsWorkedOut d P T first.timeline.line.most plays.lines

-- the plan text that stands in these bytes is played, or the run halts in it; these first bytes of what is told are handed on
abbrev pub IsPlayedOut : {S V : Type 0} → Pair → (P : Problem) → Telling P V → (List ℕ → S → V) → List ℕ → Progress V → List ℕ → Run S → Result (Unit {0}) Halt → Type 0
IsPlayedOut d P T told bytes first sent new (Ok u) = PlaysText d P T bytes first (progress told sent new)
IsPlayedOut d P T told bytes first sent new (Err halt) = HaltsWith d P T bytes first (left told sent new) halt
