-- What a run that halts leaves: what is told of a history of the lines read, at which its verdict stands.
use Rattle.std.specs.Prelude.{◌≡◌, ◌⊎◌, ℕ, ◌≤◌, Bool, false, List, [], ◌∷◌, ◌++◌, Some}
use Rattle.plus_fraction.specs.Fraction.{Fraction}
use Rattle.plus_model.specs.Terms.{Problem}
use Rattle.plus_model.specs.Plan as model
use Rattle.plus_model.specs.Plan.{Plan, ActLine}
use Rattle.plus_model.specs.History.{Part}
use Rattle.plus_model.specs.Trajectory.{HasBegun, next_line, Prefix, view_of}
use Rattle.plus_number.specs.declared.frac.Frac64.{Frac64}
use Rattle.plus_plan.specs.declared.forms.Time.{Time}
use Rattle.plus_plan.specs.declared.forms.Line.{Line}
use Rattle.plus_plan.specs.TimeValue.{value_of}
use Rattle.plus_report.specs.declared.verdicts.Verdict.{Verdict}
use Rattle.plus_report.specs.Report.{called_label}
use Rattle.plus_validator.specs.declared.halt.Halt.{Halt}
use Rattle.plus_validator.specs.declared.halt.Halt.TheVariants.{Refused, Memory, WriteFault}
use Rattle.plus_stretch.specs.Tests.{Test}
use Rattle.plus_timeline.specs.Played.{entries_of}
use Rattle.plus_validator.specs.Asking.{call_tests, instances_of, IsClear}
use Rattle.plus_validator.specs.Plans.{Pair, line_meant, plan_of, Reading, plan_in, HasTime, HasValue}
use Rattle.plus_tree.specs.declared.trees.Call.{Call}
use Rattle.plus_expansion.specs.Calls.{called_of}
use Rattle.plus_validator.specs.Account.{Account, Progress}
use Rattle.plus_validator.specs.Handing.{Left, IsPartOut}
use Rattle.plus_validator.specs.Standing.{IsTold, IsReached}
use Rattle.plus_validator.specs.Told.{Telling}
use Rattle.plus_validator.specs.Running.{IsOnWay}
use Rattle.plus_validator.specs.Playing.{Readied, ReadiedFor, closed}
use Rattle.plus_validator.specs.Refused.{Stands, NamesLine, NamesNoLine, IsWaiting, IsPlayedOn, number_in, TimeFault, Refusal}

-- this is told of a history of the plan, before which all that is asked passes
pub record IsReported {V : Type 0} (P : Problem) (T : Telling P V) (L : Plan) (most : ℕ) (instance : ℕ → List Test) (h : List Part) (account : Account V) : Type 0 where
  pub prefix : Prefix P L h
  pub few : entries_of h ≤ most
  pub clear : IsClear P L most instance h
  pub told : IsTold P T L account h

-- and the verdict stands there
pub record IsStoppedAt {V : Type 0} (P : Problem) (T : Telling P V) (L : Plan) (most : ℕ) (instance : ℕ → List Test) (account : Account V) (v : Verdict Frac64) : Type 0 where
  pub history : List Part
  pub reported : IsReported P T L most instance history account
  pub stands : Stands P L most instance history v

-- a fault: what is out is a first part of what is told of a history of the plan, before which all that is asked passes
pub record IsCutShort {V : Type 0} (P : Problem) (T : Telling P V) (L : Plan) (most : ℕ) (instance : ℕ → List Test) (out : List ℕ) (halt : Halt) : Type 0 where
  pub history : List Part
  pub account : Account V
  pub reported : IsReported P T L most instance history account
  pub part : IsPartOut halt out (T.bytes account.told)

-- these lines are worked in a history, before which all that is asked passes
pub record IsWorkedOut {V : Type 0} (d : Pair) (P : Problem) (T : Telling P V) (most : ℕ) (lines : List Line) : Type 0 where
  pub history : List Part
  pub account : Account V
  pub reported : IsReported P T (plan_of d lines false) most (instances_of d lines) history account
  pub waits : IsWaiting P (plan_of d lines false) most (instances_of d lines) history

-- ---- on the way to a time

pub record IsStoppedOnWay {V : Type 0} (P : Problem) (T : Telling P V) (L : Plan) (most : ℕ) (instance : ℕ → List Test) (account : Account V) (v : Verdict Frac64) : Type 0 where
  pub stopped : IsStoppedAt P T L most instance account v
  pub names : NamesNoLine v

abbrev pub StopsOnWay : {V : Type 0} (P : Problem) → Telling P V → Plan → ℕ → (ℕ → List Test) → Left V → Halt → Type 0
StopsOnWay P T L most instance new (Refused v) = IsStoppedOnWay P T L most instance new.account v
StopsOnWay P T L most instance new Memory = IsCutShort P T L most instance new.out Memory
StopsOnWay P T L most instance new WriteFault = IsCutShort P T L most instance new.out WriteFault

-- the run halts on its way to the time u
pub record HaltsOnWay {V : Type 0} (P : Problem) (T : Telling P V) (u : Fraction) (old : Progress V) (new : Left V) (halt : Halt) : Type 0 where
  pub stops :
      (L : Plan) (instance : ℕ → List Test) (acted : ℕ) (h : List Part) → HasBegun L → IsOnWay P T L instance u acted h old
      → StopsOnWay P T L old.timeline.line.most instance new halt

-- the run halts at the end of the text
pub record HaltsAtEnd {V : Type 0} (P : Problem) (T : Telling P V) (old : Progress V) (new : Left V) (halt : Halt) : Type 0 where
  pub stops :
      (L : Plan) (instance : ℕ → List Test) (h : List Part) → Readied P T L instance h old
      → StopsOnWay P T (closed L) old.timeline.line.most instance new halt

-- ---- in a line

-- line n, whose action is due
pub record IsStoppedIn {V : Type 0} (P : Problem) (T : Telling P V) (L : Plan) (most : ℕ) (instance : ℕ → List Test) (n : ℕ) (account : Account V) (v : Verdict Frac64) : Type 0 where
  pub stopped : IsStoppedAt P T L most instance account v
  pub names : NamesLine n (called_label (next_line L (view_of P stopped.history))) v

abbrev pub StopsIn : {V : Type 0} (P : Problem) → Telling P V → Plan → ℕ → (ℕ → List Test) → ℕ → Left V → Halt → Type 0
StopsIn P T L most instance n new (Refused v) = IsStoppedIn P T L most instance n new.account v
StopsIn P T L most instance n new Memory = IsCutShort P T L most instance new.out Memory
StopsIn P T L most instance n new WriteFault = IsCutShort P T L most instance new.out WriteFault

-- the run halts at the action that is due, which line n calls
pub record HaltsInAct {V : Type 0} (d : Pair) (P : Problem) (T : Telling P V) (n : ℕ) (call : Call) (old : Progress V) (new : Left V) (halt : Halt) : Type 0 where
  pub stops :
      (L : Plan) (instance : ℕ → List Test) (h : List Part) → HasBegun L → instance old.timeline.line.now.acted ≡ call_tests d call
      → IsReached P T L instance old.timeline.line.now.acted old.timeline.line.now.time h old.timeline.line old.account
      → next_line L old.timeline.line.now ≡ Some (ActLine old.timeline.line.now.time (called_of d.domain d.problem call.name call.args))
      → StopsIn P T L old.timeline.line.most instance n new halt

abbrev pub TimeHalts : Problem → Plan → List Part → ℕ → model.Line → Time → Halt → Type 0
TimeHalts P L h n meant time (Refused v) = TimeFault P L h n meant time v
TimeHalts P L h n meant time Memory = ⊥
TimeHalts P L h n meant time WriteFault = ⊥

-- a line with this number and this time cannot be played
pub record HaltsAtMoment {V : Type 0} (P : Problem) (T : Telling P V) (n : ℕ) (time : Time) (run : Progress V) (halt : Halt) : Type 0 where
  pub refused :
      (L : Plan) (instance : ℕ → List Test) (h : List Part) (meant : model.Line) → Readied P T L instance h run
      → model.time_of meant ≡ value_of time → TimeHalts P L h n meant time halt

-- the lines before are worked, and what is told is of them
pub record IsStoppedBefore {V : Type 0} (d : Pair) (P : Problem) (T : Telling P V) (ls : List Line) (most : ℕ) (line : Line) (account : Account V) (v : Verdict Frac64) : Type 0 where
  pub history : List Part
  pub reported : IsReported P T (plan_of d ls false) most (instances_of d ls) history account
  pub waits : IsWaiting P (plan_of d ls false) most (instances_of d ls) history
  pub meant : model.Line
  pub meant_is : line_meant d line ≡ meant ∷ []
  pub time : Time
  pub time_is : HasTime line time
  pub why : TimeFault P (plan_of d ls false) history (number_in line) meant time v

-- the line has its place and its time, and the run halts on the way to it or in it
pub record IsStoppedBehind {V : Type 0} (d : Pair) (P : Problem) (T : Telling P V) (ls : List Line) (most : ℕ) (line : Line) (account : Account V) (v : Verdict Frac64) : Type 0 where
  pub begun : HasBegun (plan_of d (ls ++ line ∷ []) false)
  pub value : HasValue line
  pub stopped : IsStoppedIn P T (plan_of d (ls ++ line ∷ []) false) most (instances_of d (ls ++ line ∷ [])) (number_in line) account v

-- so it is, and a fault comes
pub record IsCutShortIn {V : Type 0} (d : Pair) (P : Problem) (T : Telling P V) (ls : List Line) (most : ℕ) (line : Line) (out : List ℕ) (halt : Halt) : Type 0 where
  pub value : HasValue line
  pub cut : IsCutShort P T (plan_of d (ls ++ line ∷ []) false) most (instances_of d (ls ++ line ∷ [])) out halt

abbrev pub StopsInLine : {V : Type 0} → Pair → (P : Problem) → Telling P V → List Line → ℕ → Line → Left V → Halt → Type 0
StopsInLine d P T ls most line new (Refused v) =
    IsStoppedBefore d P T ls most line new.account v ⊎ IsStoppedBehind d P T ls most line new.account v
StopsInLine d P T ls most line new Memory = IsCutShortIn d P T ls most line new.out Memory
StopsInLine d P T ls most line new WriteFault = IsCutShortIn d P T ls most line new.out WriteFault

-- the run halts at a line, or on its way to it
pub record HaltsInLine {V : Type 0} (d : Pair) (P : Problem) (T : Telling P V) (line : Line) (old : Progress V) (new : Left V) (halt : Halt) : Type 0 where
  pub stops :
      (ls : List Line) (h : List Part) → ReadiedFor d P T ls h old
      → StopsInLine d P T ls old.timeline.line.most line new halt

-- ---- in a text

-- the plan is refused, and what is told is of the history before
pub record IsStoppedInText {V : Type 0} (d : Pair) (P : Problem) (T : Telling P V) (most : ℕ) (goes_on : Bool) (whole piece : List ℕ) (account : Account V) (v : Verdict Frac64) : Type 0 where
  pub refusal : Refusal d P most goes_on whole piece v
  pub told : IsTold P T (plan_in d refusal.reading) account refusal.history

-- a fault comes on the way that the lines of the text tell
pub record IsCutShortInText {V : Type 0} (d : Pair) (P : Problem) (T : Telling P V) (most : ℕ) (goes_on : Bool) (whole out : List ℕ) (halt : Halt) : Type 0 where
  pub reading : Reading
  pub cut : IsCutShort P T (plan_in d reading) most (instances_of d reading.lines) out halt
  pub played : IsPlayedOn d P most goes_on whole reading cut.history

abbrev pub StopsInText : {V : Type 0} → Pair → (P : Problem) → Telling P V → ℕ → Bool → List ℕ → List ℕ → Left V → Halt → Type 0
StopsInText d P T most goes_on whole piece new (Refused v) = IsStoppedInText d P T most goes_on whole piece new.account v
StopsInText d P T most goes_on whole piece new Memory = IsCutShortInText d P T most goes_on whole new.out Memory
StopsInText d P T most goes_on whole piece new WriteFault = IsCutShortInText d P T most goes_on whole new.out WriteFault
