-- What the check of a plan leaves written where it stops before the plan is judged: what the lines read so far tell.
use Rattle.std.specs.Prelude.{◌≡◌, ◌⊎◌, ℕ, ◌≤◌, Bool, false, List, [], ◌++◌, length, map, All, Option, None, IfSome, Ok}
use Rattle.plus_io.specs.Files.{Takes, IsPrefix}
use Rattle.plus_io.specs.Limits.{piece_size}
use Rattle.plus_io.specs.Taken.{Took, TookPart}
use Rattle.plus_model.specs.Terms.{Problem}
use Rattle.plus_model.specs.History.{Part}
use Rattle.plus_model.specs.Trajectory.{Prefix}
use Rattle.plus_number.specs.Frac.{IsFrac64}
use Rattle.plus_state.specs.View.{Labels}
use Rattle.plus_tree.specs.declared.trees.Domain.{Domain}
use Rattle.plus_tree.specs.declared.trees.Problem as tree
use Rattle.plus_plan.specs.declared.forms.Line.{Line}
use Rattle.plus_plan.specs.declared.forms.PlanForm.TheVariants.{Timed}
use Rattle.plus_plan.specs.Lines.{plan_lines}
use Rattle.plus_expansion.specs.Expansion.{expanded, labels_meant}
use Rattle.plus_expansion.specs.Counting.{IsGroundable}
use Rattle.plus_report.specs.Report.{report_of}
use Rattle.plus_timeline.specs.Played.{entries_of}
use Rattle.plus_validator.specs.Asking.{instances_of, IsClear}
use Rattle.plus_validator.specs.Plans.{Pair, pair, plan_of, Reading, plan_in, HasValue}
use Rattle.plus_validator.specs.Refused.{IsWaiting, IsPlayedOn, IsCut, WholeLines}
use Rattle.plus_validator.specs.Validates.{IsRead, BreaksOff}

-- All whole lines of this text are played: each is a line, all are worked in one history, nothing that is asked before fails,
-- and this is the history's report.
pub record IsToldSoFar (d : Pair) (N : Labels) (P : Problem) (most : ℕ) (text report : List ℕ) : Type 0 where
  pub groundable : IsGroundable IsFrac64 d.domain d.problem
  pub whole : List ℕ
  pub piece : List ℕ
  pub cut : IsCut text whole piece
  pub lines : List Line
  pub read : plan_lines Timed whole ≡ map Ok lines
  pub times : All HasValue lines
  pub history : List Part
  pub prefix : Prefix P (plan_of d lines false) history
  pub few : entries_of history ≤ most
  pub clear : IsClear P (plan_of d lines false) most (instances_of d lines) history
  pub waits : IsWaiting P (plan_of d lines false) most (instances_of d lines) history
  pub written : report ≡ report_of N P (plan_of d lines false) history

-- that of a pair
abbrev pub TellsSoFar : Domain → tree.Problem → ℕ → List ℕ → List ℕ → Type 0
TellsSoFar d p most text report = IsToldSoFar (pair d p) (labels_meant d p) (expanded d p) most text report

-- ---- the shelf fails

-- Nothing is picked, and nothing was written; or all that the lines tell is out that stand whole in what was read.
pub data StopsReading (d : Domain) (p : tree.Problem) (most : ℕ) (bytes picked rest old new : Option (List ℕ)) : Type 0 where
  unpicked : picked ≡ None → new ≡ old → StopsReading d p most bytes picked rest old new
  reading :
      (read report : List ℕ) → Takes bytes rest read → TellsSoFar d p most read report → Took old new report
      → StopsReading d p most bytes picked rest old new

-- the sink took the report for a beginning of the plan text
pub record TookLines (d : Domain) (p : tree.Problem) (most : ℕ) (text : List ℕ) (old new : Option (List ℕ)) : Type 0 where
  pub read : List ℕ
  pub begins : IsPrefix read text
  pub report : List ℕ
  pub told : TellsSoFar d p most read report
  pub took : Took old new report

-- ---- on the way that a line tells

-- The first lines of the plan text that stands in these bytes are played, or all, and then its end may be: those before the last
-- are worked in one history, which may stop on the way that the last tells; nothing that is asked before fails, and this is the
-- history's report.
pub record IsToldOnWay (d : Pair) (N : Labels) (P : Problem) (most : ℕ) (bytes report : List ℕ) : Type 0 where
  pub groundable : IsGroundable IsFrac64 d.domain d.problem
  pub text : List ℕ
  pub goes_on : Bool
  pub within : IsRead bytes text goes_on
  pub whole : List ℕ
  pub piece : List ℕ
  pub cut : WholeLines goes_on text whole piece
  pub reading : Reading
  pub history : List Part
  pub played : IsPlayedOn d P most goes_on whole reading history
  pub prefix : Prefix P (plan_in d reading) history
  pub few : entries_of history ≤ most
  pub clear : IsClear P (plan_in d reading) most (instances_of d reading.lines) history
  pub written : report ≡ report_of N P (plan_in d reading) history

-- that of a pair
abbrev pub TellsOnWay : Domain → tree.Problem → ℕ → List ℕ → List ℕ → Type 0
TellsOnWay d p most bytes report = IsToldOnWay (pair d p) (labels_meant d p) (expanded d p) most bytes report

-- ---- memory is wanting

-- the sink took first bytes of such a report, and these may be all
pub record TookSoFar (d : Domain) (p : tree.Problem) (most : ℕ) (text : List ℕ) (old new : Option (List ℕ)) : Type 0 where
  pub report : List ℕ
  pub told : TellsOnWay d p most text report
  pub out : List ℕ
  pub begins : IsPrefix out report
  pub took : Took old new out

-- or nothing
abbrev pub LeavesReport : Domain → tree.Problem → ℕ → Option (List ℕ) → Option (List ℕ) → Option (List ℕ) → Type 0
LeavesReport d p most bytes old new = (new ≡ old) ⊎ IfSome bytes (λ text. TookSoFar d p most text old new)

-- ---- the sink fails

-- it took first bytes of such a report, and not all
pub record BreaksOffSoFar (d : Domain) (p : tree.Problem) (most : ℕ) (text : List ℕ) (old new : Option (List ℕ)) : Type 0 where
  pub report : List ℕ
  pub told : TellsOnWay d p most text report
  pub part : TookPart old new report

-- so it is, or it took all that is due before the end of the plan text, and then a part
pub data StopsWriting (d : Domain) (p : tree.Problem) (most : ℕ) (bytes old new : Option (List ℕ)) : Type 0 where
  on_way : IfSome bytes (λ text. BreaksOffSoFar d p most text old new) → StopsWriting d p most bytes old new
  at_end : IfSome bytes (λ text. BreaksOff d p most text old new) → StopsWriting d p most bytes old new

-- ---- the report is not held back

-- The reading of a plan is ahead of its report by one piece at most, where the shelf tells what it holds: nothing was read of it; or a
-- front and one piece more, and the report of all lines that stand whole in the front is out.
pub data KeepsUp (d : Domain) (p : tree.Problem) (most : ℕ) (bytes rest old new : Option (List ℕ)) : Type 0 where
  unread : Takes bytes rest [] → KeepsUp d p most bytes rest old new
  ahead :
      (front piece report more : List ℕ) → Takes bytes rest (front ++ piece) → length piece ≤ piece_size → TellsSoFar d p most front report
      → Took old new (report ++ more) → KeepsUp d p most bytes rest old new
