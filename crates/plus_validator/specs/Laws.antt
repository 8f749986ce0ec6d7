-- What a reader of an answer may rely on, over the definitions alone.
use Rattle.std.specs.Prelude.{◌≡◌, ℕ, ◌+◌, ◌≤◌, Bool, true, false, List, ◌++◌, length, map, All, Ok}
use Rattle.plus_model.specs.Terms as terms
use Rattle.plus_model.specs.Plan.{Plan, IsInOrder}
use Rattle.plus_model.specs.History.{Part}
use Rattle.plus_state.specs.View.{Labels}
use Rattle.plus_tree.specs.declared.trees.Domain.{Domain}
use Rattle.plus_tree.specs.declared.trees.Problem.{Problem}
use Rattle.plus_plan.specs.declared.forms.Line.{Line}
use Rattle.plus_plan.specs.declared.forms.PlanForm.TheVariants.{Timed}
use Rattle.plus_plan.specs.Lines.{plan_lines}
use Rattle.plus_validator.specs.declared.judge.Outcome.{Outcome}
use Rattle.plus_validator.specs.declared.judge.Outcome.TheVariants.{Valid, Invalid}
use Rattle.plus_validator.specs.declared.judge.Judged.{Judged}
use Rattle.plus_validator.specs.Accepted.{IsAccepted}
use Rattle.plus_report.specs.Report.{report_of}
use Rattle.plus_timeline.specs.Played.{entries_of}
use Rattle.plus_validator.specs.Asking.{firings_of, instances_of}
use Rattle.plus_io.specs.Limits.{text_limit}
use Rattle.plus_validator.specs.Outcomes.{outcome_of}
use Rattle.plus_validator.specs.Plans.{Pair, lines_meant, plan_of, HasValue}
use Rattle.plus_validator.specs.Refused.{IsRefused}
use Rattle.plus_validator.specs.Tame.{StaysInside, IsTame, IsTameText, HasTrajectory}
use Rattle.plus_validator.specs.Validates.{IsUngrounded, IsWhole}
use Rattle.plus_validator.specs.Verdicts.{JudgesText, SameJudgement, IsAnswered}

-- a plan for the pair, accepted or refused
pub data IsJudgedFor (d : Domain) (p : Problem) : Type 0 where
  accepted : (most : ℕ) (text bytes : List ℕ) → IsAccepted d p most text bytes → IsJudgedFor d p
  refused :
      (most : ℕ) (text : List ℕ) (goes_on : Bool) (outcome : Outcome) (bytes : List ℕ)
      → IsRefused d p most text goes_on outcome bytes → IsJudgedFor d p

-- where the pair is refused, no plan for it is accepted or refused
abbrev pub PairOrPlan : Type 0
PairOrPlan = (d : Domain) (p : Problem) (line : List ℕ) → IsUngrounded d p line → IsJudgedFor d p → ⊥

-- the bytes of a plan text have one answer: one outcome, and one report with its verdict line
abbrev pub OneAnswer : Type 0
OneAnswer =
    (d : Domain) (p : Problem) (most : ℕ) (bytes : List ℕ) (one other : Outcome) (text text' : List ℕ)
    → IsWhole d p most bytes one text → IsWhole d p most bytes other text' → (one ≡ other) × (text ≡ text')

-- a pair that is not grounded is refused with one line
abbrev pub OneLine : Type 0
OneLine = (d : Domain) (p : Problem) (line other : List ℕ) → IsUngrounded d p line → IsUngrounded d p other → line ≡ other

-- a plan text has one judgement
abbrev pub OneJudgement : Type 0
OneJudgement =
    (d : Domain) (p : Problem) (most : ℕ) (bytes : List ℕ) (one other : Judged)
    → JudgesText d p most bytes one → JudgesText d p most bytes other → SameJudgement one other

-- a judgement is what the check may say: a report, and then the verdict's line
abbrev pub JudgedAsChecked : Type 0
JudgedAsChecked =
    (d : Domain) (p : Problem) (most : ℕ) (bytes : List ℕ) (j : Judged)
    → JudgesText d p most bytes j → (report : List ℕ) × IsAnswered d p most bytes (outcome_of j.verdict) (report ++ j.line.items)

-- and all that the check may say is so
abbrev pub CheckedAsJudged : Type 0
CheckedAsJudged =
    (d : Domain) (p : Problem) (most : ℕ) (bytes : List ℕ) (j : Judged) (outcome : Outcome) (written : List ℕ)
    → JudgesText d p most bytes j → IsAnswered d p most bytes outcome written
    → (outcome ≡ outcome_of j.verdict) × (report : List ℕ) × (written ≡ report ++ j.line.items)

-- a history has no more moments and events than its report has bytes
abbrev pub CountsFit : Type 0
CountsFit = (N : Labels) (P : terms.Problem) (L : Plan) (h : List Part) → entries_of h + firings_of h ≤ length (report_of N P L h)

-- ---- a plan that stays inside the limits

-- it is not refused but by a breach, or by a line out of its place
abbrev pub TameDecides : Type 0
TameDecides =
    (d : Domain) (p : Problem) (most : ℕ) (text : List ℕ) (outcome : Outcome) (bytes : List ℕ)
    → IsTameText d p most text → IsRefused d p most text false outcome bytes → outcome ≡ Invalid

-- a plan that is refused as invalid has no trajectory, tame or not
abbrev pub InvalidIsNone : Type 0
InvalidIsNone =
    (d : Domain) (p : Problem) (most : ℕ) (text bytes : List ℕ)
    → IsRefused d p most text false Invalid bytes → HasTrajectory d p text → ⊥

-- the answer is that the plan is valid, and it has a trajectory; or that it is invalid, and it has none
pub data IsDecided (d : Domain) (p : Problem) (text : List ℕ) (outcome : Outcome) : Type 0 where
  is_valid : outcome ≡ Valid → HasTrajectory d p text → IsDecided d p text outcome
  is_invalid : outcome ≡ Invalid → (HasTrajectory d p text → ⊥) → IsDecided d p text outcome

-- whatever the answer, it is decided
abbrev pub Decides : Type 0
Decides =
    (d : Domain) (p : Problem) (most : ℕ) (text : List ℕ) (outcome : Outcome) (bytes : List ℕ)
    → IsTameText d p most text → IsWhole d p most text outcome bytes → IsDecided d p text outcome

-- an accepted plan is tame
abbrev pub ValidIsTame : Type 0
ValidIsTame =
    (d : Domain) (p : Problem) (most : ℕ) (text bytes : List ℕ) → IsAccepted d p most text bytes → IsTameText d p most text

-- of lines in order whose times are values only the text's end is to be asked for
abbrev pub InOrderIsTame : Type 0
InOrderIsTame =
    (d : Pair) (P : terms.Problem) (most : ℕ) (lines : List Line)
    → IsInOrder (lines_meant d lines) → All HasValue lines → StaysInside P (plan_of d lines true) most (instances_of d lines)
    → IsTame d P most lines

-- A plan that is refused as invalid is tame: so the tame are those whose answer is no limit.
abbrev pub InvalidIsTame : Type 0
InvalidIsTame =
    (d : Domain) (p : Problem) (most : ℕ) (text bytes : List ℕ) (lines : List Line)
    → length text ≤ text_limit → plan_lines Timed text ≡ map Ok lines
    → IsRefused d p most text false Invalid bytes → IsTameText d p most text
