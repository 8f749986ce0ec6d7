-- The verdict on a plan text that is judged in memory: the line that tells it, and how much happens before it.
use Rattle.std.specs.Prelude.{◌≡◌, ℕ, Bool, false, List, Some, codes}
use Rattle.plus_number.specs.Frac.{fraction_of, IsFrac64}
use Rattle.plus_tree.specs.declared.trees.Domain.{Domain}
use Rattle.plus_tree.specs.declared.trees.Problem.{Problem}
use Rattle.plus_numbering.specs.declared.faults.GroundFault.{GroundFault}
use Rattle.plus_ground.specs.Refusals.{RefusesGround}
use Rattle.plus_expansion.specs.Expansion.{expanded, labels_meant}
use Rattle.plus_report.specs.declared.refusals.Early.{Early}
use Rattle.plus_report.specs.Refusals.{early_text}
use Rattle.plus_report.specs.declared.verdicts.Verdict.TheVariants.{Valid, Other}
use Rattle.plus_report.specs.Verdicts.{verdict_text}
use Rattle.plus_validator.specs.declared.judge.Judged.{Judged}
use Rattle.plus_validator.specs.declared.judge.Outcome.{Outcome}
use Rattle.plus_validator.specs.declared.judge.Outcome.TheVariants as outcomes
use Rattle.plus_validator.specs.Accepted.{IsAccepted}
use Rattle.plus_timeline.specs.Played.{entries_of}
use Rattle.plus_validator.specs.Asking.{firings_of}
use Rattle.plus_validator.specs.Outcomes.{outcome_of}
use Rattle.plus_validator.specs.Refused.{IsRefused}
use Rattle.plus_validator.specs.Validates.{fault_meant, IsUngrounded, IsRead, IsRefusal, IsWhole}

-- the pair is not grounded, the verdict and its line say why, and nothing happens
pub record RefusesPairWith (d : Domain) (p : Problem) (j : Judged) : Type 0 where
  pub fault : GroundFault
  pub refused : RefusesGround IsFrac64 d p fault
  pub early : Early
  pub told : fault_meant fault ≡ Some early
  pub verdict : j.verdict ≡ Other early
  pub line : j.line.items ≡ early_text early
  pub entries : j.entries ≡ 0
  pub firings : j.firings ≡ 0

-- the text is accepted, and the counts are those of what happens
pub record AcceptsWith (d : Domain) (p : Problem) (most : ℕ) (text : List ℕ) (j : Judged) : Type 0 where
  pub verdict : j.verdict ≡ Valid
  pub line : j.line.items ≡ codes "valid\n"
  pub bytes : List ℕ  -- the report and the line
  pub accepted : IsAccepted d p most text bytes
  pub entries : j.entries ≡ entries_of accepted.history
  pub firings : j.firings ≡ firings_of accepted.history

-- the text is refused with this verdict, and the counts are those of what happens before
pub record RefusesWith (d : Domain) (p : Problem) (most : ℕ) (text : List ℕ) (goes_on : Bool) (j : Judged) : Type 0 where
  pub refusal : IsRefusal (outcome_of j.verdict)
  pub line : j.line.items ≡ verdict_text fraction_of (labels_meant d p) (expanded d p) j.verdict
  pub bytes : List ℕ  -- the report and the line
  pub refused : IsRefused d p most text goes_on (outcome_of j.verdict) bytes
  pub verdict : j.verdict ≡ refused.verdict
  pub entries : j.entries ≡ entries_of refused.refusal.history
  pub firings : j.firings ≡ firings_of refused.refusal.history

-- the text, which goes on behind these bytes or not, is accepted or refused
pub data JudgesWhole (d : Domain) (p : Problem) (most : ℕ) (text : List ℕ) (goes_on : Bool) (j : Judged) : Type 0 where
  accepted : goes_on ≡ false → AcceptsWith d p most text j → JudgesWhole d p most text goes_on j
  refused : RefusesWith d p most text goes_on j → JudgesWhole d p most text goes_on j

-- the judgement on the plan text that stands in these bytes
pub data JudgesText (d : Domain) (p : Problem) (most : ℕ) (bytes : List ℕ) (j : Judged) : Type 0 where
  ungrounded : RefusesPairWith d p j → JudgesText d p most bytes j
  judged :
      (text : List ℕ) (goes_on : Bool) → IsRead bytes text goes_on → JudgesWhole d p most text goes_on j
      → JudgesText d p most bytes j

-- two judgements say the same: one outcome, one line, as many moments and as many events
pub record SameJudgement (one other : Judged) : Type 0 where
  pub outcome : outcome_of one.verdict ≡ outcome_of other.verdict
  pub line : one.line.items ≡ other.line.items
  pub entries : one.entries ≡ other.entries
  pub firings : one.firings ≡ other.firings

-- what the check of a plan text writes, with its outcome
pub data IsAnswered (d : Domain) (p : Problem) (most : ℕ) (bytes : List ℕ) (outcome : Outcome) (written : List ℕ) : Type 0 where
  for_pair : outcome ≡ outcomes.Beyond → IsUngrounded d p written → IsAnswered d p most bytes outcome written
  for_plan : IsWhole d p most bytes outcome written → IsAnswered d p most bytes outcome written
