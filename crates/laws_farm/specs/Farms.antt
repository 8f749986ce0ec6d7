-- The pair that the texts of a farm spell, and what is replied of a trial, since there is one.
use Rattle.std.specs.Prelude.{◌≡◌, ℕ, ◌≤◌, List, Option, Some}
use Rattle.plus_tree.specs.declared.trees.Domain.{Domain}
use Rattle.plus_tree.specs.declared.trees.Problem.{Problem}
use Rattle.plus_report.specs.declared.status.Status.{Status}
use Rattle.plus_report.specs.declared.status.Status.TheVariants as s
use Rattle.plus_validator.specs.declared.judge.Judged.{Judged}
use Rattle.plus_validator.specs.Outcomes.{outcome_of, status_of}
use Rattle.plus_validator.specs.Verdicts.{JudgesText}
use Rattle.plus_words.specs.Numbers.{default_happenings, tanks_of}
use Rattle.plus_reply.specs.Pair.Pair.{SpellsWellTyped}
use Rattle.plus_reply.specs.Reply.{Replied, RepliedInPart}
use Rattle.plus_trial.specs.Summary.{summary_text}
use Rattle.plus_trial.specs.Trial.{farm_domain, farm_problem, farm_plan, summary_of}
use Rattle.plus_run.specs.Command.{Trial}
use Rattle.plus_run.specs.Headline.{IsAnswer}
use Rattle.plus_run.specs.Laws.{IsSettled}

-- for each number of tanks that a trial may have, the texts of the farm are within their limits and spell a pair, which is well typed
abbrev pub FarmsArePairs : Type 0
FarmsArePairs = (n : ℕ) → 1 ≤ n → n ≤ 1000 → (d : Domain) × (p : Problem) × SpellsWellTyped farm_domain (farm_problem n) d p

-- The status and the line of a trial that is worked: they are those of the judgement on the farm's plan, for the pair that its texts spell.
-- It is a verdict, or a limit that is passed in the working of the plan.
pub record IsWorked (n : ℕ) (status : Status) (line : List ℕ) : Type 0 where
  pub d : Domain
  pub p : Problem
  pub judged : Judged
  pub pair : SpellsWellTyped farm_domain (farm_problem n) d p
  pub judges : JudgesText d p default_happenings (farm_plan n) judged
  pub status_is : status ≡ status_of (outcome_of judged.verdict)
  pub line_is : line ≡ summary_text (summary_of n judged)

-- A word names how many tanks a trial has. An answer to it that tells of no fault and of no want of memory is that of a trial that is
-- worked: no line says why the texts are no pair.
abbrev pub TrialsAreWorked : Type 0
TrialsAreWorked =
    (word : List ℕ) (n : ℕ) (bytes : List ℕ → Option (List ℕ)) (old new : Option (List ℕ)) (a b c d : ℕ) (status : Status)
    → tanks_of word ≡ Some n → IsAnswer (Some (Trial n)) bytes old new a b c d status → IsSettled status
    → Replied (IsWorked n) old new status

-- and where the sink failed, it took a part of what is replied of such a trial
abbrev pub CutTrialsAreWorked : Type 0
CutTrialsAreWorked =
    (word : List ℕ) (n : ℕ) (bytes : List ℕ → Option (List ℕ)) (old new : Option (List ℕ)) (a b c d : ℕ)
    → tanks_of word ≡ Some n → IsAnswer (Some (Trial n)) bytes old new a b c d s.WriteFault → RepliedInPart (IsWorked n) old new
