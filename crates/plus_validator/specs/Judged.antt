-- The report and the verdict of a plan text.
use Rattle.std.specs.Prelude.{◌≡◌, ◌≢◌, ℕ, List, ◌++◌, Option, Result, Ok, Err}
use Rattle.plus_io.specs.Faults.{Rose}
use Rattle.plus_io.specs.Taken.{Took, TookPart}
use Rattle.plus_model.specs.Terms.{Problem}
use Rattle.plus_number.specs.declared.frac.Frac64.{Frac64}
use Rattle.plus_number.specs.Frac.{fraction_of}
use Rattle.plus_state.specs.View.{Labels}
use Rattle.plus_tree.specs.declared.trees.Domain.{Domain}
use Rattle.plus_tree.specs.declared.trees.Problem as tree
use Rattle.plus_report.specs.declared.verdicts.Verdict.{Verdict}
use Rattle.plus_report.specs.declared.verdicts.Verdict.TheVariants.{Valid}
use Rattle.plus_report.specs.Verdicts.{verdict_text}
use Rattle.plus_validator.specs.declared.halt.Halt.{Halt}
use Rattle.plus_validator.specs.declared.halt.Halt.TheVariants.{Refused, Memory, WriteFault}
use Rattle.plus_validator.specs.declared.judgement.Judgement.{Judgement}
use Rattle.plus_validator.specs.declared.judge.Judged.{Judged}
use Rattle.plus_validator.specs.declared.judge.Outcome.{Outcome}
use Rattle.plus_validator.specs.declared.judge.Outcome.TheVariants as outcomes
use Rattle.plus_validator.specs.declared.memory.Report.{Report}
use Rattle.plus_validator.specs.declared.run.Run.{Run}
use Rattle.plus_validator.specs.Accepted.{IsAccepted}
use Rattle.plus_validator.specs.Outcomes.{outcome_of}
use Rattle.plus_validator.specs.Validates.{IsRefusedIn}
use Rattle.plus_validator.specs.Verdicts.{JudgesText}

-- what was played gives this verdict
abbrev pub GivesVerdict : Result (Unit {0}) Halt → Verdict Frac64 → Type 0
GivesVerdict (Ok u) v = v ≡ Valid
GivesVerdict (Err (Refused w)) v = v ≡ w
GivesVerdict (Err Memory) v = ⊥
GivesVerdict (Err WriteFault) v = ⊥

-- what is said of a plan that was played so: its verdict with its line, and what is counted
pub record Says {S : Type 0} (N : Labels) (P : Problem) (run : Run S) (played : Result (Unit {0}) Halt) (j : Judged) : Type 0 where
  pub gives : GivesVerdict played j.verdict
  pub line : j.line.items ≡ verdict_text fraction_of N P j.verdict
  pub entries : j.entries ≡ run.entries
  pub firings : j.firings ≡ run.firings

-- and what is kept of the report with that line
pub record SumsUp (N : Labels) (P : Problem) (run : Run Report) (played : Result (Unit {0}) Halt) (j : Judgement) : Type 0 where
  pub says : Says N P run played j.judged
  pub outcome : j.outcome ≡ outcome_of j.judged.verdict
  pub bytes : j.bytes.items ≡ run.teller.bytes.items ++ verdict_text fraction_of N P j.judged.verdict

-- That is written, or the sink failed and took a part of it, or memory is wanting and nothing is written.
pub data Concludes (N : Labels) (P : Problem) (run : Run Report) (played : Result (Unit {0}) Halt) (before now : ℕ) (old new : Option (List ℕ)) (outcome : Outcome) : Type 0 where
  told : (j : Judgement) → SumsUp N P run played j → outcome ≡ j.outcome → Took old new j.bytes.items → Concludes N P run played before now old new outcome
  broken :
      (j : Judgement) → SumsUp N P run played j → outcome ≡ outcomes.WriteFault → Rose before now → TookPart old new j.bytes.items
      → Concludes N P run played before now old new outcome
  no_memory : outcome ≡ outcomes.NoMemory → new ≡ old → Concludes N P run played before now old new outcome

-- no fault
abbrev pub IsPlain : Outcome → Type 0
IsPlain outcomes.Valid = Unit {0}
IsPlain outcomes.Invalid = Unit {0}
IsPlain outcomes.Beyond = Unit {0}
IsPlain outcomes.BadText = Unit {0}
IsPlain outcomes.ReadFault = ⊥
IsPlain outcomes.WriteFault = ⊥
IsPlain outcomes.NoMemory = ⊥

-- the plan text stands in these bytes: its outcome is so, its report with the verdict's line is so, and so are the verdict and the
-- counts
pub record IsJudged (d : Domain) (p : tree.Problem) (most : ℕ) (bytes written : List ℕ) (j : Judgement) : Type 0 where
  pub valid : j.outcome ≡ outcomes.Valid → IsAccepted d p most bytes written
  pub refused : j.outcome ≢ outcomes.Valid → IsRefusedIn d p most bytes j.outcome written
  pub plain : IsPlain j.outcome
  pub judged : JudgesText d p most bytes j.judged
