-- What an answer of the top call shows.
use Rattle.std.specs.Prelude.{◌≡◌, ◌⊎◌, ℕ, List, Option, Some, None, IfSome, codes}
use Rattle.plus_io.specs.Faults.{Rose}
use Rattle.plus_tree.specs.declared.trees.Domain.{Domain}
use Rattle.plus_tree.specs.declared.trees.Problem.{Problem}
use Rattle.plus_report.specs.declared.status.Status.{Status}
use Rattle.plus_report.specs.declared.status.Status.TheVariants as s
use Rattle.plus_validator.specs.Leaving.{TookLines, TookSoFar, BreaksOffSoFar}
use Rattle.plus_grammar.specs.Texts.{IsDomainText, IsProblemText}
use Rattle.plus_printer.specs.Canon.{domain_text, problem_text}
use Rattle.plus_run.specs.Command.{Command, Check, ShowDomain, ShowProblem, Numeric, Trial, Translate, Lift, Plan, Trim}
use Rattle.plus_reply.specs.Pair.Pair.{depth_limit, DomainRefused, ProblemRefused}
pub use Rattle.plus_reply.specs.Pair.Pair.{SpellsWellTyped}
use Rattle.plus_reply.specs.Statuses.{Writes}
pub use Rattle.plus_report.specs.Statuses.{exit_number}
use Rattle.plus_reply.specs.Reply.{Replied, RepliedInPart}
use Rattle.plus_trial.specs.Trial.{IsTrial}
use Rattle.plus_translate_command.specs.Translate.{Translates}
use Rattle.plus_lift.specs.Command.Lift.{Lifts}
use Rattle.plus_plan_command.specs.Plan.{Plans}
use Rattle.plus_trim_command.specs.Trim.{Trims}
use Rattle.plus_run.specs.Checks.{Checks, OnPlan}
use Rattle.plus_run.specs.Numeric.{PlaysUntimed}
use Rattle.plus_run.specs.Shown.{Shows}

-- the line that is written where the words mean no command
abbrev pub usage_line : List ℕ
usage_line = codes "usage: planplus COMMAND ARGUMENTS\n"

-- What a command answers, where the shelf tells what stands under its names: the status, and the whole text that is written.
abbrev pub Answers : Option Command → (List ℕ → Option (List ℕ)) → Status → List ℕ → Type 0
Answers None bytes status text = (status ≡ s.Usage) × (text ≡ usage_line)
Answers (Some (Check d p l n)) bytes status text = IfSome (bytes d) (λ ds. IfSome (bytes p) (λ ps. Checks n ds ps (bytes l) status text))
Answers (Some (ShowDomain file)) bytes status text =
    IfSome (bytes file) (λ shown. Shows (IsDomainText depth_limit) domain_text DomainRefused shown status text)
Answers (Some (ShowProblem file)) bytes status text =
    IfSome (bytes file) (λ shown. Shows (IsProblemText depth_limit) problem_text ProblemRefused shown status text)
Answers (Some (Numeric d p l)) bytes status text =
    IfSome (bytes d) (λ ds. IfSome (bytes p) (λ ps. IfSome (bytes l) (λ ls. PlaysUntimed ds ps ls status text)))
Answers (Some (Trial n)) bytes status text = IsTrial n status text
Answers (Some (Translate file q d p)) bytes status text = IfSome (bytes d) (λ ds. IfSome (bytes p) (λ ps. Translates file q ds ps status text))
Answers (Some (Lift q d p l)) bytes status text =
    IfSome (bytes d) (λ ds. IfSome (bytes p) (λ ps. IfSome (bytes l) (λ ls. Lifts q ds ps ls status text)))
Answers (Some (Plan q k n cut d p)) bytes status text = IfSome (bytes d) (λ ds. IfSome (bytes p) (λ ps. Plans q k n cut ds ps status text))
Answers (Some (Trim d p l)) bytes status text =
    IfSome (bytes d) (λ ds. IfSome (bytes p) (λ ps. IfSome (bytes l) (λ ls. Trims ds ps ls status text)))

-- A check writes while it reads its plan: of its pair, of what the plan has, and of how many moments it may enter, this holds. Every
-- other command writes when all is read.
abbrev pub OnWay : Option Command → (List ℕ → Option (List ℕ)) → (ℕ → Domain → Problem → List ℕ → Type 0) → Type 0
OnWay (Some (Check d p l n)) bytes Holds = IfSome (bytes d) (λ ds. IfSome (bytes p) (λ ps. OnPlan ds ps (bytes l) (Holds n)))
OnWay _ bytes Holds = ⊥

-- the status tells of no fault of a file or of the output, and of no want of memory
abbrev pub IsSettled : Status → Type 0
IsSettled s.ReadFault = ⊥
IsSettled s.WriteFault = ⊥
IsSettled s.NoMemory = ⊥
IsSettled _ = Unit {0}

-- What the status of the top call shows: of the files and the output, and of the counts of faults before and now.
pub record IsAnswer (command : Option Command) (bytes : List ℕ → Option (List ℕ)) (old new : Option (List ℕ)) (read_before read_now write_before write_now : ℕ) (status : Status) : Type 0 where
  -- the sink took what the command answers with this status; or it is a check whose plan the shelf does not tell
  pub replied : IsSettled status → Replied (Answers command bytes) old new status ⊎ OnWay command bytes (λ most d p plan. ⊥)
  pub usage : status ≡ s.Usage → command ≡ None
  pub no_command : command ≡ None → Writes usage_line s.Usage old new write_before write_now status
  -- a file failed: the sink took nothing, or the report for the whole lines of a beginning of the plan text, and no verdict line
  pub read_fault :
      status ≡ s.ReadFault
      → Rose read_before read_now × ((new ≡ old) ⊎ OnWay command bytes (λ most d p plan. TookLines d p most plan old new))
  -- the sink failed: it took the beginning of what the command answers, and not all; or that of the report of a history that the first
  -- lines of the plan text tell
  pub write_fault :
      status ≡ s.WriteFault
      → Rose write_before write_now
      × (RepliedInPart (Answers command bytes) old new ⊎ OnWay command bytes (λ most d p plan. BreaksOffSoFar d p most plan old new))
  -- memory was wanting: the sink took nothing, or first bytes of such a report, and no verdict line
  pub no_memory : status ≡ s.NoMemory → (new ≡ old) ⊎ OnWay command bytes (λ most d p plan. TookSoFar d p most plan old new)

-- a process ends with this number, which is that of a status that shows so much
abbrev pub EndsWith : ℕ → (Status → Type 0) → Type 0
EndsWith number P = (status : Status) × (number ≡ exit_number status) × P status

-- A process may end with this number after this command: with some files, an output and their faults an answer shows so much.
pub record MayEnd (command : Option Command) (number : ℕ) : Type 0 where
  pub bytes : List ℕ → Option (List ℕ)
  pub old : Option (List ℕ)
  pub new : Option (List ℕ)
  pub read_before : ℕ
  pub read_now : ℕ
  pub write_before : ℕ
  pub write_now : ℕ
  pub ends : EndsWith number (IsAnswer command bytes old new read_before read_now write_before write_now)
