-- What an answer shows, status by status: of a text that was written, of a part of it, and of what is out where a command stopped.
use Rattle.std.specs.Prelude.{◌≡◌, ℕ, false, List, [], Option, Some, None, IfSome}
use Rattle.plus_io.specs.Faults.{Rose}
use Rattle.plus_io.specs.Taken.{Took, TookPart}
use Rattle.plus_tree.specs.declared.trees.Domain.{Domain}
use Rattle.plus_tree.specs.declared.trees.Problem.{Problem}
use Rattle.plus_report.specs.declared.refusals.Early.{Early}
use Rattle.plus_report.specs.Refusals.{early_text}
use Rattle.plus_report.specs.declared.status.Status.{Status}
use Rattle.plus_report.specs.declared.status.Status.TheVariants as s
use Rattle.plus_grammar.specs.Texts.{IsDomainText, IsProblemText}
use Rattle.plus_printer.specs.Canon.{domain_text, problem_text}
use Rattle.plus_numeric.specs.declared.answer.Kind.{Kind}
use Rattle.plus_numeric.specs.declared.source.Source.TheVariants.{Given}
use Rattle.plus_numeric.specs.Answers.{IsAccepted, IsRefused}
use Rattle.plus_numeric.specs.Verdicts.{kind_status}
use Rattle.plus_validator.specs.declared.judge.Outcome.{Outcome}
use Rattle.plus_validator.specs.Leaving.{TookLines, TookSoFar, BreaksOffSoFar}
use Rattle.plus_validator.specs.Outcomes.{status_of}
use Rattle.plus_validator.specs.Validates.{Accepts, Refuses, BreaksOff, RefusesPair, RefusesPairInPart}
use Rattle.plus_reply.specs.Pair.Pair.{depth_limit, PairRefused, DomainRefused, ProblemRefused, SpellsWellTyped}
use Rattle.plus_reply.specs.Reply.{Replied, RepliedInPart}
use Rattle.plus_reply.specs.Statuses.{early_status, Writes}
use Rattle.plus_trial.specs.Trial.{IsTrial}
use Rattle.plus_translate_command.specs.Translate.{Translates}
use Rattle.plus_lift.specs.Command.Lift.{Lifts}
use Rattle.plus_plan_command.specs.Plan.{Plans}
use Rattle.plus_trim_command.specs.Trim.{Trims}
use Rattle.plus_run.specs.Command.{Command, Check, ShowDomain, ShowProblem, Numeric, Trial, Translate, Lift, Plan, Trim}
use Rattle.plus_run.specs.Headline.{usage_line, IsAnswer}
use Rattle.plus_run.specs.Numeric.{valid_line}
use Rattle.plus_run.specs.Shown.{IsSpelled}

-- ---- `show`

-- the sink took the canonical text of the tree
pub record IsShown {T : Type 0} (Spells : List ℕ → T → Type 0) (canon : T → List ℕ) (text : List ℕ) (old new : Option (List ℕ)) : Type 0 where
  pub tree : T
  pub spelled : IsSpelled Spells text tree
  pub took : Took old new (canon tree)

-- the text is refused, and the sink took the line that says why
pub record IsNotShown (Refused : List ℕ → Early → Type 0) (text : List ℕ) (old new : Option (List ℕ)) (status : Status) : Type 0 where
  pub early : Early
  pub cause : Refused text early
  pub status_is : status ≡ early_status early
  pub took : Took old new (early_text early)

-- the sink failed, and took some first bytes of the one or the other, and not all
pub data IsShownInPart {T : Type 0} (Spells : List ℕ → T → Type 0) (canon : T → List ℕ) (Refused : List ℕ → Early → Type 0) (text : List ℕ) (old new : Option (List ℕ)) : Type 0 where
  of_text : (tree : T) → IsSpelled Spells text tree → TookPart old new (canon tree) → IsShownInPart Spells canon Refused text old new
  of_line : (e : Early) → Refused text e → TookPart old new (early_text e) → IsShownInPart Spells canon Refused text old new

-- ---- `numeric`

-- the three texts spell a well-typed pair and a plan of it
pub record IsNumeric (domain problem plan : List ℕ) : Type 0 where
  pub d : Domain
  pub p : Problem
  pub pair : SpellsWellTyped domain problem d p
  pub accepted : IsAccepted d p plan false []

-- Why they do not, with the status and the line that say so: the two texts are no well-typed pair; or the pair goes beyond actions
-- and numbers, or is not grounded, or the plan is refused.
pub data IsNotNumeric (domain problem plan : List ℕ) (status : Status) (line : List ℕ) : Type 0 where
  no_pair : (e : Early) → PairRefused domain problem e → status ≡ early_status e → line ≡ early_text e → IsNotNumeric domain problem plan status line
  no_plan :
      (d : Domain) (p : Problem) (kind : Kind) → SpellsWellTyped domain problem d p → IsRefused Given d p plan kind line
      → status ≡ kind_status kind → IsNotNumeric domain problem plan status line

-- the sink took `valid`
pub record RunsNumeric (domain problem plan : List ℕ) (old new : Option (List ℕ)) : Type 0 where
  pub is : IsNumeric domain problem plan
  pub took : Took old new valid_line

-- the sink took the line of a refusal
pub record RefusesNumeric (domain problem plan : List ℕ) (old new : Option (List ℕ)) (status : Status) : Type 0 where
  pub line : List ℕ
  pub is : IsNotNumeric domain problem plan status line
  pub took : Took old new line

-- the sink failed, and took some first bytes of the one or the other, and not all
pub data BreaksNumeric (domain problem plan : List ℕ) (old new : Option (List ℕ)) : Type 0 where
  in_valid : IsNumeric domain problem plan → TookPart old new valid_line → BreaksNumeric domain problem plan old new
  in_refusal :
      (status : Status) (line : List ℕ) → IsNotNumeric domain problem plan status line → TookPart old new line
      → BreaksNumeric domain problem plan old new

-- ---- `check`

-- The bytes under the three names spell a well-typed pair and a plan of lines, exactly one trajectory of the pair has
-- that plan's actions, and between old and new the sink took that trajectory's text and `valid`. The plan enters at most
-- so many moments.
pub record IsValidRun (happenings : ℕ) (domain problem plan : List ℕ) (old new : Option (List ℕ)) : Type 0 where
  pub d : Domain
  pub p : Problem
  pub pair : SpellsWellTyped domain problem d p
  pub accepted : Accepts d p happenings plan old new

-- The command is refused, and between old and new the sink took: one line, where the two texts are no well-typed pair;
-- one line, where the pair is not grounded; else the report of what happens before the refusal, and the verdict line.
pub data IsRefusedRun (happenings : ℕ) (domain problem : List ℕ) (plan : Option (List ℕ)) (old new : Option (List ℕ)) (status : Status) : Type 0 where
  for_pair : (e : Early) → PairRefused domain problem e → status ≡ early_status e → Took old new (early_text e) → IsRefusedRun happenings domain problem plan old new status
  for_ground :
      (d : Domain) (p : Problem) → SpellsWellTyped domain problem d p → status ≡ s.Beyond → RefusesPair d p old new
      → IsRefusedRun happenings domain problem plan old new status
  for_plan :
      (d : Domain) (p : Problem) (outcome : Outcome) → SpellsWellTyped domain problem d p → status ≡ status_of outcome
      → IfSome plan (λ text. Refuses d p happenings text outcome old new) → IsRefusedRun happenings domain problem plan old new status

-- The sink failed, and took the beginning of what was to be written, and not all of it.
pub data IsBrokenRun (happenings : ℕ) (domain problem : List ℕ) (plan : Option (List ℕ)) (old new : Option (List ℕ)) : Type 0 where
  in_pair : (e : Early) → PairRefused domain problem e → TookPart old new (early_text e) → IsBrokenRun happenings domain problem plan old new
  in_ground :
      (d : Domain) (p : Problem) → SpellsWellTyped domain problem d p → RefusesPairInPart d p old new
      → IsBrokenRun happenings domain problem plan old new
  in_report :
      (d : Domain) (p : Problem) → SpellsWellTyped domain problem d p
      → IfSome plan (λ text. BreaksOffSoFar d p happenings text old new) → IsBrokenRun happenings domain problem plan old new
  in_plan :
      (d : Domain) (p : Problem) → SpellsWellTyped domain problem d p
      → IfSome plan (λ text. BreaksOff d p happenings text old new) → IsBrokenRun happenings domain problem plan old new

-- A file failed: the sink took nothing, or the report for the whole lines of a beginning of the plan text, and no verdict line.
pub data IsUnreadRun (happenings : ℕ) (domain problem : List ℕ) (plan : Option (List ℕ)) (old new : Option (List ℕ)) : Type 0 where
  at_once : new ≡ old → IsUnreadRun happenings domain problem plan old new
  in_lines :
      (d : Domain) (p : Problem) → SpellsWellTyped domain problem d p
      → IfSome plan (λ text. TookLines d p happenings text old new) → IsUnreadRun happenings domain problem plan old new

-- Memory was wanting: the sink took nothing, or first bytes of the report of a history that the first lines of the plan text tell,
-- and no verdict line.
pub data IsStoppedRun (happenings : ℕ) (domain problem : List ℕ) (plan : Option (List ℕ)) (old new : Option (List ℕ)) : Type 0 where
  nothing : new ≡ old → IsStoppedRun happenings domain problem plan old new
  so_far :
      (d : Domain) (p : Problem) → SpellsWellTyped domain problem d p
      → IfSome plan (λ text. TookSoFar d p happenings text old new) → IsStoppedRun happenings domain problem plan old new

-- ---- all commands

-- a command is answered as valid, where the shelf tells what stands under its names
abbrev pub RunsValid : Option Command → (List ℕ → Option (List ℕ)) → Option (List ℕ) → Option (List ℕ) → Type 0
RunsValid None bytes old new = ⊥
RunsValid (Some (Check d p l n)) bytes old new =
    IfSome (bytes d) (λ ds. IfSome (bytes p) (λ ps. IfSome (bytes l) (λ ls. IsValidRun n ds ps ls old new)))
RunsValid (Some (ShowDomain file)) bytes old new =
    IfSome (bytes file) (λ text. IsShown (IsDomainText depth_limit) domain_text text old new)
RunsValid (Some (ShowProblem file)) bytes old new =
    IfSome (bytes file) (λ text. IsShown (IsProblemText depth_limit) problem_text text old new)
RunsValid (Some (Numeric d p l)) bytes old new =
    IfSome (bytes d) (λ ds. IfSome (bytes p) (λ ps. IfSome (bytes l) (λ ls. RunsNumeric ds ps ls old new)))
RunsValid (Some (Trial n)) bytes old new = Replied (IsTrial n) old new s.Valid
RunsValid (Some (Translate file q d p)) bytes old new =
    IfSome (bytes d) (λ ds. IfSome (bytes p) (λ ps. Replied (Translates file q ds ps) old new s.Valid))
RunsValid (Some (Lift q d p l)) bytes old new =
    IfSome (bytes d) (λ ds. IfSome (bytes p) (λ ps. IfSome (bytes l) (λ ls. Replied (Lifts q ds ps ls) old new s.Valid)))
RunsValid (Some (Plan q k n cut d p)) bytes old new =
    IfSome (bytes d) (λ ds. IfSome (bytes p) (λ ps. Replied (Plans q k n cut ds ps) old new s.Valid))
RunsValid (Some (Trim d p l)) bytes old new =
    IfSome (bytes d) (λ ds. IfSome (bytes p) (λ ps. IfSome (bytes l) (λ ls. Replied (Trims ds ps ls) old new s.Valid)))

-- what is said where a command is refused: its plan is not valid, a limit stands, or a text is none
abbrev pub OnRefusal : Status → Type 0 → Type 0
OnRefusal s.Invalid P = P
OnRefusal s.Beyond P = P
OnRefusal s.BadText P = P
OnRefusal _ P = Unit {0}

abbrev pub RunsRefused : Option Command → (List ℕ → Option (List ℕ)) → Option (List ℕ) → Option (List ℕ) → Status → Type 0
RunsRefused None bytes old new status = ⊥
RunsRefused (Some (Check d p l n)) bytes old new status =
    IfSome (bytes d) (λ ds. IfSome (bytes p) (λ ps. IsRefusedRun n ds ps (bytes l) old new status))
RunsRefused (Some (ShowDomain file)) bytes old new status = IfSome (bytes file) (λ text. IsNotShown DomainRefused text old new status)
RunsRefused (Some (ShowProblem file)) bytes old new status = IfSome (bytes file) (λ text. IsNotShown ProblemRefused text old new status)
RunsRefused (Some (Numeric d p l)) bytes old new status =
    IfSome (bytes d) (λ ds. IfSome (bytes p) (λ ps. IfSome (bytes l) (λ ls. RefusesNumeric ds ps ls old new status)))
RunsRefused (Some (Trial n)) bytes old new status = Replied (IsTrial n) old new status
RunsRefused (Some (Translate file q d p)) bytes old new status =
    IfSome (bytes d) (λ ds. IfSome (bytes p) (λ ps. Replied (Translates file q ds ps) old new status))
RunsRefused (Some (Lift q d p l)) bytes old new status =
    IfSome (bytes d) (λ ds. IfSome (bytes p) (λ ps. IfSome (bytes l) (λ ls. Replied (Lifts q ds ps ls) old new status)))
RunsRefused (Some (Plan q k n cut d p)) bytes old new status =
    IfSome (bytes d) (λ ds. IfSome (bytes p) (λ ps. Replied (Plans q k n cut ds ps) old new status))
RunsRefused (Some (Trim d p l)) bytes old new status =
    IfSome (bytes d) (λ ds. IfSome (bytes p) (λ ps. IfSome (bytes l) (λ ls. Replied (Trims ds ps ls) old new status)))

-- the same where the sink failed
abbrev pub RunsBroken : Option Command → (List ℕ → Option (List ℕ)) → Option (List ℕ) → Option (List ℕ) → Type 0
RunsBroken None bytes old new = TookPart old new usage_line
RunsBroken (Some (Check d p l n)) bytes old new =
    IfSome (bytes d) (λ ds. IfSome (bytes p) (λ ps. IsBrokenRun n ds ps (bytes l) old new))
RunsBroken (Some (ShowDomain file)) bytes old new =
    IfSome (bytes file) (λ text. IsShownInPart (IsDomainText depth_limit) domain_text DomainRefused text old new)
RunsBroken (Some (ShowProblem file)) bytes old new =
    IfSome (bytes file) (λ text. IsShownInPart (IsProblemText depth_limit) problem_text ProblemRefused text old new)
RunsBroken (Some (Numeric d p l)) bytes old new =
    IfSome (bytes d) (λ ds. IfSome (bytes p) (λ ps. IfSome (bytes l) (λ ls. BreaksNumeric ds ps ls old new)))
RunsBroken (Some (Trial n)) bytes old new = RepliedInPart (IsTrial n) old new
RunsBroken (Some (Translate file q d p)) bytes old new =
    IfSome (bytes d) (λ ds. IfSome (bytes p) (λ ps. RepliedInPart (Translates file q ds ps) old new))
RunsBroken (Some (Lift q d p l)) bytes old new =
    IfSome (bytes d) (λ ds. IfSome (bytes p) (λ ps. IfSome (bytes l) (λ ls. RepliedInPart (Lifts q ds ps ls) old new)))
RunsBroken (Some (Plan q k n cut d p)) bytes old new =
    IfSome (bytes d) (λ ds. IfSome (bytes p) (λ ps. RepliedInPart (Plans q k n cut ds ps) old new))
RunsBroken (Some (Trim d p l)) bytes old new =
    IfSome (bytes d) (λ ds. IfSome (bytes p) (λ ps. IfSome (bytes l) (λ ls. RepliedInPart (Trims ds ps ls) old new)))

-- what is written where a file failed: of a check a part of the report, and else nothing
abbrev pub RunsUnread : Option Command → (List ℕ → Option (List ℕ)) → Option (List ℕ) → Option (List ℕ) → Type 0
RunsUnread (Some (Check d p l n)) bytes old new =
    IfSome (bytes d) (λ ds. IfSome (bytes p) (λ ps. IsUnreadRun n ds ps (bytes l) old new))
RunsUnread _ bytes old new = new ≡ old

-- the same where memory was wanting
abbrev pub RunsStopped : Option Command → (List ℕ → Option (List ℕ)) → Option (List ℕ) → Option (List ℕ) → Type 0
RunsStopped (Some (Check d p l n)) bytes old new =
    IfSome (bytes d) (λ ds. IfSome (bytes p) (λ ps. IsStoppedRun n ds ps (bytes l) old new))
RunsStopped _ bytes old new = new ≡ old

-- What each status shows: of the files and the output, and of the counts of faults before and now.
pub record ShowsByStatus (command : Option Command) (bytes : List ℕ → Option (List ℕ)) (old new : Option (List ℕ)) (read_before read_now write_before write_now : ℕ) (status : Status) : Type 0 where
  pub valid : status ≡ s.Valid → RunsValid command bytes old new
  pub refused : OnRefusal status (RunsRefused command bytes old new status)
  pub usage : status ≡ s.Usage → command ≡ None
  pub no_command : command ≡ None → Writes usage_line s.Usage old new write_before write_now status
  pub read_fault : status ≡ s.ReadFault → Rose read_before read_now × RunsUnread command bytes old new
  pub write_fault : status ≡ s.WriteFault → Rose write_before write_now × RunsBroken command bytes old new
  pub no_memory : status ≡ s.NoMemory → RunsStopped command bytes old new

-- so much every answer shows
abbrev pub ByStatus : Type 0
ByStatus =
    (command : Option Command) (bytes : List ℕ → Option (List ℕ)) (old new : Option (List ℕ)) (a b c d : ℕ) (status : Status)
    → IsAnswer command bytes old new a b c d status → ShowsByStatus command bytes old new a b c d status
