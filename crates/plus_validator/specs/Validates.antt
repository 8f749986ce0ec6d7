-- What the check of a plan does.
use Rattle.std.specs.Prelude.{◌≡◌, ℕ, ◌<◌, ◌≤◌, Bool, true, false, List, length, take, Option, Some, None}
use Rattle.plus_io.specs.Faults.{Rose}
use Rattle.plus_number.specs.Frac.{IsFrac64}
use Rattle.plus_io.specs.Taken.{Took, TookPart}
use Rattle.plus_tree.specs.declared.trees.Domain.{Domain}
use Rattle.plus_tree.specs.declared.trees.Problem.{Problem}
use Rattle.plus_types.specs.declared.faults.File.{File}
use Rattle.plus_types.specs.declared.faults.File.TheVariants as files
use Rattle.plus_expansion.specs.declared.counts.Count.{Count}
use Rattle.plus_expansion.specs.declared.counts.Count.TheVariants as counts
use Rattle.plus_numbering.specs.declared.faults.GroundFault.{GroundFault}
use Rattle.plus_numbering.specs.declared.faults.GroundFault.TheVariants as faults
use Rattle.plus_ground.specs.Refusals.{RefusesGround}
use Rattle.plus_report.specs.declared.refusals.Kinds.{Kinds}
use Rattle.plus_report.specs.declared.refusals.Kinds.TheVariants as kinds
use Rattle.plus_report.specs.declared.refusals.Text.{Text}
use Rattle.plus_report.specs.declared.refusals.Text.TheVariants as texts
use Rattle.plus_report.specs.declared.refusals.Early.{Early}
use Rattle.plus_report.specs.declared.refusals.Early.TheVariants.{TooMany, Literal}
use Rattle.plus_report.specs.Refusals.{early_text}
use Rattle.plus_validator.specs.declared.judge.Outcome.{Outcome}
use Rattle.plus_validator.specs.declared.judge.Outcome.TheVariants.{Valid, Invalid, Beyond, BadText, ReadFault, WriteFault, NoMemory}
use Rattle.plus_validator.specs.Accepted.{IsAccepted}
use Rattle.plus_io.specs.Limits.{text_limit}
use Rattle.plus_validator.specs.Refused.{IsRefused}

-- ---- the pair is not grounded

abbrev pub kind_meant : Count → Kinds
kind_meant counts.Objects = kinds.Objects
kind_meant counts.Atoms = kinds.Atoms
kind_meant counts.Fluents = kinds.Fluents
kind_meant counts.Processes = kinds.Processes
kind_meant counts.Events = kinds.Events
kind_meant counts.Actions = kinds.Actions
kind_meant counts.Nodes = kinds.Nodes

abbrev pub file_meant : File → Text
file_meant files.Domain = texts.Domain
file_meant files.Problem = texts.Problem

-- what is told of a fault that is no want of memory
abbrev pub fault_meant : GroundFault → Option Early
fault_meant (faults.TooMany kind most) = Some (TooMany (kind_meant kind) most)
fault_meant (faults.Literal file span) = Some (Literal (file_meant file) span.start span.«end»)
fault_meant faults.Memory = None

-- the line that tells the fault
abbrev pub TellsFault : GroundFault → List ℕ → Type 0
TellsFault (faults.TooMany kind most) line = line ≡ early_text (TooMany (kind_meant kind) most)
TellsFault (faults.Literal file span) line = line ≡ early_text (Literal (file_meant file) span.start span.«end»)
TellsFault faults.Memory line = ⊥

-- the pair is not grounded, and the line says why
pub record IsUngrounded (d : Domain) (p : Problem) (line : List ℕ) : Type 0 where
  pub fault : GroundFault
  pub refused : RefusesGround IsFrac64 d p fault
  pub tells : TellsFault fault line

-- the sink took that line alone
pub record RefusesPair (d : Domain) (p : Problem) (old new : Option (List ℕ)) : Type 0 where
  pub line : List ℕ
  pub ungrounded : IsUngrounded d p line
  pub took : Took old new line

-- or a part of it
pub record RefusesPairInPart (d : Domain) (p : Problem) (old new : Option (List ℕ)) : Type 0 where
  pub line : List ℕ
  pub ungrounded : IsUngrounded d p line
  pub part : TookPart old new line

-- that is written, or the sink failed, or memory is wanting and nothing is written
abbrev pub EndsUngrounded : Domain → Problem → ℕ → ℕ → Option (List ℕ) → Option (List ℕ) → Outcome → Type 0
EndsUngrounded d p before now old new Beyond = RefusesPair d p old new
EndsUngrounded d p before now old new WriteFault = Rose before now × RefusesPairInPart d p old new
EndsUngrounded d p before now old new NoMemory = new ≡ old
EndsUngrounded d p before now old new Valid = ⊥
EndsUngrounded d p before now old new Invalid = ⊥
EndsUngrounded d p before now old new BadText = ⊥
EndsUngrounded d p before now old new ReadFault = ⊥

-- ---- the plan text

-- the text is what is read of these bytes, which go on behind it or not
abbrev pub IsRead : List ℕ → List ℕ → Bool → Type 0
IsRead bytes text false = (text ≡ bytes) × (length bytes ≤ text_limit)
IsRead bytes text true = (text ≡ take text_limit bytes) × (text_limit < length bytes)

-- ---- the plan is accepted or refused

-- the outcome is a refusal
abbrev pub IsRefusal : Outcome → Type 0
IsRefusal Invalid = Unit {0}
IsRefusal Beyond = Unit {0}
IsRefusal BadText = Unit {0}
IsRefusal Valid = ⊥
IsRefusal ReadFault = ⊥
IsRefusal WriteFault = ⊥
IsRefusal NoMemory = ⊥

-- the plan text that stands in these bytes is refused with this outcome, and that is its report and its verdict line
pub record IsRefusedIn (d : Domain) (p : Problem) (most : ℕ) (bytes : List ℕ) (outcome : Outcome) (written : List ℕ) : Type 0 where
  pub text : List ℕ
  pub goes_on : Bool
  pub read : IsRead bytes text goes_on
  pub refused : IsRefused d p most text goes_on outcome written

-- the plan text is accepted, and the sink took its report and the verdict line
pub record Accepts (d : Domain) (p : Problem) (most : ℕ) (text : List ℕ) (old new : Option (List ℕ)) : Type 0 where
  pub bytes : List ℕ
  pub took : Took old new bytes
  pub accepted : IsAccepted d p most text bytes

-- the plan text is refused, and the sink took the report of what happens before and the verdict line
pub record Refuses (d : Domain) (p : Problem) (most : ℕ) (text : List ℕ) (outcome : Outcome) (old new : Option (List ℕ)) : Type 0 where
  pub bytes : List ℕ
  pub took : Took old new bytes
  pub refused : IsRefusedIn d p most text outcome bytes

-- these bytes are the report and the verdict line of a plan text with this outcome
abbrev pub IsWhole : Domain → Problem → ℕ → List ℕ → Outcome → List ℕ → Type 0
IsWhole d p most text Valid bytes = IsAccepted d p most text bytes
IsWhole d p most text Invalid bytes = IsRefusedIn d p most text Invalid bytes
IsWhole d p most text Beyond bytes = IsRefusedIn d p most text Beyond bytes
IsWhole d p most text BadText bytes = IsRefusedIn d p most text BadText bytes
IsWhole d p most text ReadFault bytes = ⊥
IsWhole d p most text WriteFault bytes = ⊥
IsWhole d p most text NoMemory bytes = ⊥

-- the sink took some first bytes of the report and the verdict line that the plan text has, and not all
pub record BreaksOff (d : Domain) (p : Problem) (most : ℕ) (text : List ℕ) (old new : Option (List ℕ)) : Type 0 where
  pub outcome : Outcome
  pub bytes : List ℕ
  pub whole : IsWhole d p most text outcome bytes
  pub part : TookPart old new bytes
