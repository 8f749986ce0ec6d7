-- How the check of a plan ends, by its verdict, and the status of the run.
use Rattle.plus_report.specs.declared.verdicts.Verdict.{Verdict}
use Rattle.plus_report.specs.declared.verdicts.Verdict.TheVariants as verdicts
use Rattle.plus_report.specs.declared.refusals.Early.{Early}
use Rattle.plus_report.specs.declared.refusals.Early.TheVariants as early
use Rattle.plus_validator.specs.declared.judge.Outcome.{Outcome}
use Rattle.plus_validator.specs.declared.judge.Outcome.TheVariants.{Valid, Invalid, Beyond, BadText, ReadFault, WriteFault, NoMemory}
use Rattle.plus_report.specs.declared.status.Status.{Status}
use Rattle.plus_report.specs.declared.status.Status.TheVariants as s

abbrev pub early_outcome : Early → Outcome
early_outcome (early.BadText text start last word) = BadText
early_outcome (early.BadLine line start last) = BadText
early_outcome (early.TooLong text) = Beyond
early_outcome (early.Depth text at) = Beyond
early_outcome early.DepthOut = Beyond
early_outcome (early.LineTooLong line) = Beyond
early_outcome (early.Literal text start last) = Beyond
early_outcome (early.TooMany kind most) = Beyond

abbrev pub outcome_of : {Q : Type 0} → Verdict Q → Outcome
outcome_of verdicts.Valid = Valid
outcome_of (verdicts.Invalid breach) = Invalid
outcome_of (verdicts.Beyond limit) = Beyond
outcome_of (verdicts.Other e) = early_outcome e

-- the status of a checked plan
abbrev pub status_of : Outcome → Status
status_of Valid = s.Valid
status_of Invalid = s.Invalid
status_of Beyond = s.Beyond
status_of BadText = s.BadText
status_of ReadFault = s.ReadFault
status_of WriteFault = s.WriteFault
status_of NoMemory = s.NoMemory
