-- Which verdict a refusal is.
use Rattle.std.specs.Prelude.{◌≡◌, ℕ, List}
use Rattle.plus_io.specs.Faults.{Rose}
use Rattle.plus_model.specs.Terms.{Problem}
use Rattle.plus_state.specs.declared.outcome.Breach.TheVariants as breaches
use Rattle.plus_ground.specs.declared.faults.InstanceFault.{InstanceFault}
use Rattle.plus_ground.specs.declared.faults.InstanceFault.TheVariants as instances
use Rattle.plus_plan.specs.declared.faults.PlanFault.{PlanFault}
use Rattle.plus_plan.specs.declared.faults.PlanFault.TheVariants as faults
use Rattle.plus_expansion.specs.Counting.{most_nodes}
use Rattle.plus_timeline.specs.declared.stop.Stop.{Stop}
use Rattle.plus_timeline.specs.declared.stop.Stop.TheVariants as stops
use Rattle.plus_report.specs.declared.verdicts.Verdict.{Verdict}
use Rattle.plus_number.specs.declared.frac.Frac64.{Frac64}
use Rattle.plus_report.specs.declared.verdicts.Verdict.TheVariants.{Valid, Invalid, Beyond, Other}
use Rattle.plus_report.specs.declared.refusals.Early.TheVariants.{BadLine, LineTooLong, Literal, TooMany}
use Rattle.plus_report.specs.declared.refusals.Kinds.TheVariants as kinds
use Rattle.plus_report.specs.declared.refusals.Text.TheVariants as texts
use Rattle.plus_report.specs.Verdicts.{BreachFits, LimitFits}
use Rattle.plus_validator.specs.declared.halt.Halt.{Halt}
use Rattle.plus_validator.specs.declared.halt.Halt.TheVariants.{Refused, Memory, WriteFault}

-- by a refusal of its timeline; one that has ended is not called again
abbrev pub stop_halt : Stop Frac64 → Halt
stop_halt (stops.Breach b) = Refused (Invalid b)
stop_halt (stops.Limit l) = Refused (Beyond l)
stop_halt stops.Ended = Memory
stop_halt stops.Memory = Memory

abbrev pub line_halt : PlanFault → Halt
line_halt (faults.NotLine n start last) = Refused (Other (BadLine n start last))
line_halt (faults.LineTooLong n) = Refused (Other (LineTooLong n))
line_halt faults.Memory = Memory

-- it is a refusal whose ids are those of the problem, or want of memory
abbrev pub NamesOf : Problem → Halt → Type 0
NamesOf P (Refused Valid) = ⊥
NamesOf P (Refused (Invalid breach)) = BreachFits P breach
NamesOf P (Refused (Beyond limit)) = LimitFits P limit
NamesOf P (Refused (Other early)) = Unit {0}
NamesOf P Memory = Unit {0}
NamesOf P WriteFault = ⊥

pub record HaltFits (P : Problem) (halt : Halt) : Type 0 where
  pub names : NamesOf P halt

-- so it is, or the sink failed between these counts of its faults
abbrev pub HasCause : Problem → ℕ → ℕ → Halt → Type 0
HasCause P before now (Refused v) = HaltFits P (Refused v)
HasCause P before now Memory = HaltFits P Memory
HasCause P before now WriteFault = Rose before now

-- the verdict on the call of a line: its number and the name where it names no action, else which limit its instance is over
abbrev pub CallVerdict : InstanceFault → ℕ → List ℕ → Verdict Frac64 → Type 0
CallVerdict instances.UnknownAction line name v = v ≡ Invalid (breaches.UnknownAction line name)
CallVerdict instances.WrongArguments line name v = v ≡ Invalid (breaches.WrongArguments line name)
CallVerdict instances.TooManyNodes line name v = v ≡ Other (TooMany kinds.Nodes most_nodes)
CallVerdict (instances.Literal span) line name v = v ≡ Other (Literal texts.Domain span.start span.«end»)
CallVerdict instances.Memory line name v = ⊥

abbrev pub CallHalts : InstanceFault → ℕ → List ℕ → Halt → Type 0
CallHalts fault line name (Refused v) = CallVerdict fault line name v
CallHalts fault line name Memory = Unit {0}
CallHalts fault line name WriteFault = ⊥
