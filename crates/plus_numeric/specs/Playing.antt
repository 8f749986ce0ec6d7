-- What playing a line, a text or its end tells.
use Rattle.std.specs.Prelude.{◌≡◌, ℕ, Bool, List, [], ◌++◌, map, Result, Ok, if◌then◌else◌}
use Rattle.plus_fraction.specs.Fraction.{Fraction}
use Rattle.plus_model.specs.Terms.{State}
use Rattle.plus_number.specs.declared.frac.Frac64.{Frac64}
use Rattle.plus_number.specs.Frac.{fraction_of}
use Rattle.plus_state.specs.Fits.{StateFits}
use Rattle.plus_state.specs.View.{overflow_of}
use Rattle.plus_state.specs.declared.outcome.Breach.{Breach}
use Rattle.plus_state.specs.declared.outcome.Breach.TheVariants as breaches
use Rattle.plus_state.specs.declared.outcome.Limit.{Limit}
use Rattle.plus_state.specs.declared.outcome.Limit.TheVariants as limits
use Rattle.plus_tree.specs.declared.trees.Domain.{Domain}
use Rattle.plus_tree.specs.declared.trees.Problem as tree
use Rattle.plus_tree.specs.declared.trees.Call.{Call}
use Rattle.plus_plan.specs.declared.forms.Line.{Line}
use Rattle.plus_plan.specs.declared.faults.PlanFault.{PlanFault}
use Rattle.plus_stepped.specs.declared.stop.StepStop.{StepStop}
use Rattle.plus_stepped.specs.declared.stop.StepStop.TheVariants as stops
use Rattle.plus_instances.specs.Made.{AreMade}
use Rattle.plus_numbering.specs.declared.numbering.Numbering.{Numbering}
use Rattle.plus_expansion.specs.Expansion.{expanded}
use Rattle.plus_report.specs.declared.verdicts.Verdict.{Verdict}
use Rattle.plus_report.specs.declared.verdicts.Verdict.TheVariants as verdicts
use Rattle.plus_report.specs.declared.refusals.Early.TheVariants.{BadLine, LineTooLong, Literal, TooMany}
use Rattle.plus_report.specs.declared.refusals.Kinds.TheVariants as kinds
use Rattle.plus_report.specs.Verdicts.{VerdictFits}
use Rattle.plus_types.specs.declared.faults.File.TheVariants as files
use Rattle.plus_plan.specs.declared.faults.PlanFault.TheVariants as faults
use Rattle.plus_ground.specs.declared.faults.InstanceFault.{InstanceFault}
use Rattle.plus_ground.specs.declared.faults.InstanceFault.TheVariants as instances
use Rattle.plus_expansion.specs.Counting.{most_nodes}
use Rattle.plus_numeric.specs.declared.halt.Halt.{Halt}
use Rattle.plus_numeric.specs.declared.halt.Halt.TheVariants.{Refused, Memory}
use Rattle.plus_numeric.specs.declared.play.Play.{Play}
use Rattle.plus_plan.specs.declared.forms.PlanForm.TheVariants.{Untimed}
use Rattle.plus_play.specs.Cut.{text_lines}
use Rattle.plus_numeric.specs.Answers.{Reads}
use Rattle.plus_numeric.specs.declared.source.Source.{Source}
use Rattle.plus_numeric.specs.Calls.{calls_of, call_meant}
use Rattle.plus_numeric.specs.Tests.{Test, AllPass, FirstFailing}
use Rattle.plus_numeric.specs.Asked.{call_tests, after_call, line_tests, lines_tests, last_tests}
use Rattle.plus_numeric.specs.Verdicts.{text_in, verdict_of, node_overflow}

-- ---- a verdict of the code, with fractions in place of its numbers

abbrev pub breach_seen : Breach Frac64 → Breach Fraction
breach_seen (breaches.UnknownAction line name) = breaches.UnknownAction line name
breach_seen (breaches.WrongArguments line name) = breaches.WrongArguments line name
breach_seen (breaches.Precondition line label) = breaches.Precondition line label
breach_seen (breaches.TimeGoesBack line) = breaches.TimeGoesBack line
breach_seen (breaches.AfterEnd line) = breaches.AfterEnd line
breach_seen (breaches.Conflict f) = breaches.Conflict f
breach_seen (breaches.NoValue f) = breaches.NoValue f
breach_seen (breaches.Repeats e) = breaches.Repeats e
breach_seen (breaches.Unsettled q) = breaches.Unsettled q
breach_seen (breaches.Coupled q f) = breaches.Coupled q f
breach_seen (breaches.NoFirstMoment e t) = breaches.NoFirstMoment e (fraction_of t)
breach_seen breaches.Goal = breaches.Goal

abbrev pub limit_seen : Limit Frac64 → Limit Fraction
limit_seen (limits.Happenings n) = limits.Happenings n
limit_seen (limits.Number o) = limits.Number (node_overflow (overflow_of fraction_of o))
limit_seen (limits.Nonlinear owner k) = limits.Nonlinear owner k

abbrev pub seen : Verdict Frac64 → Verdict Fraction
seen verdicts.Valid = verdicts.Valid
seen (verdicts.Invalid b) = verdicts.Invalid (breach_seen b)
seen (verdicts.Beyond l) = verdicts.Beyond (limit_seen l)
seen (verdicts.Other e) = verdicts.Other e

-- ---- a plan that is played

abbrev pub domain_in : Play → Domain
domain_in play = play.instances.numbering.now.typed.now.domain

abbrev pub problem_in : Play → tree.Problem
problem_in play = play.instances.numbering.now.typed.now.problem

-- its instances are those of their calls, and its state is one of the pair
pub record IsPlay (play : Play) : Type 0 where
  pub made : AreMade play.instances
  pub fits : StateFits (expanded (domain_in play) (problem_in play)).atoms (expanded (domain_in play) (problem_in play)).fluents play.numeric

-- nothing is played yet
pub record IsBegun (numbering : Numbering) (source : Source) (keep : Bool) (play : Play) : Type 0 where
  pub numbering_is : play.instances.numbering.now ≡ numbering
  pub source_is : play.source ≡ source
  pub keep_is : play.keep ≡ keep
  pub state : play.numeric ≡ (expanded (domain_in play) (problem_in play)).initial
  pub calls : play.calls.items ≡ []
  pub going : IsPlay play

-- it goes on as a play of the same pair
pub record Stays (old new : Play) : Type 0 where
  pub numbering : new.instances.numbering ≡ old.instances.numbering
  pub source_is : new.source ≡ old.source
  pub keep_is : new.keep ≡ old.keep
  pub going : IsPlay new

-- what is asked passes, and behind it stands what is asked in this state
pub record Leads (tests : (State → List Test) → List Test) (after : State) : Type 0 where
  pub own : List Test
  pub pass : AllPass own
  pub is : (more : State → List Test) → tests more ≡ own ++ more after

-- all that is asked of the call of line n passes, and behind it stands what is asked in this state
pub record LeadsCall (d : Domain) (p : tree.Problem) (n : ℕ) (call : Call) (s after : State) : Type 0 where
  pub pass : AllPass (call_tests d n call.name (call_meant d p call) s)
  pub is : (more : State → List Test) → after_call (call_meant d p call) s more ≡ more after

-- whatever is asked behind, this test is the first that fails
abbrev pub Stands : ((State → List Test) → List Test) → Test → Type 0
Stands tests test = (more : State → List Test) → FirstFailing (tests more) test

-- the play halts: with the verdict that the first test is which fails, or for want of memory
pub record IsStopped (source : Source) (tests : (State → List Test) → List Test) (v : Verdict Frac64) : Type 0 where
  pub test : Test
  pub first : Stands tests test
  pub is : seen v ≡ verdict_of source test

abbrev pub HaltsIn : Source → ((State → List Test) → List Test) → Halt → Type 0
HaltsIn source tests (Refused v) = IsStopped source tests v
HaltsIn source tests Memory = Unit {0}

-- the same of tests behind which nothing is asked
abbrev pub HaltsAt : Source → List Test → Halt → Type 0
HaltsAt source tests halt = HaltsIn source (λ more. tests) halt

-- the ids that the verdict names are those of the pair
abbrev pub HaltFits : Domain → tree.Problem → Halt → Type 0
HaltFits d p (Refused v) = VerdictFits (expanded d p) v
HaltFits d p Memory = Unit {0}

-- a refused call of a plan without time, by what it says where the condition does not hold
abbrev pub stop_halt : Breach Frac64 → StepStop Frac64 → Halt
stop_halt unmet stops.Precondition = Refused (verdicts.Invalid unmet)
stop_halt unmet (stops.Repeats e) = Refused (verdicts.Invalid (breaches.Repeats e))
stop_halt unmet (stops.Conflict f) = Refused (verdicts.Invalid (breaches.Conflict f))
stop_halt unmet (stops.NoValue f) = Refused (verdicts.Invalid (breaches.NoValue f))
stop_halt unmet (stops.Number o) = Refused (verdicts.Beyond (limits.Number o))
stop_halt unmet stops.GoalFails = Refused (verdicts.Invalid breaches.Goal)
stop_halt unmet stops.Memory = Memory

-- a call that names no action, or one whose instance is over a limit
abbrev pub call_halt : Source → ℕ → List ℕ → InstanceFault → Halt
call_halt source n name instances.UnknownAction = Refused (verdicts.Invalid (breaches.UnknownAction n name))
call_halt source n name instances.WrongArguments = Refused (verdicts.Invalid (breaches.WrongArguments n name))
call_halt source n name instances.TooManyNodes = Refused (verdicts.Other (TooMany kinds.Nodes most_nodes))
call_halt source n name (instances.Literal span) = Refused (verdicts.Other (Literal (text_in source files.Domain) span.start span.«end»))
call_halt source n name instances.Memory = Memory

-- a line that is none
abbrev pub fault_halt : PlanFault → Halt
fault_halt (faults.NotLine n start last) = Refused (verdicts.Other (BadLine n start last))
fault_halt (faults.LineTooLong n) = Refused (verdicts.Other (LineTooLong n))
fault_halt faults.Memory = Memory

-- the play halts so, or for want of memory
abbrev pub OrMemory : Halt → Halt → Type 0
OrMemory expected (Refused v) = Refused v ≡ expected
OrMemory expected Memory = Unit {0}

-- the calls of these lines are kept, where they are to be
abbrev pub Keeps : List Line → Play → Play → Type 0
Keeps lines old new = new.calls.items ≡ old.calls.items ++ (if old.keep then calls_of lines else [])

-- these lines are played: what is asked of them passes, and behind them, whatever they are, stands what is asked from here on
pub record Played (d : Domain) (p : tree.Problem) (lines : List Line) (first now : Play) : Type 0 where
  pub own : List Test
  pub pass : AllPass own
  pub is :
      (rest : List (Result Line PlanFault)) (more : State → List Test)
      → lines_tests d p (map Ok lines ++ rest) first.numeric more ≡ own ++ lines_tests d p rest now.numeric more
  pub kept : Keeps lines first now

-- ---- a text that is played

-- the text has these lines, all that is asked of it passes, and its calls are kept where they are to be
pub record IsPlayed (d : Domain) (p : tree.Problem) (text : List ℕ) (first now : Play) : Type 0 where
  pub lines : List Line
  pub reads : Reads text lines
  pub pass : AllPass (lines_tests d p (text_lines Untimed text) first.numeric (last_tests d p text))
  pub kept : Keeps lines first now

-- the play halts in the text
abbrev pub HaltsWith : Domain → tree.Problem → List ℕ → Play → Halt → Type 0
HaltsWith d p bytes first halt = HaltsAt first.source (lines_tests d p (text_lines Untimed bytes) first.numeric (last_tests d p bytes)) halt
