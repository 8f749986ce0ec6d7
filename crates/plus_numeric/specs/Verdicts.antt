-- The verdict that a test is where it is the first that fails, and its line (this project's profile).
use Rattle.std.specs.Prelude.{ℕ, List}
use Rattle.plus_fraction.specs.Fraction.{Fraction}
use Rattle.plus_model.specs.Joint as model
use Rattle.plus_tree.specs.declared.trees.Domain.{Domain}
use Rattle.plus_tree.specs.declared.trees.Problem as tree
use Rattle.plus_types.specs.declared.faults.File.{File}
use Rattle.plus_types.specs.declared.faults.File.TheVariants as files
use Rattle.plus_state.specs.Node.{Node}
use Rattle.plus_state.specs.declared.term.Overflow.{Overflow}
use Rattle.plus_state.specs.declared.outcome.Breach.{Breach}
use Rattle.plus_state.specs.declared.outcome.Breach.TheVariants as breaches
use Rattle.plus_state.specs.declared.outcome.Limit.TheVariants.{Number}
use Rattle.plus_expansion.specs.declared.counts.Count.{Count}
use Rattle.plus_expansion.specs.declared.counts.Count.TheVariants as counts
use Rattle.plus_plan.specs.declared.faults.PlanFault.{PlanFault}
use Rattle.plus_plan.specs.declared.faults.PlanFault.TheVariants as faults
use Rattle.plus_expansion.specs.Expansion.{expanded, labels_meant}
use Rattle.plus_stepped.specs.Tests.{StepTest, asks, precondition, fails, repeats, goal}
use Rattle.plus_report.specs.declared.verdicts.Verdict.{Verdict}
use Rattle.plus_report.specs.declared.verdicts.Verdict.TheVariants.{Valid, Invalid, Beyond, Other}
use Rattle.plus_report.specs.declared.refusals.Early.{Early}
use Rattle.plus_report.specs.declared.refusals.Early.TheVariants.{BadText, BadLine, TooLong, Depth, DepthOut, LineTooLong, Literal, TooMany}
use Rattle.plus_report.specs.declared.refusals.Kinds.{Kinds}
use Rattle.plus_report.specs.declared.refusals.Kinds.TheVariants as kinds
use Rattle.plus_report.specs.declared.refusals.Text.{Text}
use Rattle.plus_report.specs.declared.refusals.Text.TheVariants as texts
use Rattle.plus_report.specs.declared.refusals.Word.TheVariants.{NotLevelTwo}
use Rattle.plus_report.specs.Verdicts.{verdict_text}
use Rattle.plus_numeric.specs.declared.source.Source.{Source}
use Rattle.plus_numeric.specs.declared.source.Source.TheVariants.{Given, Translated}
use Rattle.plus_numeric.specs.declared.answer.Kind as answers
use Rattle.plus_numeric.specs.declared.answer.Kind.TheVariants as kind
use Rattle.plus_numeric.specs.Tests.{Test, beyond, count, literal, no_line, too_long, unknown_action, wrong_arguments, in_line, at_end}
use Rattle.plus_report.specs.declared.status.Status.{Status}
use Rattle.plus_report.specs.declared.status.Status.TheVariants as s

-- how a line names one of the two texts
abbrev pub text_in : Source → File → Text
text_in Given files.Domain = texts.Domain
text_in Given files.Problem = texts.Problem
text_in Translated files.Domain = texts.TranslatedDomain
text_in Translated files.Problem = texts.TranslatedProblem

abbrev pub kind_meant : Count → Kinds
kind_meant counts.Objects = kinds.Objects
kind_meant counts.Atoms = kinds.Atoms
kind_meant counts.Fluents = kinds.Fluents
kind_meant counts.Processes = kinds.Processes
kind_meant counts.Events = kinds.Events
kind_meant counts.Actions = kinds.Actions
kind_meant counts.Nodes = kinds.Nodes

abbrev pub node_overflow : Node → Overflow Fraction
node_overflow node = record { sign = node.sign; left = node.left; right = node.right }

-- no action repeats an event
abbrev pub step_verdict : Breach Fraction → StepTest → Verdict Fraction
step_verdict unmet (asks node) = Beyond (Number (node_overflow node))
step_verdict unmet precondition = Invalid unmet
step_verdict unmet (fails (model.Conflict f)) = Invalid (breaches.Conflict (record { 0 = f }))
step_verdict unmet (fails (model.NoValue f)) = Invalid (breaches.NoValue (record { 0 = f }))
step_verdict unmet (repeats e) = Invalid (breaches.Repeats (record { 0 = e }))
step_verdict unmet goal = Invalid breaches.Goal

-- want of memory is never asked for
abbrev pub fault_line : PlanFault → Early
fault_line (faults.NotLine n start last) = BadLine n start last
fault_line (faults.LineTooLong n) = LineTooLong n
fault_line faults.Memory = BadLine 0 0 0

abbrev pub verdict_of : Source → Test → Verdict Fraction
verdict_of source (beyond place) = Other (BadText (text_in source place.file) place.span.start place.span.«end» NotLevelTwo)
verdict_of source (count c) = Other (TooMany (kind_meant c.kind) c.most)
verdict_of source (literal file l) = Other (Literal (text_in source file) l.span.start l.span.«end»)
verdict_of source (no_line fault) = Other (fault_line fault)
verdict_of source too_long = Other (TooLong texts.Plan)
verdict_of source (unknown_action n name) = Invalid (breaches.UnknownAction n name)
verdict_of source (wrong_arguments n name) = Invalid (breaches.WrongArguments n name)
verdict_of source (in_line n label t) = step_verdict (breaches.Precondition n label) t
verdict_of source (at_end t) = step_verdict breaches.Goal t

-- the line of a verdict on a plan of the pair
unfoldable pub line_of : Domain → tree.Problem → Verdict Fraction → List ℕ
line_of d p v = verdict_text (λ x. x) (labels_meant d p) (expanded d p) v

-- ---- what kind of refusal a verdict is

abbrev pub early_kind : Early → answers.Kind
early_kind (BadText text start last word) = kind.BadText
early_kind (BadLine n start last) = kind.BadText
early_kind (TooLong text) = kind.Beyond
early_kind (Depth text at) = kind.Beyond
early_kind DepthOut = kind.Beyond
early_kind (LineTooLong n) = kind.Beyond
early_kind (Literal text start last) = kind.Beyond
early_kind (TooMany what most) = kind.Beyond

-- no refusal is valid
abbrev pub kind_of : {Q : Type 0} → Verdict Q → answers.Kind
kind_of Valid = kind.Beyond
kind_of (Invalid breach) = kind.Invalid
kind_of (Beyond limit) = kind.Beyond
kind_of (Other early) = early_kind early

-- the status of a plan without time that is refused
abbrev pub kind_status : answers.Kind → Status
kind_status kind.Invalid = s.Invalid
kind_status kind.Beyond = s.Beyond
kind_status kind.BadText = s.BadText
