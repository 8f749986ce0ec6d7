-- What the laws say on which those of this crate rest, each as it is stated in its crate.
use Rattle.std.specs.Prelude.{◌≡◌, ℕ, List, All, map, pos}
use Rattle.plus_fraction.specs.Fraction.{Fraction, whole, ◌<ℚ◌}
use Rattle.plus_number.specs.declared.frac.Frac64.{Frac64}
use Rattle.plus_number.specs.Frac.{fraction_of, IsFrac64}
use Rattle.plus_model.specs.Terms.{Action}
use Rattle.plus_state.specs.declared.outcome.TimedPlan.{TimedPlan}
use Rattle.plus_tree.specs.declared.trees.Domain.{Domain}
use Rattle.plus_tree.specs.declared.trees.Problem.{Problem}
use Rattle.plus_grammar.specs.Texts.{IsDomainText, IsProblemText}
use Rattle.plus_actions.specs.Actions.{ground_actions, IsGroundable}
use Rattle.plus_report.specs.Plans.{plan_text}
use Rattle.laws_found.specs.Text.Written.{TimedCall, IsPlanTime, IsPlainCall, HasFewArguments, written_plan, HasShortLines, ReadsAs}
use Rattle.plus_planner.specs.Grid.{ticks, lines_from, tick_after, timed, AllTimes}
use Rattle.plus_planner.specs.Listing.{labels_from, IsPlanOf}
use Rattle.plus_plan_command.specs.Planning.Planned.{task_of}
use Rattle.laws_found.specs.Calls.Calls.{HasPlainNames}
use Rattle.laws_found.specs.Calls.Plans.{TimedAction, AreGround, HavePlanTimes, AreCalledBy, labelled}
use Rattle.laws_found.specs.Calls.Decided.{decided_from, AreCallsOf}

-- ---- names

abbrev pub NamesArePlain : Type 0
NamesArePlain =
    (depth : ℕ) (domain problem : List ℕ) (d : Domain) (p : Problem) → IsDomainText depth domain d → IsProblemText depth problem p → HasPlainNames d p

-- ---- decisions

abbrev pub LabelsAreDecided : Type 0
LabelsAreDecided = (actions : List Action) (q : Fraction) (n : ℕ) (ds : List ℕ) → labels_from actions q n ds ≡ map labelled (decided_from actions q n ds)

abbrev pub DecidedAreGround : Type 0
DecidedAreGround = (d : Domain) (p : Problem) (q : Fraction) (n : ℕ) (ds : List ℕ) → AreGround d p (decided_from (ground_actions d p) q n ds)

abbrev pub TimesAreDecided : Type 0
TimesAreDecided =
    (actions : List Action) (q : Fraction) (n : ℕ) (ds : List ℕ) → whole (pos 0) <ℚ q → AllTimes IsFrac64 (lines_from actions q n ds)
    → HavePlanTimes (decided_from actions q n ds) × IsPlanTime (ticks q (tick_after actions n ds))

-- ---- calls

abbrev pub ActionsAreCalled : Type 0
ActionsAreCalled = (d : Domain) (p : Problem) (acts : List TimedAction) → AreGround d p acts → (calls : List TimedCall) × AreCalledBy d p acts calls

abbrev pub CallsAreWritten : Type 0
CallsAreWritten =
    (d : Domain) (p : Problem) (acts : List TimedAction) (calls : List TimedCall) (last : Fraction)
    → AreCalledBy d p acts calls → written_plan calls last ≡ plan_text (map labelled acts) last

abbrev pub CallsArePlain : Type 0
CallsArePlain =
    (d : Domain) (p : Problem) (acts : List TimedAction) (calls : List TimedCall)
    → HasPlainNames d p → HavePlanTimes acts → AreCalledBy d p acts calls → All IsPlainCall calls

abbrev pub FoundIsCalled : Type 0
FoundIsCalled =
    (d : Domain) (p : Problem) (q : Fraction) (ds : List ℕ) (plan : TimedPlan Frac64)
    → HasPlainNames d p → IsGroundable IsFrac64 d p → whole (pos 0) <ℚ q → AllTimes IsFrac64 (timed (task_of d p q) ds).lines
    → IsPlanOf fraction_of (task_of d p q) ds plan
    → (calls : List TimedCall) × (last : Fraction) × AreCallsOf d p q ds plan calls last

-- ---- the text

abbrev pub TextReadsBack : Type 0
TextReadsBack =
    (calls : List TimedCall) (last : Fraction) → All IsPlainCall calls → IsPlanTime last → HasShortLines (written_plan calls last)
    → ReadsAs calls last (written_plan calls last)

abbrev pub FewHaveRoom : Type 0
FewHaveRoom =
    (calls : List TimedCall) (last : Fraction) → All IsPlainCall calls → All HasFewArguments calls → IsPlanTime last
    → HasShortLines (written_plan calls last)
