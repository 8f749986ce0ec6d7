-- What a caller that plays a plan may rely on: each accepted call adds one part that may come next, and
-- each breach that is named stands. The plan L is the lines read so far, and `advance` is asked for the
-- time of the next line.
use Rattle.std.specs.Prelude.{◌≡◌, ℕ, Some, IsSomeAnd, true, false}
use Rattle.plus_fraction.specs.Fraction.{Fraction}
use Rattle.plus_model.specs.Terms.{Action, Problem}
use Rattle.plus_model.specs.Value.{holds}
use Rattle.plus_model.specs.Plan.{Plan, ActLine, Instance}
use Rattle.plus_model.specs.History as history
use Rattle.plus_model.specs.History.{Part, View, view_after, Enter, Act}
use Rattle.plus_model.specs.Trajectory.{next_line, target, least, until, IsEndOrNone, Next as MayFollow, IsWorked}
use Rattle.plus_model.specs.Breach as model
use Rattle.plus_model.specs.Breach.{IsPresent, Stands}
use Rattle.plus_state.specs.declared.outcome.Breach.{Breach}
use Rattle.plus_timeline.specs.declared.next.Next.{Next}
use Rattle.plus_timeline.specs.declared.next.Next.TheVariants.{Round, Run, Entry, There}
use Rattle.plus_timeline.specs.Timeline.{TimelineView}
use Rattle.plus_timeline.specs.Advance.{Advances, BreaksOff}
use Rattle.plus_timeline.specs.Act.{DoesAct, BreaksAct}
use Rattle.plus_stretch.specs.Tests.{breach_of}

-- the part may come next, and the history goes on with it
pub record AddsPart (P : Problem) (L : Plan) (old new : TimelineView) (part : Part) : Type 0 where
  pub next : MayFollow P L old.now part
  pub now : new.now ≡ view_after old.now part

-- the same of a part that changes the state: the state before it is kept
pub record AddsChange (P : Problem) (L : Plan) (old new : TimelineView) (part : Part) : Type 0 where
  pub adds : AddsPart P L old new part
  pub before : new.before ≡ old.now.state

-- nothing is due, time is to go no further, and the history is as it was
pub record IsDone (P : Problem) (L : Plan) (old new : TimelineView) : Type 0 where
  pub present : IsPresent P new.now
  pub over : until P L new.now ≡ new.now.time
  pub now : new.now ≡ old.now

-- what `advance` added, by its answer
abbrev pub Follows : {Q : Type 0} → Problem → Plan → TimelineView → TimelineView → Next Q → Type 0
Follows P L old new Round = AddsChange P L old new (history.Round new.events new.now.state)
Follows P L old new Run = AddsPart P L old new (history.Run new.running)
Follows P L old new (Entry t) = AddsChange P L old new (Enter new.now.time new.arrival new.now.state)
Follows P L old new There = IsDone P L old new

-- an `advance` up to the time of the next line adds a part that may come next
abbrev pub AdvanceFollows : {Q : Type 0} → (Q → Fraction) → Type 0
AdvanceFollows {Q} value =
    (P : Problem) (L : Plan) (old new : TimelineView) (u : Fraction) (answer : Next Q)
    → target L old.now ≡ u → Advances value P u old new answer → Follows P L old new answer

-- where no action is left, the lines are worked then
abbrev pub DoneIsWorked : Type 0
DoneIsWorked =
    (P : Problem) (L : Plan) (old new : TimelineView)
    → IsDone P L old new → IsEndOrNone (next_line L new.now) → IsWorked P L new.now

-- a breach that such an `advance` names stands
abbrev pub AdvanceBreaks : {Q : Type 0} → (Q → Fraction) → Type 0
AdvanceBreaks {Q} value =
    (P : Problem) (L : Plan) (v : TimelineView) (u : Fraction) (b : Breach Q)
    → target L v.now ≡ u → BreaksOff value P (least v.now.time u P.timed) v.now b → IsSomeAnd (breach_of value v.now.acted b) (Stands P L v.now)

-- where the lines are worked and the text was read to its end, a goal that fails is a breach
abbrev pub FinishBreaks : Type 0
FinishBreaks =
    (P : Problem) (L : Plan) (v : View)
    → L.closed ≡ true → IsWorked P L v → holds P.goal v.state ≡ false → Stands P L v model.Goal

-- the next line has the present time and calls this action
abbrev pub IsNextAct : Plan → View → Action → Type 0
IsNextAct L v action = next_line L v ≡ Some (ActLine v.time (Instance action))

-- an `act` with the action of the next line, at its time, adds that act
abbrev pub ActFollows : Type 0
ActFollows =
    (P : Problem) (L : Plan) (old new : TimelineView) (action : Action)
    → IsNextAct L old.now action → DoesAct P action old new
    → AddsChange P L old new (Act old.now.acted new.now.state)

-- a breach that such an `act` names stands
abbrev pub ActBreaks : {Q : Type 0} → (Q → Fraction) → Type 0
ActBreaks {Q} value =
    (P : Problem) (L : Plan) (v : TimelineView) (action : Action) (line : ℕ) (b : Breach Q)
    → IsPresent P v.now → IsNextAct L v.now action → BreaksAct action line v.now.state b
    → IsSomeAnd (breach_of value v.now.acted b) (Stands P L v.now)
