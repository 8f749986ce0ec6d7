-- What `advance` does, and why it is refused. The moment u up to which time may go is the least of the
-- time asked for and of the later times of literals.
use Rattle.std.specs.Prelude.{◌≡◌, ◌⊎◌, ℕ, suc, ◌<◌, Bool, false, List, [], Option, Some, None, Result, Err}
use Rattle.plus_fraction.specs.Fraction.{Fraction, ◌<ℚ◌, ◌≤ℚ◌}
use Rattle.plus_model.specs.Terms.{Effect, State, Problem}
use Rattle.plus_model.specs.Joint.{Fault, joint, NoValue as no_value, Conflict as conflict}
use Rattle.plus_model.specs.Firing.{firing, first_shared, IsRound}
use Rattle.plus_model.specs.History as history
use Rattle.plus_model.specs.History.{View, view_after, Enter}
use Rattle.plus_model.specs.Trajectory.{least, RunMayFollow, EnterMayFollow}
use Rattle.plus_model.specs.Breach.{RoundDue, RatesFail, IsUnsettled, IsCoupled, IsMomentless}
use Rattle.plus_state.specs.declared.outcome.Breach.{Breach}
use Rattle.plus_state.specs.declared.outcome.Breach.TheVariants.{UnknownAction, WrongArguments, Precondition, TimeGoesBack, AfterEnd, Conflict, NoValue, Repeats, Unsettled, Coupled, NoFirstMoment, Goal}
use Rattle.plus_timeline.specs.declared.next.Next.{Next}
use Rattle.plus_timeline.specs.declared.next.Next.TheVariants.{Round, Run, Entry, There}
use Rattle.plus_timeline.specs.Timeline.{TimelineView, has_literal}
use Rattle.plus_timeline.specs.declared.stop.Stop.{Stop}
use Rattle.plus_timeline.specs.Asked.{advance_tests}
use Rattle.plus_timeline.specs.Told.{Told}

-- the time asked for is not below the present one, and after a `Run` it is later
abbrev pub IsAhead : Option (List ℕ) → Fraction → Fraction → Type 0
IsAhead None time until = time ≤ℚ until
IsAhead (Some running) time until = time <ℚ until

-- ---- what it does

-- all events that hold fired together
pub record FiresRound (P : Problem) (old new : TimelineView) : Type 0 where
  pub moment : old.now.running ≡ None
  pub fired : List ℕ
  pub after : State
  pub round : IsRound P old.now.fired old.now.state fired after
  pub is :
      new
      ≡ record old {
        now = view_after old.now (history.Round fired after);
        before = old.now.state;
        events = fired;
        answer = Some Round;
        acted = false;
      }

-- the entry is closed with its running set, and a further entry is allowed
pub record ClosesEntry (P : Problem) (u : Fraction) (old new : TimelineView) : Type 0 where
  pub moment : old.now.running ≡ None
  pub room : old.entries < old.most
  pub members : List ℕ
  pub may : RunMayFollow P u old.now members
  pub is :
      new
      ≡ record old {
        now = view_after old.now (history.Run members);
        running = members;
        rates = may.rate;
        answer = Some Run;
        acted = false;
      }

-- the next entry is at time t, with these states on arrival and after its literals, if there are any
abbrev pub EntersAt : Fraction → State → State → Bool → TimelineView → TimelineView → Type 0
EntersAt t arrived after some old new =
    new
    ≡ record old {
      now = view_after old.now (Enter t arrived after);
      before = old.now.state;
      arrival = arrived;
      literal = some;
      entries = suc old.entries;
      answer = Some (Entry t);
      acted = false;
    }

-- the next entry is begun, at time t
pub record BeginsEntry (P : Problem) (u t : Fraction) (old new : TimelineView) : Type 0 where
  pub members : List ℕ
  pub runs : old.now.running ≡ Some members
  pub arrived : State
  pub after : State
  pub may : EnterMayFollow P u old.now members t arrived after
  pub is : EntersAt t arrived after (has_literal P t) old new

-- nothing is due, and the time asked for is reached
pub record IsThere (P : Problem) (until : Fraction) (old new : TimelineView) : Type 0 where
  pub moment : old.now.running ≡ None
  pub still : firing P old.now.state ≡ []
  pub time : old.now.time ≡ until
  pub is : new ≡ record old { answer = Some There; acted = false }

-- one part that may come next is added, or the time asked for is reached
abbrev pub Advances : {Q : Type 0} → (Q → Fraction) → Problem → Fraction → TimelineView → TimelineView → Next Q → Type 0
Advances value P until old new Round = FiresRound P old new
Advances value P until old new Run = ClosesEntry P (least old.now.time until P.timed) old new
Advances value P until old new (Entry t) = BeginsEntry P (least old.now.time until P.timed) (value t) old new
Advances value P until old new There = IsThere P until old new

-- ---- why it is refused

-- the round that is due has no joint effect, for this reason
pub record RoundFails (P : Problem) (v : View) (why : Fault) : Type 0 where
  pub effects : List Effect
  pub due : RoundDue P v effects
  pub fails : joint effects v.state ≡ Err why

-- a breach that no line of the plan is the cause of
abbrev pub BreaksOff : {Q : Type 0} → (Q → Fraction) → Problem → Fraction → View → Breach Q → Type 0
BreaksOff value P u v (UnknownAction line name) = ⊥
BreaksOff value P u v (WrongArguments line name) = ⊥
BreaksOff value P u v (Precondition line label) = ⊥
BreaksOff value P u v (TimeGoesBack line) = ⊥
BreaksOff value P u v (AfterEnd line) = ⊥
BreaksOff value P u v (Conflict f) = RoundFails P v (conflict f.0)
BreaksOff value P u v (NoValue f) = RoundFails P v (no_value f.0) ⊎ RatesFail P u v f.0
BreaksOff value P u v (Repeats e) = (v.running ≡ None) × (first_shared (firing P v.state) v.fired ≡ Some e.0)
BreaksOff value P u v (Unsettled p) = IsUnsettled P u v p.0
BreaksOff value P u v (Coupled p f) = IsCoupled P u v p.0 f.0
BreaksOff value P u v (NoFirstMoment e t) = IsMomentless P u v e.0 (value t)
BreaksOff value P u v Goal = ⊥

-- what `advance` up to the time u tells: over the tests of a round, of closing an entry or of a stretch, whichever is due
abbrev pub AdvanceTold : {Q : Type 0} → (Q → Fraction) → (Fraction → Type 0) → Problem → Fraction → TimelineView → TimelineView → Result (Next Q) (Stop Q) → Type 0
AdvanceTold value fits P u old new result =
    let bound = least old.now.time u P.timed in
    Told value fits old.now.acted old.ended (advance_tests P old.most old.entries bound old.now) (Advances value P u old new) (BreaksOff value P bound old.now) result
