-- What a round answers.
use Rattle.std.specs.Prelude.{◌≡◌, ◌≢◌, ℕ, Bool, true, false, List, [], Option, Some, None, Result, Ok, Err, MatchResult}
use Rattle.plus_fraction.specs.Fraction.{Fraction}
use Rattle.plus_model.specs.Terms.{State, Problem}
use Rattle.plus_model.specs.Joint as model
use Rattle.plus_model.specs.Joint.{Fault, joint}
use Rattle.plus_model.specs.Firing.{firing, effects_of}
use Rattle.plus_state.specs.declared.outcome.JointStop.{JointStop}
use Rattle.plus_state.specs.declared.outcome.JointStop.TheVariants as joint_stop
use Rattle.plus_state.specs.declared.walk.WalkStop.{WalkStop}
use Rattle.plus_state.specs.declared.walk.WalkStop.TheVariants as walk_stop
use Rattle.plus_state.specs.Node.{Node}
use Rattle.plus_state.specs.View.{overflow_of}
use Rattle.plus_state.specs.Asked.{FirstUnfit}
use Rattle.plus_state.specs.Changes.{patched}
use Rattle.plus_cascade.specs.declared.rounds.CascadeStop.{CascadeStop}
use Rattle.plus_cascade.specs.declared.rounds.CascadeStop.TheVariants.{Repeats, Conflict, NoValue, Number, Memory}
use Rattle.plus_cascade.specs.declared.rounds.FiredRound.{FiredRound}
use Rattle.plus_cascade.specs.declared.rounds.DueRound.{DueRound}
use Rattle.plus_state.specs.Numbers.{event_numbers}
use Rattle.plus_cascade.specs.Fired.{first_repeated, with_fired}
use Rattle.plus_cascade.specs.Steps.{RoundStep, asks, fails, repeats, AllPass, FirstStop, round_steps}

-- all events that hold fire together, there is one, and none of them is in the set of those that have fired
pub record Fires (P : Problem) (fired : List Bool) (s : State) (events : List ℕ) (after : State) : Type 0 where
  pub all : events ≡ firing P s
  pub some : events ≢ []
  pub fresh : first_repeated fired events ≡ None
  pub effect : joint (effects_of P events) s ≡ Ok after

-- events hold, none of them has fired, and there is no joint effect of them, for this reason
pub record FailsJointly (P : Problem) (fired : List Bool) (s : State) (why : Fault) : Type 0 where
  pub some : firing P s ≢ []
  pub fresh : first_repeated fired (firing P s) ≡ None
  pub fails : joint (effects_of P (firing P s)) s ≡ Err why

abbrev pub IsRound : {Q : Type 0} → Problem → List Bool → State → Option (FiredRound Q) → Type 0
IsRound P fired s None = firing P s ≡ []
IsRound P fired s (Some r) = Fires P fired s (event_numbers r.events.items) r.after

-- there is no round, for this reason; a number that does not fit and want of memory say nothing of it
abbrev pub NoRound : {Q : Type 0} → Problem → List Bool → State → CascadeStop Q → Type 0
NoRound P fired s (Repeats e) = first_repeated fired (firing P s) ≡ Some e.0
NoRound P fired s (Conflict f) = FailsJointly P fired s (model.Conflict f.0)
NoRound P fired s (NoValue f) = FailsJointly P fired s (model.NoValue f.0)
NoRound P fired s (Number o) = Unit {0}
NoRound P fired s Memory = Unit {0}

-- the stop is the first of these steps that stops; want of memory may come at any time
abbrev pub StopIs : {Q : Type 0} → (Q → Fraction) → (Fraction → Type 0) → List RoundStep → CascadeStop Q → Type 0
StopIs v fits ns (Repeats e) = FirstStop fits ns (repeats e.0)
StopIs v fits ns (Conflict f) = FirstStop fits ns (fails (model.Conflict f.0))
StopIs v fits ns (NoValue f) = FirstStop fits ns (fails (model.NoValue f.0))
StopIs v fits ns (Number o) = FirstStop fits ns (asks (overflow_of v o))
StopIs v fits ns Memory = Unit {0}

-- all steps pass, and there is this round, or no event holds; or the first step that stops
abbrev pub Rounds : {Q : Type 0} → (Q → Fraction) → (Fraction → Type 0) → Problem → List Bool → State → Result (Option (FiredRound Q)) (CascadeStop Q) → Type 0
Rounds v fits P fired s r =
    MatchResult r (λ o. AllPass fits (round_steps P fired s) × IsRound P fired s o)
    (λ e. StopIs v fits (round_steps P fired s) e × NoRound P fired s e)

-- the same of a round that is not made yet, whose changes lead to the state after it
abbrev pub IsDueRound : {Q : Type 0} → Problem → List Bool → State → Option (DueRound Q) → Type 0
IsDueRound P fired s None = firing P s ≡ []
IsDueRound P fired s (Some r) = Fires P fired s (event_numbers r.events.items) (patched s r.changes)

abbrev pub RoundChanges : {Q : Type 0} → (Q → Fraction) → (Fraction → Type 0) → Problem → List Bool → State → Result (Option (DueRound Q)) (CascadeStop Q) → Type 0
RoundChanges v fits P fired s r =
    MatchResult r (λ o. AllPass fits (round_steps P fired s) × IsDueRound P fired s o)
    (λ e. StopIs v fits (round_steps P fired s) e × NoRound P fired s e)

-- what a call answers that puts a round in its place: it, if one is due
abbrev pub if_due : {Q : Type 0} → DueRound Q → Result Bool (CascadeStop Q) → Result (Option (DueRound Q)) (CascadeStop Q)
if_due r (Ok true) = Ok (Some r)
if_due r (Ok false) = Ok None
if_due r (Err e) = Err e

-- the set afterwards: the events of the round have joined it, and after a refusal it is the same
abbrev pub set_after : {Q : Type 0} → List Bool → Result (Option (FiredRound Q)) (CascadeStop Q) → List Bool
set_after fired (Ok None) = fired
set_after fired (Ok (Some r)) = with_fired fired (event_numbers r.events.items)
set_after fired (Err e) = fired

-- the stop of a joint effect as that of a round
abbrev pub of_joint : {Q : Type 0} → JointStop Q → CascadeStop Q
of_joint (joint_stop.Conflict f) = Conflict f
of_joint (joint_stop.NoValue f) = NoValue f
of_joint (joint_stop.Number o) = Number o
of_joint joint_stop.Memory = Memory

-- the stop of a walk over conditions as that of a round
abbrev pub of_walk : {Q : Type 0} → WalkStop Q → CascadeStop Q
of_walk (walk_stop.Number o) = Number o
of_walk walk_stop.Memory = Memory

-- the first of these nodes that does not fit, or want of memory
abbrev pub ConditionStops : {Q : Type 0} → (Q → Fraction) → (Fraction → Type 0) → List Node → CascadeStop Q → Type 0
ConditionStops v fits ns (Repeats e) = ⊥
ConditionStops v fits ns (Conflict f) = ⊥
ConditionStops v fits ns (NoValue f) = ⊥
ConditionStops v fits ns (Number o) = FirstUnfit fits ns (overflow_of v o)
ConditionStops v fits ns Memory = Unit {0}
