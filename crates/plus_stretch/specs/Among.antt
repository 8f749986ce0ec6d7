-- What is known, without a look at them, of events and processes that are not listed.
use Rattle.std.specs.Prelude.{◌≡◌, ◌↔◌, ℕ, true, false, List, [], length, Some, slice_get}
use Rattle.plus_fraction.specs.Fraction.{Fraction}
use Rattle.plus_model.specs.Terms.{Condition, Event, State, Problem}
use Rattle.plus_model.specs.Firing.{is_in}
use Rattle.plus_state.specs.Numbers.{AreMembers}
use Rattle.plus_state.specs.Walk.{event_conditions, process_conditions}
use Rattle.plus_state.specs.Looked.{OthersPass, OthersFalse}
use Rattle.plus_crossing.specs.Asked.{AllPass}
use Rattle.plus_crossing.specs.Conds.{live_asks}
use Rattle.plus_crossing.specs.Next.{cross_asks}
use Rattle.plus_crossing.specs.Listed.{live_roots}
use Rattle.plus_settle.specs.Among.{OthersConfirmed}
use Rattle.plus_settle.specs.Still.Others.{OthersStill}
use Rattle.plus_stretch.specs.After.{soon}

-- the event does not hold just after, and what it asks to tell this passes
pub record IsNotSoon (fits : Fraction → Type 0) (s : State) (rs : List Fraction) (e : Event) : Type 0 where
  pub pass : AllPass fits (live_asks 0 e.condition s rs)
  pub not : soon e s rs ≡ false

-- each event that is not listed
abbrev pub OthersNotSoon : (Fraction → Type 0) → Problem → State → List Fraction → List ℕ → Type 0
OthersNotSoon fits P s rs listed = (k : ℕ) (e : Event) → slice_get P.events k ≡ Some e → is_in listed k ≡ false → IsNotSoon fits s rs e

-- the condition has no root, and what it asks to tell this passes
pub record HasNoRoot (fits : Fraction → Type 0) (s : State) (rs : List Fraction) (c : Condition) : Type 0 where
  pub pass : AllPass fits (cross_asks 0 c s rs)
  pub none : live_roots c s rs ≡ []

-- each condition that is not listed
abbrev pub OthersHaveNoRoot : (Fraction → Type 0) → List Condition → State → List Fraction → List ℕ → Type 0
OthersHaveNoRoot fits cs s rs listed = (k : ℕ) (c : Condition) → slice_get cs k ≡ Some c → is_in listed k ≡ false → HasNoRoot fits s rs c

-- all that is asked at a state along a running set: no event that is not listed holds in it or just after it, each process that
-- is not listed agrees with its membership, and what all these ask passes
pub record OthersKnown (fits : Fraction → Type 0) (P : Problem) (R : List ℕ) (s : State) (rs : List Fraction) (events processes : List ℕ) : Type 0 where
  pub pass : OthersPass fits (event_conditions P) s events
  pub silent : OthersFalse (event_conditions P) s events
  pub soon : OthersNotSoon fits P s rs events
  pub confirmed : OthersConfirmed fits P R s rs processes

-- what is known along a running set where only these are looked at: of the others nothing moves that they read, what they ask
-- passes, and no event holds
pub record AreKnownAlong (fits : Fraction → Type 0) (P : Problem) (s : State) (rs : List Fraction) (events processes : List ℕ) : Type 0 where
  pub event_members : AreMembers (length (event_conditions P)) events
  pub process_members : AreMembers (length (process_conditions P)) processes
  pub events_still : OthersStill fits (event_conditions P) s rs events
  pub events_silent : OthersFalse (event_conditions P) s events
  pub processes_still : OthersStill fits (process_conditions P) s rs processes

-- whatever lists have these members
abbrev pub KnownFor : (Fraction → Type 0) → Problem → List ℕ → State → List Fraction → List ℕ → List ℕ → Type 0
KnownFor fits P R s rs looked_events looked_processes =
    (events processes : List ℕ) → ((k : ℕ) → is_in events k ≡ true ↔ is_in looked_events k ≡ true) → ((k : ℕ) → is_in processes k ≡ true ↔ is_in looked_processes k ≡ true)
    → OthersKnown fits P R s rs events processes
