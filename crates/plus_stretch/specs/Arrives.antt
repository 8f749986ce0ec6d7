-- Where a running set comes to.
use Rattle.std.specs.Prelude.{◌≡◌, ℕ, Bool, true, false, List, [], ◌∷◌, Option, Some, None, Result, Ok, Err}
use Rattle.plus_fraction.specs.Fraction.{Fraction, ◌+ℚ◌, ◌<ℚ◌}
use Rattle.plus_model.specs.Terms.{State, Problem}
use Rattle.plus_model.specs.Running.{moved}
use Rattle.plus_model.specs.History.{View}
use Rattle.plus_model.specs.Trajectory.{literals, EnterMayFollow}
use Rattle.plus_model.specs.Breach.{IsMomentless}
use Rattle.plus_state.specs.Changes.{Changes, patched, RisesIn}
use Rattle.plus_stretch.specs.declared.arrival.End.{End}
use Rattle.plus_stretch.specs.declared.arrival.End.TheVariants.{EventHolds, SetEnds, Until}
use Rattle.plus_stretch.specs.declared.arrival.Arrival.{Arrival}
use Rattle.plus_stretch.specs.declared.halt.Halt.{Halt}
use Rattle.plus_stretch.specs.Here.{EndsHere, IsQuietHere, MomentlessHere}
use Rattle.plus_stretch.specs.StretchTests.{crossing_tests, walk_tests, stretch_tests}
use Rattle.plus_stretch.specs.Tests.{AllPass}
use Rattle.plus_stretch.specs.Told.{Told}

-- the changes lead to the state after r units of time
pub record ComesBy (s : State) (rs : List Fraction) (r : Fraction) (c : Changes) : Type 0 where
  pub rises : RisesIn s c
  pub is : patched s c ≡ moved s rs r

-- at a crossing r after the time t something begins
pub record BeginsThere {Q : Type 0} (value : Q → Fraction) (P : Problem) (t : Fraction) (s : State) (R : List ℕ) (rs : List Fraction) (r : Fraction) (a : Arrival Q) : Type 0 where
  pub time : value a.time ≡ t +ℚ r
  pub comes : ComesBy s rs r a.changes
  pub ends : EndsHere P (moved s rs r) R rs a.end

-- nothing begins there, or this
abbrev pub CrossingIs : {Q : Type 0} → (Q → Fraction) → Problem → Fraction → State → List ℕ → List Fraction → Fraction → Option (Arrival Q) → Type 0
CrossingIs value P t s R rs r None = IsQuietHere P (moved s rs r) R rs
CrossingIs value P t s R rs r (Some a) = BeginsThere value P t s R rs r a

-- what one crossing tells
abbrev pub CrossingTold : {Q : Type 0} → (Q → Fraction) → (Fraction → Type 0) → Problem → Fraction → State → List ℕ → List Fraction → Fraction → Result (Option (Arrival Q)) (Halt Q) → Type 0
CrossingTold value fits P t s R rs r answer =
    Told value fits (crossing_tests P t s R rs r []) (CrossingIs value P t s R rs r) (MomentlessHere P (t +ℚ r) (moved s rs r) R rs) answer

-- ---- a stretch

-- all that a stretch depends on: the time and the state at its beginning, and the running set
abbrev pub stretch_view : Fraction → State → List ℕ → View
stretch_view t s R = record { time = t; state = s; fired = []; running = Some R; acted = 0 }

-- before the moment u an event holds, or none does and the set does not go on; or this is the moment u
abbrev pub EndsBy : Problem → Fraction → List ℕ → List Fraction → Fraction → State → End → Type 0
EndsBy P u R rs t arrival EventHolds = (t <ℚ u) × EndsHere P arrival R rs EventHolds
EndsBy P u R rs t arrival SetEnds = (t <ℚ u) × EndsHere P arrival R rs SetEnds
EndsBy P u R rs t arrival Until = t ≡ u

-- the next entry may begin there, with what has changed, and why
pub record Arrives {Q : Type 0} (value : Q → Fraction) (P : Problem) (u t : Fraction) (s : State) (R : List ℕ) (rs : List Fraction) (a : Arrival Q) : Type 0 where
  pub may : EnterMayFollow P u (stretch_view t s R) R (value a.time) (patched s a.changes) (literals P (value a.time) (patched s a.changes))
  pub rises : RisesIn s a.changes
  pub ends : EndsBy P u R rs (value a.time) (patched s a.changes) a.end

-- what it tells to go from one of these roots to the next, up to the end after so much time
abbrev pub WalkTold : {Q : Type 0} → (Q → Fraction) → (Fraction → Type 0) → Problem → Fraction → Fraction → State → List ℕ → List Fraction → Fraction → List Fraction → Result (Arrival Q) (Halt Q) → Type 0
WalkTold value fits P u t s R rs len roots answer =
    Told value fits (walk_tests P t s R rs len roots) (Arrives value P u t s R rs) (IsMomentless P u (stretch_view t s R)) answer

-- nothing begins at the first of these roots, and what is asked there passes
abbrev pub IsQuietAtFirst : (Fraction → Type 0) → Problem → Fraction → State → List ℕ → List Fraction → List Fraction → Type 0
IsQuietAtFirst fits P t s R rs [] = Unit {0}
IsQuietAtFirst fits P t s R rs (r ∷ roots) = AllPass fits (crossing_tests P t s R rs r []) × IsQuietHere P (moved s rs r) R rs

-- at the moment u, after so much time
pub record IsAtEnd {Q : Type 0} (value : Q → Fraction) (u : Fraction) (s : State) (rs : List Fraction) (len : Fraction) (a : Arrival Q) : Type 0 where
  pub time : value a.time ≡ u
  pub end : a.end ≡ Until
  pub comes : ComesBy s rs len a.changes

-- what it tells to try the first of these roots alone, or the end where there is none: nothing begins there, or this is where
-- the search over all of them ends
abbrev pub FirstTold : {Q : Type 0} → (Q → Fraction) → (Fraction → Type 0) → Problem → Fraction → Fraction → State → List ℕ → List Fraction → Fraction → List Fraction → Result (Option (Arrival Q)) (Halt Q) → Type 0
FirstTold value fits P u t s R rs len roots (Ok None) = IsQuietAtFirst fits P t s R rs roots
FirstTold value fits P u t s R rs len roots (Ok (Some a)) = WalkTold value fits P u t s R rs len roots (Ok a)
FirstTold value fits P u t s R rs len roots (Err h) = WalkTold value fits P u t s R rs len roots (Err h)

-- what a stretch from the time t up to the moment u tells
abbrev pub StretchTold : {Q : Type 0} → (Q → Fraction) → (Fraction → Type 0) → Problem → Fraction → Fraction → State → List ℕ → List Fraction → Result (Arrival Q) (Halt Q) → Type 0
StretchTold value fits P u t s R rs answer =
    Told value fits (stretch_tests P u (stretch_view t s R) R) (Arrives value P u t s R rs) (IsMomentless P u (stretch_view t s R)) answer

-- what a call answers that puts an arrival in its place: it, if something begins
abbrev pub if_begun : {Q : Type 0} → Arrival Q → Result Bool (Halt Q) → Result (Option (Arrival Q)) (Halt Q)
if_begun a (Ok true) = Ok (Some a)
if_begun a (Ok false) = Ok None
if_begun a (Err h) = Err h

-- the same where it comes to one in any case
abbrev pub arrived_at : {Q : Type 0} → Arrival Q → Result (Unit {0}) (Halt Q) → Result (Arrival Q) (Halt Q)
arrived_at a (Ok u) = Ok a
arrived_at a (Err h) = Err h

-- afterwards the state that was lent is the one on arrival
abbrev pub IsArrived : {Q : Type 0} → State → State → Arrival Q → Type 0
IsArrived s ahead a = ahead ≡ patched s a.changes
