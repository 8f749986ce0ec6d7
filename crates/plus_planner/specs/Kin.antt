-- The timelines of one search, each of which may become a fork of each other one.
use Rattle.std.specs.Prelude.{◌≡◌, ◌⊎◌, List, length, Some, None, IfSome}
use Rattle.std.specs.List.{AllByRecursion}
use Rattle.plus_model.specs.Terms.{Problem}
use Rattle.plus_model.specs.Trajectory.{first_view}
use Rattle.plus_timeline.specs.Timeline.{TimelineView}
use Rattle.plus_planner.specs.declared.places.Taken.{Taken}
use Rattle.plus_planner.specs.declared.places.Tried.{Tried}

-- a timeline of this problem, whose root, if it has one, is the state at the beginning
pub record IsKin (P : Problem) (t : TimelineView) : Type 0 where
  pub atoms : t.atoms ≡ P.atoms
  pub fluents : t.fluents ≡ P.fluents
  pub events : t.event_count ≡ length P.events
  pub root : IfSome t.root (λ r. r ≡ (first_view P).state)

-- the root is forgotten, or not
abbrev pub IsLightened : TimelineView → TimelineView → Type 0
IsLightened old new = (new ≡ old) ⊎ (new ≡ record old { root = None })

-- the present state is the root, or nothing was changed
abbrev pub IsRooted : TimelineView → TimelineView → Type 0
IsRooted old new = (new ≡ old) ⊎ (new ≡ record old { root = Some old.now.state })

-- each timeline of a place is one of this problem
pub record AreKin {Q : Type 0} (P : Problem) (start : TimelineView) (taken : List (Taken Q)) (tried : List (Tried Q)) (spares : List TimelineView) : Type 0 where
  pub start_is : IsKin P start
  pub taken_are : AllByRecursion (λ (x : Taken Q). IsKin P x.timeline) taken
  pub tried_are : AllByRecursion (λ (x : Tried Q). IsKin P x.taken.timeline) tried
  pub spares_are : AllByRecursion (IsKin P) spares

-- the problem that this timeline and each of those before are of, each of those afterwards is of
abbrev pub AddsOne : {Q : Type 0} → TimelineView → List (Taken Q) → List TimelineView → List (Taken Q) → List TimelineView → Type 0
AddsOne {Q} t taken spares taken' spares' =
    (P : Problem) → IsKin P t → AllByRecursion (λ (x : Taken Q). IsKin P x.timeline) taken → AllByRecursion (IsKin P) spares
    → AllByRecursion (λ (x : Taken Q). IsKin P x.timeline) taken' × AllByRecursion (IsKin P) spares'

-- the problem that each timeline that was tried, and each that was spared before, is of, each that is spared afterwards is of
abbrev pub Spares : {Q : Type 0} → List (Tried Q) → List TimelineView → List TimelineView → Type 0
Spares {Q} tried spares spares' =
    (P : Problem) → AllByRecursion (λ (x : Tried Q). IsKin P x.taken.timeline) tried → AllByRecursion (IsKin P) spares → AllByRecursion (IsKin P) spares'

-- the same of what is tried and spared afterwards, where this timeline is of it too
abbrev pub KeepsKin : {Q : Type 0} → Taken Q → List (Tried Q) → List TimelineView → List (Tried Q) → List TimelineView → Type 0
KeepsKin {Q} taken tried spares tried' spares' =
    (P : Problem) → IsKin P taken.timeline → AllByRecursion (λ (x : Tried Q). IsKin P x.taken.timeline) tried → AllByRecursion (IsKin P) spares
    → AllByRecursion (λ (x : Tried Q). IsKin P x.taken.timeline) tried' × AllByRecursion (IsKin P) spares'
