-- What the set of the events that have fired says of the cascades of the model.
use Rattle.std.specs.Prelude.{◌≡◌, ℕ, Bool, false, List, [], ◌++◌, length, replicate}
use Rattle.plus_model.specs.Terms.{State, Problem}
use Rattle.plus_model.specs.Firing as model
use Rattle.plus_cascade.specs.Fired.{with_fired, IsSetOf}
use Rattle.plus_cascade.specs.Rounds.{Fires}

-- no event has fired at first
abbrev pub EmptyAtFirst : Type 0
EmptyAtFirst = (events : ℕ) → IsSetOf (replicate events false) []

-- what fires by the set is a round after the events in the set, and then the set is that of all of them
abbrev pub RoundsGoOn : Type 0
RoundsGoOn =
    (P : Problem) (fired : List Bool) (before : List ℕ) (s : State) (events : List ℕ) (after : State)
    → length fired ≡ length P.events → IsSetOf fired before → Fires P fired s events after
    → model.IsRound P before s events after × IsSetOf (with_fired fired events) (before ++ events)
