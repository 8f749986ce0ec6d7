-- What a timeline tells of the round that is due.
use Rattle.std.specs.Prelude.{◌≡◌, ℕ, Bool, List, length, Option, Result}
use Rattle.plus_fraction.specs.Fraction.{Fraction}
use Rattle.plus_model.specs.Terms.{State, Problem}
use Rattle.plus_cascade.specs.declared.rounds.CascadeStop.{CascadeStop}
use Rattle.plus_cascade.specs.declared.rounds.DueRound.{DueRound}
use Rattle.plus_cascade.specs.Fired.{IsSetOf}
use Rattle.plus_cascade.specs.Rounds.{RoundChanges}

-- it is the round by a set of events, which is that of the events that have fired
pub record DueTold {Q : Type 0} (value : Q → Fraction) (fits : Fraction → Type 0) (P : Problem) (fired : List ℕ) (s : State) (result : Result (Option (DueRound Q)) (CascadeStop Q)) : Type 0 where
  pub set : List Bool
  pub set_is : IsSetOf set fired
  pub size : length set ≡ length P.events
  pub told : RoundChanges value fits P set s result
