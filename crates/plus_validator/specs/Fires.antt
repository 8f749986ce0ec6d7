-- Which events fire in a history: in each state exactly those whose condition holds there.
use Rattle.std.specs.Prelude.{◌≡◌, ◌≢◌, ℕ, List, [], ◌∷◌, ◌++◌, Some, Ok}
use Rattle.plus_fraction.specs.Fraction.{Fraction, ◌-ℚ◌, ◌<ℚ◌}
use Rattle.plus_model.specs.Terms.{Problem}
use Rattle.plus_model.specs.Firing.{firing}
use Rattle.plus_model.specs.Running.{rates, moved}
use Rattle.plus_model.specs.History.{Part, Enter, Round, Act, Run, View}
use Rattle.plus_model.specs.Trajectory.{first_part, view_of}

-- along a running set no event holds at the time x
abbrev pub NoneFires : Problem → View → Fraction → Type 0
NoneFires P v x =
    (running : List ℕ) (rs : List Fraction) → v.running ≡ Some running → rates P v.state running ≡ Ok rs
    → firing P (moved v.state rs (x -ℚ v.time)) ≡ []

-- a round fires all events that hold, and there is one; before an action and before a running set none holds; nor does one at
-- any time between the beginning of a stretch and its end
abbrev pub FiresAt : Problem → View → Part → Type 0
FiresAt P v (Round events after) = (events ≡ firing P v.state) × (events ≢ [])
FiresAt P v (Act line after) = firing P v.state ≡ []
FiresAt P v (Run running) = firing P v.state ≡ []
FiresAt P v (Enter t arrival after) = (x : Fraction) → v.time <ℚ x → x <ℚ t → NoneFires P v x

-- so it is at each part of the history, and at its end no event holds
pub record FiresExactly (P : Problem) (h : List Part) : Type 0 where
  pub each :
      (before : List Part) (part : Part) (rest : List Part) → h ≡ first_part P ∷ (before ++ part ∷ rest)
      → FiresAt P (view_of P (first_part P ∷ before)) part
  pub none_left : firing P (view_of P h).state ≡ []
