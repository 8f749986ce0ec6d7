-- Histories in which events do not fire exactly where they hold, each by one part alone.
use Rattle.std.specs.Prelude.{true, false, List, [], ◌∷◌, Some, pos}
use Rattle.plus_fraction.specs.Fraction.{whole}
use Rattle.plus_model.specs.Terms.{Always, State, Problem}
use Rattle.plus_model.specs.History.{Part, Enter, Round, Act, Run}
use Rattle.plus_model.specs.Trajectory.{first_part}
use Rattle.plus_validator.specs.Fires.{FiresExactly}
use Rattle.rows.specs.Model.Tank.{tank_of}
use Rattle.rows.specs.Model.Token.{token_state, takes, token_world}

-- one event holds where the atom 0 does, the other where the atom 1 does, and each takes its atom away
abbrev pub world_from : State → Problem
world_from initial = token_world initial (takes 0 [] ∷ takes 1 [] ∷ []) []

-- from these atoms this is no history in which each event fires exactly where it holds
abbrev pub FiresWrong : State → List Part → Type 0
FiresWrong initial parts = FiresExactly (world_from initial) (first_part (world_from initial) ∷ parts) → ⊥

abbrev pub calm : State
calm = token_state false false

abbrev pub first_on : State
first_on = token_state true false

abbrev pub both_on : State
both_on = token_state true true

abbrev pub second_on : State
second_on = token_state false true

-- the tank is open, and is filled by 2 in a unit of time from 0 on; it is full at 5
abbrev pub open_tank : Problem
open_tank = tank_of [] (record { atoms = true ∷ []; fluents = Some (whole (pos 0)) ∷ [] }) Always

-- a stretch to 10 that no event ends
abbrev pub overfull_history : List Part
overfull_history =
    first_part open_tank
    ∷ Run (0 ∷ [])
    ∷ Enter (whole (pos 10)) (record { atoms = true ∷ []; fluents = Some (whole (pos 20)) ∷ [] }) (record { atoms = false ∷ []; fluents = Some (whole (pos 20)) ∷ [] })
    ∷ []

pub record FiresRows : Type 0 where
  pub none_is_left : FiresWrong first_on []  -- an event holds at the end
  pub all_fire : FiresWrong both_on (Round (0 ∷ []) second_on ∷ Round (1 ∷ []) calm ∷ [])  -- one of two is left out of a round
  pub no_other : FiresWrong first_on (Round (0 ∷ 1 ∷ []) calm ∷ [])  -- an event fires that does not hold
  pub some_fire : FiresWrong calm (Round [] calm ∷ [])  -- a round of none
  pub before_action : FiresWrong first_on (Act 0 first_on ∷ Round (0 ∷ []) calm ∷ [])  -- an action is done while an event holds
  pub before_stretch : FiresWrong first_on (Run [] ∷ Round (0 ∷ []) calm ∷ [])  -- time passes while an event holds
  pub inside_stretch : FiresExactly open_tank overfull_history → ⊥  -- an event holds inside a stretch
