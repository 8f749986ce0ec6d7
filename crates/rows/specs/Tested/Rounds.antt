-- Worked rows of what a round of events asks. The fluents are x and y; numbers up to 9 fit.
use Rattle.std.specs.Prelude.{◌≡◌, ℕ, true, false, List, [], ◌∷◌}
use Rattle.plus_model.specs.Terms.{Number, Fluent, Sum, Product, AtLeast, Compare, Increase, Problem}
use Rattle.plus_model.specs.Joint.{Conflict, NoValue}
use Rattle.rows.specs.Model.Rises.{n, values, fires, world, clash_world}
use Rattle.rows.specs.Time.Effects.{without_y, repeating_world}
use Rattle.plus_state.specs.declared.term.Sign.TheVariants.{Plus, Times}
use Rattle.plus_state.specs.Asked.{node}
use Rattle.plus_cascade.specs.Steps.{RoundStep, asks, fails, repeats, AllPass, FirstStop, round_steps}
use Rattle.rows.specs.Tested.Small.{Small}

-- one event: where x + y is at least 5, x goes up by 2 * y
abbrev pub summing_world : Problem
summing_world = world []
    (fires (Compare AtLeast (Sum (Fluent 0) (Fluent 1)) (Number (n 5)) true) (Increase 0 (Product (Number (n 2)) (Fluent 1))) ∷ [])

abbrev pub asked : ℕ → ℕ → List RoundStep
asked x y = round_steps summing_world (false ∷ []) (values x y)

-- the event does not hold at 0 and 4; at 1 and 4 it does: the condition, the amount, the sum
pub record RoundRows : Type 0 where
  pub over : asked 0 4 ≡ asks (node Plus (n 0) (n 4)) ∷ []
  pub over_passes : AllPass Small (asked 0 4)
  pub fires :
      asked 1 4 ≡ asks (node Plus (n 1) (n 4)) ∷ asks (node Times (n 2) (n 4)) ∷ asks (node Plus (n 1) (n 8)) ∷ []
  pub fires_passes : AllPass Small (asked 1 4)

pub record RoundStops : Type 0 where
  pub condition : FirstStop Small (asked 6 4) (asks (node Plus (n 6) (n 4)))
  pub effect : FirstStop Small (asked 2 4) (asks (node Plus (n 2) (n 8)))
  pub repeated : FirstStop Small (round_steps repeating_world (false ∷ true ∷ []) (without_y 1)) (repeats 1)
  pub no_value : FirstStop Small (round_steps repeating_world (false ∷ false ∷ []) (without_y 1)) (fails (NoValue 1))
  pub clash : FirstStop Small (round_steps clash_world (false ∷ false ∷ []) (values 5 0)) (fails (Conflict 1))
