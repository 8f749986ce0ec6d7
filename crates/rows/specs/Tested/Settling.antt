-- Worked rows of what settling asks. Numbers up to 9 fit.
use Rattle.std.specs.Prelude.{◌≡◌, true, false, List, [], ◌∷◌}
use Rattle.plus_fraction.specs.Fraction.{Fraction}
use Rattle.plus_model.specs.Terms.{Number, Fluent, Sum, Product, AtLeast, Compare, Problem}
use Rattle.rows.specs.Model.Rises.{n, values, if_x, moves, up, world, side_world, lacking_world, coupled_world}
use Rattle.rows.specs.Time.Sets.{stopping_world, second_world, falling_world}
use Rattle.plus_state.specs.declared.term.Sign.TheVariants.{Plus, Minus}
use Rattle.plus_state.specs.Asked.{node}
use Rattle.plus_settle.specs.Steps.{asks, straight, no_value, unsettled, coupled, AllPass, FirstStop}
use Rattle.plus_settle.specs.Confirms.{go_steps}
use Rattle.plus_settle.specs.Settles.{settle_steps}
use Rattle.rows.specs.Tested.Small.{Small}

-- a process that raises x by y + 1 where x + y is at least 5
abbrev pub summing : Problem
summing = world
    (moves (Compare AtLeast (Sum (Fluent 0) (Fluent 1)) (Number (n 5)) true) 0 true (Sum (Fluent 1) (Number (n 1))) ∷ []) []

-- the condition in the state, then the rates of those that hold, then the condition along them (value
-- and slope), then the rates of those chosen, then the condition once more along these
pub record SettleRows : Type 0 where
  pub runs :
      settle_steps summing (values 3 2)
      ≡ asks (node Plus (n 3) (n 2))
      ∷ asks (node Plus (n 2) (n 1)) ∷ asks (node Plus (n 0) (n 3))
      ∷ asks (node Plus (n 3) (n 2)) ∷ asks (node Plus (n 3) (n 0))
      ∷ asks (node Plus (n 2) (n 1)) ∷ asks (node Plus (n 0) (n 3))
      ∷ asks (node Plus (n 3) (n 2)) ∷ asks (node Plus (n 3) (n 0))
      ∷ []
  pub runs_passes : AllPass Small (settle_steps summing (values 3 2))
  pub rests :
      settle_steps summing (values 3 1)
      ≡ asks (node Plus (n 3) (n 1))
      ∷ asks (node Plus (n 3) (n 1)) ∷ asks (node Plus (n 0) (n 0))
      ∷ asks (node Plus (n 3) (n 1)) ∷ asks (node Plus (n 0) (n 0))
      ∷ []
  pub falls : settle_steps falling_world (values 8 0) ≡ asks (node Minus (n 0) (n 1)) ∷ asks (node Minus (n 0) (n 1)) ∷ []
  pub nothing : settle_steps (world [] []) (values 0 0) ≡ []

-- a process whose condition multiplies x by itself, beside one that moves x
abbrev pub squaring : Problem
squaring = world (up ∷ moves (Compare AtLeast (Product (Fluent 0) (Fluent 0)) (Number (n 5)) true) 1 true (Number (n 1)) ∷ []) []

-- x is at least 5, so that process 0 runs; 1 and 2 do so with x and its square
abbrev pub ordered : Problem
ordered = world (moves (if_x AtLeast 5) 1 true (Number (n 1)) ∷ squaring.processes) []

pub record SettleStops : Type 0 where
  pub condition : FirstStop Small (settle_steps summing (values 8 2)) (asks (node Plus (n 8) (n 2)))
  pub amount : FirstStop Small (settle_steps summing (values 0 9)) (asks (node Plus (n 9) (n 1)))
  pub not_linear : FirstStop Small (settle_steps squaring (values 0 0)) (straight 1 1 false)
  pub lacks : FirstStop Small (settle_steps lacking_world lacking_world.initial) (no_value 1)
  pub stops : FirstStop Small (settle_steps stopping_world (values 5 0)) (unsettled 0)
  pub starts : FirstStop Small (settle_steps second_world (values 5 0)) (unsettled 1)
  pub reads : FirstStop Small (settle_steps coupled_world (values 0 0)) (coupled 0 1)

abbrev pub rates : List Fraction
rates = n 1 ∷ n 1 ∷ []

-- at x = 5 process 0 runs: where it is no member, it is the first that differs, and process 2, whose
-- condition is not linear, is not asked
pub record GoRows : Type 0 where
  pub goes_on : go_steps side_world (0 ∷ 1 ∷ []) (values 0 0) rates ≡ []
  pub sums :
      go_steps summing (0 ∷ []) (values 3 2) (n 3 ∷ n 0 ∷ []) ≡ asks (node Plus (n 3) (n 2)) ∷ asks (node Plus (n 3) (n 0)) ∷ []
  pub differs : go_steps ordered (1 ∷ []) (values 5 0) rates ≡ []
  pub not_linear : FirstStop Small (go_steps ordered (0 ∷ 1 ∷ []) (values 5 0) rates) (straight 2 1 false)
