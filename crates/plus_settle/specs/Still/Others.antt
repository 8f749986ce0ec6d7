-- Conditions of a list that are not looked at: along rates at which nothing moves that they read, and with tests that pass, it is
-- known what a look at them would tell.
use Rattle.std.specs.Prelude.{◌≡◌, ℕ, false, List, Some, slice_get}
use Rattle.plus_fraction.specs.Fraction.{Fraction}
use Rattle.plus_model.specs.Terms.{Condition, State}
use Rattle.plus_model.specs.Firing.{is_in}
use Rattle.plus_state.specs.Looked.{OthersPass}
use Rattle.plus_reads.specs.Laws.{StandsStill}

-- no other condition reads a fluent that moves
abbrev pub OthersStand : List Condition → List Fraction → List ℕ → Type 0
OthersStand cs rs looked = (k : ℕ) (c : Condition) → slice_get cs k ≡ Some c → is_in looked k ≡ false → StandsStill c rs

-- and each other condition asks nothing that fails
pub record OthersStill (fits : Fraction → Type 0) (cs : List Condition) (s : State) (rs : List Fraction) (looked : List ℕ) : Type 0 where
  pub stand : OthersStand cs rs looked
  pub pass : OthersPass fits cs s looked
