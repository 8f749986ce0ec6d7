-- Steps of the evaluation by which a state is settled.
use Rattle.std.specs.Prelude.{◌≡◌, ℕ, Bool, true, List, map}
use Rattle.plus_fraction.specs.Fraction.{Fraction}
use Rattle.plus_state.specs.Node.{Node}
use Rattle.plus_state.specs.Tested as tested
use Rattle.plus_state.specs.Asked.{NodeFits}
use Rattle.plus_crossing.specs.Asked as crossing
use Rattle.plus_crossing.specs.Asked.{Ask}

-- a node, which stops where its exact result is no value; a product or a quotient in a comparison of a process, by their
-- numbers, which stops where it is not linear; a missing value for a fluent, a process that is unsettled, and a process with a
-- rate that reads a moving fluent, which always stop
pub data SettleStep : Type 0 where
  asks : Node → SettleStep
  straight : ℕ → ℕ → Bool → SettleStep
  no_value : ℕ → SettleStep
  unsettled : ℕ → SettleStep
  coupled : ℕ → ℕ → SettleStep

unfoldable pub Passes : (Fraction → Type 0) → SettleStep → Type 0
Passes fits (asks n) = NodeFits fits n
Passes fits (straight p k b) = b ≡ true
Passes fits (no_value f) = ⊥
Passes fits (unsettled p) = ⊥
Passes fits (coupled p f) = ⊥

-- no step stops
abbrev pub AllPass : (Fraction → Type 0) → List SettleStep → Type 0
AllPass fits ns = tested.AllPass (Passes fits) ns

-- the first step that stops
abbrev pub FirstStop : (Fraction → Type 0) → List SettleStep → SettleStep → Type 0
FirstStop fits ns m = tested.FirstFailing (Passes fits) ns m

-- a test of a condition of this process
abbrev pub of_ask : ℕ → Ask → SettleStep
of_ask p (crossing.asks n) = asks n
of_ask p (crossing.straight k b) = straight p k b

unfoldable pub owned : ℕ → List Ask → List SettleStep
owned p ts = map (of_ask p) ts
