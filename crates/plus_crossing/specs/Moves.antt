-- What moving a state asks: of each fluent that has a value and a rate that is not zero the rate times the delay, and then
-- the value plus that, fluents in ground order.
use Rattle.std.specs.Prelude.{◌≡◌, ℕ, suc, List, [], ◌∷◌, ◌++◌, Option, Some, None, option_map, Result, MatchResult, if◌then◌else◌}
use Rattle.plus_fraction.specs.Fraction.{Fraction, ◌+ℚ◌, ◌*ℚ◌}
use Rattle.plus_model.specs.Terms.{State}
use Rattle.plus_model.specs.Value.{is_zero}
use Rattle.plus_model.specs.Running.{moved}
use Rattle.plus_state.specs.declared.term.Sign.TheVariants.{Plus, Times}
use Rattle.plus_state.specs.Node.{Node}
use Rattle.plus_state.specs.Asked.{node, AllFit, FirstUnfit}
use Rattle.plus_state.specs.View.{overflow_of}
use Rattle.plus_state.specs.Changes.{Changes, patched}
use Rattle.plus_crossing.specs.declared.moves.MoveStop.{MoveStop}
use Rattle.plus_crossing.specs.declared.moves.MoveStop.TheVariants.{Number, Memory}

-- a value after x units of time
abbrev pub moved_value : Option Fraction → Fraction → Fraction → Option Fraction
moved_value v r x = option_map (λ w. w +ℚ r *ℚ x) v

unfoldable pub fluent_nodes : Option Fraction → Fraction → Fraction → List Node
fluent_nodes None r x = []
fluent_nodes (Some v) r x = if is_zero r then [] else node Times r x ∷ node Plus v (r *ℚ x) ∷ []

abbrev pub moved_nodes : List (Option Fraction) → List Fraction → Fraction → List Node
moved_nodes [] rs x = []
moved_nodes (v ∷ vs) [] x = []
moved_nodes (v ∷ vs) (r ∷ rs) x = fluent_nodes v r x ++ moved_nodes vs rs x

-- the first of these nodes that does not fit; want of memory may come at any time
abbrev pub MoveStops : {Q : Type 0} → (Q → Fraction) → (Fraction → Type 0) → List Node → MoveStop Q → Type 0
MoveStops v fits ns (Number o) = FirstUnfit fits ns (overflow_of v o)
MoveStops v fits ns Memory = Unit {0}

-- the moved state where all nodes fit, or the first that does not
abbrev pub MoveAnswers : {Q : Type 0} → (Q → Fraction) → (Fraction → Type 0) → State → List Fraction → Fraction → Result State (MoveStop Q) → Type 0
MoveAnswers v fits s rs x r =
    MatchResult r (λ t. AllFit fits (moved_nodes s.fluents rs x) × (t ≡ moved s rs x)) (λ e. MoveStops v fits (moved_nodes s.fluents rs x) e)

-- the fluents with a rate that is not zero, from number k on, with their values after x units of time
abbrev pub change_if : ℕ → Option Fraction → Fraction → Fraction → List (ℕ × Option Fraction)
change_if k v r x = if is_zero r then [] else (k, moved_value v r x) ∷ []

abbrev pub moving_changes : ℕ → List (Option Fraction) → List Fraction → Fraction → List (ℕ × Option Fraction)
moving_changes k [] rs x = []
moving_changes k (v ∷ vs) [] x = []
moving_changes k (v ∷ vs) (r ∷ rs) x = change_if k v r x ++ moving_changes (suc k) vs rs x

-- what leads to the moment x, from whatever moment along these rates
abbrev pub MovesTo : State → List Fraction → Fraction → Changes → Type 0
MovesTo s rs x c = (from : Fraction) → patched (moved s rs from) c ≡ moved s rs x

-- where all nodes fit, the changes lead to the moment; or the first that does not
abbrev pub MovesTell : {Q : Type 0} → (Q → Fraction) → (Fraction → Type 0) → State → List Fraction → Fraction → Changes → Result (Unit {0}) (MoveStop Q) → Type 0
MovesTell v fits s rs x c r =
    MatchResult r (λ _. AllFit fits (moved_nodes s.fluents rs x) × MovesTo s rs x c) (λ e. MoveStops v fits (moved_nodes s.fluents rs x) e)
