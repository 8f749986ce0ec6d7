-- The tests that an evaluation along rates asks, in order, and the first that fails.
use Rattle.std.specs.Prelude.{◌≡◌, ℕ, Bool, true, false, List, map, Result, MatchResult}
use Rattle.plus_fraction.specs.Fraction.{Fraction}
use Rattle.plus_state.specs.declared.term.Sign.{Sign}
use Rattle.plus_state.specs.declared.term.Overflow.{Overflow}
use Rattle.plus_state.specs.Node.{Node}
use Rattle.plus_state.specs.Tested as tested
use Rattle.plus_state.specs.Asked.{result_of, node, NodeFits}
use Rattle.plus_state.specs.View.{overflow_of}
use Rattle.plus_crossing.specs.declared.node.PieceStop.{PieceStop}
use Rattle.plus_crossing.specs.declared.node.PieceStop.TheVariants.{Number, Nonlinear}
use Rattle.plus_crossing.specs.declared.node.CondStop.{CondStop}
use Rattle.plus_crossing.specs.declared.node.CondStop.TheVariants as cond

-- a node passes where its exact result is a value; a product or a quotient in the comparison with this number passes where
-- it is linear. The number is 0 where an expression stands alone
pub data Ask : Type 0 where
  asks : Node → Ask
  straight : ℕ → Bool → Ask

unfoldable pub Passes : (Fraction → Type 0) → Ask → Type 0
Passes fits (asks n) = NodeFits fits n
Passes fits (straight k b) = b ≡ true

-- no test fails
abbrev pub AllPass : (Fraction → Type 0) → List Ask → Type 0
AllPass fits ts = tested.AllPass (Passes fits) ts

-- the first test that fails
abbrev pub FirstFailing : (Fraction → Type 0) → List Ask → Ask → Type 0
FirstFailing fits ts m = tested.FirstFailing (Passes fits) ts m

-- the test that a stop names
abbrev pub stop_of : {Q : Type 0} → (Q → Fraction) → PieceStop Q → Ask
stop_of v (Number o) = asks (overflow_of v o)
stop_of v Nonlinear = straight 0 false

abbrev pub cond_stop_of : {Q : Type 0} → (Q → Fraction) → CondStop Q → Ask
cond_stop_of v (cond.Number o) = asks (overflow_of v o)
cond_stop_of v (cond.Nonlinear k) = straight k false

-- a test in the comparison with this number
abbrev pub number : ℕ → Ask → Ask
number k (asks n) = asks n
number k (straight j b) = straight k b

unfoldable pub numbered : ℕ → List Ask → List Ask
numbered k ts = map (number k) ts

-- the result of one node, or its stop
abbrev pub NodeTells : {Q : Type 0} → (Q → Fraction) → (Fraction → Type 0) → Sign → Q → Q → Result Q (Overflow Q) → Type 0
NodeTells v fits sign x y r =
    MatchResult r (λ z. (v z ≡ result_of sign (v x) (v y)) × fits (v z)) (λ w. (fits (result_of sign (v x) (v y)) → ⊥) × (overflow_of v w ≡ node sign (v x) (v y)))

abbrev pub NodeAnswers : {Q : Type 0} → (Q → Fraction) → (Fraction → Type 0) → Sign → Q → Q → Result Q (PieceStop Q) → Type 0
NodeAnswers v fits sign x y r =
    MatchResult r (λ z. (v z ≡ result_of sign (v x) (v y)) × fits (v z)) (λ w. (fits (result_of sign (v x) (v y)) → ⊥) × (stop_of v w ≡ asks (node sign (v x) (v y))))
