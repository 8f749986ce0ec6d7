-- The nodes that an evaluation asks, in order, and the first of them whose result is no value of the type.
use Rattle.std.specs.Prelude.{List, [], ◌∷◌, ◌++◌, Option, Some, None, if◌then◌else◌}
use Rattle.plus_fraction.specs.Fraction.{Fraction, ◌+ℚ◌, ◌-ℚ◌, ◌*ℚ◌, ◌/ℚ◌}
use Rattle.plus_state.specs.declared.term.Sign.{Sign}
use Rattle.plus_state.specs.declared.term.Sign.TheVariants.{Plus, Minus, Times, Divide}
use Rattle.plus_model.specs.Terms.{Expression, Number, Fluent, Sum, Difference, Product, Quotient, State}
use Rattle.plus_model.specs.Value.{value, is_zero, quotient}
use Rattle.plus_state.specs.Node.{Node}
use Rattle.plus_state.specs.Tested.{AllPass, FirstFailing}

-- the exact result of an operation, and its value: a divisor that is zero gives none
abbrev pub result_of : Sign → Fraction → Fraction → Fraction
result_of Plus x y = x +ℚ y
result_of Minus x y = x -ℚ y
result_of Times x y = x *ℚ y
result_of Divide x y = x /ℚ y

abbrev pub outcome : Sign → Fraction → Fraction → Option Fraction
outcome Plus x y = Some (x +ℚ y)
outcome Minus x y = Some (x -ℚ y)
outcome Times x y = Some (x *ℚ y)
outcome Divide x y = quotient x y

abbrev pub node : Sign → Fraction → Fraction → Node
node sign x y = record { sign = sign; left = x; right = y }

-- a division by zero asks no node
unfoldable pub node_of : Sign → Fraction → Fraction → List Node
node_of Plus x y = node Plus x y ∷ []
node_of Minus x y = node Minus x y ∷ []
node_of Times x y = node Times x y ∷ []
node_of Divide x y = if is_zero y then [] else node Divide x y ∷ []

-- what is asked behind a side that has a value
abbrev pub if_some : Option Fraction → (Fraction → List Node) → List Node
if_some None ns = []
if_some (Some x) ns = ns x

-- what two sides ask: the left one, and where it has a value the right one
unfoldable pub sides : List Node → Option Fraction → List Node → List Node
sides xs left ys = xs ++ if_some left (λ _. ys)

-- what an operation asks: its sides, and where both have a value its own node
unfoldable pub operation : Sign → List Node → Option Fraction → List Node → Option Fraction → List Node
operation sign xs left ys right = sides xs left ys ++ if_some left (λ x. if_some right (λ y. node_of sign x y))

abbrev pub nodes : Expression → State → List Node
nodes (Number x) s = []
nodes (Fluent f) s = []
nodes (Sum a b) s = operation Plus (nodes a s) (value a s) (nodes b s) (value b s)
nodes (Difference a b) s = operation Minus (nodes a s) (value a s) (nodes b s) (value b s)
nodes (Product a b) s = operation Times (nodes a s) (value a s) (nodes b s) (value b s)
nodes (Quotient a b) s = operation Divide (nodes a s) (value a s) (nodes b s) (value b s)

-- a node passes where its exact result is a value of the number type
unfoldable pub NodeFits : (Fraction → Type 0) → Node → Type 0
NodeFits fits n = fits (result_of n.sign n.left n.right)

-- all nodes pass
abbrev pub AllFit : (Fraction → Type 0) → List Node → Type 0
AllFit fits ns = AllPass (NodeFits fits) ns

-- the first node that does not fit
abbrev pub FirstUnfit : (Fraction → Type 0) → List Node → Node → Type 0
FirstUnfit fits ns m = FirstFailing (NodeFits fits) ns m
