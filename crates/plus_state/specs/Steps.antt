-- What a joint effect asks, in the order of evaluation (this project's profile): nodes, and faults, which always stop.
-- First each effect in the order added: its guard, and where that holds the amount of its write and then the present
-- value of the fluent, where the write needs it. Then the fluents in ground order for writes that clash. Then the fluents
-- in ground order once more: each write on a fluent, in the order added, is a node on the value that the writes before it made.
use Rattle.std.specs.Prelude.{ℕ, suc, List, [], ◌∷◌, ◌++◌, map, Option, Some, None, Bool, true, false, if◌then◌else◌}
use Rattle.plus_fraction.specs.Fraction.{Fraction}
use Rattle.plus_model.specs.Terms as model
use Rattle.plus_model.specs.Terms.{State, Expression, Effect}
use Rattle.plus_model.specs.Value.{value, is_zero, fluent_of, holds}
use Rattle.plus_model.specs.Joint.{Fault, NoValue, Conflict}
use Rattle.plus_state.specs.declared.term.AssignOp.{AssignOp}
use Rattle.plus_state.specs.declared.term.AssignOp.TheVariants.{Assign, Increase, Decrease, ScaleUp, ScaleDown}
use Rattle.plus_state.specs.declared.term.Sign.{Sign}
use Rattle.plus_state.specs.declared.term.Sign.TheVariants.{Plus, Minus, Times, Divide}
use Rattle.plus_state.specs.Node.{Node}
use Rattle.plus_state.specs.Tested as tested
use Rattle.plus_state.specs.Asked.{nodes, node_of, NodeFits}
use Rattle.plus_state.specs.Tests.{tests_of}
use Rattle.plus_state.specs.Due.{Update, Due, dues, by_fluent, clash, updated}

-- a step of the evaluation: a node, which stops where its exact result is no value, or a fault
pub data Step : Type 0 where
  asks : Node → Step
  fault : Fault → Step

unfoldable pub Passes : (Fraction → Type 0) → Step → Type 0
Passes fits (asks n) = NodeFits fits n
Passes fits (fault f) = ⊥

-- no step stops
abbrev pub AllPass : (Fraction → Type 0) → List Step → Type 0
AllPass fits ns = tested.AllPass (Passes fits) ns

-- the first step that stops
abbrev pub FirstStop : (Fraction → Type 0) → List Step → Step → Type 0
FirstStop fits ns m = tested.FirstFailing (Passes fits) ns m

-- a value that is needed
unfoldable pub need : ℕ → Option Fraction → List Step
need f None = fault (NoValue f) ∷ []
need f (Some x) = []

-- an amount that is not to be zero
unfoldable pub need_divisor : ℕ → Option Fraction → List Step
need_divisor f None = []
need_divisor f (Some x) = if is_zero x then fault (NoValue f) ∷ [] else []

unfoldable pub amount_steps : ℕ → Expression → State → List Step
amount_steps f e s = map asks (nodes e s) ++ need f (value e s)

-- what a write asks: the amount, then the present value where it needs it
abbrev pub write_steps : model.Write → State → List Step
write_steps (model.Add a) s = []
write_steps (model.Delete a) s = []
write_steps (model.Assign f e) s = amount_steps f e s
write_steps (model.Increase f e) s = amount_steps f e s ++ need f (fluent_of s f)
write_steps (model.Decrease f e) s = amount_steps f e s ++ need f (fluent_of s f)
write_steps (model.ScaleUp f e) s = amount_steps f e s ++ need f (fluent_of s f)
write_steps (model.ScaleDown f e) s = amount_steps f e s ++ (need f (fluent_of s f) ++ need_divisor f (value e s))

abbrev pub guarded : Bool → List Step → List Step
guarded true ns = ns
guarded false ns = []

-- what an effect asks: its guard, and where that holds its write
unfoldable pub effect_steps : Effect → State → List Step
effect_steps e s = map asks (tests_of e.guard s) ++ guarded (holds e.guard s) (write_steps e.write s)

-- what effects ask in the order added
abbrev pub add_steps : List Effect → State → List Step
add_steps [] s = []
add_steps (e ∷ es) s = effect_steps e s ++ add_steps es s

-- writes that clash
abbrev pub clash_steps : ℕ → List (List Update) → List Step
clash_steps f [] = []
clash_steps f (us ∷ rest) = (if clash us then fault (Conflict f) ∷ [] else []) ++ clash_steps (suc f) rest

-- the node of a write on a fluent with this value
abbrev pub combined_nodes : Sign → Option Fraction → Fraction → List Node
combined_nodes sign None x = []
combined_nodes sign (Some w) x = node_of sign w x

abbrev pub updated_nodes : AssignOp → Fraction → Option Fraction → List Node
updated_nodes Assign x v = []
updated_nodes Increase x v = combined_nodes Plus v x
updated_nodes Decrease x v = combined_nodes Minus v x
updated_nodes ScaleUp x v = combined_nodes Times v x
updated_nodes ScaleDown x v = combined_nodes Divide v x

-- write by write
abbrev pub all_updated_nodes : List Update → Option Fraction → List Node
all_updated_nodes [] v = []
all_updated_nodes (u ∷ us) v = updated_nodes u.op u.amount v ++ all_updated_nodes us (updated u.op u.amount v)

-- fluent by fluent
abbrev pub fluents_nodes : List (List Update) → List (Option Fraction) → List Node
fluents_nodes [] vs = []
fluents_nodes (us ∷ rest) [] = []
fluents_nodes (us ∷ rest) (v ∷ vs) = all_updated_nodes us v ++ fluents_nodes rest vs

-- what the end of a joint effect asks
abbrev pub fluents_steps : List (List Update) → List (Option Fraction) → List Step
fluents_steps all vs = clash_steps 0 all ++ map asks (fluents_nodes all vs)

unfoldable pub end_steps : List Due → State → List Step
end_steps ds s = fluents_steps (by_fluent 0 ds s.fluents) s.fluents

-- what a joint effect asks as a whole
unfoldable pub joint_steps : List Effect → State → List Step
joint_steps es s = add_steps es s ++ end_steps (dues es s) s
