-- The ground actions of a pair, and their limits.
use Rattle.std.specs.Prelude.{◌≡◌, ℕ, List, [], ◌∷◌, ◌++◌, length, Some, None, All, sum_by, slice_get}
use Rattle.std.specs.List.{flat_map}
use Rattle.plus_fraction.specs.Fraction.{Fraction}
use Rattle.plus_model.specs.Terms.{Action}
use Rattle.plus_model.specs.Plan.{Called, Instance, UnknownAction, WrongArguments}
use Rattle.plus_state.specs.Fits.{ActionFits}
use Rattle.plus_tree.specs.declared.terms.TypedName.{TypedName}
use Rattle.plus_tree.specs.declared.trees.Schema.{Schema}
use Rattle.plus_tree.specs.declared.trees.Domain.{Domain}
use Rattle.plus_tree.specs.declared.trees.Problem as tree
use Rattle.plus_types.specs.declared.faults.File.TheVariants as files
use Rattle.plus_types.specs.Faults.{Context, problem_context}
use Rattle.plus_literal.specs.Value.{LiteralFits}
use Rattle.plus_expansion.specs.declared.counts.Count.TheVariants.{Actions, Nodes}
use Rattle.plus_expansion.specs.Counts.{Counted, first_over}
use Rattle.plus_expansion.specs.Objects.{members_of, object_names}
use Rattle.plus_expansion.specs.Expansion.{action_meant, instances_of, expanded}
use Rattle.plus_expansion.specs.Calls.{called_of}
use Rattle.plus_expansion.specs.Nodes.{action_nodes}
use Rattle.plus_expansion.specs.Literals.{schema_literals}
use Rattle.plus_expansion.specs.Counting.{most_nodes}
use Rattle.plus_expansion.specs.Unfit.{IsFirstUnfitAt}
use Rattle.plus_numbering.specs.declared.faults.GroundFault.{GroundFault}
use Rattle.plus_numbering.specs.declared.faults.GroundFault.TheVariants as faults

-- The lists of objects that begin with these and go on with one of the type of each of these parameters: one for each
-- choice, the first parameter changing slowest.
abbrev pub choices_from : Context → List TypedName → List ℕ → List (List ℕ)
choices_from c [] chosen = chosen ∷ []
choices_from c (v ∷ vs) chosen = flat_map (λ o. choices_from c vs (chosen ++ o ∷ [])) (members_of c v.kind.name)

-- the instance that a call names, where it names one
abbrev pub instance_in : Called → List Action
instance_in (Instance action) = action ∷ []
instance_in (UnknownAction name) = []
instance_in (WrongArguments name) = []

-- the instances that the calls of an action name, one call for each choice of objects for its parameters
abbrev pub named_by : Domain → tree.Problem → Schema → List Action
named_by d p a =
    flat_map (λ objects. instance_in (called_of d p a.name.name (object_names (problem_context d p) objects)))
    (choices_from (problem_context d p) a.params [])

-- the ground actions: action by action in text order
abbrev pub ground_actions : Domain → tree.Problem → List Action
ground_actions d p = flat_map (named_by d p) d.actions

-- how many ground actions there may be (this project's profile)
abbrev pub most_actions : ℕ
most_actions = 10000

-- all instances of the actions, one for each choice of objects for the parameters
abbrev pub all_instances : Domain → tree.Problem → List Action
all_instances d p = instances_of (problem_context d p) (action_meant (problem_context d p)) d.actions

-- what is counted of them, in order: how many they are, and their nodes together
abbrev pub action_counts : Domain → tree.Problem → List Counted
action_counts d p =
    record { kind = Actions; most = most_actions; number = length (all_instances d p) }
    ∷ record { kind = Nodes; most = most_nodes; number = sum_by action_nodes (all_instances d p) }
    ∷ []

-- the ground actions are inside the limits, and all literals of the actions are values of the type of numbers
pub record IsGroundable (fits : Fraction → Type 0) (d : Domain) (p : tree.Problem) : Type 0 where
  pub counts : first_over (action_counts d p) ≡ None
  pub literals : All (LiteralFits fits) (flat_map schema_literals d.actions)

-- the first count that passes its limit; or, where none does, the first literal of the actions that is no value
abbrev pub RefusesActions : (Fraction → Type 0) → Domain → tree.Problem → GroundFault → Type 0
RefusesActions fits d p (faults.TooMany kind most) =
    (n : ℕ) × (first_over (action_counts d p) ≡ Some (record { kind = kind; most = most; number = n }))
RefusesActions fits d p (faults.Literal file span) =
    (first_over (action_counts d p) ≡ None) × (file ≡ files.Domain) × IsFirstUnfitAt fits (flat_map schema_literals d.actions) span
RefusesActions fits d p faults.Memory = Unit {0}

-- the ids of each of these actions are those of the ground problem
abbrev pub AllFit : Domain → tree.Problem → List Action → Type 0
AllFit d p actions =
    (k : ℕ) (action : Action) → slice_get actions k ≡ Some action → ActionFits (expanded d p).atoms (expanded d p).fluents action
