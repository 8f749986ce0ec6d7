-- The calls whose instances are searched: all that name an instance, none twice.
use Rattle.std.specs.Prelude.{◌≡◌, ℕ, List, [], ◌∷◌, map, Some, slice_get}
use Rattle.std.specs.List.{flat_map}
use Rattle.plus_model.specs.Terms.{Action}
use Rattle.plus_model.specs.Plan.{Instance}
use Rattle.plus_tree.specs.declared.trees.Schema.{Schema}
use Rattle.plus_tree.specs.declared.trees.Domain.{Domain}
use Rattle.plus_tree.specs.declared.trees.Problem.{Problem}
use Rattle.plus_types.specs.Faults.{problem_context}
use Rattle.plus_expansion.specs.Objects.{object_names}
use Rattle.plus_expansion.specs.Calls.{called_of}
use Rattle.plus_actions.specs.Actions.{choices_from, instance_in, ground_actions}

-- the name of an action, and the names of the arguments
abbrev pub CallName : Type 0
CallName = List ℕ × List (List ℕ)

-- one call of an action for each choice of objects for its parameters
abbrev pub calls_for : Domain → Problem → Schema → List CallName
calls_for d p a =
    map (λ objects. (a.name.name, object_names (problem_context d p) objects)) (choices_from (problem_context d p) a.params [])

-- those of all actions, action by action in text order
abbrev pub all_calls : Domain → Problem → List CallName
all_calls d p = flat_map (calls_for d p) d.actions

-- it stands in the list
abbrev pub Has : {X : Type 0} → List X → X → Type 0
Has xs x = (k : ℕ) × (slice_get xs k ≡ Some x)

-- no member stands twice
abbrev pub Differ : {X : Type 0} → List X → Type 0
Differ [] = Unit {0}
Differ (x ∷ xs) = (Has xs x → ⊥) × Differ xs

-- The ground actions, which a search tries, are the instances of these calls, call by call. Each of the calls names an instance, none
-- stands twice, and each call that names an instance is one of them.
pub record AreCallsOfGround (d : Domain) (p : Problem) : Type 0 where
  pub aligned : ground_actions d p ≡ flat_map (λ call. instance_in (called_of d p call.0 call.1)) (all_calls d p)
  pub named : (call : CallName) → Has (all_calls d p) call → (action : Action) × (called_of d p call.0 call.1 ≡ Instance action)
  pub differ : Differ (all_calls d p)
  pub complete :
      (name : List ℕ) (args : List (List ℕ)) (action : Action)
      → called_of d p name args ≡ Instance action → Has (all_calls d p) (name, args)
