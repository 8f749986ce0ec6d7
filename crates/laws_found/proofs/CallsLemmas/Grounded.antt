-- Each ground action is what a call names.
use Rattle.std.proofs.Common.{◌≡◌, ℕ, List, [], Some, slice_get}
use Rattle.plus_model.specs.Terms.{Action}
use Rattle.plus_tree.specs.declared.trees.Call.{Call}
use Rattle.plus_tree.specs.declared.trees.Schema.{Schema}
use Rattle.plus_tree.specs.declared.trees.Domain.{Domain}
use Rattle.plus_tree.specs.declared.trees.Problem.{Problem}
use Rattle.plus_types.specs.Faults.{problem_context}
use Rattle.plus_expansion.specs.Objects.{object_names}
use Rattle.plus_expansion.specs.Calls.{called_of}
use Rattle.plus_actions.specs.Actions.{choices_from, instance_in, named_by, ground_actions}
use Rattle.plus_actions.proofs.InstancesLemmas.{Each, each_flat, each_called}
use Rattle.laws_found.specs.Calls.Calls.{IsCalledBy}
use Rattle.laws_found.proofs.CallsLemmas.Called.{instance_is_called_so}

abbrev HasCall : Domain → Problem → Action → Type 0
HasCall d p action = (call : Call) × IsCalledBy d p action call

-- the call with these objects
abbrev call_with : Domain → Problem → Schema → List ℕ → Call
call_with d p a objects = record { name = a.name.name; args = object_names (problem_context d p) objects }

one_choice : (d : Domain) (p : Problem) (a : Schema) (objects : List ℕ) → Each (HasCall d p) (instance_in (called_of d p a.name.name (object_names (problem_context d p) objects)))
one_choice d p a objects =
    each_called (HasCall d p) (called_of d p a.name.name (object_names (problem_context d p) objects))
    (λ action e. (call_with d p a objects, instance_is_called_so d p action (call_with d p a objects) e))

one_action : (d : Domain) (p : Problem) (a : Schema) → Each (HasCall d p) (named_by d p a)
one_action d p a =
    each_flat (HasCall d p) (λ (objects : List ℕ). instance_in (called_of d p a.name.name (object_names (problem_context d p) objects)))
    (one_choice d p a) (choices_from (problem_context d p) a.params [])

pub each_ground_action_is_called : (d : Domain) (p : Problem) (k : ℕ) (action : Action) → slice_get (ground_actions d p) k ≡ Some action → HasCall d p action
each_ground_action_is_called d p = each_flat (HasCall d p) (named_by d p) (one_action d p) d.actions
