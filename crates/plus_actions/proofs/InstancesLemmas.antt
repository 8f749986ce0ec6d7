-- The ids of the ground actions fit, and how many they are.
use Rattle.std.proofs.Common.{◌≡◌, ℕ, zero, suc, ◌≤◌, List, [], ◌∷◌, ◌++◌, length, map, Some, slice_get, IsTrue, arith, refl, ap, sym, subst}
use Rattle.std.proofs.lemmas.List.{length-map}
use Rattle.std.specs.List.{flat_map}
use Rattle.plus_model.specs.Terms.{Action}
use Rattle.plus_model.specs.Plan.{Called, Instance, UnknownAction, WrongArguments}
use Rattle.plus_tree.specs.declared.trees.Schema.{Schema}
use Rattle.plus_tree.specs.declared.trees.Domain.{Domain}
use Rattle.plus_tree.specs.declared.trees.Problem as tree
use Rattle.plus_types.specs.Faults.{problem_context, is_well_typed}
use Rattle.plus_state.specs.Fits.{ActionFits}
use Rattle.plus_expansion.specs.Objects.{object_names}
use Rattle.plus_expansion.specs.Expansion.{action_meant, instances_of, expanded}
use Rattle.plus_expansion.specs.Calls.{called_of}
use Rattle.plus_expansion.proofs.Fitting.{instances_fit}
use Rattle.plus_numbering.specs.Sizes.{instances}
use Rattle.plus_numbering.proofs.Nodes.{instances-length}
use Rattle.plus_actions.specs.Actions.{choices_from, instance_in, named_by, ground_actions, AllFit}

-- ---- ids

abbrev pub Each : (Action → Type 0) → List Action → Type 0
Each P xs = (k : ℕ) (a : Action) → slice_get xs k ≡ Some a → P a

each_append : (P : Action → Type 0) (xs ys : List Action) → Each P xs → Each P ys → Each P (xs ++ ys)
each_append P [] ys h g k a e = g k a e
each_append P (x ∷ xs) ys h g zero a e = h zero a e
each_append P (x ∷ xs) ys h g (suc k) a e = each_append P xs ys (λ j b f. h (suc j) b f) g k a e

each_none : (P : Action → Type 0) → Each P []
each_none P zero a e = cc e
each_none P (suc k) a e = cc e

pub each_flat : {X : Type 0} (P : Action → Type 0) (f : X → List Action) → ((x : X) → Each P (f x)) → (xs : List X) → Each P (flat_map f xs)
each_flat P f h [] = each_none P
each_flat P f h (x ∷ xs) = each_append P (f x) (flat_map f xs) (h x) (each_flat P f h xs)

pub each_called : (P : Action → Type 0) (o : Called) → ((a : Action) → o ≡ Instance a → P a) → Each P (instance_in o)
each_called P (Instance b) h zero a e = subst P (let f : b ≡ a = cc e in f) (h b refl)
each_called P (Instance b) h (suc k) a e = each_none P k a e
each_called P (UnknownAction name) h k a e = each_none P k a e
each_called P (WrongArguments name) h k a e = each_none P k a e

abbrev FitsIn : Domain → tree.Problem → Action → Type 0
FitsIn d p a = ActionFits (expanded d p).atoms (expanded d p).fluents a

named_fit : (d : Domain) (p : tree.Problem) → IsTrue (is_well_typed d p) → (s : Schema) (objects : List ℕ) → Each (FitsIn d p) (instance_in (called_of d p s.name.name (object_names (problem_context d p) objects)))
named_fit d p typed s objects =
    each_called (FitsIn d p) (called_of d p s.name.name (object_names (problem_context d p) objects))
    (λ a e. instances_fit d p typed s.name.name (object_names (problem_context d p) objects) a e)

all_named_fit : (d : Domain) (p : tree.Problem) → IsTrue (is_well_typed d p) → (s : Schema) → Each (FitsIn d p) (named_by d p s)
all_named_fit d p typed s =
    each_flat (FitsIn d p) (λ (objects : List ℕ). instance_in (called_of d p s.name.name (object_names (problem_context d p) objects)))
    (named_fit d p typed s) (choices_from (problem_context d p) s.params [])

all_fit : (d : Domain) (p : tree.Problem) → IsTrue (is_well_typed d p) → AllFit d p (ground_actions d p)
all_fit d p typed = each_flat (FitsIn d p) (named_by d p) (all_named_fit d p typed) d.actions

-- what is built has ids that fit
pub items_fit : {A : Type 0} (v : A → Action) (xs : List A) (d : Domain) (p : tree.Problem) → IsTrue (is_well_typed d p) → map v xs ≡ ground_actions d p → AllFit d p (map v xs)
items_fit v xs d p typed e = subst (AllFit d p) (sym e) (all_fit d p typed)

-- ---- how many they are

pub items_most :
    {A : Type 0} (v : A → Action) (xs : List A) (d : Domain) (p : tree.Problem) (schemas : List Schema) → schemas ≡ d.actions
    → map v xs ≡ instances_of (problem_context d p) (action_meant (problem_context d p)) schemas → instances (problem_context d p) d.actions ≤ 10000 → length xs ≤ 10000
items_most v xs d p schemas s e h =
    let l = length-map xs v in
    let m = ap length e in
    let n = instances-length (problem_context d p) (action_meant (problem_context d p)) schemas in
    let k = ap (instances (problem_context d p)) s in
    omega (arith, l, m, n, k, h)
