-- The ground action that a call names.
use Rattle.std.specs.Prelude.{ℕ, List, [], ◌∷◌, ◌++◌, Option, Some, None, slice_get, if◌then◌else◌}
use Rattle.std.specs.List.{list_any, position_or_len}
use Rattle.std.specs.Str.{bytes_eq}
use Rattle.std.specs.Prelude.{nat_eq}
use Rattle.plus_model.specs.Plan.{Called, Instance, UnknownAction, WrongArguments}
use Rattle.plus_tree.specs.declared.terms.TypedName.{TypedName}
use Rattle.plus_tree.specs.declared.trees.Schema.{Schema}
use Rattle.plus_tree.specs.declared.trees.Domain.{Domain}
use Rattle.plus_tree.specs.declared.trees.Problem as tree
use Rattle.plus_types.specs.Faults.{Context, problem_context, action_names}
use Rattle.plus_expansion.specs.Objects.{members_of, object_place}
use Rattle.plus_expansion.specs.Environments.{Environment}
use Rattle.plus_expansion.specs.Expansion.{action_meant}

-- the environment in which parameters stand for the objects of these names; none where there are more or fewer names
-- than parameters, or a name is of no object of the parameter's type
abbrev pub bound_by : Context → List TypedName → List (List ℕ) → Environment → Option Environment
bound_by c [] [] env = Some env
bound_by c (v ∷ vs) (a ∷ more) env =
    if list_any (nat_eq (object_place c a)) (members_of c v.kind.name)
    then bound_by c vs more (env ++ (v.name.name, object_place c a) ∷ [])
    else None
bound_by c _ _ env = None

abbrev pub called_in : Context → List ℕ → Schema → Option Environment → Called
called_in c name a None = WrongArguments name
called_in c name a (Some env) = Instance (action_meant c a env)

abbrev pub called_by : Context → List ℕ → List (List ℕ) → Option Schema → Called
called_by c name args None = UnknownAction name
called_by c name args (Some a) = called_in c name a (bound_by c a.params args [])

-- the instance of the action with this name for the objects with these names
abbrev pub called_of : Domain → tree.Problem → List ℕ → List (List ℕ) → Called
called_of d p name args =
    called_by (problem_context d p) name args (slice_get d.actions (position_or_len (bytes_eq name) (action_names d)))
