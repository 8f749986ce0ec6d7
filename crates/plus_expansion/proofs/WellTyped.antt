-- What is typed in a pair without a fault.
use Rattle.std.proofs.Common.{◌≡◌, ℕ, Bool, true, false, cond, List, [], ◌∷◌, ◌++◌, map, All, Some, IsTrue, refl, subst, slice_get}
use Rattle.std.specs.Str.{bytes_eq}
use Rattle.std.proofs.lemmas.List.Elements.{All-nil, All-cons, All-map, All-weaker}
use Rattle.std.proofs.lemmas.Option.{slice_get_within, get_or_from_slice_get}
use Rattle.plus_tree.specs.declared.terms.TypedName.{TypedName}
use Rattle.plus_tree.specs.declared.trees.Schema.{Schema}
use Rattle.plus_tree.specs.declared.trees.Domain.{Domain}
use Rattle.plus_tree.specs.declared.trees.Problem as tree
use Rattle.plus_types.specs.declared.faults.TypeFault.{TypeFault}
use Rattle.plus_types.specs.Types.{bindings_of, bound_kinds, kind_of}
use Rattle.plus_types.specs.Faults.{Context, domain_context, problem_context, types_faults, twice_faults, variables_faults, cond_faults, effect_faults, schema_faults, schemas_faults, init_faults, list_faults, domain_name_faults, declaration_faults, rule_faults, state_faults, problem_faults, type_faults, is_empty, is_well_typed}
use Rattle.plus_types.proofs.SoundLemmas.{left-none, right-none, well_listed}
use Rattle.plus_expansion.specs.Environments.{Environment, environments}
use Rattle.plus_expansion.specs.Expansion.{instances_of}
use Rattle.plus_expansion.proofs.Above.{under-through}
use Rattle.plus_expansion.proofs.Members.{Stands, AreNew, environments-stand, variables-new, all-flat}
use Rattle.plus_expansion.proofs.Uses.{Widens}

-- the condition and the effect of an action, an event or a process are without a fault
pub record SchemaTyped (c : Context) (process : Bool) (a : Schema) : Type 0 where
  pub variables : AreNew [] a.params
  pub condition : cond_faults c (bindings_of a.params) a.condition ≡ []
  pub effect : effect_faults c (bindings_of a.params) process a.effect ≡ []

pub record PairTyped (d : Domain) (p : tree.Problem) : Type 0 where
  pub actions : All (SchemaTyped (domain_context d) false) d.actions
  pub processes : All (SchemaTyped (domain_context d) true) d.processes
  pub events : All (SchemaTyped (domain_context d) false) d.events
  pub init : init_faults (problem_context d p) [] p.init ≡ []
  pub goal : cond_faults (problem_context d p) [] p.goal ≡ []
  pub widens : Widens (domain_context d) (problem_context d p)
  pub same : Widens (problem_context d p) (problem_context d p)

pub schema-typed : (c : Context) (process : Bool) (earlier : List (List ℕ)) (a : Schema) → schema_faults c process earlier a ≡ [] → SchemaTyped c process a
unfolding schema_faults
schema-typed c process earlier a e =
    let rest = right-none (variables_faults c [] a.params) _ (right-none (twice_faults earlier a.name) _ e) in
    record {
      variables = variables-new c [] a.params (left-none (variables_faults c [] a.params) _ (right-none (twice_faults earlier a.name) _ e));
      condition = left-none (cond_faults c (bindings_of a.params) a.condition) _ rest;
      effect = right-none (cond_faults c (bindings_of a.params) a.condition) _ rest;
    }

pub schemas-typed :
    (c : Context) (process : Bool) (earlier : List (List ℕ)) (schemas : List Schema) → schemas_faults c process earlier schemas ≡ [] → All (SchemaTyped c process) schemas
schemas-typed c process earlier [] e = All-nil (SchemaTyped c process)
schemas-typed c process earlier (a ∷ more) e =
    All-cons (SchemaTyped c process) a more (schema-typed c process earlier a (left-none (schema_faults c process earlier a) _ e))
    (schemas-typed c process (earlier ++ a.name.name ∷ []) more (right-none (schema_faults c process earlier a) _ e))

-- what comes behind changes no type that is found
pub kind-kept : (ts more : List TypedName) (name kind : List ℕ) → kind_of (bindings_of ts) name ≡ Some kind → kind_of (bindings_of (ts ++ more)) name ≡ Some kind
kind-kept [] more name kind e = cc
kind-kept (t ∷ ts) more name kind e = by (bytes_eq name t.name.name) e (kind-kept ts more name kind)
  where
    by :
        (b : Bool) → cond b (Some t.kind.name) (kind_of (bindings_of ts) name) ≡ Some kind
        → (kind_of (bindings_of ts) name ≡ Some kind → kind_of (bindings_of (ts ++ more)) name ≡ Some kind)
        → cond b (Some t.kind.name) (kind_of (bindings_of (ts ++ more)) name) ≡ Some kind
    by true w rest = w
    by false w rest = rest w

pub pair-typed : (d : Domain) (p : tree.Problem) → type_faults d p ≡ [] → PairTyped d p
unfolding declaration_faults rule_faults state_faults problem_faults
pair-typed d p e =
    let types : types_faults (bindings_of d.types) [] d.types ≡ [] = left-none (types_faults (bindings_of d.types) [] d.types) _ (left-none (declaration_faults d) _ e) in
    let rest : rule_faults d ++ problem_faults d p ≡ [] = right-none (declaration_faults d) _ e in
    let rules : rule_faults d ≡ [] = left-none (rule_faults d) _ rest in
    let later : schemas_faults (domain_context d) true [] d.processes ++ schemas_faults (domain_context d) false [] d.events ≡ [] = right-none (schemas_faults (domain_context d) false [] d.actions) _ rules in
    let problem : problem_faults d p ≡ [] = right-none (rule_faults d) _ rest in
    let state : state_faults d p ≡ [] =
    right-none (domain_name_faults d p) _ (right-none (list_faults (bindings_of d.types) _ [] _ p.objects) _ problem) in
    let through = under-through (bindings_of d.types) (bound_kinds (bindings_of d.types)) (well_listed d.types (bound_kinds (bindings_of d.types)) types (λ k. refl)) in
    record {
      actions = schemas-typed (domain_context d) false [] d.actions (left-none (schemas_faults (domain_context d) false [] d.actions) _ rules);
      processes = schemas-typed (domain_context d) true [] d.processes (left-none (schemas_faults (domain_context d) true [] d.processes) _ later);
      events = schemas-typed (domain_context d) false [] d.events (right-none (schemas_faults (domain_context d) true [] d.processes) _ later);
      init = left-none (init_faults (problem_context d p) [] p.init) _ state;
      goal = right-none (init_faults (problem_context d p) [] p.init) _ state;
      widens = record { types = refl; predicates = refl; functions = refl; objects = kind-kept d.constants p.objects; through = through };
      same = record { types = refl; predicates = refl; functions = refl; objects = λ name kind is. is; through = through };
    }

none-empty : (fs : List TypeFault) → is_empty fs ≡ true → fs ≡ []
none-empty [] e = refl
none-empty (f ∷ fs) e = cc

-- a well-typed pair breaks no rule
pub no-type-fault : (d : Domain) (p : tree.Problem) → IsTrue (is_well_typed d p) → type_faults d p ≡ []
no-type-fault d p e = none-empty (type_faults d p) e

-- ---- instances

-- what holds of each instance that is typed holds of all instances
pub instances-all :
    {A : Type 0} (P : A → Type 0) (c m : Context) (process : Bool) (f : Schema → Environment → A)
    → ((a : Schema) (env : Environment) → SchemaTyped c process a → Stands m (bindings_of a.params) env → P (f a env))
    → (schemas : List Schema) → All (SchemaTyped c process) schemas → All P (instances_of m f schemas)
instances-all P c m process f each schemas typed =
    all-flat P (λ a. map (f a) (environments m a.params [])) schemas
    (All-weaker (SchemaTyped c process) (λ a. All P (map (f a) (environments m a.params [])))
    (λ a t. All-map P (f a) (environments m a.params [])
    (All-weaker (Stands m (bindings_of a.params)) (λ env. P (f a env)) (λ env s. each a env t s) (environments m a.params []) (environments-stand m a.params [] [] tt t.variables)))
    schemas typed)

-- and of the schema at a place
pub schema-at :
    (c : Context) (process : Bool) (schemas : List Schema) (i : ℕ) (a : Schema) → All (SchemaTyped c process) schemas → slice_get schemas i ≡ Some a → SchemaTyped c process a
schema-at c process schemas i a typed e =
    subst (SchemaTyped c process) (get_or_from_slice_get schemas i a a e) (typed i a (slice_get_within schemas i a e))
