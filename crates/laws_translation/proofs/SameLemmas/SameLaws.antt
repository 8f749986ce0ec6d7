-- Spans mean nothing.
use Rattle.std.proofs.Common.{◌≡◌, ℕ, true, false, not, List, [], ◌∷◌, ◌++◌, map, refl, ap, ap₂, sym, ◌∙◌, zero, suc, ◌+◌, arith, Option, Some, None}
use Rattle.std.specs.Prelude.{slice_get}
use Rattle.std.specs.List.{position_or_len}
use Rattle.std.specs.Str.{bytes_eq}
use Rattle.std.proofs.lemmas.List.{map-append}
use Rattle.plus_model.specs.Plan.{Instance}
use Rattle.plus_model.specs.Terms as model
use Rattle.plus_tree.specs.declared.trees.Schema.{Schema}
use Rattle.plus_tree.specs.declared.trees.Domain.{Domain}
use Rattle.plus_tree.specs.declared.trees.Problem.{Problem}
use Rattle.plus_types.specs.declared.faults.File.TheVariants as files
use Rattle.plus_types.specs.declared.faults.Wrong.TheVariants.{DomainName}
use Rattle.plus_types.specs.Types.{Binding, bindings_of, bound_names}
use Rattle.plus_types.specs.Faults.{Context, domain_context, problem_context, types_faults, list_faults, heads_faults, schemas_faults, domain_name_faults, init_faults, cond_faults, declaration_faults, rule_faults, state_faults, problem_faults, is_empty, is_well_typed, action_names}
use Rattle.plus_expansion.specs.Environments.{Environment}
use Rattle.plus_expansion.specs.Expansion.{process_meant, event_meant, expanded_in, expanded}
use Rattle.plus_expansion.specs.Calls.{bound_by, called_in, called_by, called_of}
use Rattle.plus_canonical.specs.Same.{bare_typed, bare_head, bare_schema, bare_domain, bare_init, bare_problem}
use Rattle.laws_translation.specs.Same.Laws.{SpansMeanNothing}
use Rattle.laws_translation.proofs.SameLemmas.Bare.{map_map, bindings_bare}
use Rattle.laws_translation.proofs.SameLemmas.Meaning as meaning
use Rattle.laws_translation.proofs.SameLemmas.Typing as typing
use Rattle.laws_translation.proofs.SameLemmas.Typing.{both_empty, rules_empty, list_empty, types_empty, heads_empty}

-- ---- the context of a bare pair is the bare context

abbrev bared : Context → Context
bared c = record { types = c.types; objects = c.objects; predicates = map bare_head c.predicates; functions = map bare_head c.functions; file = c.file }

objects_bare : (d : Domain) (p : Problem) → bindings_of (map bare_typed d.constants ++ map bare_typed p.objects) ≡ bindings_of (d.constants ++ p.objects)
objects_bare d p = ap bindings_of (sym (map-append bare_typed d.constants p.objects)) ∙ bindings_bare (d.constants ++ p.objects)

problem_context_bare : (d : Domain) (p : Problem) → problem_context (bare_domain d) (bare_problem p) ≡ bared (problem_context d p)
problem_context_bare d p =
    ap₂ (λ ts os. record { types = ts; objects = os; predicates = map bare_head d.predicates; functions = map bare_head d.functions; file = files.Problem }) (bindings_bare d.types) (objects_bare d p)

domain_context_bare : (d : Domain) → domain_context (bare_domain d) ≡ bared (domain_context d)
domain_context_bare d =
    ap₂ (λ ts os. record { types = ts; objects = os; predicates = map bare_head d.predicates; functions = map bare_head d.functions; file = files.Domain }) (bindings_bare d.types) (bindings_bare d.constants)

-- ---- the ground problem

ground_bare : (d : Domain) (p : Problem) → expanded (bare_domain d) (bare_problem p) ≡ expanded d p
ground_bare d p =
    let c = problem_context d p in
    ap (λ (k : Context). expanded_in k (bare_domain d) (bare_problem p)) (problem_context_bare d p)
    ∙ same_parts _ _ _ _ _ _ _ _ _ _ _ _ _ _ (meaning.counts_bare c d.predicates) (meaning.counts_bare c d.functions) (meaning.instances_bare c (process_meant (bared c)) (process_meant c) (meaning.process_bare c) d.processes)
    (meaning.instances_bare c (event_meant (bared c)) (event_meant c) (meaning.event_bare c) d.events) (meaning.all_timed_bare c p.init) (meaning.initial_bare c p.init) (meaning.condition_bare c [] true p.goal)
  where
    same_parts : (a a' f f' : ℕ) (ps ps' : List model.Process) (es es' : List model.Event) (ts ts' : List model.Timed) (s s' : model.State) (g g' : model.Condition)
        → a ≡ a' → f ≡ f' → ps ≡ ps' → es ≡ es' → ts ≡ ts' → s ≡ s' → g ≡ g'
        → ◌≡◌ {A = model.Problem} (record { atoms = a; fluents = f; processes = ps; events = es; timed = ts; initial = s; goal = g }) (record { atoms = a'; fluents = f'; processes = ps'; events = es'; timed = ts'; initial = s'; goal = g' })
    same_parts a a' f f' ps ps' es es' ts ts' s s' g g' e1 e2 e3 e4 e5 e6 e7 = cc

-- ---- calls

abbrev bare_found : Option Schema → Option Schema
bare_found None = None
bare_found (Some a) = Some (bare_schema a)

found_bare : (ss : List Schema) (k : ℕ) → slice_get (map bare_schema ss) k ≡ bare_found (slice_get ss k)
found_bare [] k = refl
found_bare (a ∷ ss) zero = refl
found_bare (a ∷ ss) (suc k) = found_bare ss k

called_bare_in : (c : Context) (name : List ℕ) (a : Schema) (o : Option Environment) → called_in (bared c) name (bare_schema a) o ≡ called_in c name a o
called_bare_in c name a None = refl
called_bare_in c name a (Some env) = ap Instance (meaning.action_bare c a env)

called_bare_by : (c : Context) (name : List ℕ) (args : List (List ℕ)) (o : Option Schema) → called_by (bared c) name args (bare_found o) ≡ called_by c name args o
called_bare_by c name args None = refl
called_bare_by c name args (Some a) = ap (called_in (bared c) name (bare_schema a)) (meaning.bound_bare c a.params args []) ∙ called_bare_in c name a (bound_by c a.params args [])

called_bare : (d : Domain) (p : Problem) (name : List ℕ) (args : List (List ℕ)) → called_of (bare_domain d) (bare_problem p) name args ≡ called_of d p name args
called_bare d p name args =
    let names : action_names (bare_domain d) ≡ action_names d = map_map (λ (a : Schema). a.name.name) bare_schema (λ (a : Schema). a.name.name) (λ a. refl) d.actions in
    ap₂ (λ (k : Context) ns. called_by k name args (slice_get (map bare_schema d.actions) (position_or_len (bytes_eq name) ns))) (problem_context_bare d p) names
    ∙ ap (called_by (bared (problem_context d p)) name args) (found_bare d.actions (position_or_len (bytes_eq name) (action_names d)))
    ∙ called_bare_by (problem_context d p) name args (slice_get d.actions (position_or_len (bytes_eq name) (action_names d)))

-- ---- types

declarations_empty : (d : Domain) → is_empty (declaration_faults (bare_domain d)) ≡ is_empty (declaration_faults d)
unfolding declaration_faults
declarations_empty d =
    ap (λ ts. is_empty (types_faults ts [] (map bare_typed d.types) ++ (list_faults ts files.Domain [] [] (map bare_typed d.constants) ++ (heads_faults ts [] (map bare_head d.predicates) ++ heads_faults ts [] (map bare_head d.functions))))) (bindings_bare d.types)
    ∙ both_empty _ _ _ _ (types_empty (bindings_of d.types) [] d.types)
    (both_empty _ _ _ _ (list_empty (bindings_of d.types) files.Domain [] [] d.constants) (both_empty _ _ _ _ (heads_empty (bindings_of d.types) [] d.predicates) (heads_empty (bindings_of d.types) [] d.functions)))

rules_bare : (d : Domain) → is_empty (rule_faults (bare_domain d)) ≡ is_empty (rule_faults d)
unfolding rule_faults
rules_bare d =
    let c = domain_context d in
    ap (λ (k : Context). is_empty (schemas_faults k false [] (map bare_schema d.actions) ++ (schemas_faults k true [] (map bare_schema d.processes) ++ schemas_faults k false [] (map bare_schema d.events)))) (domain_context_bare d)
    ∙ both_empty _ _ _ _ (typing.schemas_empty c false [] d.actions) (both_empty _ _ _ _ (typing.schemas_empty c true [] d.processes) (typing.schemas_empty c false [] d.events))

problem_bare : (d : Domain) (p : Problem) → is_empty (problem_faults (bare_domain d) (bare_problem p)) ≡ is_empty (problem_faults d p)
unfolding problem_faults state_faults
problem_bare d p =
    let c = problem_context d p in
    ap₂ (λ (ts : List Binding) (os : List Binding). is_empty (list_faults ts files.Problem [] (bound_names os) (map bare_typed p.objects) ++ (domain_name_faults (bare_domain d) (bare_problem p) ++ (init_faults (problem_context (bare_domain d) (bare_problem p)) [] (map bare_init p.init) ++ cond_faults (problem_context (bare_domain d) (bare_problem p)) [] (bare_problem p).goal)))) (bindings_bare d.types) (bindings_bare d.constants)
    ∙ ap (λ (k : Context). is_empty (list_faults (bindings_of d.types) files.Problem [] (bound_names (bindings_of d.constants)) (map bare_typed p.objects) ++ (domain_name_faults (bare_domain d) (bare_problem p) ++ (init_faults k [] (map bare_init p.init) ++ cond_faults k [] (bare_problem p).goal)))) (problem_context_bare d p)
    ∙ both_empty _ _ _ _ (list_empty (bindings_of d.types) files.Problem [] (bound_names (bindings_of d.constants)) p.objects)
    (both_empty _ _ _ _ (rules_empty (not (bytes_eq p.domain.name d.name.name)) (not (bytes_eq p.domain.name d.name.name)) DomainName files.Problem _ p.domain.span refl)
    (both_empty _ _ _ _ (typing.init_empty c [] p.init) (typing.cond_empty c [] p.goal)))

typed_bare : (d : Domain) (p : Problem) → is_well_typed (bare_domain d) (bare_problem p) ≡ is_well_typed d p
typed_bare d p = both_empty _ _ _ _ (declarations_empty d) (both_empty _ _ _ _ (rules_bare d) (problem_bare d p))

pub spans_mean_nothing : SpansMeanNothing
spans_mean_nothing d d' p p' e f = record {
  typed = sym (typed_bare d p) ∙ ap₂ is_well_typed e f ∙ typed_bare d' p';
  problem = sym (ground_bare d p) ∙ ap₂ expanded e f ∙ ground_bare d' p';
  calls = λ name args. sym (called_bare d p name args) ∙ ap₂ (λ x y. called_of x y name args) e f ∙ called_bare d' p' name args;
}
