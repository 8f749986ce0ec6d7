-- Parts that come in any order, most of them at most once: the keys of a schema and the sections of a domain and a problem.
use Rattle.std.specs.Prelude.{◌≡◌, ◌≤◌, List, [], ◌∷◌, length, get_or, flat_map}
use Rattle.plus_tree.specs.declared.names.Spelled.{Spelled}
use Rattle.plus_tree.specs.declared.terms.TypedName.{TypedName}
use Rattle.plus_tree.specs.declared.trees.Head.{Head}
use Rattle.plus_tree.specs.declared.trees.Schema.{Schema}
use Rattle.plus_tree.specs.declared.trees.Domain.{Domain}
use Rattle.plus_tree.specs.declared.trees.Init.{Init}
use Rattle.plus_tree.specs.declared.trees.Problem.{Problem}
use Rattle.plus_tree.specs.Cond.{Cond, c_all, no_conds}
use Rattle.plus_tree.specs.Effect.{Effect, e_all, no_effects}
use Rattle.plus_parser.specs.Phrases.Grammar.{nowhere}
use Rattle.plus_parser.specs.SpellsDomain.{Key, k_parameters, k_condition, k_effect, DomainPart, d_requirements, d_types, d_constants, d_predicates, d_functions, d_action, d_process, d_event}
use Rattle.plus_parser.specs.SpellsProblem.{ProblemPart, p_domain, p_requirements, p_objects, p_init, p_goal, p_metric}

-- there is one at most, and x is what it gives, or the default where there is none
abbrev pub IsOneOr : {X : Type 0} → X → List X → X → Type 0
IsOneOr default given x = (length given ≤ 1) × (x ≡ get_or given 0 default)

-- there is one, which gives x
abbrev pub IsOne : {X : Type 0} → List X → X → Type 0
IsOne given x = given ≡ x ∷ []

-- ---- keys

abbrev pub parameters_of : Key → List (List TypedName)
parameters_of (k_parameters vs) = vs ∷ []
parameters_of _ = []

abbrev pub condition_of : Key → List Cond
condition_of (k_condition c) = c ∷ []
condition_of _ = []

abbrev pub effect_of : Key → List Effect
effect_of (k_effect e) = e ∷ []
effect_of _ = []

-- Each key stands once at most. Without `:parameters` there are none, without `:precondition` the condition is `(and)`, without
-- `:effect` nothing is done.
pub record HasKeys (keys : List Key) (s : Schema) : Type 0 where
  pub parameters : IsOneOr [] (flat_map parameters_of keys) s.params
  pub condition : IsOneOr (c_all no_conds nowhere) (flat_map condition_of keys) s.condition
  pub effect : IsOneOr (e_all no_effects nowhere) (flat_map effect_of keys) s.effect

-- ---- sections of a domain

abbrev pub requirements_of : DomainPart → List (List Spelled)
requirements_of (d_requirements xs) = xs ∷ []
requirements_of _ = []

abbrev pub types_of : DomainPart → List (List TypedName)
types_of (d_types xs) = xs ∷ []
types_of _ = []

abbrev pub constants_of : DomainPart → List (List TypedName)
constants_of (d_constants xs) = xs ∷ []
constants_of _ = []

abbrev pub predicates_of : DomainPart → List (List Head)
predicates_of (d_predicates hs) = hs ∷ []
predicates_of _ = []

abbrev pub functions_of : DomainPart → List (List Head)
functions_of (d_functions hs) = hs ∷ []
functions_of _ = []

abbrev pub action_of : DomainPart → List Schema
action_of (d_action s) = s ∷ []
action_of _ = []

abbrev pub process_of : DomainPart → List Schema
process_of (d_process s) = s ∷ []
process_of _ = []

abbrev pub event_of : DomainPart → List Schema
event_of (d_event s) = s ∷ []
event_of _ = []

-- actions, processes and events may be as many as one likes; each other section stands once at most, and what is not
-- written has no members
pub record HasSections (parts : List DomainPart) (d : Domain) : Type 0 where
  pub requirements : IsOneOr [] (flat_map requirements_of parts) d.requirements
  pub types : IsOneOr [] (flat_map types_of parts) d.types
  pub constants : IsOneOr [] (flat_map constants_of parts) d.constants
  pub predicates : IsOneOr [] (flat_map predicates_of parts) d.predicates
  pub functions : IsOneOr [] (flat_map functions_of parts) d.functions
  pub actions : d.actions ≡ flat_map action_of parts
  pub processes : d.processes ≡ flat_map process_of parts
  pub events : d.events ≡ flat_map event_of parts

-- ---- sections of a problem

abbrev pub domain_of : ProblemPart → List Spelled
domain_of (p_domain x) = x ∷ []
domain_of _ = []

abbrev pub required_of : ProblemPart → List (List Spelled)
required_of (p_requirements xs) = xs ∷ []
required_of _ = []

abbrev pub objects_of : ProblemPart → List (List TypedName)
objects_of (p_objects xs) = xs ∷ []
objects_of _ = []

abbrev pub init_of : ProblemPart → List (List Init)
init_of (p_init xs) = xs ∷ []
init_of _ = []

abbrev pub goal_of : ProblemPart → List Cond
goal_of (p_goal c) = c ∷ []
goal_of _ = []

abbrev pub metric_of : ProblemPart → List ProblemPart
metric_of p_metric = p_metric ∷ []
metric_of _ = []

-- `:domain`, `:init` and `:goal` stand once, each other section once at most; what `:metric` says is left out
pub record HasSectionsOfProblem (parts : List ProblemPart) (p : Problem) : Type 0 where
  pub domain : IsOne (flat_map domain_of parts) p.domain
  pub requirements : IsOneOr [] (flat_map required_of parts) p.requirements
  pub objects : IsOneOr [] (flat_map objects_of parts) p.objects
  pub init : IsOne (flat_map init_of parts) p.init
  pub goal : IsOne (flat_map goal_of parts) p.goal
  pub metric : length (flat_map metric_of parts) ≤ 1
