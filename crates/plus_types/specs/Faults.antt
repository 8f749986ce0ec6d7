-- The rules that a domain and a problem have to meet together, and the faults of a pair that does not, in the order of
-- the walk: types, constants, predicates, functions, actions, processes, events, objects, the name of the problem's
-- domain, the initial state, the goal. Inside each in text order, depth first, a condition before an effect.
-- The rules are those of PDDL+ (Fox and Long 2003 and 2006), the order in which faults come is this project's profile.
use Rattle.std.specs.Prelude.{◌≡◌, ℕ, Bool, true, false, not, List, [], ◌∷◌, ◌++◌, map, length, Option, Some, None, Result, MatchResult, slice_get, if◌then◌else◌, ◌==◌, ◌&&◌, ◌||◌}
use Rattle.std.specs.List.{list_any}
use Rattle.std.specs.Str.{bytes_eq}
use Rattle.plus_tokens.specs.declared.span.Span.{Span}
use Rattle.plus_tree.specs.declared.names.Spelled.{Spelled}
use Rattle.plus_tree.specs.declared.terms.Term.{Term}
use Rattle.plus_tree.specs.declared.terms.Term.TheVariants.{Object, Variable}
use Rattle.plus_tree.specs.declared.terms.Use.{Use}
use Rattle.plus_tree.specs.declared.terms.TypedName.{TypedName}
use Rattle.plus_tree.specs.declared.trees.Head.{Head}
use Rattle.plus_tree.specs.declared.trees.Leaf.{Leaf}
use Rattle.plus_tree.specs.declared.trees.LeafNode.{LeafNode}
use Rattle.plus_tree.specs.declared.trees.LeafNode.TheVariants.{Add, Delete, Assign, Increase, Decrease, ScaleUp, ScaleDown}
use Rattle.plus_tree.specs.declared.trees.Schema.{Schema}
use Rattle.plus_tree.specs.declared.trees.Domain.{Domain}
use Rattle.plus_tree.specs.declared.trees.Init.{Init}
use Rattle.plus_tree.specs.declared.trees.Init.TheVariants.{Holds, Absent, Value}
use Rattle.plus_tree.specs.declared.trees.Init.TheVariants as inits
use Rattle.plus_tree.specs.declared.trees.Problem.{Problem}
use Rattle.plus_tree.specs.Expr.{Expr, Exprs, x_number, x_clock, x_fluent, x_sum, x_product, x_minus, x_difference, x_quotient, no_exprs, more_exprs}
use Rattle.plus_tree.specs.Cond.{Cond, Conds, c_all, c_any, c_not, c_imply, c_forall, c_exists, c_atom, c_same, c_compare, no_conds, more_conds}
use Rattle.plus_tree.specs.Effect.{Effect, Effects, e_all, e_forall, e_when, e_leaf, no_effects, more_effects}
use Rattle.plus_types.specs.declared.faults.File.{File}
use Rattle.plus_types.specs.declared.faults.File.TheVariants as files
use Rattle.plus_types.specs.declared.faults.Wrong.{Wrong}
use Rattle.plus_types.specs.declared.faults.Wrong.TheVariants.{UnknownType, UnknownName, Arity, WrongType, Twice, Unbound, Shadowed, TypeLoop, RateForm, DomainName}
use Rattle.plus_types.specs.declared.faults.TypeFault.{TypeFault}
use Rattle.plus_types.specs.declared.faults.TypeFault.TheVariants.{At, Memory}
use Rattle.plus_types.specs.Types.{is_among, is_type, is_above, is_under, objects_of, Binding, bindings_of, bound_names, kind_of}

-- a fault, where the rule is broken
abbrev pub fault_where : Bool → Wrong → File → Span → List TypeFault
fault_where broken wrong file s = if broken then At wrong file s ∷ [] else []

-- ---- declarations

-- twice, type loop: a type is listed once, and is not above itself
unfoldable pub listed_faults : List Binding → List (List ℕ) → TypedName → List TypeFault
listed_faults types earlier t =
    if is_among earlier t.name.name then At Twice files.Domain t.name.span ∷ []
    else fault_where (is_above types t.name.name t.name.name) TypeLoop files.Domain t.name.span

abbrev pub types_faults : List Binding → List (List ℕ) → List TypedName → List TypeFault
types_faults types earlier [] = []
types_faults types earlier (t ∷ more) = listed_faults types earlier t ++ types_faults types (earlier ++ t.name.name ∷ []) more

-- shadowed: a list binds no name that a list around it binds; twice: it binds no name twice
abbrev pub bound_faults : File → List (List ℕ) → List (List ℕ) → Spelled → List TypeFault
bound_faults file outer earlier x =
    if is_among outer x.name then At Shadowed file x.span ∷ []
    else fault_where (is_among earlier x.name) Twice file x.span

-- unknown type: the type of a constant, an object or a variable is a type of the domain
abbrev pub kind_faults : List Binding → File → Spelled → List TypeFault
kind_faults types file k = fault_where (not (is_type types k.name)) UnknownType file k.span

-- a constant, an object or a variable: its name, then its type
unfoldable pub member_faults : List Binding → File → List (List ℕ) → List (List ℕ) → TypedName → List TypeFault
member_faults types file outer earlier x = bound_faults file outer earlier x.name ++ kind_faults types file x.kind

abbrev pub list_faults : List Binding → File → List (List ℕ) → List (List ℕ) → List TypedName → List TypeFault
list_faults types file outer earlier [] = []
list_faults types file outer earlier (x ∷ xs) =
    member_faults types file outer earlier x ++ list_faults types file outer (earlier ++ x.name.name ∷ []) xs

-- twice: a predicate is declared once, and so is a function, an action, a process, an event
abbrev pub twice_faults : List (List ℕ) → Spelled → List TypeFault
twice_faults earlier x = fault_where (is_among earlier x.name) Twice files.Domain x.span

-- a predicate or a function: its name, its parameters
unfoldable pub head_faults : List Binding → List (List ℕ) → Head → List TypeFault
head_faults types earlier h = twice_faults earlier h.name ++ list_faults types files.Domain [] [] h.params

abbrev pub heads_faults : List Binding → List (List ℕ) → List Head → List TypeFault
heads_faults types earlier [] = []
heads_faults types earlier (h ∷ more) = head_faults types earlier h ++ heads_faults types (earlier ++ h.name.name ∷ []) more

-- ---- uses

-- what is declared where a form stands
pub record Context : Type 0 where
  pub types : List Binding
  pub objects : List Binding
  pub predicates : List Head
  pub functions : List Head
  pub file : File

-- a domain knows its constants, a problem its objects too
abbrev pub domain_context : Domain → Context
domain_context d = record { types = bindings_of d.types; objects = bindings_of d.constants; predicates = d.predicates; functions = d.functions; file = files.Domain }

abbrev pub problem_context : Domain → Problem → Context
problem_context d p = record { types = bindings_of d.types; objects = bindings_of (objects_of d p); predicates = d.predicates; functions = d.functions; file = files.Problem }

-- the parameters of the predicate or function that has the name
abbrev pub params_of : List Head → List ℕ → Option (List TypedName)
params_of [] name = None
params_of (h ∷ hs) name = if bytes_eq name h.name.name then Some h.params else params_of hs name

abbrev pub term_span : Term → Span
term_span (Object x) = x.span
term_span (Variable x) = x.span

abbrev pub term_name : Term → List ℕ
term_name (Object x) = x.name
term_name (Variable x) = x.name

-- the type of a term, where it is known: an object is declared, a variable is bound
abbrev pub term_kind : Context → List Binding → Term → Option (List ℕ)
term_kind c vars (Object x) = kind_of c.objects x.name
term_kind c vars (Variable x) = kind_of vars x.name

-- unknown name, unbound
abbrev pub unknown_term : File → Term → List TypeFault
unknown_term file (Object x) = At UnknownName file x.span ∷ []
unknown_term file (Variable x) = At Unbound file x.span ∷ []

abbrev pub known_faults : File → Term → Option (List ℕ) → List TypeFault
known_faults file t None = unknown_term file t
known_faults file t (Some k) = []

abbrev pub term_faults : Context → List Binding → Term → List TypeFault
term_faults c vars t = known_faults c.file t (term_kind c vars t)

-- wrong type: the type of an argument is that of the parameter, or is under it
abbrev pub kind_of_faults : Context → List ℕ → Term → Option (List ℕ) → List TypeFault
kind_of_faults c param t None = unknown_term c.file t
kind_of_faults c param t (Some k) = fault_where (not (is_under c.types k param)) WrongType c.file (term_span t)

abbrev pub argument_faults : Context → List Binding → List ℕ → Term → List TypeFault
argument_faults c vars param t = kind_of_faults c param t (term_kind c vars t)

abbrev pub arguments_faults : Context → List Binding → List TypedName → List Term → List TypeFault
arguments_faults c vars params [] = []
arguments_faults c vars [] (t ∷ ts) = term_faults c vars t ++ arguments_faults c vars [] ts
arguments_faults c vars (p ∷ ps) (t ∷ ts) = argument_faults c vars p.kind.name t ++ arguments_faults c vars ps ts

-- unknown name: the head is declared; arity: there are as many arguments as parameters; then argument by argument
abbrev pub declared_faults : Context → List Binding → Use → Option (List TypedName) → List TypeFault
declared_faults c vars u None = At UnknownName c.file u.head.span ∷ arguments_faults c vars [] u.args
declared_faults c vars u (Some params) =
    fault_where (not (length u.args == length params)) Arity c.file u.span ++ arguments_faults c vars params u.args

abbrev pub use_faults : Context → List Binding → List Head → Use → List TypeFault
use_faults c vars heads u = declared_faults c vars u (params_of heads u.head.name)

-- rate form: `#t` stands only in the amounts of a process
abbrev mutual
  pub expr_faults : Context → List Binding → Bool → Expr → List TypeFault
  expr_faults c vars clock (x_number n s) = []
  expr_faults c vars clock (x_clock s) = fault_where (not clock) RateForm c.file s
  expr_faults c vars clock (x_fluent u s) = use_faults c vars c.functions u
  expr_faults c vars clock (x_sum es s) = exprs_faults c vars clock es
  expr_faults c vars clock (x_product es s) = exprs_faults c vars clock es
  expr_faults c vars clock (x_minus e s) = expr_faults c vars clock e
  expr_faults c vars clock (x_difference e f s) = expr_faults c vars clock e ++ expr_faults c vars clock f
  expr_faults c vars clock (x_quotient e f s) = expr_faults c vars clock e ++ expr_faults c vars clock f

  pub exprs_faults : Context → List Binding → Bool → Exprs → List TypeFault
  exprs_faults c vars clock no_exprs = []
  exprs_faults c vars clock (more_exprs e es) = expr_faults c vars clock e ++ exprs_faults c vars clock es

-- ---- conditions and effects

-- the list of a quantifier, in which no variable is bound around it; its type stands before what it binds
abbrev pub variables_faults : Context → List Binding → List TypedName → List TypeFault
variables_faults c vars vs = list_faults c.types c.file (bound_names vars) [] vs

abbrev mutual
  pub cond_faults : Context → List Binding → Cond → List TypeFault
  cond_faults c vars (c_all cs s) = conds_faults c vars cs
  cond_faults c vars (c_any cs s) = conds_faults c vars cs
  cond_faults c vars (c_not f s) = cond_faults c vars f
  cond_faults c vars (c_imply f g s) = cond_faults c vars f ++ cond_faults c vars g
  cond_faults c vars (c_forall vs f s) = variables_faults c vars vs ++ cond_faults c (vars ++ bindings_of vs) f
  cond_faults c vars (c_exists vs f s) = variables_faults c vars vs ++ cond_faults c (vars ++ bindings_of vs) f
  cond_faults c vars (c_atom u s) = use_faults c vars c.predicates u
  cond_faults c vars (c_same t u s) = term_faults c vars t ++ term_faults c vars u
  cond_faults c vars (c_compare op e f s) = expr_faults c vars false e ++ expr_faults c vars false f

  pub conds_faults : Context → List Binding → Conds → List TypeFault
  conds_faults c vars no_conds = []
  conds_faults c vars (more_conds f fs) = cond_faults c vars f ++ conds_faults c vars fs

-- whether `#t` stands in an expression
abbrev mutual
  pub has_clock : Expr → Bool
  has_clock (x_number n s) = false
  has_clock (x_clock s) = true
  has_clock (x_fluent u s) = false
  has_clock (x_sum es s) = have_clock es
  has_clock (x_product es s) = have_clock es
  has_clock (x_minus e s) = has_clock e
  has_clock (x_difference e f s) = has_clock e || has_clock f
  has_clock (x_quotient e f s) = has_clock e || has_clock f

  pub have_clock : Exprs → Bool
  have_clock no_exprs = false
  have_clock (more_exprs e es) = has_clock e || have_clock es

abbrev pub is_clock : Expr → Bool
is_clock (x_clock s) = true
is_clock _ = false

-- `#t` and one more factor, in which no `#t` stands
abbrev pub are_clock_and_rate : Exprs → Bool
are_clock_and_rate (more_exprs e (more_exprs f no_exprs)) = (is_clock e && not (has_clock f)) || (is_clock f && not (has_clock e))
are_clock_and_rate _ = false

-- the amount of a rate: `#t`, `(* #t e)` or `(* e #t)`
abbrev pub is_rate_amount : Expr → Bool
is_rate_amount (x_clock s) = true
is_rate_amount (x_product es s) = are_clock_and_rate es
is_rate_amount _ = false

-- a rate: `increase` or `decrease` with such an amount
abbrev pub is_rate : LeafNode → Bool
is_rate (Increase u e) = is_rate_amount e
is_rate (Decrease u e) = is_rate_amount e
is_rate _ = false

abbrev pub number_faults : Context → List Binding → Bool → Use → Expr → List TypeFault
number_faults c vars process u e = use_faults c vars c.functions u ++ expr_faults c vars process e

abbrev pub write_faults : Context → List Binding → Bool → LeafNode → List TypeFault
write_faults c vars process (Add u) = use_faults c vars c.predicates u
write_faults c vars process (Delete u) = use_faults c vars c.predicates u
write_faults c vars process (Assign u e) = number_faults c vars process u e
write_faults c vars process (Increase u e) = number_faults c vars process u e
write_faults c vars process (Decrease u e) = number_faults c vars process u e
write_faults c vars process (ScaleUp u e) = number_faults c vars process u e
write_faults c vars process (ScaleDown u e) = number_faults c vars process u e

-- rate form: each leaf of a process is a rate
unfoldable pub leaf_faults : Context → List Binding → Bool → Leaf → List TypeFault
leaf_faults c vars process l =
    fault_where (process && not (is_rate l.node)) RateForm c.file l.span ++ write_faults c vars process l.node

abbrev pub leaves_faults : Context → List Binding → Bool → List Leaf → List TypeFault
leaves_faults c vars process [] = []
leaves_faults c vars process (l ∷ ls) = leaf_faults c vars process l ++ leaves_faults c vars process ls

-- rate form: no `when` stands in a process
abbrev mutual
  pub effect_faults : Context → List Binding → Bool → Effect → List TypeFault
  effect_faults c vars process (e_all es s) = effects_faults c vars process es
  effect_faults c vars process (e_forall vs e s) = variables_faults c vars vs ++ effect_faults c (vars ++ bindings_of vs) process e
  effect_faults c vars process (e_when f ls s) =
      fault_where process RateForm c.file s ++ (cond_faults c vars f ++ leaves_faults c vars process ls)
  effect_faults c vars process (e_leaf l s) = leaf_faults c vars process l

  pub effects_faults : Context → List Binding → Bool → Effects → List TypeFault
  effects_faults c vars process no_effects = []
  effects_faults c vars process (more_effects e es) = effect_faults c vars process e ++ effects_faults c vars process es

-- ---- actions, processes and events

-- its name, its parameters, its condition, its effect
unfoldable pub schema_faults : Context → Bool → List (List ℕ) → Schema → List TypeFault
schema_faults c process earlier a =
    twice_faults earlier a.name
    ++ (variables_faults c [] a.params
    ++ (cond_faults c (bindings_of a.params) a.condition ++ effect_faults c (bindings_of a.params) process a.effect))

abbrev pub schemas_faults : Context → Bool → List (List ℕ) → List Schema → List TypeFault
schemas_faults c process earlier [] = []
schemas_faults c process earlier (a ∷ more) =
    schema_faults c process earlier a ++ schemas_faults c process (earlier ++ a.name.name ∷ []) more

-- ---- the problem

-- domain name: a problem is one for this domain
abbrev pub domain_name_faults : Domain → Problem → List TypeFault
domain_name_faults d p = fault_where (not (bytes_eq p.domain.name d.name.name)) DomainName files.Problem p.domain.span

-- a ground fluent: its name, then those of its objects
abbrev pub ground_name : Use → List (List ℕ)
ground_name u = u.head.name ∷ map term_name u.args

abbrev pub same_names : List (List ℕ) → List (List ℕ) → Bool
same_names [] [] = true
same_names (x ∷ xs) (y ∷ ys) = bytes_eq x y && same_names xs ys
same_names _ _ = false

-- twice: a ground fluent has one first value
abbrev pub initial_faults : Context → List (List (List ℕ)) → Init → List TypeFault
initial_faults c valued (Holds u) = use_faults c [] c.predicates u
initial_faults c valued (Absent u s) = use_faults c [] c.predicates u
initial_faults c valued (inits.At t u s) = use_faults c [] c.predicates u
initial_faults c valued (inits.AtNot t u s) = use_faults c [] c.predicates u
initial_faults c valued (Value u n s) =
    use_faults c [] c.functions u ++ fault_where (list_any (same_names (ground_name u)) valued) Twice c.file s

-- the ground fluents with a value after one more member
abbrev pub valued_after : List (List (List ℕ)) → Init → List (List (List ℕ))
valued_after valued (Holds u) = valued
valued_after valued (Absent u s) = valued
valued_after valued (inits.At t u s) = valued
valued_after valued (inits.AtNot t u s) = valued
valued_after valued (Value u n s) = valued ++ ground_name u ∷ []

abbrev pub init_faults : Context → List (List (List ℕ)) → List Init → List TypeFault
init_faults c valued [] = []
init_faults c valued (i ∷ more) = initial_faults c valued i ++ init_faults c (valued_after valued i) more

-- ---- the pair

-- what a domain declares: types, constants, predicates, functions
unfoldable pub declaration_faults : Domain → List TypeFault
declaration_faults d =
    types_faults (bindings_of d.types) [] d.types
    ++ (list_faults (bindings_of d.types) files.Domain [] [] d.constants
    ++ (heads_faults (bindings_of d.types) [] d.predicates ++ heads_faults (bindings_of d.types) [] d.functions))

-- its actions, processes and events
unfoldable pub rule_faults : Domain → List TypeFault
rule_faults d =
    schemas_faults (domain_context d) false [] d.actions
    ++ (schemas_faults (domain_context d) true [] d.processes ++ schemas_faults (domain_context d) false [] d.events)

-- the initial state and the goal
unfoldable pub state_faults : Domain → Problem → List TypeFault
state_faults d p = init_faults (problem_context d p) [] p.init ++ cond_faults (problem_context d p) [] p.goal

-- the objects, the name of the domain, the initial state and the goal
unfoldable pub problem_faults : Domain → Problem → List TypeFault
problem_faults d p =
    list_faults (bindings_of d.types) files.Problem [] (bound_names (bindings_of d.constants)) p.objects
    ++ (domain_name_faults d p ++ state_faults d p)

-- the broken rules of a pair, in the order of the walk
abbrev pub type_faults : Domain → Problem → List TypeFault
type_faults d p = declaration_faults d ++ (rule_faults d ++ problem_faults d p)

-- whether there is none
abbrev pub is_empty : {A : Type 0} → List A → Bool
is_empty [] = true
is_empty (x ∷ xs) = false

abbrev pub is_well_typed : Domain → Problem → Bool
is_well_typed d p = is_empty (type_faults d p)

-- the names that a domain declares
abbrev pub predicate_names : Domain → List (List ℕ)
predicate_names d = map (λ h. h.name.name) d.predicates

abbrev pub function_names : Domain → List (List ℕ)
function_names d = map (λ h. h.name.name) d.functions

abbrev pub action_names : Domain → List (List ℕ)
action_names d = map (λ a. a.name.name) d.actions

abbrev pub process_names : Domain → List (List ℕ)
process_names d = map (λ a. a.name.name) d.processes

abbrev pub event_names : Domain → List (List ℕ)
event_names d = map (λ a. a.name.name) d.events

-- the fault is the first of these; want of memory is none of them
abbrev pub IsFirstFault : List TypeFault → TypeFault → Type 0
IsFirstFault faults Memory = Unit {0}
IsFirstFault faults (At wrong file span) = slice_get faults 0 ≡ Some (At wrong file span)

-- a walk over forms answers the first of their faults, and is done where there is none
abbrev pub Walks : {A : Type 0} → List TypeFault → Result A TypeFault → Type 0
Walks faults r = MatchResult r (λ _. faults ≡ []) (IsFirstFault faults)
