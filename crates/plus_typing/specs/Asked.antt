-- What is asked of a pair, in the order of its texts: types, constants, predicates, functions, actions, processes, events,
-- objects, the name of the domain, the initial state, the goal.
use Rattle.std.specs.Prelude.{ℕ, Bool, true, false, not, List, [], ◌∷◌, ◌++◌, map, filter, flat_map, length, Option, Some, None, is_some, unwrap_or, ◌==◌, ◌||◌}
use Rattle.std.specs.List.{list_any}
use Rattle.std.specs.Str.{bytes_eq}
use Rattle.plus_tokens.specs.declared.span.Span.{Span}
use Rattle.plus_tree.specs.declared.names.Spelled.{Spelled}
use Rattle.plus_tree.specs.declared.terms.Term.{Term}
use Rattle.plus_tree.specs.declared.terms.Term.TheVariants.{Object, Variable}
use Rattle.plus_tree.specs.declared.terms.TypedName.{TypedName}
use Rattle.plus_tree.specs.declared.terms.Use.{Use}
use Rattle.plus_tree.specs.declared.trees.Head.{Head}
use Rattle.plus_tree.specs.declared.trees.Schema.{Schema}
use Rattle.plus_tree.specs.declared.trees.Domain.{Domain}
use Rattle.plus_tree.specs.declared.trees.Init.{Init}
use Rattle.plus_tree.specs.declared.trees.Init.TheVariants.{Value}
use Rattle.plus_tree.specs.declared.trees.Problem.{Problem}
use Rattle.plus_types.specs.declared.faults.File.{File}
use Rattle.plus_types.specs.declared.faults.File.TheVariants as files
use Rattle.plus_types.specs.declared.faults.Wrong.{Wrong}
use Rattle.plus_types.specs.declared.faults.Wrong.TheVariants.{UnknownType, UnknownName, Arity, WrongType, Twice, Unbound, Shadowed, TypeLoop, RateForm, DomainName}
use Rattle.plus_types.specs.declared.faults.TypeFault.{TypeFault}
use Rattle.plus_types.specs.declared.faults.TypeFault.TheVariants.{At}
use Rattle.plus_types.specs.Types.{Binding, is_among, bindings_of, bound_names, is_type, is_above, is_under}
use Rattle.plus_types.specs.Faults.{params_of, term_kind, term_span, is_rate, ground_name, same_names}
use Rattle.plus_typing.specs.Forms.{Place, Form, used, side, binds, clock, writes, guards, Found, in_domain, in_problem, in_head, in_schema, in_init, in_cond}
use Rattle.plus_typing.specs.WellTyped.{valued_by}

-- a rule at one form: whether it is met, and else the fault
pub record Asked : Type 0 where
  pub met : Bool
  pub wrong : Wrong
  pub file : File
  pub span : Span

abbrev pub ask : Bool → Wrong → File → Span → Asked
ask met wrong file s = record { met = met; wrong = wrong; file = file; span = s }

-- the faults of the rules that are not met, in order
abbrev pub broken : List Asked → List TypeFault
broken qs = map (λ q. At q.wrong q.file q.span) (filter (λ q. not q.met) qs)

-- true where there is none, else the answer of the test
abbrev pub passes : {X : Type 0} → Option X → (X → Bool) → Bool
passes None test = true
passes (Some x) test = test x

-- ---- lists

-- a type is listed once, and if so is not above itself
abbrev pub ask_types : List Binding → List (List ℕ) → List TypedName → List Asked
ask_types types earlier [] = []
ask_types types earlier (t ∷ more) =
    ask (not (is_among earlier t.name.name)) Twice files.Domain t.name.span
    ∷ ask (is_among earlier t.name.name || not (is_above types t.name.name t.name.name)) TypeLoop files.Domain t.name.span
    ∷ ask_types types (earlier ++ t.name.name ∷ []) more

-- a name is not bound around the list, and if so is new in it; its type is one
abbrev pub ask_list : List Binding → File → List (List ℕ) → List (List ℕ) → List TypedName → List Asked
ask_list types file outer earlier [] = []
ask_list types file outer earlier (x ∷ xs) =
    ask (not (is_among outer x.name.name)) Shadowed file x.name.span
    ∷ ask (is_among outer x.name.name || not (is_among earlier x.name.name)) Twice file x.name.span
    ∷ ask (is_type types x.kind.name) UnknownType file x.kind.span
    ∷ ask_list types file outer (earlier ++ x.name.name ∷ []) xs

-- ---- forms

abbrev pub unknown : Term → Wrong
unknown (Object x) = UnknownName
unknown (Variable x) = Unbound

abbrev pub ask_known : Place → Term → Asked
ask_known here t = ask (is_some (term_kind here.context here.vars t)) (unknown t) here.context.file (term_span t)

abbrev pub ask_type : Place → List ℕ → Term → Asked
ask_type here kind t =
    ask (passes (term_kind here.context here.vars t) (λ k. is_under here.context.types k kind)) WrongType here.context.file (term_span t)

-- argument by argument: it is known, and if so is of the type of its parameter
abbrev pub ask_arguments : Place → List TypedName → List Term → List Asked
ask_arguments here ps [] = []
ask_arguments here [] (t ∷ ts) = ask_known here t ∷ ask_arguments here [] ts
ask_arguments here (p ∷ ps) (t ∷ ts) = ask_known here t ∷ ask_type here p.kind.name t ∷ ask_arguments here ps ts

-- the head is declared, and if so has as many parameters as there are arguments; then the arguments
abbrev pub ask_use : Place → Use → Option (List TypedName) → List Asked
ask_use here u params =
    ask (is_some params) UnknownName here.context.file u.head.span
    ∷ ask (passes params (λ ps. length u.args == length ps)) Arity here.context.file u.span
    ∷ ask_arguments here (unwrap_or params []) u.args

abbrev pub ask_form : Place → Form → List Asked
ask_form here (used heads u) = ask_use here u (params_of heads u.head.name)
ask_form here (side t) = ask_known here t ∷ []
ask_form here (binds vs) = ask_list here.context.types here.context.file (bound_names here.vars) [] vs
ask_form here (clock s) = ask here.flows RateForm here.context.file s ∷ []
ask_form here (writes l) = ask (not here.flows || is_rate l.node) RateForm here.context.file l.span ∷ []
ask_form here (guards s) = ask (not here.flows) RateForm here.context.file s ∷ []

abbrev pub ask_forms : List Found → List Asked
ask_forms fs = flat_map (λ f. ask_form f.place f.form) fs

-- ---- declarations

-- each of these is declared once; then what stands in it
abbrev pub ask_each : {X : Type 0} → (X → Spelled) → (X → List Found) → List (List ℕ) → List X → List Asked
ask_each name inner earlier [] = []
ask_each name inner earlier (x ∷ more) =
    ask (not (is_among earlier (name x).name)) Twice files.Domain (name x).span
    ∷ (ask_forms (inner x) ++ ask_each name inner (earlier ++ (name x).name ∷ []) more)

abbrev pub ask_heads : Domain → List Head → List Asked
ask_heads d hs = ask_each (λ (h : Head). h.name) (in_head d) [] hs

abbrev pub ask_schemas : Place → List Schema → List Asked
ask_schemas here ss = ask_each (λ (a : Schema). a.name) (in_schema here) [] ss

abbrev pub ask_declarations : Domain → List Asked
ask_declarations d =
    ask_types (bindings_of d.types) [] d.types
    ++ (ask_list (bindings_of d.types) files.Domain [] [] d.constants
    ++ (ask_heads d d.predicates ++ ask_heads d d.functions))

abbrev pub ask_rules : Domain → List Asked
ask_rules d =
    ask_schemas (in_domain false d) d.actions
    ++ (ask_schemas (in_domain true d) d.processes ++ ask_schemas (in_domain false d) d.events)

-- ---- the problem

-- a fluent has no first value before
abbrev pub ask_value : File → List (List (List ℕ)) → Init → List Asked
ask_value file valued (Value u n s) = ask (not (list_any (same_names (ground_name u)) valued)) Twice file s ∷ []
ask_value file valued _ = []

abbrev pub ask_init : Place → List (List (List ℕ)) → List Init → List Asked
ask_init here valued [] = []
ask_init here valued (i ∷ more) =
    ask_forms (in_init here i) ++ (ask_value here.context.file valued i ++ ask_init here (valued ++ valued_by i) more)

abbrev pub ask_problem : Domain → Problem → List Asked
ask_problem d p =
    ask_list (bindings_of d.types) files.Problem [] (bound_names (bindings_of d.constants)) p.objects
    ++ (ask (bytes_eq p.domain.name d.name.name) DomainName files.Problem p.domain.span
    ∷ (ask_init (in_problem d p) [] p.init ++ ask_forms (in_cond (in_problem d p) p.goal)))

-- all that is asked of a pair
abbrev pub rules_asked : Domain → Problem → List Asked
rules_asked d p = ask_declarations d ++ (ask_rules d ++ ask_problem d p)
