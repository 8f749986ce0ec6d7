-- A pair without faults obeys the rules, and one that obeys them has none.
use Rattle.std.proofs.Common.{◌≡◌, true, false, List, [], ◌∷◌, ◌++◌, refl, ap, sym, subst, ◌∙◌, flat_map, All}
use Rattle.std.specs.Prelude.{◌↔◌, IsTrue, IsFalse}
use Rattle.std.specs.Bool.{Decides}
use Rattle.std.specs.List.{AllByRecursion}
use Rattle.std.specs.Str.{bytes_eq}
use Rattle.std.proofs.lemmas.List.Elements.{All-from_recursion, recursion_from_All}
use Rattle.std.proofs.lemmas.Slice.Eq.{bytes_eq-Decides}
use Rattle.plus_tokens.specs.declared.span.Span.{Span}
use Rattle.plus_tree.specs.declared.terms.Term.{Term}
use Rattle.plus_tree.specs.declared.trees.Head.{Head}
use Rattle.plus_tree.specs.declared.trees.Schema.{Schema}
use Rattle.plus_tree.specs.declared.trees.Domain.{Domain}
use Rattle.plus_tree.specs.declared.trees.Problem.{Problem}
use Rattle.plus_types.specs.declared.faults.File.TheVariants as files
use Rattle.plus_types.specs.declared.faults.Wrong.{Wrong}
use Rattle.plus_types.specs.declared.faults.Wrong.TheVariants.{UnknownType, UnknownName, Arity, WrongType, Twice, Unbound, Shadowed, TypeLoop, RateForm, DomainName}
use Rattle.plus_types.specs.declared.faults.TypeFault.{TypeFault}
use Rattle.plus_types.specs.declared.faults.TypeFault.TheVariants.{At, Memory}
use Rattle.plus_types.specs.Types.{names_of, bindings_of, bound_names, objects_of}
use Rattle.plus_types.specs.Faults.{type_faults, is_empty, is_well_typed, predicate_names, function_names, action_names, process_names, event_names, same_names}
use Rattle.plus_typing.specs.Forms.{Place, Form, Found, Standing, uses_at, terms_at, lists_at, clocks_at, writes_at, guards_at, in_domain, in_problem, in_head, in_schema, in_init, in_cond, forms}
use Rattle.plus_typing.specs.WellTyped.{NamesOnce, BindsNew, IsNotAboveItself, HasType, HasTypes, IsDeclared, IsObject, IsBound, IsCounted, Fits, IsRateInProcess, valued_by, Rule, IsWellTyped}
use Rattle.plus_typing.specs.Asked.{Asked, broken, ask_types, ask_list, ask_forms, ask_heads, ask_schemas, ask_declarations, ask_rules, ask_init, ask_problem, rules_asked}
use Rattle.plus_typing.specs.Laws.{NamesBroken}
use Rattle.plus_typing.proofs.Told.{first_broken}
use Rattle.plus_typing.proofs.Lists.{all_both, all_left, all_right, all_more, fresh_differ, differ_fresh, fresh_both, fresh_left, fresh_right, names_decide, names_bound, names_append}
use Rattle.plus_typing.proofs.Rules.{Met, met_from, met_to, MetFor, met_for_all, IsBeside, faults_beside, New, Low, Typed, NewValues, types_from, types_to, list_from, list_to, nothing_outside, obeys_to, FormMet, FormMetFor, forms_from, forms_to, pick, spread, each_from, each_to, init_from, init_to}

-- ---- the parts of what is asked

-- all that is asked of a pair, part by part
record Parts (W : Wrong → Type 0) (d : Domain) (p : Problem) (inner : List Found → Type 0) : Type 0 where
  types : W Twice → New [] (names_of d.types)
  low : W TypeLoop → Low (bindings_of d.types) d.types
  constants : W Twice → New [] (names_of d.constants)
  constant_types : W UnknownType → Typed (bindings_of d.types) d.constants
  predicates : W Twice → New [] (predicate_names d)
  functions : W Twice → New [] (function_names d)
  actions : W Twice → New [] (action_names d)
  processes : W Twice → New [] (process_names d)
  events : W Twice → New [] (event_names d)
  objects : W Twice → New (bound_names (bindings_of d.constants)) (names_of p.objects)
  object_types : W UnknownType → Typed (bindings_of d.types) p.objects
  named : W DomainName → bytes_eq p.domain.name d.name.name ≡ true
  values : W Twice → NewValues [] (flat_map valued_by p.init)
  all : inner (forms d p)

abbrev IsMet : Asked → Type 0
IsMet q = q.met ≡ true

abbrev PartsMet : Domain → Problem → Type 0
PartsMet d p = Parts (λ w. Unit {0}) d p (AllByRecursion FormMet)

abbrev PartsMetFor : (Wrong → Type 0) → Domain → Problem → Type 0
PartsMetFor W d p = Parts W d p (AllByRecursion (FormMetFor W))

-- the forms of a pair, kind by kind
module _ (d : Domain) (p : Problem) where
  abbrev from_predicates : List Found
  from_predicates = flat_map (in_head d) d.predicates

  abbrev from_functions : List Found
  from_functions = flat_map (in_head d) d.functions

  abbrev from_actions : List Found
  from_actions = flat_map (in_schema (in_domain false d)) d.actions

  abbrev from_processes : List Found
  from_processes = flat_map (in_schema (in_domain true d)) d.processes

  abbrev from_events : List Found
  from_events = flat_map (in_schema (in_domain false d)) d.events

  abbrev from_init : List Found
  from_init = flat_map (in_init (in_problem d p)) p.init

  abbrev from_goal : List Found
  from_goal = in_cond (in_problem d p) p.goal

abbrev the_name : Domain → Problem → Asked
the_name d p = record { met = bytes_eq p.domain.name d.name.name; wrong = DomainName; file = files.Problem; span = p.domain.span }

parts_from : (d : Domain) (p : Problem) → Met (rules_asked d p) → PartsMet d p
parts_from d p m =
    let declared = all_left IsMet (ask_declarations d) (ask_rules d ++ ask_problem d p) m in
    let later = all_right IsMet (ask_declarations d) (ask_rules d ++ ask_problem d p) m in
    let rules = all_left IsMet (ask_rules d) (ask_problem d p) later in
    let problem = all_right IsMet (ask_rules d) (ask_problem d p) later in
    let types = bindings_of d.types in
    let heads = ask_heads d d.predicates ++ ask_heads d d.functions in
    let constants = ask_list types files.Domain [] [] d.constants in
    let a = types_from types [] d.types (all_left IsMet (ask_types types [] d.types) (constants ++ heads) declared) in
    let behind = all_right IsMet (ask_types types [] d.types) (constants ++ heads) declared in
    let b = list_from types files.Domain [] [] d.constants (all_left IsMet constants heads behind) in
    let headed = all_right IsMet constants heads behind in
    let name_of = λ (h : Head). h.name in
    let title_of = λ (s : Schema). s.name in
    let c = each_from name_of (in_head d) [] d.predicates (all_left IsMet (ask_heads d d.predicates) (ask_heads d d.functions) headed) in
    let e = each_from name_of (in_head d) [] d.functions (all_right IsMet (ask_heads d d.predicates) (ask_heads d d.functions) headed) in
    let acts = ask_schemas (in_domain false d) d.actions in
    let flows = ask_schemas (in_domain true d) d.processes in
    let fires = ask_schemas (in_domain false d) d.events in
    let f = each_from title_of (in_schema (in_domain false d)) [] d.actions (all_left IsMet acts (flows ++ fires) rules) in
    let happening = all_right IsMet acts (flows ++ fires) rules in
    let g = each_from title_of (in_schema (in_domain true d)) [] d.processes (all_left IsMet flows fires happening) in
    let h = each_from title_of (in_schema (in_domain false d)) [] d.events (all_right IsMet flows fires happening) in
    let objects = ask_list types files.Problem [] (bound_names (bindings_of d.constants)) p.objects in
    let state = ask_init (in_problem d p) [] p.init ++ ask_forms (from_goal d p) in
    let o = list_from types files.Problem [] (bound_names (bindings_of d.constants)) p.objects (all_left IsMet objects (the_name d p ∷ state) problem) in
    let named = all_right IsMet objects (the_name d p ∷ state) problem in
    let i = init_from (in_problem d p) [] p.init (all_left IsMet (ask_init (in_problem d p) [] p.init) (ask_forms (from_goal d p)) named.1) in
    let j = forms_from (from_goal d p) (all_right IsMet (ask_init (in_problem d p) [] p.init) (ask_forms (from_goal d p)) named.1) in
    record {
      types = λ w. a.0;
      low = λ w. a.1;
      constants = λ w. b.1;
      constant_types = λ w. b.2;
      predicates = λ w. c.0;
      functions = λ w. e.0;
      actions = λ w. f.0;
      processes = λ w. g.0;
      events = λ w. h.0;
      objects = λ w. o.1;
      object_types = λ w. o.2;
      named = λ w. named.0;
      values = λ w. i.0;
      all =
          all_both FormMet (from_predicates d p) _ c.1
          (all_both FormMet (from_functions d p) _ e.1
          (all_both FormMet (from_actions d p) _ f.1
          (all_both FormMet (from_processes d p) _ g.1
          (all_both FormMet (from_events d p) _ h.1
          (all_both FormMet (from_init d p) (from_goal d p) i.1 j)))));
    }

parts_to : (W : Wrong → Type 0) (d : Domain) (p : Problem) → PartsMetFor W d p → MetFor W (rules_asked d p)
parts_to W d p r =
    let Q = λ (q : Asked). W q.wrong → q.met ≡ true in
    let F = FormMetFor W in
    let types = bindings_of d.types in
    let name_of = λ (h : Head). h.name in
    let title_of = λ (s : Schema). s.name in
    let a = all_right F (from_predicates d p) _ r.all in
    let b = all_right F (from_functions d p) _ a in
    let c = all_right F (from_actions d p) _ b in
    let e = all_right F (from_processes d p) _ c in
    let f = all_right F (from_events d p) _ e in
    all_both Q (ask_declarations d) (ask_rules d ++ ask_problem d p)
    (all_both Q (ask_types types [] d.types) _ (types_to W types [] d.types r.types r.low)
    (all_both Q (ask_list types files.Domain [] [] d.constants) _ (list_to W types files.Domain [] [] d.constants (λ w. nothing_outside d.constants) r.constants r.constant_types)
    (all_both Q (ask_heads d d.predicates) (ask_heads d d.functions)
    (each_to name_of (in_head d) W [] d.predicates r.predicates (all_left F (from_predicates d p) _ r.all))
    (each_to name_of (in_head d) W [] d.functions r.functions (all_left F (from_functions d p) _ a)))))
    (all_both Q (ask_rules d) (ask_problem d p)
    (all_both Q (ask_schemas (in_domain false d) d.actions) _
    (each_to title_of (in_schema (in_domain false d)) W [] d.actions r.actions (all_left F (from_actions d p) _ b))
    (all_both Q (ask_schemas (in_domain true d) d.processes) (ask_schemas (in_domain false d) d.events)
    (each_to title_of (in_schema (in_domain true d)) W [] d.processes r.processes (all_left F (from_processes d p) _ c))
    (each_to title_of (in_schema (in_domain false d)) W [] d.events r.events (all_left F (from_events d p) _ e))))
    (all_both Q (ask_list types files.Problem [] (bound_names (bindings_of d.constants)) p.objects) _
    (list_to W types files.Problem [] (bound_names (bindings_of d.constants)) p.objects (λ w. nothing_outside p.objects) r.objects r.object_types) (
      r.named,
      all_both Q (ask_init (in_problem d p) [] p.init) (ask_forms (from_goal d p))
          (init_to W (in_problem d p) [] p.init r.values (all_left F (from_init d p) (from_goal d p) f))
          (forms_to W (from_goal d p) (all_right F (from_init d p) (from_goal d p) f)),
    )))

-- ---- the rules

objects_new : (d : Domain) (p : Problem) → New [] (names_of d.constants) → New (bound_names (bindings_of d.constants)) (names_of p.objects) → New [] (names_of (objects_of d p))
objects_new d p n m =
    subst (λ xs. New [] xs) (sym (names_append d.constants p.objects))
    (fresh_both bytes_eq bytes_eq-Decides [] (names_of d.constants) (names_of p.objects) n (subst (λ xs. New xs (names_of p.objects)) (names_bound d.constants) m))

objects_old : (d : Domain) (p : Problem) → New [] (names_of (objects_of d p)) → New [] (names_of d.constants) × New (bound_names (bindings_of d.constants)) (names_of p.objects)
objects_old d p n =
    let all = subst (λ xs. New [] xs) (names_append d.constants p.objects) n in (
      fresh_left bytes_eq bytes_eq-Decides [] (names_of d.constants) (names_of p.objects) all,
      subst (λ xs. New xs (names_of p.objects)) (sym (names_bound d.constants)) (fresh_right bytes_eq bytes_eq-Decides [] (names_of d.constants) (names_of p.objects) all),
    )

rules_from : (d : Domain) (p : Problem) → PartsMet d p → IsWellTyped d p
rules_from d p r = record {
  nothing_twice = record {
    types = fresh_differ bytes_eq bytes_eq-Decides (names_of d.types) (r.types tt);
    objects = fresh_differ bytes_eq bytes_eq-Decides (names_of (objects_of d p)) (objects_new d p (r.constants tt) (r.objects tt));
    predicates = fresh_differ bytes_eq bytes_eq-Decides (predicate_names d) (r.predicates tt);
    functions = fresh_differ bytes_eq bytes_eq-Decides (function_names d) (r.functions tt);
    actions = fresh_differ bytes_eq bytes_eq-Decides (action_names d) (r.actions tt);
    processes = fresh_differ bytes_eq bytes_eq-Decides (process_names d) (r.processes tt);
    events = fresh_differ bytes_eq bytes_eq-Decides (event_names d) (r.events tt);
    variables = pick NamesOnce lists_at (λ here form o. o.once tt) (forms d p) r.all;
    values = fresh_differ same_names names_decide (flat_map valued_by p.init) (r.values tt);
  };
  nothing_shadowed = pick BindsNew lists_at (λ here form o. o.new tt) (forms d p) r.all;
  no_type_loop = All-from_recursion (IsNotAboveItself (bindings_of d.types)) d.types (r.low tt);
  types_known = record {
    objects =
        All-from_recursion (HasType (bindings_of d.types)) (objects_of d p)
        (all_both (HasType (bindings_of d.types)) d.constants p.objects (r.constant_types tt) (r.object_types tt));
    variables = pick HasTypes lists_at (λ here form o. o.types tt) (forms d p) r.all;
  };
  names_known = record {
    uses = pick IsDeclared uses_at (λ here form o. o.declared tt) (forms d p) r.all;
    objects = pick (λ (t : Standing Term). IsObject t.place t.form) terms_at (λ here form o. o.objects tt) (forms d p) r.all;
  };
  variables_bound = pick (λ (t : Standing Term). IsBound t.place t.form) terms_at (λ here form o. o.bound tt) (forms d p) r.all;
  arguments_counted = pick IsCounted uses_at (λ here form o. o.counted tt) (forms d p) r.all;
  arguments_fit = pick Fits uses_at (λ here form o. o.fit tt) (forms d p) r.all;
  processes_flow = record {
    clocks = pick (λ (k : Standing Span). IsTrue k.place.flows) clocks_at (λ here form o. o.clocks tt) (forms d p) r.all;
    rates = pick IsRateInProcess writes_at (λ here form o. o.rates tt) (forms d p) r.all;
    always = pick (λ (g : Standing Span). IsFalse g.place.flows) guards_at (λ here form o. o.always tt) (forms d p) r.all;
  };
  domain_named = (bytes_eq-Decides p.domain.name d.name.name).0 (r.named tt);
}

-- what all forms obey of the rules of W
abbrev Each : {Y : Type 0} → (Y → Type 0) → (Place → Form → List Y) → List Found → Type 0
Each P at fs = AllByRecursion (λ (f : Found). AllByRecursion P (at f.place f.form)) fs

record AllObey (W : Wrong → Type 0) (fs : List Found) : Type 0 where
  new : W Shadowed → Each BindsNew lists_at fs
  once : W Twice → Each NamesOnce lists_at fs
  types : W UnknownType → Each HasTypes lists_at fs
  declared : W UnknownName → Each IsDeclared uses_at fs
  objects : W UnknownName → Each (λ (t : Standing Term). IsObject t.place t.form) terms_at fs
  bound : W Unbound → Each (λ (t : Standing Term). IsBound t.place t.form) terms_at fs
  counted : W Arity → Each IsCounted uses_at fs
  fit : W WrongType → Each Fits uses_at fs
  clocks : W RateForm → Each (λ (k : Standing Span). IsTrue k.place.flows) clocks_at fs
  rates : W RateForm → Each IsRateInProcess writes_at fs
  always : W RateForm → Each (λ (g : Standing Span). IsFalse g.place.flows) guards_at fs

all_met : (W : Wrong → Type 0) (fs : List Found) → AllObey W fs → AllByRecursion (FormMetFor W) fs
all_met W [] a = tt
all_met W (f ∷ fs) a = (
  obeys_to W f.place f.form (record {
    new = λ w. (a.new w).0;
    once = λ w. (a.once w).0;
    types = λ w. (a.types w).0;
    declared = λ w. (a.declared w).0;
    objects = λ w. (a.objects w).0;
    bound = λ w. (a.bound w).0;
    counted = λ w. (a.counted w).0;
    fit = λ w. (a.fit w).0;
    clocks = λ w. (a.clocks w).0;
    rates = λ w. (a.rates w).0;
    always = λ w. (a.always w).0;
  }),
  all_met W fs (record {
    new = λ w. (a.new w).1;
    once = λ w. (a.once w).1;
    types = λ w. (a.types w).1;
    declared = λ w. (a.declared w).1;
    objects = λ w. (a.objects w).1;
    bound = λ w. (a.bound w).1;
    counted = λ w. (a.counted w).1;
    fit = λ w. (a.fit w).1;
    clocks = λ w. (a.clocks w).1;
    rates = λ w. (a.rates w).1;
    always = λ w. (a.always w).1;
  }),
)

rules_to : (W : Wrong → Type 0) (d : Domain) (p : Problem) → ((w : Wrong) → W w → Rule w d p) → PartsMetFor W d p
rules_to W d p h = record {
  types = λ w. differ_fresh bytes_eq bytes_eq-Decides (names_of d.types) (h Twice w).types;
  low = λ w. recursion_from_All (IsNotAboveItself (bindings_of d.types)) d.types (h TypeLoop w);
  constants = λ w. (objects_old d p (differ_fresh bytes_eq bytes_eq-Decides (names_of (objects_of d p)) (h Twice w).objects)).0;
  constant_types = λ w. all_left (HasType (bindings_of d.types)) d.constants p.objects (recursion_from_All (HasType (bindings_of d.types)) (objects_of d p) (h UnknownType w).objects);
  predicates = λ w. differ_fresh bytes_eq bytes_eq-Decides (predicate_names d) (h Twice w).predicates;
  functions = λ w. differ_fresh bytes_eq bytes_eq-Decides (function_names d) (h Twice w).functions;
  actions = λ w. differ_fresh bytes_eq bytes_eq-Decides (action_names d) (h Twice w).actions;
  processes = λ w. differ_fresh bytes_eq bytes_eq-Decides (process_names d) (h Twice w).processes;
  events = λ w. differ_fresh bytes_eq bytes_eq-Decides (event_names d) (h Twice w).events;
  objects = λ w. (objects_old d p (differ_fresh bytes_eq bytes_eq-Decides (names_of (objects_of d p)) (h Twice w).objects)).1;
  object_types = λ w. all_right (HasType (bindings_of d.types)) d.constants p.objects (recursion_from_All (HasType (bindings_of d.types)) (objects_of d p) (h UnknownType w).objects);
  named = λ w. (bytes_eq-Decides p.domain.name d.name.name).1 (h DomainName w);
  values = λ w. differ_fresh same_names names_decide (flat_map valued_by p.init) (h Twice w).values;
  all = all_met W (forms d p) (record {
    new = λ w. spread BindsNew lists_at (forms d p) (h Shadowed w);
    once = λ w. spread NamesOnce lists_at (forms d p) (h Twice w).variables;
    types = λ w. spread HasTypes lists_at (forms d p) (h UnknownType w).variables;
    declared = λ w. spread IsDeclared uses_at (forms d p) (h UnknownName w).uses;
    objects = λ w. spread (λ (t : Standing Term). IsObject t.place t.form) terms_at (forms d p) (h UnknownName w).objects;
    bound = λ w. spread (λ (t : Standing Term). IsBound t.place t.form) terms_at (forms d p) (h Unbound w);
    counted = λ w. spread IsCounted uses_at (forms d p) (h Arity w);
    fit = λ w. spread Fits uses_at (forms d p) (h WrongType w);
    clocks = λ w. spread (λ (k : Standing Span). IsTrue k.place.flows) clocks_at (forms d p) (h RateForm w).clocks;
    rates = λ w. spread IsRateInProcess writes_at (forms d p) (h RateForm w).rates;
    always = λ w. spread (λ (g : Standing Span). IsFalse g.place.flows) guards_at (forms d p) (h RateForm w).always;
  });
}

-- a well-typed pair obeys the rule of each word
pub each_rule : (d : Domain) (p : Problem) → IsWellTyped d p → (w : Wrong) → Rule w d p
each_rule d p r UnknownType = r.types_known
each_rule d p r UnknownName = r.names_known
each_rule d p r Arity = r.arguments_counted
each_rule d p r WrongType = r.arguments_fit
each_rule d p r Twice = r.nothing_twice
each_rule d p r Unbound = r.variables_bound
each_rule d p r Shadowed = r.nothing_shadowed
each_rule d p r TypeLoop = r.no_type_loop
each_rule d p r RateForm = r.processes_flow
each_rule d p r DomainName = r.domain_named

pub well_typed_by_statements : (d : Domain) (p : Problem) → (type_faults d p ≡ []) ↔ IsWellTyped d p
well_typed_by_statements d p = (
  λ e. rules_from d p (parts_from d p (met_from (rules_asked d p) (sym (first_broken d p) ∙ e))),
  λ r. first_broken d p
      ∙ met_to (rules_asked d p) (met_for_all (rules_asked d p) (parts_to (λ w. Unit {0}) d p (rules_to (λ w. Unit {0}) d p (λ w u. each_rule d p r w)))),
)

beside_broken : (d : Domain) (p : Problem) (f : TypeFault) → IsBeside (λ w. Rule w d p) f → NamesBroken d p f
beside_broken d p (At wrong file span) b = b
beside_broken d p Memory b = b

pub faults_name_rules : (d : Domain) (p : Problem) → All (NamesBroken d p) (type_faults d p)
faults_name_rules d p =
    All-from_recursion (NamesBroken d p) (type_faults d p)
    (subst (λ fs. AllByRecursion (NamesBroken d p) fs) (sym (first_broken d p))
    (all_more (IsBeside (λ w. Rule w d p)) (NamesBroken d p) (beside_broken d p) (broken (rules_asked d p))
    (faults_beside (λ w. Rule w d p) (rules_asked d p) (parts_to (λ w. Rule w d p) d p (rules_to (λ w. Rule w d p) d p (λ w r. r))))))

-- the test that tells whether there are no faults
pub well_typed_is_decided : (d : Domain) (p : Problem) → Decides (is_well_typed d p) (IsWellTyped d p)
well_typed_is_decided d p = (
  λ e. (well_typed_by_statements d p).0 (none (type_faults d p) e),
  λ r. ap is_empty ((well_typed_by_statements d p).1 r),
)
  where
    none : (fs : List TypeFault) → is_empty fs ≡ true → fs ≡ []
    none [] e = refl
    none (f ∷ fs) e = absurd cc
