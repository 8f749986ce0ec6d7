-- The translated pair is well typed.
use Rattle.std.proofs.Common.{◌≡◌, ℕ, suc, ◌≤◌, Bool, true, false, not, cond, ◌||◌, ◌&&◌, List, [], ◌∷◌, ◌++◌, map, filter, refl, ap, ap₂, sym, subst, ◌∙◌, arith, append_assoc, append-nil, Option, Some, None, flat_map, All, nat_eq}
use Rattle.std.specs.Prelude.{codes, if◌then◌else◌}
use Rattle.std.specs.List.{list_any, AllByRecursion}
use Rattle.std.specs.Str.{bytes_eq}
use Rattle.std.proofs.lemmas.List.{map-append}
use Rattle.std.proofs.lemmas.List.Elements.{All-head, All-tail}
use Rattle.plus_fraction.specs.Fraction.{Fraction}
use Rattle.plus_tokens.specs.declared.span.Span.{Span}
use Rattle.plus_tree.specs.declared.names.Spelled.{Spelled}
use Rattle.plus_tree.specs.declared.terms.Literal.{Literal}
use Rattle.plus_tree.specs.declared.terms.TypedName.{TypedName}
use Rattle.plus_tree.specs.declared.terms.Use.{Use}
use Rattle.plus_tree.specs.declared.trees.Head.{Head}
use Rattle.plus_tree.specs.declared.trees.LeafNode.TheVariants.{Add, Delete, Increase}
use Rattle.plus_tree.specs.declared.trees.Schema.{Schema}
use Rattle.plus_tree.specs.declared.trees.Domain.{Domain}
use Rattle.plus_tree.specs.declared.trees.Init.{Init}
use Rattle.plus_tree.specs.declared.trees.Init.TheVariants.{Holds, Absent, Value, At, AtNot}
use Rattle.plus_tree.specs.declared.trees.Problem.{Problem}
use Rattle.plus_tree.specs.Expr.{x_number}
use Rattle.plus_tree.specs.Cond.{c_any, conds_of}
use Rattle.plus_types.specs.declared.faults.File.{File}
use Rattle.plus_types.specs.declared.faults.File.TheVariants as files
use Rattle.plus_types.specs.declared.faults.Wrong.TheVariants.{Twice}
use Rattle.plus_types.specs.Types.{Binding, bindings_of, bound_names, is_among, kind_of}
use Rattle.plus_types.specs.Faults.{Context, domain_context, problem_context, params_of, twice_faults, list_faults, head_faults, heads_faults, types_faults, use_faults, declared_faults, variables_faults, cond_faults, leaf_faults, effect_faults, schema_faults, schemas_faults, domain_name_faults, term_name, ground_name, same_names, initial_faults, valued_after, init_faults, declaration_faults, rule_faults, state_faults, problem_faults, type_faults, is_empty}
use Rattle.plus_types.proofs.SoundLemmas.{left-none, right-none}
use Rattle.plus_types.proofs.TypesLemmas.{same-bytes}
use Rattle.plus_expansion.proofs.WellTyped.{no-type-fault}
use Rattle.plus_translation.specs.Names.{is_taken, Place, taken_name, taken_list, taken_head, taken_action, names_taken}
use Rattle.plus_translation.specs.Renamed.{nowhere, spelled, renamed_event, renamed_from}
use Rattle.plus_translation.specs.Translated.{Due, natural, both, writes, leaf, length_of_step, clock_use, mark_name, mark_heads, none_hold, none_repeats, clears, fires, flows, steps_to, due_at, due_by, is_later, due_node, due_effect, clock_effects, same_atom, set_at_once, cleared_at_once, stays_in_init, init_translated, old_translated, without_params, translated_domain, translated_problem}
use Rattle.plus_translation.specs.Leaves.{some, leaves_of}
use Rattle.laws_translation.specs.Typed.Laws.{NoRateShadows, TranslationIsTyped}
use Rattle.laws_translation.proofs.TypedLemmas.Listed.{both_none, rule_kept, no_rule, kind_kept, ListTyped, list_from, list_to, list_append, variables_from, variables_to}
use Rattle.laws_translation.proofs.TypedLemmas.Wider.{Declares, EachName, cond_binds, cond_wider, atom_wider, fluent_wider, effect_wider}
use Rattle.laws_translation.proofs.TypedLemmas.Nested.{all_conds, all_effects, all_both, wider_same, leaves_typed}
use Rattle.laws_translation.proofs.TypedLemmas.Flows.{placed_flows}
use Rattle.laws_translation.proofs.TypedLemmas.EventsTyped.{mark_apart, OutFree, list_free, MarksKnown, params_behind, params_kept, marks_known, EventTyped, renamed_params, none_typed, clears_typed, some_all_typed, repeats_typed, fires_typed}

-- ---- names that are free

places_left : (xs ys : List Place) → xs ++ ys ≡ [] → xs ≡ []
places_left [] ys e = refl
places_left (x ∷ xs) ys e = absurd cc

places_right : (xs ys : List Place) → xs ++ ys ≡ [] → ys ≡ []
places_right [] ys e = e
places_right (x ∷ xs) ys e = absurd cc

name_free : (file : File) (x : Spelled) → taken_name file x ≡ [] → is_taken x.name ≡ false
name_free file x e = by (is_taken x.name) refl e
  where
    by : (b : Bool) → is_taken x.name ≡ b → if◌then◌else◌ {A = List Place} b ((file, x.span) ∷ []) [] ≡ [] → is_taken x.name ≡ false
    by true h k = absurd cc
    by false h k = h

names_free : (file : File) (vs : List TypedName) → taken_list file vs ≡ [] → EachName (λ x. is_taken x ≡ false) vs
names_free file [] e = tt
names_free file (v ∷ vs) e = (name_free file v.name (places_left (taken_name file v.name) _ e), names_free file vs (places_right (taken_name file v.name) _ e))

taken_apart : (x y : List ℕ) → is_taken x ≡ true → is_taken y ≡ false → bytes_eq x y ≡ false
taken_apart x y t f = by (bytes_eq x y) refl
  where
    by : (b : Bool) → bytes_eq x y ≡ b → bytes_eq x y ≡ false
    by false e = e
    by true e = absurd (let h : true ≡ false = sym t ∙ ap is_taken (same-bytes x y e) ∙ f in cc)

-- a taken name is that of no head
no_head : (heads : List Head) → flat_map taken_head heads ≡ [] → (x : List ℕ) → is_taken x ≡ true → params_of heads x ≡ None
no_head [] e x t = refl
no_head (h ∷ heads) e x t =
    let f = name_free files.Domain h.name (places_left (taken_name files.Domain h.name) _ (places_left (taken_head h) _ e)) in
    ap (λ b. cond b (Some h.params) (params_of heads x)) (taken_apart x h.name.name t f) ∙ no_head heads (places_right (taken_head h) _ e) x t

not_among_heads : (heads : List Head) → flat_map taken_head heads ≡ [] → (x : List ℕ) → is_taken x ≡ true → is_among (map (λ (h : Head). h.name.name) heads) x ≡ false
not_among_heads [] e x t = refl
not_among_heads (h ∷ heads) e x t =
    let f = name_free files.Domain h.name (places_left (taken_name files.Domain h.name) _ (places_left (taken_head h) _ e)) in
    ap₂ (λ a b. a || b) (taken_apart x h.name.name t f) (not_among_heads heads (places_right (taken_head h) _ e) x t)

not_among_actions : (actions : List Schema) → flat_map taken_action actions ≡ [] → (x : List ℕ) → is_taken x ≡ true → is_among (map (λ (a : Schema). a.name.name) actions) x ≡ false
not_among_actions [] e x t = refl
not_among_actions (a ∷ actions) e x t =
    let f = name_free files.Domain a.name (places_left (taken_name files.Domain a.name) _ (places_left (taken_action a) _ e)) in
    ap₂ (λ b c. b || c) (taken_apart x a.name.name t f) (not_among_actions actions (places_right (taken_action a) _ e) x t)

-- ---- schemas

record ActionTyped (c : Context) (process : Bool) (a : Schema) : Type 0 where
  params : ListTyped c.types [] a.params
  condition : cond_faults c (bindings_of a.params) a.condition ≡ []
  effect : effect_faults c (bindings_of a.params) process a.effect ≡ []

schema_from : (c : Context) (process : Bool) (earlier : List (List ℕ)) (a : Schema) → schema_faults c process earlier a ≡ [] → ActionTyped c process a
unfolding schema_faults
schema_from c process earlier a f =
    let rest = right-none (twice_faults earlier a.name) _ f in
    let inner = right-none (variables_faults c [] a.params) _ rest in
    record {
      params = variables_from c [] a.params (left-none (variables_faults c [] a.params) _ rest);
      condition = left-none (cond_faults c (bindings_of a.params) a.condition) _ inner;
      effect = right-none (cond_faults c (bindings_of a.params) a.condition) _ inner;
    }

schema_to : (c : Context) (process : Bool) (earlier : List (List ℕ)) (a : Schema) → is_among earlier a.name.name ≡ false → ActionTyped c process a → schema_faults c process earlier a ≡ []
unfolding schema_faults
schema_to c process earlier a n t =
    both_none (twice_faults earlier a.name) _ (no_rule (is_among earlier a.name.name) Twice files.Domain a.name.span n)
    (both_none (variables_faults c [] a.params) _ (variables_to c [] a.params t.params) (both_none (cond_faults c (bindings_of a.params) a.condition) _ t.condition t.effect))

schema_new : (c : Context) (process : Bool) (earlier : List (List ℕ)) (a : Schema) → schema_faults c process earlier a ≡ [] → is_among earlier a.name.name ≡ false
unfolding schema_faults
schema_new c process earlier a f = rule_kept (is_among earlier a.name.name) Twice files.Domain a.name.span (left-none (twice_faults earlier a.name) _ f)

schemas_from : (c : Context) (process : Bool) (earlier : List (List ℕ)) (ss : List Schema) → schemas_faults c process earlier ss ≡ [] → AllByRecursion (ActionTyped c process) ss
schemas_from c process earlier [] f = tt
schemas_from c process earlier (a ∷ more) f =
    (schema_from c process earlier a (left-none (schema_faults c process earlier a) _ f), schemas_from c process (earlier ++ a.name.name ∷ []) more (right-none (schema_faults c process earlier a) _ f))

-- other actions of the same names, and more behind them
schemas_with : (c c' : Context) (earlier : List (List ℕ)) (ss : List Schema) (f : Schema → Schema) → ((a : Schema) → (f a).name ≡ a.name) → schemas_faults c false earlier ss ≡ [] → AllByRecursion (λ a. ActionTyped c' false (f a)) ss
    → (more : List Schema) → schemas_faults c' false (earlier ++ map (λ (a : Schema). a.name.name) ss) more ≡ [] → schemas_faults c' false earlier (map f ss ++ more) ≡ []
schemas_with c c' earlier [] f k e t more h = subst (λ xs. schemas_faults c' false xs more ≡ []) (append-nil earlier) h
schemas_with c c' earlier (a ∷ ss) f k e t more h =
    let name : (f a).name.name ≡ a.name.name = ap (λ (x : Spelled). x.name) (k a) in
    both_none (schema_faults c' false earlier (f a)) _
    (schema_to c' false earlier (f a) (ap (is_among earlier) name ∙ schema_new c false earlier a (left-none (schema_faults c false earlier a) _ e)) t.0)
    (subst (λ x. schemas_faults c' false (earlier ++ x ∷ []) (map f ss ++ more) ≡ []) (sym name)
    (schemas_with c c' (earlier ++ a.name.name ∷ []) ss f k (right-none (schema_faults c false earlier a) _ e) t.1 more
    (subst (λ xs. schemas_faults c' false xs more ≡ []) (sym (append_assoc earlier (a.name.name ∷ []) (map (λ (b : Schema). b.name.name) ss))) h)))

-- ---- heads

head_to : (types : List Binding) (earlier : List (List ℕ)) (h : Head) → is_among earlier h.name.name ≡ false → ListTyped types [] h.params → head_faults types earlier h ≡ []
unfolding head_faults
head_to types earlier h n t = both_none (twice_faults earlier h.name) _ (no_rule (is_among earlier h.name.name) Twice files.Domain h.name.span n) (list_to types files.Domain [] [] h.params t)

heads_append : (types : List Binding) (earlier : List (List ℕ)) (hs more : List Head) → heads_faults types earlier hs ≡ [] → heads_faults types (earlier ++ map (λ (h : Head). h.name.name) hs) more ≡ [] → heads_faults types earlier (hs ++ more) ≡ []
heads_append types earlier [] more e h = subst (λ xs. heads_faults types xs more ≡ []) (append-nil earlier) h
heads_append types earlier (x ∷ hs) more e h =
    both_none (head_faults types earlier x) _ (left-none (head_faults types earlier x) _ e)
    (heads_append types (earlier ++ x.name.name ∷ []) hs more (right-none (head_faults types earlier x) _ e)
    (subst (λ xs. heads_faults types xs more ≡ []) (sym (append_assoc earlier (x.name.name ∷ []) (map (λ (h : Head). h.name.name) hs))) h))

among_last : (earlier : List (List ℕ)) (y x : List ℕ) → is_among earlier x ≡ false → bytes_eq x y ≡ false → is_among (earlier ++ y ∷ []) x ≡ false
among_last [] y x e f = ap (λ b. b || false) f
among_last (z ∷ earlier) y x e f = by (bytes_eq x z) e (among_last earlier y x)
  where
    by : (b : Bool) → (b || is_among earlier x) ≡ false → (is_among earlier x ≡ false → bytes_eq x y ≡ false → is_among (earlier ++ y ∷ []) x ≡ false) → (b || is_among (earlier ++ y ∷ []) x) ≡ false
    by true e more = absurd cc
    by false e more = more e f

-- ---- the pair

bindings_append : (xs ys : List TypedName) → bindings_of (xs ++ ys) ≡ bindings_of xs ++ bindings_of ys
bindings_append xs ys = map-append (λ (t : TypedName). (t.name.name, t.kind.name)) xs ys

-- what is said of the old pair
record OldTyped (d : Domain) (p : Problem) : Type 0 where
  types : types_faults (bindings_of d.types) [] d.types ≡ []
  constants : ListTyped (bindings_of d.types) [] d.constants
  predicates : heads_faults (bindings_of d.types) [] d.predicates ≡ []
  functions : heads_faults (bindings_of d.types) [] d.functions ≡ []
  actions : schemas_faults (domain_context d) false [] d.actions ≡ []
  processes : schemas_faults (domain_context d) true [] d.processes ≡ []
  events : schemas_faults (domain_context d) false [] d.events ≡ []
  objects : ListTyped (bindings_of d.types) (bindings_of d.constants) p.objects
  domain : domain_name_faults d p ≡ []
  init : init_faults (problem_context d p) [] p.init ≡ []
  goal : cond_faults (problem_context d p) [] p.goal ≡ []

old_typed : (d : Domain) (p : Problem) → type_faults d p ≡ [] → OldTyped d p
unfolding declaration_faults rule_faults problem_faults state_faults
old_typed d p f =
    let types = bindings_of d.types in
    let c = domain_context d in
    let declared : declaration_faults d ≡ [] = left-none (declaration_faults d) _ f in
    let rest : rule_faults d ++ problem_faults d p ≡ [] = right-none (declaration_faults d) _ f in
    let rules : rule_faults d ≡ [] = left-none (rule_faults d) _ rest in
    let problem : problem_faults d p ≡ [] = right-none (rule_faults d) _ rest in
    let d1 = right-none (types_faults types [] d.types) _ declared in
    let d2 = right-none (list_faults types files.Domain [] [] d.constants) _ d1 in
    let r1 = right-none (schemas_faults c false [] d.actions) _ rules in
    let p1 = right-none (list_faults types files.Problem [] (bound_names (bindings_of d.constants)) p.objects) _ problem in
    let p2 = right-none (domain_name_faults d p) _ p1 in
    record {
      types = left-none (types_faults types [] d.types) _ declared;
      constants = list_from types files.Domain [] [] d.constants (left-none (list_faults types files.Domain [] [] d.constants) _ d1);
      predicates = left-none (heads_faults types [] d.predicates) _ d2;
      functions = right-none (heads_faults types [] d.predicates) _ d2;
      actions = left-none (schemas_faults c false [] d.actions) _ rules;
      processes = left-none (schemas_faults c true [] d.processes) _ r1;
      events = right-none (schemas_faults c true [] d.processes) _ r1;
      objects = list_from types files.Problem [] (bindings_of d.constants) p.objects (left-none (list_faults types files.Problem [] (bound_names (bindings_of d.constants)) p.objects) _ problem);
      domain = left-none (domain_name_faults d p) _ p1;
      init = left-none (init_faults (problem_context d p) [] p.init) _ p2;
      goal = right-none (init_faults (problem_context d p) [] p.init) _ p2;
    }

-- the free names of the old pair
record FreeNames (d : Domain) : Type 0 where
  predicates : flat_map taken_head d.predicates ≡ []
  functions : flat_map taken_head d.functions ≡ []
  actions : flat_map taken_action d.actions ≡ []

free_names : (d : Domain) (p : Problem) → names_taken d p ≡ [] → FreeNames d
free_names d p e =
    let a = places_right (flat_map taken_head d.predicates) _ e in
    let b = places_right (flat_map taken_head d.functions) _ a in
    record { predicates = places_left (flat_map taken_head d.predicates) _ e; functions = places_left (flat_map taken_head d.functions) _ a; actions = places_left (flat_map taken_action d.actions) _ b }

event_typed : (c : Context) (ss : List Schema) → AllByRecursion (ActionTyped c false) ss → AllByRecursion (EventTyped c) ss
event_typed c [] t = tt
event_typed c (a ∷ more) t = (record { params = t.0.params; condition = t.0.condition; effect = t.0.effect }, event_typed c more t.1)

module _ (q : Fraction) (d : Domain) (p : Problem) (o : OldTyped d p) (n : FreeNames d) (apart : All NoRateShadows d.processes) where
  abbrev due : List Due
  due = flat_map (due_by q) p.init

  abbrev later : Bool
  later = list_any is_later due

  abbrev d1 : Domain
  d1 = translated_domain q d p

  abbrev p1 : Problem
  p1 = translated_problem q d p

  abbrev c : Context
  c = domain_context d

  abbrev c1 : Context
  c1 = domain_context d1

  abbrev pc : Context
  pc = problem_context d p

  abbrev pc1 : Context
  pc1 = problem_context d1 p1

  abbrev events : List Schema
  events = renamed_from 1 d.events

  abbrev types : List Binding
  types = bindings_of d.types

  abbrev more_functions : List Head
  more_functions = if later then record { name = spelled (codes "pp-clock"); params = []; span = nowhere } ∷ [] else []

  predicates_kept : (x : List ℕ) (ps : List TypedName) → params_of d.predicates x ≡ Some ps → params_of d1.predicates x ≡ Some ps
  predicates_kept x ps e = params_kept d.predicates (mark_heads 1 events) x ps e

  functions_kept : (x : List ℕ) (ps : List TypedName) → params_of d.functions x ≡ Some ps → params_of d1.functions x ≡ Some ps
  functions_kept x ps e = params_kept d.functions more_functions x ps e

  -- the objects of the problem are those of the old one
  problem_objects : (b : Bool) → bindings_of ((d.constants ++ (if b then p.objects else [])) ++ (if b then [] else p.objects)) ≡ bindings_of (d.constants ++ p.objects)
  problem_objects true = ap bindings_of (append-nil (d.constants ++ p.objects))
  problem_objects false = ap (λ xs. bindings_of (xs ++ p.objects)) (append-nil d.constants)

  in_domain : Declares c c1
  in_domain = record {
    types = refl;
    objects = λ x kind e. ap (λ os. kind_of os x) (bindings_append d.constants (if later then p.objects else [])) ∙ kind_kept (bindings_of d.constants) (bindings_of (if later then p.objects else [])) x kind e;
    predicates = predicates_kept;
    functions = functions_kept;
  }

  in_problem : Declares pc pc1
  in_problem = record {
    types = refl;
    objects = λ x kind e. ap (λ os. kind_of os x) (problem_objects later) ∙ e;
    predicates = predicates_kept;
    functions = functions_kept;
  }

  from_domain : Declares c pc1
  from_domain = record {
    types = refl;
    objects = λ x kind e. ap (λ os. kind_of os x) (problem_objects later ∙ bindings_append d.constants p.objects) ∙ kind_kept (bindings_of d.constants) (bindings_of p.objects) x kind e;
    predicates = predicates_kept;
    functions = functions_kept;
  }

  -- where a literal comes later, the domain knows the objects
  to_domain : later ≡ true → Declares pc c1
  to_domain l = record {
    types = refl;
    objects = λ x kind e. ap (λ (b : Bool). kind_of (bindings_of (d.constants ++ (if b then p.objects else []))) x) l ∙ e;
    predicates = predicates_kept;
    functions = functions_kept;
  }

  all_events : AllByRecursion (EventTyped c) d.events
  all_events = event_typed c d.events (schemas_from c false [] d.events o.events)

  marks : MarksKnown d1.predicates 1 events
  marks = marks_known d.predicates 1 events (λ m l. no_head d.predicates n.predicates (mark_name m) refl)

  -- ---- declarations

  constants_typed : (b : Bool) → ListTyped types [] (d.constants ++ (if b then p.objects else []))
  constants_typed true = list_append types [] d.constants p.objects o.constants o.objects
  constants_typed false = subst (ListTyped types []) (sym (append-nil d.constants)) o.constants

  mark_heads_typed : (i : ℕ) (es : List Schema) (earlier : List (List ℕ)) → ((m : ℕ) → i ≤ m → is_among earlier (mark_name m) ≡ false) → AllByRecursion (EventTyped c) es → heads_faults types earlier (mark_heads i (renamed_from i es)) ≡ []
  mark_heads_typed i [] earlier free t = refl
  mark_heads_typed i (a ∷ more) earlier free t =
      both_none (head_faults types earlier (record { name = spelled (mark_name i); params = (renamed_event i a).params; span = nowhere })) _
      (head_to types earlier (record { name = spelled (mark_name i); params = (renamed_event i a).params; span = nowhere }) (free i (omega arith)) (renamed_params c c1 in_domain i a t.0))
      (mark_heads_typed (suc i) more (earlier ++ mark_name i ∷ []) (λ m l. among_last earlier (mark_name i) (mark_name m) (free m (omega arith)) (mark_apart i m (omega arith))) t.1)

  clock_head_typed : (b : Bool) → heads_faults types (map (λ (h : Head). h.name.name) d.functions) (if b then record { name = spelled (codes "pp-clock"); params = []; span = nowhere } ∷ [] else []) ≡ []
  clock_head_typed true =
      both_none (head_faults types (map (λ (h : Head). h.name.name) d.functions) (record { name = spelled (codes "pp-clock"); params = []; span = nowhere })) []
      (head_to types (map (λ (h : Head). h.name.name) d.functions) (record { name = spelled (codes "pp-clock"); params = []; span = nowhere }) (not_among_heads d.functions n.functions (codes "pp-clock") refl) tt) refl
  clock_head_typed false = refl

  declarations_typed : declaration_faults d1 ≡ []
  unfolding declaration_faults
  declarations_typed =
      both_none (types_faults types [] d.types) _ o.types
      (both_none (list_faults types files.Domain [] [] d1.constants) _ (list_to types files.Domain [] [] d1.constants (constants_typed later))
      (both_none (heads_faults types [] d1.predicates) _
      (heads_append types [] d.predicates (mark_heads 1 events) o.predicates
      (mark_heads_typed 1 d.events (map (λ (h : Head). h.name.name) d.predicates) (λ m l. not_among_heads d.predicates n.predicates (mark_name m) refl) all_events))
      (heads_append types [] d.functions more_functions o.functions (clock_head_typed later))))

  -- ---- actions

  old_action_typed : (ss : List Schema) → AllByRecursion (ActionTyped c false) ss → flat_map taken_action ss ≡ [] → AllByRecursion (λ a. ActionTyped c1 false (old_translated (none_hold events) (clears 1 events) a)) ss
  old_action_typed [] t e = tt
  old_action_typed (a ∷ more) t e =
      let vars = bindings_of a.params in
      let variables = places_right (taken_name files.Domain a.name) _ (places_left (taken_action a) _ e) in
      let free : OutFree vars = list_free a.params (names_free files.Domain a.params (places_left (taken_list files.Domain a.params) _ variables)) in (
        record {
          params = t.0.params;
          condition = both_none (cond_faults c1 vars a.condition) _ (cond_wider c c1 in_domain [] vars vars (wider_same vars) a.condition (cond_binds (λ x. is_among [] x ≡ false) (λ x. refl) a.condition) t.0.condition)
              (all_conds c1 vars (none_hold events) (none_typed c c1 in_domain vars free 1 d.events all_events));
          effect = both_none (effect_faults c1 vars false a.effect) _ (effect_wider c c1 in_domain [] (λ x. refl) vars vars (wider_same vars) false a.effect t.0.effect)
              (all_effects c1 vars (clears 1 events) (clears_typed c c1 in_domain vars free 1 d.events all_events marks));
        },
        old_action_typed more t.1 (places_right (taken_action a) _ e),
      )

  all_flows_typed : (ps : List Schema) → AllByRecursion (ActionTyped c true) ps → All NoRateShadows ps → AllByRecursion (λ e. effect_faults c1 [] false e ≡ []) (flat_map (flows (length_of_step q)) ps)
  all_flows_typed [] t a = tt
  all_flows_typed (x ∷ more) t a =
      all_both (λ e. effect_faults c1 [] false e ≡ []) (flows (length_of_step q) x) (flat_map (flows (length_of_step q)) more)
      (placed_flows q c c1 in_domain x (leaves_of x.effect) t.0.params t.0.condition (All-head NoRateShadows x more a) (leaves_typed c true (bindings_of x.params) x.effect t.0.effect))
      (all_flows_typed more t.1 (All-tail NoRateShadows x more a))

  -- ---- the clock

  clock_typed : later ≡ true → use_faults c1 [] d1.functions clock_use ≡ []
  clock_typed l =
      ap (declared_faults c1 [] clock_use)
      (params_behind d.functions more_functions (codes "pp-clock") (no_head d.functions n.functions (codes "pp-clock") refl)
      ∙ ap (λ (b : Bool). params_of (if b then record { name = spelled (codes "pp-clock"); params = []; span = nowhere } ∷ [] else []) (codes "pp-clock")) l)

  -- the atoms of timed literals are typed in the old problem
  abbrev DueTyped : Due → Type 0
  DueTyped x = use_faults pc [] d.predicates x.atom ≡ []

  member_typed : (t : Literal) (positive : Bool) (u : Use) → use_faults pc [] d.predicates u ≡ [] → (ds : List Due) → AllByRecursion DueTyped ds → AllByRecursion DueTyped (due_at q t positive u ++ ds)
  member_typed t positive u f ds h = by t.negative
    where
      by : (b : Bool) → AllByRecursion DueTyped ((if b then [] else record { steps = steps_to q t; positive = positive; atom = u } ∷ []) ++ ds)
      by true = h
      by false = (f, h)

  all_due_typed : (valued : List (List (List ℕ))) (init : List Init) → init_faults pc valued init ≡ [] → AllByRecursion DueTyped (flat_map (due_by q) init)
  all_due_typed valued [] f = tt
  all_due_typed valued (Holds u ∷ more) f = all_due_typed (valued_after valued (Holds u)) more (right-none (initial_faults pc valued (Holds u)) _ f)
  all_due_typed valued (Absent u s ∷ more) f = all_due_typed (valued_after valued (Absent u s)) more (right-none (initial_faults pc valued (Absent u s)) _ f)
  all_due_typed valued (Value u x s ∷ more) f = all_due_typed (valued_after valued (Value u x s)) more (right-none (initial_faults pc valued (Value u x s)) _ f)
  all_due_typed valued (At t u s ∷ more) f =
      member_typed t true u (left-none (initial_faults pc valued (At t u s)) _ f) _ (all_due_typed (valued_after valued (At t u s)) more (right-none (initial_faults pc valued (At t u s)) _ f))
  all_due_typed valued (AtNot t u s ∷ more) f =
      member_typed t false u (left-none (initial_faults pc valued (AtNot t u s)) _ f) _ (all_due_typed (valued_after valued (AtNot t u s)) more (right-none (initial_faults pc valued (AtNot t u s)) _ f))

  due_node_typed : later ≡ true → (x : Due) → DueTyped x → leaf_faults c1 [] false (leaf (due_node x)) ≡ []
  unfolding leaf_faults
  due_node_typed l x f = by x.positive
    where
      atom : use_faults c1 [] d1.predicates x.atom ≡ []
      atom = atom_wider pc c1 (to_domain l) [] [] [] (wider_same []) x.atom f

      by : (b : Bool) → leaf_faults c1 [] false (leaf (if b then Add x.atom else Delete x.atom)) ≡ []
      by true = atom
      by false = atom

  due_effects_typed : later ≡ true → (ds : List Due) → AllByRecursion DueTyped ds → AllByRecursion (λ e. effect_faults c1 [] false e ≡ []) (map due_effect (filter is_later ds))
  due_effects_typed l [] t = tt
  due_effects_typed l (x ∷ ds) t = by (is_later x) (due_effects_typed l ds t.1)
    where
      here : effect_faults c1 [] false (due_effect x) ≡ []
      here =
          both_none (use_faults c1 [] d1.functions clock_use ++ []) _ (both_none (use_faults c1 [] d1.functions clock_use) [] (clock_typed l) refl)
          (both_none (leaf_faults c1 [] false (leaf (due_node x))) [] (due_node_typed l x t.0) refl)

      by : (b : Bool) → AllByRecursion (λ e. effect_faults c1 [] false e ≡ []) (map due_effect (filter is_later ds)) → AllByRecursion (λ e. effect_faults c1 [] false e ≡ []) (map due_effect (if b then x ∷ filter is_later ds else filter is_later ds))
      by true h = (here, h)
      by false h = h

  tick_typed : later ≡ true → effect_faults c1 [] false (writes (leaf (Increase clock_use (x_number (natural 1) nowhere)))) ≡ []
  unfolding leaf_faults
  tick_typed l = both_none (use_faults c1 [] d1.functions clock_use) [] (clock_typed l) refl

  clock_effects_typed : AllByRecursion (λ e. effect_faults c1 [] false e ≡ []) (clock_effects due)
  clock_effects_typed = by later refl
    where
      by : (b : Bool) → later ≡ b → AllByRecursion (λ e. effect_faults c1 [] false e ≡ []) (if b then writes (leaf (Increase clock_use (x_number (natural 1) nowhere))) ∷ map due_effect (filter is_later due) else [])
      by true l = (tick_typed l, due_effects_typed l due (all_due_typed [] p.init o.init))
      by false l = tt

  -- ---- the two actions that join

  no_out : OutFree []
  no_out i m = refl

  abbrev step_schema : Schema
  step_schema = without_params (codes "pp-step") (both (none_hold events)) (flat_map (flows (length_of_step q)) d.processes ++ (clock_effects due ++ clears 1 events))

  abbrev fire_schema : Schema
  fire_schema = without_params (codes "pp-fire") (both (c_any (conds_of (map (λ a. some a.params a.condition) events)) nowhere ∷ none_repeats 1 events)) (fires 1 events)

  step_action_typed : ActionTyped c1 false step_schema
  step_action_typed = record {
    params = tt;
    condition = all_conds c1 [] (none_hold events) (none_typed c c1 in_domain [] no_out 1 d.events all_events);
    effect = all_effects c1 [] (flat_map (flows (length_of_step q)) d.processes ++ (clock_effects due ++ clears 1 events))
        (all_both (λ e. effect_faults c1 [] false e ≡ []) (flat_map (flows (length_of_step q)) d.processes) (clock_effects due ++ clears 1 events) (all_flows_typed d.processes (schemas_from c true [] d.processes o.processes) apart)
        (all_both (λ e. effect_faults c1 [] false e ≡ []) (clock_effects due) (clears 1 events) clock_effects_typed (clears_typed c c1 in_domain [] no_out 1 d.events all_events marks)));
  }

  fire_action_typed : ActionTyped c1 false fire_schema
  fire_action_typed = record {
    params = tt;
    condition = both_none (cond_faults c1 [] (c_any (conds_of (map (λ a. some a.params a.condition) events)) nowhere)) _
        (all_conds c1 [] (map (λ a. some a.params a.condition) events) (some_all_typed c c1 in_domain [] no_out 1 d.events all_events))
        (all_conds c1 [] (none_repeats 1 events) (repeats_typed c c1 in_domain [] no_out 1 d.events all_events marks));
    effect = all_effects c1 [] (fires 1 events) (fires_typed c c1 in_domain 1 d.events all_events marks);
  }

  rules_typed : rule_faults d1 ≡ []
  unfolding rule_faults
  rules_typed =
      let names = map (λ (a : Schema). a.name.name) d.actions in
      let fire_new : is_among (names ++ codes "pp-step" ∷ []) (codes "pp-fire") ≡ false = among_last names (codes "pp-step") (codes "pp-fire") (not_among_actions d.actions n.actions (codes "pp-fire") refl) refl in
      let joined : schemas_faults c1 false names (step_schema ∷ fire_schema ∷ []) ≡ [] =
      both_none (schema_faults c1 false names step_schema) _ (schema_to c1 false names step_schema (not_among_actions d.actions n.actions (codes "pp-step") refl) step_action_typed)
      (both_none (schema_faults c1 false (names ++ codes "pp-step" ∷ []) fire_schema) [] (schema_to c1 false (names ++ codes "pp-step" ∷ []) fire_schema fire_new fire_action_typed) refl) in
      both_none (schemas_faults c1 false [] d1.actions) []
      (schemas_with c c1 [] d.actions (old_translated (none_hold events) (clears 1 events)) (λ a. refl) o.actions (old_action_typed d.actions (schemas_from c false [] d.actions o.actions) n.actions) (step_schema ∷ fire_schema ∷ []) joined) refl

  -- ---- the initial state

  abbrev Valued : Type 0
  Valued = List (List (List ℕ))

  -- the fluents that have values after members of `:init`
  valued_all : Valued → List Init → Valued
  valued_all valued [] = valued
  valued_all valued (i ∷ more) = valued_all (valued_after valued i) more

  init_append : (valued : Valued) (xs ys : List Init) → init_faults pc1 valued xs ≡ [] → init_faults pc1 (valued_all valued xs) ys ≡ [] → init_faults pc1 valued (xs ++ ys) ≡ []
  unfolding valued_all
  init_append valued [] ys e f = f
  init_append valued (x ∷ xs) ys e f =
      both_none (initial_faults pc1 valued x) _ (left-none (initial_faults pc1 valued x) _ e) (init_append (valued_after valued x) xs ys (right-none (initial_faults pc1 valued x) _ e) f)

  atom_moved : (u : Use) → use_faults pc [] d.predicates u ≡ [] → use_faults pc1 [] d1.predicates u ≡ []
  atom_moved u f = atom_wider pc pc1 in_problem [] [] [] (wider_same []) u f

  filtered_typed : (test : Init → Bool) → ((u : Use) (x : Literal) (s : Span) → test (Value u x s) ≡ true) → (valued : Valued) (init : List Init) → init_faults pc valued init ≡ [] → init_faults pc1 valued (filter test init) ≡ []
  filtered_typed test v valued [] f = refl
  filtered_typed test v valued (Holds u ∷ more) f =
      by (test (Holds u)) (filtered_typed test v valued more (right-none (initial_faults pc valued (Holds u)) _ f))
    where
      by : (b : Bool) → init_faults pc1 valued (filter test more) ≡ [] → init_faults pc1 valued (if b then Holds u ∷ filter test more else filter test more) ≡ []
      by true h = both_none (initial_faults pc1 valued (Holds u)) _ (atom_moved u (left-none (initial_faults pc valued (Holds u)) _ f)) h
      by false h = h
  filtered_typed test v valued (Absent u s ∷ more) f =
      by (test (Absent u s)) (filtered_typed test v valued more (right-none (initial_faults pc valued (Absent u s)) _ f))
    where
      by : (b : Bool) → init_faults pc1 valued (filter test more) ≡ [] → init_faults pc1 valued (if b then Absent u s ∷ filter test more else filter test more) ≡ []
      by true h = both_none (initial_faults pc1 valued (Absent u s)) _ (atom_moved u (left-none (initial_faults pc valued (Absent u s)) _ f)) h
      by false h = h
  filtered_typed test v valued (At t u s ∷ more) f =
      by (test (At t u s)) (filtered_typed test v valued more (right-none (initial_faults pc valued (At t u s)) _ f))
    where
      by : (b : Bool) → init_faults pc1 valued (filter test more) ≡ [] → init_faults pc1 valued (if b then At t u s ∷ filter test more else filter test more) ≡ []
      by true h = both_none (initial_faults pc1 valued (At t u s)) _ (atom_moved u (left-none (initial_faults pc valued (At t u s)) _ f)) h
      by false h = h
  filtered_typed test v valued (AtNot t u s ∷ more) f =
      by (test (AtNot t u s)) (filtered_typed test v valued more (right-none (initial_faults pc valued (AtNot t u s)) _ f))
    where
      by : (b : Bool) → init_faults pc1 valued (filter test more) ≡ [] → init_faults pc1 valued (if b then AtNot t u s ∷ filter test more else filter test more) ≡ []
      by true h = both_none (initial_faults pc1 valued (AtNot t u s)) _ (atom_moved u (left-none (initial_faults pc valued (AtNot t u s)) _ f)) h
      by false h = h
  filtered_typed test v valued (Value u x s ∷ more) f =
      let first = left-none (initial_faults pc valued (Value u x s)) _ f in
      let fluent = fluent_wider pc pc1 in_problem [] [] [] (wider_same []) u (left-none (use_faults pc [] d.functions u) _ first) in
      let once = no_rule (list_any (same_names (ground_name u)) valued) Twice files.Problem s (rule_kept (list_any (same_names (ground_name u)) valued) Twice files.Problem s (right-none (use_faults pc [] d.functions u) _ first)) in
      ap (λ (b : Bool). init_faults pc1 valued (if b then Value u x s ∷ filter test more else filter test more)) (v u x s)
      ∙ both_none (initial_faults pc1 valued (Value u x s)) _ (both_none (use_faults pc1 [] d1.functions u) _ fluent once)
      (filtered_typed test v (valued_after valued (Value u x s)) more (right-none (initial_faults pc valued (Value u x s)) _ f))

  set_typed : (valued : Valued) (before : List Use) (ds : List Due) → AllByRecursion DueTyped ds → init_faults pc1 valued (map Holds (set_at_once before ds)) ≡ []
  set_typed valued before [] t = refl
  set_typed valued before (x ∷ ds) t =
      by (nat_eq x.steps 0 && (x.positive && not (list_any (same_atom x.atom) before))) (set_typed valued (before ++ x.atom ∷ []) ds t.1) (set_typed valued before ds t.1)
    where
      by : (b : Bool) → init_faults pc1 valued (map Holds (set_at_once (before ++ x.atom ∷ []) ds)) ≡ [] → init_faults pc1 valued (map Holds (set_at_once before ds)) ≡ []
          → init_faults pc1 valued (map Holds (if b then x.atom ∷ set_at_once (before ++ x.atom ∷ []) ds else set_at_once before ds)) ≡ []
      by true h h' = both_none (initial_faults pc1 valued (Holds x.atom)) _ (atom_moved x.atom t.0) h
      by false h h' = h'

  set_values : (valued : Valued) (us : List Use) → valued_all valued (map Holds us) ≡ valued
  unfolding valued_all
  set_values valued [] = refl
  set_values valued (u ∷ us) = set_values valued us

  -- the clock has no value yet
  abbrev NoClock : Valued → Type 0
  NoClock valued = list_any (same_names (ground_name clock_use)) valued ≡ false

  no_clock_more : (valued : Valued) (g : List (List ℕ)) → NoClock valued → same_names (ground_name clock_use) g ≡ false → NoClock (valued ++ g ∷ [])
  no_clock_more [] g e f = ap (λ b. b || false) f
  no_clock_more (v ∷ valued) g e f = by (same_names (ground_name clock_use) v) e (no_clock_more valued g)
    where
      by : (b : Bool) → (b || list_any (same_names (ground_name clock_use)) valued) ≡ false → (NoClock valued → same_names (ground_name clock_use) g ≡ false → NoClock (valued ++ g ∷ [])) → (b || list_any (same_names (ground_name clock_use)) (valued ++ g ∷ [])) ≡ false
      by true e more = absurd cc
      by false e more = more e f

  not_clock : (u : Use) → use_faults pc [] d.functions u ≡ [] → same_names (ground_name clock_use) (ground_name u) ≡ false
  not_clock u f = by (bytes_eq (codes "pp-clock") u.head.name) refl
    where
      known : (o : Option (List TypedName)) → o ≡ None → declared_faults pc [] u o ≡ [] → ⊥
      known None e f = cc
      known (Some ps) e f = cc

      by : (b : Bool) → bytes_eq (codes "pp-clock") u.head.name ≡ b → same_names (ground_name clock_use) (ground_name u) ≡ false
      by false e = ap (λ b. b && same_names [] (map term_name u.args)) e
      by true e = absurd (known (params_of d.functions u.head.name) (ap (params_of d.functions) (sym (same-bytes (codes "pp-clock") u.head.name e)) ∙ no_head d.functions n.functions (codes "pp-clock") refl) f)

  filtered_clock : (test : Init → Bool) → ((u : Use) (x : Literal) (s : Span) → test (Value u x s) ≡ true) → (valued : Valued) (init : List Init) → init_faults pc valued init ≡ [] → NoClock valued → NoClock (valued_all valued (filter test init))
  unfolding valued_all
  filtered_clock test v valued [] f h = h
  filtered_clock test v valued (Holds u ∷ more) f h = by (test (Holds u)) (filtered_clock test v valued more (right-none (initial_faults pc valued (Holds u)) _ f) h)
    where
      by : (b : Bool) → NoClock (valued_all valued (filter test more)) → NoClock (valued_all valued (if b then Holds u ∷ filter test more else filter test more))
      by true k = k
      by false k = k
  filtered_clock test v valued (Absent u s ∷ more) f h = by (test (Absent u s)) (filtered_clock test v valued more (right-none (initial_faults pc valued (Absent u s)) _ f) h)
    where
      by : (b : Bool) → NoClock (valued_all valued (filter test more)) → NoClock (valued_all valued (if b then Absent u s ∷ filter test more else filter test more))
      by true k = k
      by false k = k
  filtered_clock test v valued (At t u s ∷ more) f h = by (test (At t u s)) (filtered_clock test v valued more (right-none (initial_faults pc valued (At t u s)) _ f) h)
    where
      by : (b : Bool) → NoClock (valued_all valued (filter test more)) → NoClock (valued_all valued (if b then At t u s ∷ filter test more else filter test more))
      by true k = k
      by false k = k
  filtered_clock test v valued (AtNot t u s ∷ more) f h = by (test (AtNot t u s)) (filtered_clock test v valued more (right-none (initial_faults pc valued (AtNot t u s)) _ f) h)
    where
      by : (b : Bool) → NoClock (valued_all valued (filter test more)) → NoClock (valued_all valued (if b then AtNot t u s ∷ filter test more else filter test more))
      by true k = k
      by false k = k
  filtered_clock test v valued (Value u x s ∷ more) f h =
      let first = left-none (initial_faults pc valued (Value u x s)) _ f in
      ap (λ (b : Bool). list_any (same_names (ground_name clock_use)) (valued_all valued (if b then Value u x s ∷ filter test more else filter test more))) (v u x s)
      ∙ filtered_clock test v (valued_after valued (Value u x s)) more (right-none (initial_faults pc valued (Value u x s)) _ f) (no_clock_more valued (ground_name u) h (not_clock u (left-none (use_faults pc [] d.functions u) _ first)))

  clock_value_typed : (valued : Valued) → NoClock valued → init_faults pc1 valued (if later then Value clock_use (natural 0) nowhere ∷ [] else []) ≡ []
  clock_value_typed valued h = by later refl
    where
      there : later ≡ true → use_faults pc1 [] d1.functions clock_use ≡ []
      there l =
          ap (declared_faults pc1 [] clock_use)
          (params_behind d.functions more_functions (codes "pp-clock") (no_head d.functions n.functions (codes "pp-clock") refl)
          ∙ ap (λ (b : Bool). params_of (if b then record { name = spelled (codes "pp-clock"); params = []; span = nowhere } ∷ [] else []) (codes "pp-clock")) l)

      by : (b : Bool) → later ≡ b → init_faults pc1 valued (if b then Value clock_use (natural 0) nowhere ∷ [] else []) ≡ []
      by true l =
          both_none (initial_faults pc1 valued (Value clock_use (natural 0) nowhere)) []
          (both_none (use_faults pc1 [] d1.functions clock_use) _ (there l) (no_rule (list_any (same_names (ground_name clock_use)) valued) Twice files.Problem nowhere h)) refl
      by false l = refl

  init_typed : init_faults pc1 [] (init_translated due p.init) ≡ []
  init_typed =
      let test = stays_in_init (set_at_once [] due) (cleared_at_once due) in
      let stay = filter test p.init in
      let set = map Holds (set_at_once [] due) in
      init_append [] stay (set ++ (if later then Value clock_use (natural 0) nowhere ∷ [] else [])) (filtered_typed test (λ u x s. refl) [] p.init o.init)
      (init_append (valued_all [] stay) set (if later then Value clock_use (natural 0) nowhere ∷ [] else []) (set_typed (valued_all [] stay) [] due (all_due_typed [] p.init o.init))
      (subst (λ v. init_faults pc1 v (if later then Value clock_use (natural 0) nowhere ∷ [] else []) ≡ []) (sym (set_values (valued_all [] stay) (set_at_once [] due)))
      (clock_value_typed (valued_all [] stay) (filtered_clock test (λ u x s. refl) [] p.init o.init refl))))

  goal_typed : cond_faults pc1 [] p1.goal ≡ []
  goal_typed =
      both_none (cond_faults pc1 [] p.goal) _ (cond_wider pc pc1 in_problem [] [] [] (wider_same []) p.goal (cond_binds (λ x. is_among [] x ≡ false) (λ x. refl) p.goal) o.goal)
      (all_conds pc1 [] (none_hold events) (none_typed c pc1 from_domain [] no_out 1 d.events all_events))

  objects_typed : (b : Bool) → list_faults types files.Problem [] (bound_names (bindings_of (d.constants ++ (if b then p.objects else [])))) (if b then [] else p.objects) ≡ []
  objects_typed true = refl
  objects_typed false = list_to types files.Problem [] (bindings_of (d.constants ++ [])) p.objects (subst (λ xs. ListTyped types (bindings_of xs) p.objects) (sym (append-nil d.constants)) o.objects)

  problem_typed : problem_faults d1 p1 ≡ []
  unfolding problem_faults state_faults
  problem_typed =
      both_none (list_faults types files.Problem [] (bound_names (bindings_of d1.constants)) p1.objects) _ (objects_typed later)
      (both_none (domain_name_faults d1 p1) _ o.domain (both_none (init_faults pc1 [] p1.init) _ init_typed goal_typed))

  all_typed : type_faults d1 p1 ≡ []
  all_typed = both_none (declaration_faults d1) _ declarations_typed (both_none (rule_faults d1) _ rules_typed problem_typed)

pub translation_is_typed : TranslationIsTyped
translation_is_typed d p q can apart =
    ap is_empty (all_typed q d p (old_typed d p (no-type-fault d p can.typed)) (free_names d p can.names) apart)
