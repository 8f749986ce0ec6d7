-- What bare forms mean.
use Rattle.std.proofs.Common.{◌≡◌, ℕ, suc, Bool, true, false, not, List, [], ◌∷◌, ◌++◌, map, length, refl, ap, ap₂, ◌∙◌, flat_map, pos, None, nat_eq}
use Rattle.std.specs.Prelude.{if◌then◌else◌}
use Rattle.std.specs.List.{list_any, position_or_len}
use Rattle.std.specs.Str.{bytes_eq}
use Rattle.plus_fraction.specs.Fraction.{whole}
use Rattle.plus_model.specs.Terms as model
use Rattle.plus_model.specs.Terms.{Expression, Sum, Difference, Product, Quotient, Condition, Always, Effect, Rate, State, Problem}
use Rattle.plus_model.specs.Value.{signed}
use Rattle.plus_state.specs.Tests.{joined}
use Rattle.plus_tree.specs.declared.terms.Term.{Term}
use Rattle.plus_tree.specs.declared.terms.Term.TheVariants.{Object, Variable}
use Rattle.plus_tree.specs.declared.terms.TypedName.{TypedName}
use Rattle.plus_tree.specs.declared.terms.Use.{Use}
use Rattle.plus_tree.specs.declared.trees.Head.{Head}
use Rattle.plus_tree.specs.declared.trees.Leaf.{Leaf}
use Rattle.plus_tree.specs.declared.trees.LeafNode.{LeafNode}
use Rattle.plus_tree.specs.declared.trees.LeafNode.TheVariants.{Add, Delete, Assign, Increase, Decrease, ScaleUp, ScaleDown}
use Rattle.plus_tree.specs.declared.trees.Schema.{Schema}
use Rattle.plus_tree.specs.declared.trees.Init.{Init}
use Rattle.plus_tree.specs.declared.trees.Init.TheVariants.{Holds, Absent, Value, At, AtNot}
use Rattle.plus_tree.specs.Expr.{Expr, Exprs, x_number, x_clock, x_fluent, x_sum, x_product, x_minus, x_difference, x_quotient, no_exprs, more_exprs}
use Rattle.plus_tree.specs.Cond.{Cond, Conds, c_all, c_any, c_not, c_imply, c_forall, c_exists, c_atom, c_same, c_compare, no_conds, more_conds}
use Rattle.plus_tree.specs.Effect as effects
use Rattle.plus_tree.specs.Effect.{Effects, e_all, e_forall, e_when, e_leaf, no_effects, more_effects}
use Rattle.plus_types.specs.Faults.{Context, is_clock}
use Rattle.plus_literal.specs.Value.{literal_value}
use Rattle.plus_expansion.specs.Objects.{members_of, extents_of, tuples, object_place}
use Rattle.plus_expansion.specs.Numbers.{ground_names_from, ground_names, is_same, head_names, number_of}
use Rattle.plus_expansion.specs.Environments.{Environment, environments, term_object, use_objects, atom_number, fluent_number}
use Rattle.plus_expansion.specs.Expansion.{chained, expression_meant, expressions_meant, test_meant, condition_meant, conditions_meant, write_meant, leaf_meant, effects_meant, all_effects_meant, factor_meant, amount_meant, rate_meant, rates_meant, all_rates_meant, instance_label, event_meant, process_meant, action_meant, instances_of, held_by, given_by, truths_from, values_from, initial_state, literal_at, timed_by, by_time, timed_meant}
use Rattle.plus_expansion.specs.Calls.{bound_by}
use Rattle.plus_canonical.specs.Same.{bare_typed, bare_term, bare_use, bare_expr, bare_exprs, bare_cond, bare_conds, bare_node, bare_leaf, bare_effect, bare_effects, bare_head, bare_schema, bare_init}
use Rattle.laws_translation.proofs.SameLemmas.Bare.{map_map, map_same, flat_same, flat_bare}

module _ (c : Context) where
  abbrev b : Context
  b = record { types = c.types; objects = c.objects; predicates = map bare_head c.predicates; functions = map bare_head c.functions; file = c.file }

  extents_bare : (ps : List TypedName) → extents_of b (map bare_typed ps) ≡ extents_of c ps
  extents_bare ps = map_map (λ (p : TypedName). members_of b p.kind.name) bare_typed (λ (p : TypedName). members_of c p.kind.name) (λ p. refl) ps

  ground_bare : (n : ℕ) (hs : List Head) → ground_names_from b n (map bare_head hs) ≡ ground_names_from c n hs
  ground_bare n [] = refl
  ground_bare n (h ∷ hs) = ap₂ (λ xs ys. map (λ t. (n, t)) (tuples xs) ++ ys) (extents_bare h.params) (ground_bare (suc n) hs)

  names_bare : (hs : List Head) → head_names (map bare_head hs) ≡ head_names hs
  names_bare hs = map_map (λ (h : Head). h.name.name) bare_head (λ (h : Head). h.name.name) (λ h. refl) hs

  number_bare : (hs : List Head) (name objects : List ℕ) → number_of b (map bare_head hs) name objects ≡ number_of c hs name objects
  number_bare hs name objects = ap₂ (λ ns gs. position_or_len (is_same (position_or_len (bytes_eq name) ns, objects)) gs) (names_bare hs) (ground_bare 0 hs)

  term_bare : (env : Environment) (t : Term) → term_object b env (bare_term t) ≡ term_object c env t
  term_bare env (Object x) = refl
  term_bare env (Variable x) = refl

  objects_bare : (env : Environment) (u : Use) → use_objects b env (bare_use u) ≡ use_objects c env u
  objects_bare env u = map_map (term_object b env) bare_term (term_object c env) (term_bare env) u.args

  atom_bare : (env : Environment) (u : Use) → atom_number b env (bare_use u) ≡ atom_number c env u
  atom_bare env u = ap (number_of b b.predicates u.head.name) (objects_bare env u) ∙ number_bare c.predicates u.head.name (use_objects c env u)

  fluent_bare : (env : Environment) (u : Use) → fluent_number b env (bare_use u) ≡ fluent_number c env u
  fluent_bare env u = ap (number_of b b.functions u.head.name) (objects_bare env u) ∙ number_bare c.functions u.head.name (use_objects c env u)

  pub environments_bare : (vs : List TypedName) (env : Environment) → environments b (map bare_typed vs) env ≡ environments c vs env
  environments_bare [] env = refl
  environments_bare (v ∷ vs) env =
      flat_same (λ o. environments b (map bare_typed vs) (env ++ (v.name.name, o) ∷ [])) (λ o. environments c vs (env ++ (v.name.name, o) ∷ [])) (λ o. environments_bare vs (env ++ (v.name.name, o) ∷ [])) (members_of c v.kind.name)

  mutual
    expression_bare : (env : Environment) (e : Expr) → expression_meant b env (bare_expr e) ≡ expression_meant c env e
    expression_bare env (x_number n s) = refl
    expression_bare env (x_clock s) = refl
    expression_bare env (x_fluent u s) = ap model.Fluent (fluent_bare env u)
    expression_bare env (x_sum es s) = ap (chained Sum) (expressions_bare env es)
    expression_bare env (x_product es s) = ap (chained Product) (expressions_bare env es)
    expression_bare env (x_minus e s) = ap (Difference (model.Number (whole (pos 0)))) (expression_bare env e)
    expression_bare env (x_difference e f s) = ap₂ Difference (expression_bare env e) (expression_bare env f)
    expression_bare env (x_quotient e f s) = ap₂ Quotient (expression_bare env e) (expression_bare env f)

    expressions_bare : (env : Environment) (es : Exprs) → expressions_meant b env (bare_exprs es) ≡ expressions_meant c env es
    expressions_bare env no_exprs = refl
    expressions_bare env (more_exprs e es) = ap₂ (λ x xs. x ∷ xs) (expression_bare env e) (expressions_bare env es)

  mutual
    pub condition_bare : (env : Environment) (positive : Bool) (f : Cond) → condition_meant b env positive (bare_cond f) ≡ condition_meant c env positive f
    condition_bare env positive (c_all fs s) = ap (joined positive) (conditions_bare env positive fs)
    condition_bare env positive (c_any fs s) = ap (joined (not positive)) (conditions_bare env positive fs)
    condition_bare env positive (c_not f s) = condition_bare env (not positive) f
    condition_bare env positive (c_imply f g s) = ap₂ (λ x y. joined (not positive) (x ∷ y ∷ [])) (condition_bare env (not positive) f) (condition_bare env positive g)
    condition_bare env positive (c_forall vs f s) =
        ap (λ es. joined positive (map (λ e. condition_meant b e positive (bare_cond f)) es)) (environments_bare vs env)
        ∙ ap (joined positive) (map_same (λ e. condition_meant b e positive (bare_cond f)) (λ e. condition_meant c e positive f) (λ e. condition_bare e positive f) (environments c vs env))
    condition_bare env positive (c_exists vs f s) =
        ap (λ es. joined (not positive) (map (λ e. condition_meant b e positive (bare_cond f)) es)) (environments_bare vs env)
        ∙ ap (joined (not positive)) (map_same (λ e. condition_meant b e positive (bare_cond f)) (λ e. condition_meant c e positive f) (λ e. condition_bare e positive f) (environments c vs env))
    condition_bare env positive (c_atom u s) = ap (λ (a : ℕ). model.Atom a positive) (atom_bare env u)
    condition_bare env positive (c_same t u s) = ap₂ (λ (x y : ℕ). joined (signed positive (nat_eq x y)) []) (term_bare env t) (term_bare env u)
    condition_bare env positive (c_compare op e f s) = ap₂ (λ x y. model.Compare (test_meant op) x y positive) (expression_bare env e) (expression_bare env f)

    conditions_bare : (env : Environment) (positive : Bool) (fs : Conds) → conditions_meant b env positive (bare_conds fs) ≡ conditions_meant c env positive fs
    conditions_bare env positive no_conds = refl
    conditions_bare env positive (more_conds f fs) = ap₂ (λ x xs. x ∷ xs) (condition_bare env positive f) (conditions_bare env positive fs)

  write_bare : (env : Environment) (x : LeafNode) → write_meant b env (bare_node x) ≡ write_meant c env x
  write_bare env (Add u) = ap model.Add (atom_bare env u)
  write_bare env (Delete u) = ap model.Delete (atom_bare env u)
  write_bare env (Assign u e) = ap₂ model.Assign (fluent_bare env u) (expression_bare env e)
  write_bare env (Increase u e) = ap₂ model.Increase (fluent_bare env u) (expression_bare env e)
  write_bare env (Decrease u e) = ap₂ model.Decrease (fluent_bare env u) (expression_bare env e)
  write_bare env (ScaleUp u e) = ap₂ model.ScaleUp (fluent_bare env u) (expression_bare env e)
  write_bare env (ScaleDown u e) = ap₂ model.ScaleDown (fluent_bare env u) (expression_bare env e)

  leaf_bare : (env : Environment) (guard : Condition) (l : Leaf) → leaf_meant b env guard (bare_leaf l) ≡ leaf_meant c env guard l
  leaf_bare env guard l = ap (λ w. record { guard = guard; write = w }) (write_bare env l.node)

  mutual
    pub effect_bare : (env : Environment) (e : effects.Effect) → effects_meant b env (bare_effect e) ≡ effects_meant c env e
    effect_bare env (e_all es s) = all_effects_bare env es
    effect_bare env (e_forall vs e s) =
        ap (flat_map (λ i. effects_meant b i (bare_effect e))) (environments_bare vs env) ∙ flat_same (λ i. effects_meant b i (bare_effect e)) (λ i. effects_meant c i e) (λ i. effect_bare i e) (environments c vs env)
    effect_bare env (e_when f ls s) =
        ap (λ g. map (leaf_meant b env g) (map bare_leaf ls)) (condition_bare env true f)
        ∙ map_map (leaf_meant b env (condition_meant c env true f)) bare_leaf (leaf_meant c env (condition_meant c env true f)) (leaf_bare env (condition_meant c env true f)) ls
    effect_bare env (e_leaf l s) = ap (λ x. x ∷ []) (leaf_bare env Always l)

    pub all_effects_bare : (env : Environment) (es : Effects) → all_effects_meant b env (bare_effects es) ≡ all_effects_meant c env es
    all_effects_bare env no_effects = refl
    all_effects_bare env (more_effects e es) = ap₂ (λ x y. x ++ y) (effect_bare env e) (all_effects_bare env es)

  clock_bare : (e : Expr) → is_clock (bare_expr e) ≡ is_clock e
  clock_bare (x_number n s) = refl
  clock_bare (x_clock s) = refl
  clock_bare (x_fluent u s) = refl
  clock_bare (x_sum es s) = refl
  clock_bare (x_product es s) = refl
  clock_bare (x_minus e s) = refl
  clock_bare (x_difference e f s) = refl
  clock_bare (x_quotient e f s) = refl

  factor_bare : (env : Environment) (es : Exprs) → factor_meant b env (bare_exprs es) ≡ factor_meant c env es
  factor_bare env no_exprs = refl
  factor_bare env (more_exprs e no_exprs) = refl
  factor_bare env (more_exprs e (more_exprs f no_exprs)) = ap (λ (t : Bool). expression_meant b env (if t then bare_expr f else bare_expr e)) (clock_bare e) ∙ by (is_clock e)
    where
      by : (t : Bool) → expression_meant b env (if t then bare_expr f else bare_expr e) ≡ expression_meant c env (if t then f else e)
      by true = expression_bare env f
      by false = expression_bare env e
  factor_bare env (more_exprs e (more_exprs f (more_exprs g es))) = refl

  amount_bare : (env : Environment) (e : Expr) → amount_meant b env (bare_expr e) ≡ amount_meant c env e
  amount_bare env (x_number n s) = refl
  amount_bare env (x_clock s) = refl
  amount_bare env (x_fluent u s) = expression_bare env (x_fluent u s)
  amount_bare env (x_sum es s) = expression_bare env (x_sum es s)
  amount_bare env (x_product es s) = factor_bare env es
  amount_bare env (x_minus e s) = expression_bare env (x_minus e s)
  amount_bare env (x_difference e f s) = expression_bare env (x_difference e f s)
  amount_bare env (x_quotient e f s) = expression_bare env (x_quotient e f s)

  rate_bare : (env : Environment) (x : LeafNode) → rate_meant b env (bare_node x) ≡ rate_meant c env x
  rate_bare env (Add u) = refl
  rate_bare env (Delete u) = refl
  rate_bare env (Assign u e) = refl
  rate_bare env (Increase u e) = ap₂ (λ (f : ℕ) a. record { fluent = f; up = true; amount = a } ∷ []) (fluent_bare env u) (amount_bare env e)
  rate_bare env (Decrease u e) = ap₂ (λ (f : ℕ) a. record { fluent = f; up = false; amount = a } ∷ []) (fluent_bare env u) (amount_bare env e)
  rate_bare env (ScaleUp u e) = refl
  rate_bare env (ScaleDown u e) = refl

  mutual
    rates_bare : (env : Environment) (e : effects.Effect) → rates_meant b env (bare_effect e) ≡ rates_meant c env e
    rates_bare env (e_all es s) = all_rates_bare env es
    rates_bare env (e_forall vs e s) =
        ap (flat_map (λ i. rates_meant b i (bare_effect e))) (environments_bare vs env) ∙ flat_same (λ i. rates_meant b i (bare_effect e)) (λ i. rates_meant c i e) (λ i. rates_bare i e) (environments c vs env)
    rates_bare env (e_when f ls s) = refl
    rates_bare env (e_leaf l s) = rate_bare env l.node

    all_rates_bare : (env : Environment) (es : Effects) → all_rates_meant b env (bare_effects es) ≡ all_rates_meant c env es
    all_rates_bare env no_effects = refl
    all_rates_bare env (more_effects e es) = ap₂ (λ x y. x ++ y) (rates_bare env e) (all_rates_bare env es)

  pub action_bare : (a : Schema) (env : Environment) → action_meant b (bare_schema a) env ≡ action_meant c a env
  action_bare a env = ap₂ (λ f es. record { label = instance_label c a env; condition = f; effects = es }) (condition_bare env true a.condition) (effect_bare env a.effect)

  pub event_bare : (a : Schema) (env : Environment) → event_meant b (bare_schema a) env ≡ event_meant c a env
  event_bare a env = ap₂ (λ f es. record { label = instance_label c a env; condition = f; effects = es }) (condition_bare env true a.condition) (effect_bare env a.effect)

  pub process_bare : (a : Schema) (env : Environment) → process_meant b (bare_schema a) env ≡ process_meant c a env
  process_bare a env = ap₂ (λ f rs. record { label = instance_label c a env; condition = f; rates = rs }) (condition_bare env true a.condition) (rates_bare env a.effect)

  pub instances_bare : {A : Type 0} (f g : Schema → Environment → A) → ((a : Schema) (env : Environment) → f (bare_schema a) env ≡ g a env) → (ss : List Schema) → instances_of b f (map bare_schema ss) ≡ instances_of c g ss
  instances_bare f g e ss =
      flat_bare (λ a. map (f a) (environments b a.params [])) bare_schema (λ a. map (g a) (environments c a.params []))
      (λ a. ap (map (f (bare_schema a))) (environments_bare a.params []) ∙ map_same (f (bare_schema a)) (g a) (e a) (environments c a.params [])) ss

  -- ---- `:init`

  held_bare : (i : Init) → held_by b (bare_init i) ≡ held_by c i
  held_bare (Holds u) = ap (λ (a : ℕ). a ∷ []) (atom_bare [] u)
  held_bare (Absent u s) = refl
  held_bare (Value u n s) = refl
  held_bare (At t u s) = refl
  held_bare (AtNot t u s) = refl

  given_bare : (i : Init) → given_by b (bare_init i) ≡ given_by c i
  given_bare (Holds u) = refl
  given_bare (Absent u s) = refl
  given_bare (Value u n s) = ap (λ (f : ℕ). (f, literal_value n) ∷ []) (fluent_bare [] u)
  given_bare (At t u s) = refl
  given_bare (AtNot t u s) = refl

  timed_bare : (i : Init) → timed_by b (bare_init i) ≡ timed_by c i
  timed_bare (Holds u) = refl
  timed_bare (Absent u s) = refl
  timed_bare (Value u n s) = refl
  timed_bare (At t u s) = ap (λ (a : ℕ). literal_at t a true) (atom_bare [] u)
  timed_bare (AtNot t u s) = ap (λ (a : ℕ). literal_at t a false) (atom_bare [] u)

  pub initial_bare : (is : List Init) → initial_state b (map bare_init is) ≡ initial_state c is
  initial_bare is =
      ap₂ (λ x y. record { atoms = x; fluents = y })
      (ap₂ (λ h g. truths_from h 0 (length g)) (flat_bare (held_by b) bare_init (held_by c) held_bare is) (ground_bare 0 c.predicates))
      (ap₂ (λ h g. values_from h 0 (length g)) (flat_bare (given_by b) bare_init (given_by c) given_bare is) (ground_bare 0 c.functions))

  pub all_timed_bare : (is : List Init) → timed_meant b (map bare_init is) ≡ timed_meant c is
  all_timed_bare is = ap by_time (flat_bare (timed_by b) bare_init (timed_by c) timed_bare is)

  pub counts_bare : (hs : List Head) → length (ground_names b (map bare_head hs)) ≡ length (ground_names c hs)
  counts_bare hs = ap length (ground_bare 0 hs)

  pub bound_bare : (vs : List TypedName) (args : List (List ℕ)) (env : Environment) → bound_by b (map bare_typed vs) args env ≡ bound_by c vs args env
  bound_bare [] [] env = refl
  bound_bare [] (a ∷ args) env = refl
  bound_bare (v ∷ vs) [] env = refl
  bound_bare (v ∷ vs) (a ∷ args) env = ap (λ o. if list_any (nat_eq (object_place c a)) (members_of c v.kind.name) then o else None) (bound_bare vs args (env ++ (v.name.name, object_place c a) ∷ []))
