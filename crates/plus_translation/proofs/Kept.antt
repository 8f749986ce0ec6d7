-- The forms that are kept mean in the translation what they mean in the old pair, also inside further lists of variables.
use Rattle.std.proofs.Common.{◌≡◌, ℕ, Bool, true, false, not, cond, List, [], ◌∷◌, ◌++◌, map, length, refl, ap, ap₂, sym, subst, ◌∙◌, append_assoc, append-nil, Option, Some, None, flat_map, nat_eq, pos, ◌==◌}
use Rattle.plus_fraction.specs.Fraction.{whole}
use Rattle.std.specs.List.{position_or_len}
use Rattle.std.specs.Str.{bytes_eq}
use Rattle.std.proofs.lemmas.List.Concat.{flat_map_single}
use Rattle.plus_model.specs.Terms as model
use Rattle.plus_model.specs.Terms.{Expression, Sum, Difference, Product, Quotient, Condition, Effect}
use Rattle.plus_model.specs.Value.{signed}
use Rattle.plus_state.specs.Tests.{joined}
use Rattle.plus_tree.specs.declared.terms.Term.{Term}
use Rattle.plus_tree.specs.declared.terms.Term.TheVariants.{Object, Variable}
use Rattle.plus_tree.specs.declared.terms.TypedName.{TypedName}
use Rattle.plus_tree.specs.declared.terms.Use.{Use}
use Rattle.plus_tree.specs.declared.trees.Head.{Head}
use Rattle.plus_tree.specs.declared.trees.Leaf.{Leaf}
use Rattle.plus_tree.specs.declared.trees.LeafNode.{LeafNode}
use Rattle.plus_tree.specs.declared.trees.LeafNode.TheVariants.{Add, Delete, Assign, Increase, Decrease, ScaleUp, ScaleDown}
use Rattle.plus_tree.specs.Expr.{Expr, Exprs, x_number, x_clock, x_fluent, x_sum, x_product, x_minus, x_difference, x_quotient, no_exprs, more_exprs}
use Rattle.plus_tree.specs.Cond.{Cond, Conds, c_all, c_any, c_not, c_imply, c_forall, c_exists, c_atom, c_same, c_compare, no_conds, more_conds}
use Rattle.plus_tree.specs.Effect as effects
use Rattle.plus_tree.specs.Effect.{Effects, e_all, e_forall, e_when, e_leaf, no_effects, more_effects}
use Rattle.plus_types.specs.Types.{Binding, bindings_of, bound_names, kind_of}
use Rattle.plus_types.specs.Faults.{Context, params_of, term_kind, term_faults, known_faults, kind_of_faults, argument_faults, arguments_faults, declared_faults, use_faults, expr_faults, exprs_faults, variables_faults, cond_faults, conds_faults, fault_where, write_faults, leaf_faults, leaves_faults, effect_faults, effects_faults}
use Rattle.plus_types.proofs.SoundLemmas.{left-none, right-none}
use Rattle.plus_expansion.specs.Objects.{members_of}
use Rattle.plus_expansion.specs.Numbers.{number_of}
use Rattle.plus_expansion.specs.Environments.{Environment, environments, bound_object, term_object, use_objects, atom_number, fluent_number}
use Rattle.plus_expansion.specs.Expansion.{chained, expression_meant, expressions_meant, test_meant, condition_meant, conditions_meant, write_meant, leaf_meant, effects_meant, all_effects_meant}
use Rattle.plus_expansion.proofs.Members.{Stands, AreNew, is_member, stands-more, variables-new}
use Rattle.plus_expansion.proofs.Uses.{atom-within, fluent-within}
use Rattle.plus_expansion.proofs.Effects.{leaf-write}
use Rattle.plus_translation.proofs.Numbers.{members_same, number_same}
use Rattle.plus_translation.proofs.Meant.{bound-last, kind-last, flat_flat, all-members, flat_same_all, Contexts}

-- a variable in force stands for the same object in both
abbrev pub AreKept : ℕ → List Binding → Environment → Environment → Type 0
AreKept none vars env env' = (x kind : List ℕ) → kind_of vars x ≡ Some kind → bound_object none env' x ≡ bound_object none env x

pub kept-more : (none : ℕ) (vars : List Binding) (env env' : Environment) → AreKept none vars env env' → (x kind : List ℕ) (o : ℕ) → AreKept none (vars ++ (x, kind) ∷ []) (env ++ (x, o) ∷ []) (env' ++ (x, o) ∷ [])
kept-more none vars env env' r x kind o y found e = by (bytes_eq y x) refl
  where
    by : (b : Bool) → bytes_eq y x ≡ b → bound_object none (env' ++ (x, o) ∷ []) y ≡ bound_object none (env ++ (x, o) ∷ []) y
    by true is = bound-last none env' x o y ∙ ap₂ (λ b z. cond b o z) is refl ∙ sym (bound-last none env x o y ∙ ap (λ b. cond b o (bound_object none env y)) is)
    by false is = bound-last none env' x o y ∙ ap (λ b. cond b o (bound_object none env' y)) is ∙ r y found (kind-last vars x kind y found is e) ∙ sym (bound-last none env x o y ∙ ap (λ b. cond b o (bound_object none env y)) is)

module _ (cd c c' : Context) (w : Contexts cd c c') where
  abbrev pub Kept : List Binding → Environment → Environment → Type 0
  Kept vars env env' = AreKept (length c.objects) vars env env'

  -- for each choice of objects for a list, in both
  quantified : {A : Type 0} (g g' : Environment → List A) (vs : List TypedName) (vars : List Binding) (env env' : Environment) → Stands c vars env → AreNew vars vs → Kept vars env env'
      → ((e e' : Environment) → Stands c (vars ++ bindings_of vs) e → Kept (vars ++ bindings_of vs) e e' → g' e' ≡ g e)
      → flat_map g' (environments c' vs env') ≡ flat_map g (environments c vs env)
  quantified g g' [] vars env env' s n r each =
      let here : g' env' ≡ g env = each env env' (subst (λ x. Stands c x env) (sym (append-nil vars)) s) (subst (λ x. AreKept (length c.objects) x env env') (sym (append-nil vars)) r) in
      ap (λ xs. xs ++ []) here
  quantified g g' (v ∷ vs) vars env env' s n r each =
      flat_flat g' (λ o. environments c' vs (env' ++ (v.name.name, o) ∷ [])) (members_of c' v.kind.name)
      ∙ ap (flat_map (λ o. flat_map g' (environments c' vs (env' ++ (v.name.name, o) ∷ [])))) (members_same c c' w.world v.kind.name)
      ∙ flat_same_all (λ o. is_member c v.kind.name o ≡ true)
      (λ o. flat_map g' (environments c' vs (env' ++ (v.name.name, o) ∷ [])))
      (λ o. flat_map g (environments c vs (env ++ (v.name.name, o) ∷ []))) (members_of c v.kind.name) (all-members (members_of c v.kind.name))
      (λ o m. quantified g g' vs (vars ++ (v.name.name, v.kind.name) ∷ []) (env ++ (v.name.name, o) ∷ []) (env' ++ (v.name.name, o) ∷ [])
      (stands-more c vars env v.name.name v.kind.name o s m n.0) n.1
      (kept-more (length c.objects) vars env env' r v.name.name v.kind.name o)
      (λ e e' t q.
      let same = append_assoc vars ((v.name.name, v.kind.name) ∷ []) (bindings_of vs) in
      each e e' (subst (λ x. Stands c x e) same t) (subst (λ x. AreKept (length c.objects) x e e') same q)))
      ∙ sym (flat_flat g (λ o. environments c vs (env ++ (v.name.name, o) ∷ [])) (members_of c v.kind.name))

  quantified_map : {A : Type 0} (g g' : Environment → A) (vs : List TypedName) (vars : List Binding) (env env' : Environment) → Stands c vars env → AreNew vars vs → Kept vars env env'
      → ((e e' : Environment) → Stands c (vars ++ bindings_of vs) e → Kept (vars ++ bindings_of vs) e e' → g' e' ≡ g e)
      → map g' (environments c' vs env') ≡ map g (environments c vs env)
  quantified_map g g' vs vars env env' s n r each =
      sym (flat_map_single g' (environments c' vs env'))
      ∙ quantified (λ e. g e ∷ []) (λ e. g' e ∷ []) vs vars env env' s n r (λ e e' t q. ap (λ x. x ∷ []) (each e e' t q))
      ∙ flat_map_single g (environments c vs env)

  module _ (vars : List Binding) (env env' : Environment) (s : Stands c vars env) (r : AreKept (length c.objects) vars env env') where
    term_same : (t : Term) → ((o : Option (List ℕ)) → term_kind cd vars t ≡ o → o ≡ None → ⊥) → term_object c' env' t ≡ term_object c env t
    term_same (Object x) h = ap (λ (os : List Binding). position_or_len (bytes_eq x.name) (bound_names os)) w.world.objects
    term_same (Variable x) h = by (kind_of vars x.name) refl
      where
        by : (o : Option (List ℕ)) → kind_of vars x.name ≡ o → bound_object (length c'.objects) env' (x.name) ≡ bound_object (length c.objects) env x.name
        by None e = absurd (h None e refl)
        by (Some kind) e = ap (λ (os : List Binding). bound_object (length os) env' (x.name)) w.world.objects ∙ r x.name kind e

    known : (t : Term) → term_faults cd vars t ≡ [] → (o : Option (List ℕ)) → term_kind cd vars t ≡ o → o ≡ None → ⊥
    known (Object x) f None e n = let h = ap (known_faults cd.file (Object x)) (sym e) ∙ f in cc
    known (Variable x) f None e n = let h = ap (known_faults cd.file (Variable x)) (sym e) ∙ f in cc
    known t f (Some kind) e n = cc

    known_argument : (param : List ℕ) (t : Term) → argument_faults cd vars param t ≡ [] → (o : Option (List ℕ)) → term_kind cd vars t ≡ o → o ≡ None → ⊥
    known_argument param (Object x) f None e n = let h = ap (kind_of_faults cd param (Object x)) (sym e) ∙ f in cc
    known_argument param (Variable x) f None e n = let h = ap (kind_of_faults cd param (Variable x)) (sym e) ∙ f in cc
    known_argument param t f (Some kind) e n = cc

    terms_same : (params : List TypedName) (ts : List Term) → arguments_faults cd vars params ts ≡ [] → map (term_object c' env') ts ≡ map (term_object c env) ts
    terms_same params [] f = refl
    terms_same [] (t ∷ ts) f = ap₂ (λ x y. x ∷ y) (term_same t (known t (left-none (term_faults cd vars t) _ f))) (terms_same [] ts (right-none (term_faults cd vars t) _ f))
    terms_same (p ∷ ps) (t ∷ ts) f = ap₂ (λ x y. x ∷ y) (term_same t (known_argument p.kind.name t (left-none (argument_faults cd vars p.kind.name t) _ f))) (terms_same ps ts (right-none (argument_faults cd vars p.kind.name t) _ f))

    objects_same : (heads : List Head) (u : Use) → use_faults cd vars heads u ≡ [] → use_objects c' env' u ≡ use_objects c env u
    objects_same heads u f = by (params_of heads u.head.name) f
      where
        by : (o : Option (List TypedName)) → declared_faults cd vars u o ≡ [] → use_objects c' env' u ≡ use_objects c env u
        by None g = cc
        by (Some params) g = terms_same params u.args (right-none (fault_where (not (length u.args == length params)) _ _ _) _ g)

    pub atom_same : (u : Use) → use_faults cd vars cd.predicates u ≡ [] → atom_number c' env' u ≡ atom_number c env u
    atom_same u f =
        ap₂ (λ heads os. number_of c' heads u.head.name os) w.predicates (objects_same cd.predicates u f)
        ∙ number_same c c' w.world c.predicates w.marks u.head.name (use_objects c env u) (atom-within cd c w.widens vars env u s f)

    pub fluent_same : (u : Use) → use_faults cd vars cd.functions u ≡ [] → fluent_number c' env' u ≡ fluent_number c env u
    fluent_same u f =
        ap₂ (λ heads os. number_of c' heads u.head.name os) w.functions (objects_same cd.functions u f)
        ∙ number_same c c' w.world c.functions w.clocks u.head.name (use_objects c env u) (fluent-within cd c w.widens vars env u s f)

    mutual
      pub expression_same : (e : Expr) (clock : Bool) → expr_faults cd vars clock e ≡ [] → expression_meant c' env' e ≡ expression_meant c env e
      expression_same (x_number n p) clock f = refl
      expression_same (x_clock p) clock f = refl
      expression_same (x_fluent u p) clock f = ap model.Fluent (fluent_same u f)
      expression_same (x_sum es p) clock f = ap (chained Sum) (expressions_same es clock f)
      expression_same (x_product es p) clock f = ap (chained Product) (expressions_same es clock f)
      expression_same (x_minus e p) clock f = ap (Difference (model.Number (whole (pos 0)))) (expression_same e clock f)
      expression_same (x_difference a b p) clock f = ap₂ Difference (expression_same a clock (left-none (expr_faults cd vars clock a) _ f)) (expression_same b clock (right-none (expr_faults cd vars clock a) _ f))
      expression_same (x_quotient a b p) clock f = ap₂ Quotient (expression_same a clock (left-none (expr_faults cd vars clock a) _ f)) (expression_same b clock (right-none (expr_faults cd vars clock a) _ f))

      expressions_same : (es : Exprs) (clock : Bool) → exprs_faults cd vars clock es ≡ [] → expressions_meant c' env' es ≡ expressions_meant c env es
      expressions_same no_exprs clock f = refl
      expressions_same (more_exprs e es) clock f = ap₂ (λ x y. x ∷ y) (expression_same e clock (left-none (expr_faults cd vars clock e) _ f)) (expressions_same es clock (right-none (expr_faults cd vars clock e) _ f))

  mutual
    pub condition_same : (f : Cond) (vars : List Binding) (env env' : Environment) (positive : Bool) → Stands c vars env → AreKept (length c.objects) vars env env'
        → cond_faults cd vars f ≡ [] → condition_meant c' env' positive f ≡ condition_meant c env positive f
    condition_same (c_all fs p) vars env env' positive s r e = ap (joined positive) (conditions_same fs vars env env' positive s r e)
    condition_same (c_any fs p) vars env env' positive s r e = ap (joined (not positive)) (conditions_same fs vars env env' positive s r e)
    condition_same (c_not f p) vars env env' positive s r e = condition_same f vars env env' (not positive) s r e
    condition_same (c_imply f g p) vars env env' positive s r e =
        ap₂ (λ x y. joined (not positive) (x ∷ y ∷ []))
        (condition_same f vars env env' (not positive) s r (left-none (cond_faults cd vars f) _ e))
        (condition_same g vars env env' positive s r (right-none (cond_faults cd vars f) _ e))
    condition_same (c_forall vs f p) vars env env' positive s r e =
        ap (joined positive) (quantified_map (λ x. condition_meant c x positive f) (λ x. condition_meant c' x positive f) vs vars env env' s
        (variables-new cd vars vs (left-none (variables_faults cd vars vs) _ e)) r
        (λ x x' t q. condition_same f (vars ++ bindings_of vs) x x' positive t q (right-none (variables_faults cd vars vs) _ e)))
    condition_same (c_exists vs f p) vars env env' positive s r e =
        ap (joined (not positive)) (quantified_map (λ x. condition_meant c x positive f) (λ x. condition_meant c' x positive f) vs vars env env' s
        (variables-new cd vars vs (left-none (variables_faults cd vars vs) _ e)) r
        (λ x x' t q. condition_same f (vars ++ bindings_of vs) x x' positive t q (right-none (variables_faults cd vars vs) _ e)))
    condition_same (c_atom u p) vars env env' positive s r e = ap (λ (a : ℕ). model.Atom a positive) (atom_same vars env env' s r u e)
    condition_same (c_same t u p) vars env env' positive s r e =
        ap₂ (λ (x y : ℕ). joined (signed positive (nat_eq x y)) [])
        (term_same vars env env' s r t (known vars env env' s r t (left-none (term_faults cd vars t) _ e)))
        (term_same vars env env' s r u (known vars env env' s r u (right-none (term_faults cd vars t) _ e)))
    condition_same (c_compare test a b p) vars env env' positive s r e =
        ap₂ (λ x y. model.Compare (test_meant test) x y positive)
        (expression_same vars env env' s r a false (left-none (expr_faults cd vars false a) _ e))
        (expression_same vars env env' s r b false (right-none (expr_faults cd vars false a) _ e))

    conditions_same : (fs : Conds) (vars : List Binding) (env env' : Environment) (positive : Bool) → Stands c vars env → AreKept (length c.objects) vars env env'
        → conds_faults cd vars fs ≡ [] → conditions_meant c' env' positive fs ≡ conditions_meant c env positive fs
    conditions_same no_conds vars env env' positive s r e = refl
    conditions_same (more_conds f fs) vars env env' positive s r e =
        ap₂ (λ x y. x ∷ y)
        (condition_same f vars env env' positive s r (left-none (cond_faults cd vars f) _ e))
        (conditions_same fs vars env env' positive s r (right-none (cond_faults cd vars f) _ e))

  -- ---- effects
  module _ (vars : List Binding) (env env' : Environment) (s : Stands c vars env) (r : AreKept (length c.objects) vars env env') where
    write_same : (n : LeafNode) → write_faults cd vars false n ≡ [] → write_meant c' env' n ≡ write_meant c env n
    write_same (Add u) f = ap model.Add (atom_same vars env env' s r u f)
    write_same (Delete u) f = ap model.Delete (atom_same vars env env' s r u f)
    write_same (Assign u e) f = ap₂ model.Assign (fluent_same vars env env' s r u (left-none (use_faults cd vars cd.functions u) _ f)) (expression_same vars env env' s r e false (right-none (use_faults cd vars cd.functions u) _ f))
    write_same (Increase u e) f = ap₂ model.Increase (fluent_same vars env env' s r u (left-none (use_faults cd vars cd.functions u) _ f)) (expression_same vars env env' s r e false (right-none (use_faults cd vars cd.functions u) _ f))
    write_same (Decrease u e) f = ap₂ model.Decrease (fluent_same vars env env' s r u (left-none (use_faults cd vars cd.functions u) _ f)) (expression_same vars env env' s r e false (right-none (use_faults cd vars cd.functions u) _ f))
    write_same (ScaleUp u e) f = ap₂ model.ScaleUp (fluent_same vars env env' s r u (left-none (use_faults cd vars cd.functions u) _ f)) (expression_same vars env env' s r e false (right-none (use_faults cd vars cd.functions u) _ f))
    write_same (ScaleDown u e) f = ap₂ model.ScaleDown (fluent_same vars env env' s r u (left-none (use_faults cd vars cd.functions u) _ f)) (expression_same vars env env' s r e false (right-none (use_faults cd vars cd.functions u) _ f))

    leaf_same : (guard guard' : Condition) → guard' ≡ guard → (l : Leaf) → leaf_faults cd vars false l ≡ [] → leaf_meant c' env' guard' l ≡ leaf_meant c env guard l
    leaf_same guard guard' g l f = ap₂ made g (write_same l.node (leaf-write cd vars false l f))
      where
        made : Condition → model.Write → Effect
        made x y = record { guard = x; write = y }

    leaves_same : (guard guard' : Condition) → guard' ≡ guard → (ls : List Leaf) → leaves_faults cd vars false ls ≡ [] → map (leaf_meant c' env' guard') ls ≡ map (leaf_meant c env guard) ls
    leaves_same guard guard' g [] f = refl
    leaves_same guard guard' g (l ∷ ls) f = ap₂ (λ x y. x ∷ y) (leaf_same guard guard' g l (left-none (leaf_faults cd vars false l) _ f)) (leaves_same guard guard' g ls (right-none (leaf_faults cd vars false l) _ f))

  mutual
    pub effect_same : (e : effects.Effect) (vars : List Binding) (env env' : Environment) → Stands c vars env → AreKept (length c.objects) vars env env'
        → effect_faults cd vars false e ≡ [] → effects_meant c' env' e ≡ effects_meant c env e
    effect_same (e_all es p) vars env env' s r f = effects_same es vars env env' s r f
    effect_same (e_forall vs e p) vars env env' s r f =
        quantified (λ x. effects_meant c x e) (λ x. effects_meant c' x e) vs vars env env' s
        (variables-new cd vars vs (left-none (variables_faults cd vars vs) _ f)) r
        (λ x x' t q. effect_same e (vars ++ bindings_of vs) x x' t q (right-none (variables_faults cd vars vs) _ f))
    effect_same (e_when g ls p) vars env env' s r f =
        leaves_same vars env env' s r (condition_meant c env true g) (condition_meant c' env' true g)
        (condition_same g vars env env' true s r (left-none (cond_faults cd vars g) _ f)) ls (right-none (cond_faults cd vars g) _ f)
    effect_same (e_leaf l p) vars env env' s r f = ap (λ x. x ∷ []) (leaf_same vars env env' s r model.Always model.Always refl l f)

    effects_same : (es : Effects) (vars : List Binding) (env env' : Environment) → Stands c vars env → AreKept (length c.objects) vars env env'
        → effects_faults cd vars false es ≡ [] → all_effects_meant c' env' es ≡ all_effects_meant c env es
    effects_same no_effects vars env env' s r f = refl
    effects_same (more_effects e es) vars env env' s r f =
        ap₂ (λ x y. x ++ y) (effect_same e vars env env' s r (left-none (effect_faults cd vars false e) _ f))
        (effects_same es vars env env' s r (right-none (effect_faults cd vars false e) _ f))
