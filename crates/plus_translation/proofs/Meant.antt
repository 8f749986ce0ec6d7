-- The renamed forms of an event mean in the translation what the event's forms mean.
use Rattle.std.proofs.Common.{◌≡◌, ℕ, suc, ◌<◌, ◌≤◌, ◌+◌, Bool, true, false, not, cond, List, [], ◌∷◌, ◌++◌, map, length, refl, ap, ap₂, sym, subst, ◌∙◌, arith, append_assoc, append-nil, Option, Some, None, flat_map, All, nat_eq, eq-eqb, pos, ◌==◌}
use Rattle.std.proofs.lemmas.List.Elements.{All-head, All-tail}
use Rattle.std.proofs.lemmas.List.Folds.{list_any_at}
use Rattle.plus_fraction.specs.Fraction.{whole}
use Rattle.std.specs.List.{position_or_len, list_any}
use Rattle.std.specs.Str.{bytes_eq}
use Rattle.std.proofs.lemmas.List.Concat.{flat_map_single}
use Rattle.std.proofs.lemmas.Grind.{flat_map-append}
use Rattle.plus_model.specs.Terms as model
use Rattle.plus_model.specs.Terms.{Expression, Sum, Difference, Product, Quotient, Condition, Effect}
use Rattle.plus_model.specs.Value.{signed}
use Rattle.plus_state.specs.Tests.{joined}
use Rattle.plus_tree.specs.declared.terms.Term.{Term}
use Rattle.plus_tree.specs.declared.terms.Term.TheVariants.{Object, Variable}
use Rattle.plus_tree.specs.declared.terms.TypedName.{TypedName}
use Rattle.plus_tree.specs.declared.terms.Use.{Use}
use Rattle.plus_tree.specs.declared.trees.Head.{Head}
use Rattle.plus_tree.specs.declared.trees.Leaf.{Leaf}
use Rattle.plus_tree.specs.declared.trees.LeafNode.{LeafNode}
use Rattle.plus_tree.specs.declared.trees.LeafNode.TheVariants.{Add, Delete, Assign, Increase, Decrease, ScaleUp, ScaleDown}
use Rattle.plus_tree.specs.Expr.{Expr, Exprs, x_number, x_clock, x_fluent, x_sum, x_product, x_minus, x_difference, x_quotient, no_exprs, more_exprs}
use Rattle.plus_tree.specs.Cond.{Cond, Conds, c_all, c_any, c_not, c_imply, c_forall, c_exists, c_atom, c_same, c_compare, no_conds, more_conds}
use Rattle.plus_tree.specs.Effect as effects
use Rattle.plus_tree.specs.Effect.{Effects, e_all, e_forall, e_when, e_leaf, no_effects, more_effects}
use Rattle.plus_types.specs.Types.{Binding, bindings_of, bound_names, kind_of}
use Rattle.plus_types.specs.Faults.{Context, params_of, term_kind, term_faults, known_faults, kind_of_faults, argument_faults, arguments_faults, declared_faults, use_faults, expr_faults, exprs_faults, variables_faults, cond_faults, conds_faults, fault_where, write_faults, leaf_faults, leaves_faults, effect_faults, effects_faults}
use Rattle.plus_types.proofs.SoundLemmas.{left-none, right-none}
use Rattle.plus_types.proofs.TypesLemmas.{bytes-self}
use Rattle.plus_expansion.specs.Objects.{members_of}
use Rattle.plus_expansion.specs.Numbers.{number_of}
use Rattle.plus_expansion.specs.Environments.{Environment, environments, bound_object, term_object, use_objects, atom_number, fluent_number}
use Rattle.plus_expansion.specs.Expansion.{chained, expression_meant, expressions_meant, test_meant, condition_meant, conditions_meant, write_meant, leaf_meant, effects_meant, all_effects_meant}
use Rattle.plus_expansion.proofs.Members.{Stands, AreNew, is_member, stands-more, variables-new}
use Rattle.plus_expansion.proofs.Uses.{Widens, atom-within, fluent-within}
use Rattle.plus_expansion.proofs.Effects.{leaf-write}
use Rattle.plus_translation.specs.Renamed.{Scope, fresh_name, new_name, scope_with, renamed_list, bindings_in, effect_bindings, renamed_term, renamed_use, renamed_expr, renamed_exprs, renamed_cond, renamed_conds, renamed_node, renamed_leaf, renamed_effect, renamed_effects}
use Rattle.plus_translation.proofs.Numbers.{SameWorld, members_same, number_same}
use Rattle.plus_translation.proofs.Names.{fresh_apart}

-- what a name stands for with one variable more
pub bound-last : (none : ℕ) (env : Environment) (x : List ℕ) (o : ℕ) (y : List ℕ) → bound_object none (env ++ (x, o) ∷ []) y ≡ cond (bytes_eq y x) o (bound_object none env y)
bound-last none [] x o y = refl
bound-last none (b ∷ bs) x o y = bound-last (cond (bytes_eq y b.0) b.1 none) bs x o y

pub kind-last : (vars : List Binding) (x kind y found : List ℕ) → bytes_eq y x ≡ false → kind_of (vars ++ (x, kind) ∷ []) y ≡ Some found → kind_of vars y ≡ Some found
kind-last [] x kind y found n e = absurd (let h : None ≡ Some found = ap (λ b. cond b (Some kind) None) (sym n) ∙ e in cc)
kind-last (v ∷ vs) x kind y found n e = by (bytes_eq y v.0) e (kind-last vs x kind y found n)
  where
    by : (b : Bool) → cond b (Some v.1) (kind_of (vs ++ (x, kind) ∷ []) y) ≡ Some found → (kind_of (vs ++ (x, kind) ∷ []) y ≡ Some found → kind_of vs y ≡ Some found) → cond b (Some v.1) (kind_of vs y) ≡ Some found
    by true w more = w
    by false w more = more w

-- a variable in force: its new name is that of an earlier binding, and stands for the same object
pub record Renames (i k none : ℕ) (scope : Scope) (env env' : Environment) (x : List ℕ) : Type 0 where
  pub place : ℕ
  pub before : place < k
  pub name : new_name scope x ≡ fresh_name i place
  pub same : bound_object none env' (new_name scope x) ≡ bound_object none env x

abbrev pub AreRenamed : ℕ → ℕ → ℕ → List Binding → Scope → Environment → Environment → Type 0
AreRenamed i k none vars scope env env' = (x kind : List ℕ) → kind_of vars x ≡ Some kind → Renames i k none scope env env' x

pub renamed-more : (i k none : ℕ) (vars : List Binding) (scope : Scope) (env env' : Environment) → AreRenamed i k none vars scope env env' → (x kind : List ℕ) (o : ℕ)
    → AreRenamed i (suc k) none (vars ++ (x, kind) ∷ []) ((x, fresh_name i k) ∷ scope) (env ++ (x, o) ∷ []) (env' ++ (fresh_name i k, o) ∷ [])
renamed-more i k none vars scope env env' r x kind o y found e = by (bytes_eq y x) refl
  where
    by : (b : Bool) → bytes_eq y x ≡ b → Renames i (suc k) none ((x, fresh_name i k) ∷ scope) (env ++ (x, o) ∷ []) (env' ++ (fresh_name i k, o) ∷ []) y
    by true is =
        let n : new_name ((x, fresh_name i k) ∷ scope) y ≡ fresh_name i k = ap (λ b. cond b (fresh_name i k) (new_name scope y)) is in
        record {
          place = k;
          before = omega arith;
          name = n;
          same =
              ap (bound_object none (env' ++ (fresh_name i k, o) ∷ [])) n
              ∙ bound-last none env' (fresh_name i k) o (fresh_name i k) ∙ ap (λ b. cond b o (bound_object none env' (fresh_name i k))) (bytes-self (fresh_name i k))
              ∙ sym (bound-last none env x o y ∙ ap (λ b. cond b o (bound_object none env y)) is);
        }
    by false is =
        let h = r y found (kind-last vars x kind y found is e) in
        let n : new_name ((x, fresh_name i k) ∷ scope) y ≡ new_name scope y = ap (λ b. cond b (fresh_name i k) (new_name scope y)) is in
        let apart : bytes_eq (new_name scope y) (fresh_name i k) ≡ false = ap (λ z. bytes_eq z (fresh_name i k)) h.name ∙ fresh_apart i h.place k h.before in
        record {
          place = h.place;
          before = let l = h.before in omega arith;
          name = n ∙ h.name;
          same =
              ap (bound_object none (env' ++ (fresh_name i k, o) ∷ [])) n
              ∙ bound-last none env' (fresh_name i k) o (new_name scope y) ∙ ap (λ b. cond b o (bound_object none env' (new_name scope y))) apart
              ∙ h.same
              ∙ sym (bound-last none env x o y ∙ ap (λ b. cond b o (bound_object none env y)) is);
        }

-- later bindings leave what is renamed
pub renamed-later : (i k m none : ℕ) (vars : List Binding) (scope : Scope) (env env' : Environment) → k ≤ m → AreRenamed i k none vars scope env env' → AreRenamed i m none vars scope env env'
renamed-later i k m none vars scope env env' l r x kind e =
    let h = r x kind e in
    record { place = h.place; before = (let b = h.before in omega arith); name = h.name; same = h.same }

pub flat_flat : {X Y Z : Type 0} (g : Y → List Z) (h : X → List Y) (xs : List X) → flat_map g (flat_map h xs) ≡ flat_map (λ x. flat_map g (h x)) xs
flat_flat g h [] = refl
flat_flat g h (x ∷ xs) = flat_map-append g (h x) (flat_map h xs) ∙ ap (λ ys. flat_map g (h x) ++ ys) (flat_flat g h xs)

pub all-members : (os : List ℕ) → All (λ o. list_any (nat_eq o) os ≡ true) os
all-members os = λ k d h. list_any_at (nat_eq _) os k d h (eq-eqb _ _ refl)

pub flat_same_all : {X Y : Type 0} (P : X → Type 0) (f g : X → List Y) (xs : List X) → All P xs → ((x : X) → P x → f x ≡ g x) → flat_map f xs ≡ flat_map g xs
flat_same_all P f g [] a h = refl
flat_same_all P f g (x ∷ xs) a h = ap₂ (λ a b. a ++ b) (h x (All-head P x xs a)) (flat_same_all P f g xs (All-tail P x xs a) h)

-- the old pair's context, that of the translation, and the domain's, in which forms are without a fault
pub record Contexts (cd c c' : Context) : Type 0 where
  pub widens : Widens cd c
  pub world : SameWorld c c'
  pub marks : List Head
  pub predicates : c'.predicates ≡ c.predicates ++ marks
  pub clocks : List Head
  pub functions : c'.functions ≡ c.functions ++ clocks

module _ (cd c c' : Context) (w : Contexts cd c c') (i : ℕ) where
  abbrev pub Renamed : ℕ → List Binding → Scope → Environment → Environment → Type 0
  Renamed k vars scope env env' = AreRenamed i k (length c.objects) vars scope env env'

  -- for each choice of objects for a list, in both
  quantified : {A : Type 0} (g g' : Environment → List A) (vs : List TypedName) (k : ℕ) (vars : List Binding) (scope : Scope) (env env' : Environment) → Stands c vars env → AreNew vars vs → Renamed k vars scope env env'
      → ((e e' : Environment) → Stands c (vars ++ bindings_of vs) e → Renamed (k + length vs) (vars ++ bindings_of vs) (scope_with i k vs scope) e e' → g' e' ≡ g e)
      → flat_map g' (environments c' (renamed_list i k vs) env') ≡ flat_map g (environments c vs env)
  quantified g g' [] k vars scope env env' s n r each =
      let k0 : k ≡ k + 0 = omega arith in
      let here : g' env' ≡ g env = each env env' (subst (λ x. Stands c x env) (sym (append-nil vars)) s)
      (subst (λ x. AreRenamed i (k + 0) (length c.objects) x scope env env') (sym (append-nil vars)) (subst (λ (m : ℕ). AreRenamed i m (length c.objects) vars scope env env') k0 r)) in
      ap (λ xs. xs ++ []) here
  quantified g g' (v ∷ vs) k vars scope env env' s n r each =
      flat_flat g' (λ o. environments c' (renamed_list i (suc k) vs) (env' ++ (fresh_name i k, o) ∷ [])) (members_of c' v.kind.name)
      ∙ ap (flat_map (λ o. flat_map g' (environments c' (renamed_list i (suc k) vs) (env' ++ (fresh_name i k, o) ∷ [])))) (members_same c c' w.world v.kind.name)
      ∙ flat_same_all (λ o. is_member c v.kind.name o ≡ true)
      (λ o. flat_map g' (environments c' (renamed_list i (suc k) vs) (env' ++ (fresh_name i k, o) ∷ [])))
      (λ o. flat_map g (environments c vs (env ++ (v.name.name, o) ∷ []))) (members_of c v.kind.name) (all-members (members_of c v.kind.name))
      (λ o m. quantified g g' vs (suc k) (vars ++ (v.name.name, v.kind.name) ∷ []) ((v.name.name, fresh_name i k) ∷ scope) (env ++ (v.name.name, o) ∷ []) (env' ++ (fresh_name i k, o) ∷ [])
      (stands-more c vars env v.name.name v.kind.name o s m n.0) n.1
      (renamed-more i k (length c.objects) vars scope env env' r v.name.name v.kind.name o)
      (λ e e' t q.
      let same = append_assoc vars ((v.name.name, v.kind.name) ∷ []) (bindings_of vs) in
      let long : suc k + length vs ≡ k + suc (length vs) = omega arith in
      each e e' (subst (λ x. Stands c x e) same t)
      (subst (λ x. AreRenamed i (k + suc (length vs)) (length c.objects) x (scope_with i (suc k) vs ((v.name.name, fresh_name i k) ∷ scope)) e e') same
      (subst (λ (m : ℕ). AreRenamed i m (length c.objects) ((vars ++ (v.name.name, v.kind.name) ∷ []) ++ bindings_of vs) (scope_with i (suc k) vs ((v.name.name, fresh_name i k) ∷ scope)) e e') long q))))
      ∙ sym (flat_flat g (λ o. environments c vs (env ++ (v.name.name, o) ∷ [])) (members_of c v.kind.name))

  pub quantified_map : {A : Type 0} (g g' : Environment → A) (vs : List TypedName) (k : ℕ) (vars : List Binding) (scope : Scope) (env env' : Environment) → Stands c vars env → AreNew vars vs → Renamed k vars scope env env'
      → ((e e' : Environment) → Stands c (vars ++ bindings_of vs) e → Renamed (k + length vs) (vars ++ bindings_of vs) (scope_with i k vs scope) e e' → g' e' ≡ g e)
      → map g' (environments c' (renamed_list i k vs) env') ≡ map g (environments c vs env)
  quantified_map g g' vs k vars scope env env' s n r each =
      sym (flat_map_single g' (environments c' (renamed_list i k vs) env'))
      ∙ quantified (λ e. g e ∷ []) (λ e. g' e ∷ []) vs k vars scope env env' s n r (λ e e' t q. ap (λ x. x ∷ []) (each e e' t q))
      ∙ flat_map_single g (environments c vs env)

  module _ (vars : List Binding) (scope : Scope) (env env' : Environment) (k : ℕ) (s : Stands c vars env) (r : AreRenamed i k (length c.objects) vars scope env env') where
    term_same : (t : Term) → ((o : Option (List ℕ)) → term_kind cd vars t ≡ o → o ≡ None → ⊥) → term_object c' env' (renamed_term scope t) ≡ term_object c env t
    term_same (Object x) h = ap (λ (os : List Binding). position_or_len (bytes_eq x.name) (bound_names os)) w.world.objects
    term_same (Variable x) h = by (kind_of vars x.name) refl
      where
        by : (o : Option (List ℕ)) → kind_of vars x.name ≡ o → bound_object (length c'.objects) env' (new_name scope x.name) ≡ bound_object (length c.objects) env x.name
        by None e = absurd (h None e refl)
        by (Some kind) e = ap (λ (os : List Binding). bound_object (length os) env' (new_name scope x.name)) w.world.objects ∙ (r x.name kind e).same

    known : (t : Term) → term_faults cd vars t ≡ [] → (o : Option (List ℕ)) → term_kind cd vars t ≡ o → o ≡ None → ⊥
    known (Object x) f None e n = let h = ap (known_faults cd.file (Object x)) (sym e) ∙ f in cc
    known (Variable x) f None e n = let h = ap (known_faults cd.file (Variable x)) (sym e) ∙ f in cc
    known t f (Some kind) e n = cc

    known_argument : (param : List ℕ) (t : Term) → argument_faults cd vars param t ≡ [] → (o : Option (List ℕ)) → term_kind cd vars t ≡ o → o ≡ None → ⊥
    known_argument param (Object x) f None e n = let h = ap (kind_of_faults cd param (Object x)) (sym e) ∙ f in cc
    known_argument param (Variable x) f None e n = let h = ap (kind_of_faults cd param (Variable x)) (sym e) ∙ f in cc
    known_argument param t f (Some kind) e n = cc

    terms_same : (params : List TypedName) (ts : List Term) → arguments_faults cd vars params ts ≡ [] → map (term_object c' env') (map (renamed_term scope) ts) ≡ map (term_object c env) ts
    terms_same params [] f = refl
    terms_same [] (t ∷ ts) f = ap₂ (λ x y. x ∷ y) (term_same t (known t (left-none (term_faults cd vars t) _ f))) (terms_same [] ts (right-none (term_faults cd vars t) _ f))
    terms_same (p ∷ ps) (t ∷ ts) f = ap₂ (λ x y. x ∷ y) (term_same t (known_argument p.kind.name t (left-none (argument_faults cd vars p.kind.name t) _ f))) (terms_same ps ts (right-none (argument_faults cd vars p.kind.name t) _ f))

    objects_same : (heads : List Head) (u : Use) → use_faults cd vars heads u ≡ [] → use_objects c' env' (renamed_use scope u) ≡ use_objects c env u
    objects_same heads u f = by (params_of heads u.head.name) f
      where
        by : (o : Option (List TypedName)) → declared_faults cd vars u o ≡ [] → use_objects c' env' (renamed_use scope u) ≡ use_objects c env u
        by None g = cc
        by (Some params) g = terms_same params u.args (right-none (fault_where (not (length u.args == length params)) _ _ _) _ g)

    pub atom_same : (u : Use) → use_faults cd vars cd.predicates u ≡ [] → atom_number c' env' (renamed_use scope u) ≡ atom_number c env u
    atom_same u f =
        ap₂ (λ heads os. number_of c' heads u.head.name os) w.predicates (objects_same cd.predicates u f)
        ∙ number_same c c' w.world c.predicates w.marks u.head.name (use_objects c env u) (atom-within cd c w.widens vars env u s f)

    pub fluent_same : (u : Use) → use_faults cd vars cd.functions u ≡ [] → fluent_number c' env' (renamed_use scope u) ≡ fluent_number c env u
    fluent_same u f =
        ap₂ (λ heads os. number_of c' heads u.head.name os) w.functions (objects_same cd.functions u f)
        ∙ number_same c c' w.world c.functions w.clocks u.head.name (use_objects c env u) (fluent-within cd c w.widens vars env u s f)

    mutual
      pub expression_same : (e : Expr) (clock : Bool) → expr_faults cd vars clock e ≡ [] → expression_meant c' env' (renamed_expr scope e) ≡ expression_meant c env e
      expression_same (x_number n p) clock f = refl
      expression_same (x_clock p) clock f = refl
      expression_same (x_fluent u p) clock f = ap model.Fluent (fluent_same u f)
      expression_same (x_sum es p) clock f = ap (chained Sum) (expressions_same es clock f)
      expression_same (x_product es p) clock f = ap (chained Product) (expressions_same es clock f)
      expression_same (x_minus e p) clock f = ap (Difference (model.Number (whole (pos 0)))) (expression_same e clock f)
      expression_same (x_difference a b p) clock f = ap₂ Difference (expression_same a clock (left-none (expr_faults cd vars clock a) _ f)) (expression_same b clock (right-none (expr_faults cd vars clock a) _ f))
      expression_same (x_quotient a b p) clock f = ap₂ Quotient (expression_same a clock (left-none (expr_faults cd vars clock a) _ f)) (expression_same b clock (right-none (expr_faults cd vars clock a) _ f))

      expressions_same : (es : Exprs) (clock : Bool) → exprs_faults cd vars clock es ≡ [] → expressions_meant c' env' (renamed_exprs scope es) ≡ expressions_meant c env es
      expressions_same no_exprs clock f = refl
      expressions_same (more_exprs e es) clock f = ap₂ (λ x y. x ∷ y) (expression_same e clock (left-none (expr_faults cd vars clock e) _ f)) (expressions_same es clock (right-none (expr_faults cd vars clock e) _ f))

  mutual
    pub condition_same : (f : Cond) (vars : List Binding) (scope : Scope) (env env' : Environment) (k : ℕ) (positive : Bool) → Stands c vars env → AreRenamed i k (length c.objects) vars scope env env'
        → cond_faults cd vars f ≡ [] → condition_meant c' env' positive (renamed_cond i scope k f) ≡ condition_meant c env positive f
    condition_same (c_all fs p) vars scope env env' k positive s r e = ap (joined positive) (conditions_same fs vars scope env env' k positive s r e)
    condition_same (c_any fs p) vars scope env env' k positive s r e = ap (joined (not positive)) (conditions_same fs vars scope env env' k positive s r e)
    condition_same (c_not f p) vars scope env env' k positive s r e = condition_same f vars scope env env' k (not positive) s r e
    condition_same (c_imply f g p) vars scope env env' k positive s r e =
        ap₂ (λ x y. joined (not positive) (x ∷ y ∷ []))
        (condition_same f vars scope env env' k (not positive) s r (left-none (cond_faults cd vars f) _ e))
        (condition_same g vars scope env env' (k + bindings_in f) positive s (renamed-later i k (k + bindings_in f) (length c.objects) vars scope env env' (omega arith) r) (right-none (cond_faults cd vars f) _ e))
    condition_same (c_forall vs f p) vars scope env env' k positive s r e =
        ap (joined positive) (quantified_map (λ x. condition_meant c x positive f) (λ x. condition_meant c' x positive (renamed_cond i (scope_with i k vs scope) (k + length vs) f)) vs k vars scope env env' s
        (variables-new cd vars vs (left-none (variables_faults cd vars vs) _ e)) r
        (λ x x' t q. condition_same f (vars ++ bindings_of vs) (scope_with i k vs scope) x x' (k + length vs) positive t q (right-none (variables_faults cd vars vs) _ e)))
    condition_same (c_exists vs f p) vars scope env env' k positive s r e =
        ap (joined (not positive)) (quantified_map (λ x. condition_meant c x positive f) (λ x. condition_meant c' x positive (renamed_cond i (scope_with i k vs scope) (k + length vs) f)) vs k vars scope env env' s
        (variables-new cd vars vs (left-none (variables_faults cd vars vs) _ e)) r
        (λ x x' t q. condition_same f (vars ++ bindings_of vs) (scope_with i k vs scope) x x' (k + length vs) positive t q (right-none (variables_faults cd vars vs) _ e)))
    condition_same (c_atom u p) vars scope env env' k positive s r e = ap (λ (a : ℕ). model.Atom a positive) (atom_same vars scope env env' k s r u e)
    condition_same (c_same t u p) vars scope env env' k positive s r e =
        ap₂ (λ (x y : ℕ). joined (signed positive (nat_eq x y)) [])
        (term_same vars scope env env' k s r t (known vars scope env env' k s r t (left-none (term_faults cd vars t) _ e)))
        (term_same vars scope env env' k s r u (known vars scope env env' k s r u (right-none (term_faults cd vars t) _ e)))
    condition_same (c_compare test a b p) vars scope env env' k positive s r e =
        ap₂ (λ x y. model.Compare (test_meant test) x y positive)
        (expression_same vars scope env env' k s r a false (left-none (expr_faults cd vars false a) _ e))
        (expression_same vars scope env env' k s r b false (right-none (expr_faults cd vars false a) _ e))

    conditions_same : (fs : Conds) (vars : List Binding) (scope : Scope) (env env' : Environment) (k : ℕ) (positive : Bool) → Stands c vars env → AreRenamed i k (length c.objects) vars scope env env'
        → conds_faults cd vars fs ≡ [] → conditions_meant c' env' positive (renamed_conds i scope k fs) ≡ conditions_meant c env positive fs
    conditions_same no_conds vars scope env env' k positive s r e = refl
    conditions_same (more_conds f fs) vars scope env env' k positive s r e =
        ap₂ (λ x y. x ∷ y)
        (condition_same f vars scope env env' k positive s r (left-none (cond_faults cd vars f) _ e))
        (conditions_same fs vars scope env env' (k + bindings_in f) positive s (renamed-later i k (k + bindings_in f) (length c.objects) vars scope env env' (omega arith) r) (right-none (cond_faults cd vars f) _ e))

  -- ---- effects
  module _ (vars : List Binding) (scope : Scope) (env env' : Environment) (k : ℕ) (s : Stands c vars env) (r : AreRenamed i k (length c.objects) vars scope env env') where
    pub write_same : (n : LeafNode) → write_faults cd vars false n ≡ [] → write_meant c' env' (renamed_node scope n) ≡ write_meant c env n
    write_same (Add u) f = ap model.Add (atom_same vars scope env env' k s r u f)
    write_same (Delete u) f = ap model.Delete (atom_same vars scope env env' k s r u f)
    write_same (Assign u e) f = ap₂ model.Assign (fluent_same vars scope env env' k s r u (left-none (use_faults cd vars cd.functions u) _ f)) (expression_same vars scope env env' k s r e false (right-none (use_faults cd vars cd.functions u) _ f))
    write_same (Increase u e) f = ap₂ model.Increase (fluent_same vars scope env env' k s r u (left-none (use_faults cd vars cd.functions u) _ f)) (expression_same vars scope env env' k s r e false (right-none (use_faults cd vars cd.functions u) _ f))
    write_same (Decrease u e) f = ap₂ model.Decrease (fluent_same vars scope env env' k s r u (left-none (use_faults cd vars cd.functions u) _ f)) (expression_same vars scope env env' k s r e false (right-none (use_faults cd vars cd.functions u) _ f))
    write_same (ScaleUp u e) f = ap₂ model.ScaleUp (fluent_same vars scope env env' k s r u (left-none (use_faults cd vars cd.functions u) _ f)) (expression_same vars scope env env' k s r e false (right-none (use_faults cd vars cd.functions u) _ f))
    write_same (ScaleDown u e) f = ap₂ model.ScaleDown (fluent_same vars scope env env' k s r u (left-none (use_faults cd vars cd.functions u) _ f)) (expression_same vars scope env env' k s r e false (right-none (use_faults cd vars cd.functions u) _ f))

    leaf_same : (guard guard' : Condition) → guard' ≡ guard → (l : Leaf) → leaf_faults cd vars false l ≡ [] → leaf_meant c' env' guard' (renamed_leaf scope l) ≡ leaf_meant c env guard l
    leaf_same guard guard' g l f = ap₂ made g (write_same l.node (leaf-write cd vars false l f))
      where
        made : Condition → model.Write → Effect
        made x y = record { guard = x; write = y }

    leaves_same : (guard guard' : Condition) → guard' ≡ guard → (ls : List Leaf) → leaves_faults cd vars false ls ≡ [] → map (leaf_meant c' env' guard') (map (renamed_leaf scope) ls) ≡ map (leaf_meant c env guard) ls
    leaves_same guard guard' g [] f = refl
    leaves_same guard guard' g (l ∷ ls) f = ap₂ (λ x y. x ∷ y) (leaf_same guard guard' g l (left-none (leaf_faults cd vars false l) _ f)) (leaves_same guard guard' g ls (right-none (leaf_faults cd vars false l) _ f))

  mutual
    pub effect_same : (e : effects.Effect) (vars : List Binding) (scope : Scope) (env env' : Environment) (k : ℕ) → Stands c vars env → AreRenamed i k (length c.objects) vars scope env env'
        → effect_faults cd vars false e ≡ [] → effects_meant c' env' (renamed_effect i scope k e) ≡ effects_meant c env e
    effect_same (e_all es p) vars scope env env' k s r f = effects_same es vars scope env env' k s r f
    effect_same (e_forall vs e p) vars scope env env' k s r f =
        quantified (λ x. effects_meant c x e) (λ x. effects_meant c' x (renamed_effect i (scope_with i k vs scope) (k + length vs) e)) vs k vars scope env env' s
        (variables-new cd vars vs (left-none (variables_faults cd vars vs) _ f)) r
        (λ x x' t q. effect_same e (vars ++ bindings_of vs) (scope_with i k vs scope) x x' (k + length vs) t q (right-none (variables_faults cd vars vs) _ f))
    effect_same (e_when g ls p) vars scope env env' k s r f =
        leaves_same vars scope env env' k s r (condition_meant c env true g) (condition_meant c' env' true (renamed_cond i scope k g))
        (condition_same g vars scope env env' k true s r (left-none (cond_faults cd vars g) _ f)) ls (right-none (cond_faults cd vars g) _ f)
    effect_same (e_leaf l p) vars scope env env' k s r f = ap (λ x. x ∷ []) (leaf_same vars scope env env' k s r model.Always model.Always refl l f)

    effects_same : (es : Effects) (vars : List Binding) (scope : Scope) (env env' : Environment) (k : ℕ) → Stands c vars env → AreRenamed i k (length c.objects) vars scope env env'
        → effects_faults cd vars false es ≡ [] → all_effects_meant c' env' (renamed_effects i scope k es) ≡ all_effects_meant c env es
    effects_same no_effects vars scope env env' k s r f = refl
    effects_same (more_effects e es) vars scope env env' k s r f =
        ap₂ (λ x y. x ++ y) (effect_same e vars scope env env' k s r (left-none (effect_faults cd vars false e) _ f))
        (effects_same es vars scope env env' (k + effect_bindings e) s (renamed-later i k (k + effect_bindings e) (length c.objects) vars scope env env' (omega arith) r) (right-none (effect_faults cd vars false e) _ f))
