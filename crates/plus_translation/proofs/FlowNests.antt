-- The rates of a process one by one, each in its own nest of lists, come to the same as the flows of its instance. A list
-- around a rate may bind a name that the process's condition binds too.
use Rattle.std.proofs.Common.{◌≡◌, ℕ, Bool, true, false, not, cond, ◌&&◌, ◌||◌, List, [], ◌∷◌, ◌++◌, map, length, refl, ap, ap₂, sym, subst, ◌∙◌, append_assoc, append-nil, Option, Some, None, flat_map}
use Rattle.std.specs.Prelude.{if◌then◌else◌, Ok}
use Rattle.std.specs.Str.{bytes_eq}
use Rattle.std.proofs.lemmas.List.{map-append}
use Rattle.std.proofs.lemmas.List.Folds.{flat_map-map}
use Rattle.std.proofs.lemmas.Grind.{flat_map-append}
use Rattle.plus_fraction.specs.Fraction.{Fraction, ◌*ℚ◌, neg_ℚ}
use Rattle.plus_fraction.proofs.FractionRing.{*ℚ-one}
use Rattle.plus_model.specs.Terms as model
use Rattle.plus_model.specs.Terms.{Expression, Product, Condition, Effect, Rate, State, Write}
use Rattle.plus_model.specs.Value.{holds, value, fluent_of, on_both}
use Rattle.plus_model.specs.Joint.{Moves, Stays, given, change_of}
use Rattle.plus_tree.specs.declared.terms.TypedName.{TypedName}
use Rattle.plus_tree.specs.declared.trees.Leaf.{Leaf}
use Rattle.plus_tree.specs.declared.trees.LeafNode.{LeafNode}
use Rattle.plus_tree.specs.declared.trees.LeafNode.TheVariants.{Add, Delete, Assign, Increase, Decrease, ScaleUp, ScaleDown}
use Rattle.plus_tree.specs.Expr.{Expr, x_number, x_clock, x_fluent, x_sum, x_product, x_minus, x_difference, x_quotient, no_exprs, more_exprs}
use Rattle.plus_tree.specs.Cond.{Cond}
use Rattle.plus_tree.specs.Effect as effects
use Rattle.plus_tree.specs.Effect.{Effects, e_all, e_forall, e_when, e_leaf, no_effects, more_effects}
use Rattle.plus_types.specs.Types.{Binding, bindings_of, kind_of}
use Rattle.plus_types.specs.Faults.{Context, is_clock, is_rate, is_rate_amount, fault_where, variables_faults, cond_faults, use_faults, write_faults, expr_faults, leaf_faults, effect_faults, effects_faults}
use Rattle.plus_types.specs.declared.faults.Wrong.TheVariants.{RateForm}
use Rattle.plus_types.proofs.TypesLemmas.{same-bytes}
use Rattle.plus_types.proofs.SoundLemmas.{left-none, right-none}
use Rattle.plus_expansion.specs.Objects.{members_of}
use Rattle.plus_expansion.specs.Environments.{Environment, environments, bound_object, fluent_number}
use Rattle.plus_expansion.specs.Expansion.{expression_meant, condition_meant, write_meant, effects_meant, amount_meant, rate_meant, rates_meant, all_rates_meant}
use Rattle.plus_expansion.proofs.Members.{Stands, AreNew, is_member, stands-more, variables-new}
use Rattle.plus_expansion.proofs.Effects.{leaf-write}
use Rattle.plus_expansion.proofs.Uses.{rule-holds}
use Rattle.plus_steps.specs.Translation.{whenever, flow_write}
use Rattle.plus_steps.proofs.Tally.{gained, lost, wrote, fine, when, change_gains, change_loses, change_written, change_fine, both_written}
use Rattle.plus_steps.proofs.Same.{Same, same_refl, same_equal, same_trans, same_append, flat_swap}
use Rattle.plus_translation.specs.Renamed.{nowhere}
use Rattle.plus_translation.specs.Leaves.{nested, Placed, inside, leaves_of, leaves_among}
use Rattle.plus_translation.specs.Translated.{leaf, flow_node, flow_amount}
use Rattle.plus_translation.proofs.Numbers.{members_same}
use Rattle.plus_translation.proofs.Meant.{bound-last, flat_flat, all-members, Contexts}
use Rattle.plus_translation.proofs.Kept.{AreKept, kept-more, condition_same, expression_same, fluent_same}
use Rattle.plus_translation.proofs.Nests.{over_meant, same_flat_all, map_flat}

-- a write is told by its change
pub same_write : (g : Condition) (v w : Write) → ((t : State) → change_of v t ≡ change_of w t) → Same (whenever g v ∷ []) (whenever g w ∷ [])
unfolding gained lost wrote fine
same_write g v w e = record {
  fine_is = λ t. ap (λ r. when (holds g t) (change_fine r) true && true) (e t);
  gained_is = λ a t. ap (λ r. when (holds g t) (change_gains a r) false || false) (e t);
  lost_is = λ a t. ap (λ r. when (holds g t) (change_loses a r) false || false) (e t);
  wrote_is = λ f t. ap (λ r. both_written (when (holds g t) (change_written f r) Stays) Stays) (e t);
}

kind-prefix : (vars more : List Binding) (x : List ℕ) → kind_of (vars ++ more) x ≡ None → kind_of vars x ≡ None
kind-prefix [] more x e = refl
kind-prefix (v ∷ vs) more x e = by (bytes_eq x v.0) e (kind-prefix vs more x)
  where
    by : (b : Bool) → cond b (Some v.1) (kind_of (vs ++ more) x) ≡ None → (kind_of (vs ++ more) x ≡ None → kind_of vs x ≡ None) → cond b (Some v.1) (kind_of vs x) ≡ None
    by true w rest = cc
    by false w rest = rest w

module _ (cd c c' : Context) (w : Contexts cd c c') where
  -- for each choice of objects for a list, in both, with a property that variables of other names keep
  pub quantified_kept : (Keeps : Environment → Type 0) (pvars : List Binding) → ((e' : Environment) (x : List ℕ) (o : ℕ) → kind_of pvars x ≡ None → Keeps e' → Keeps (e' ++ (x, o) ∷ []))
      → (g g' : Environment → List Effect) (vs : List TypedName) (vars : List Binding) (env env' : Environment) → ((x : List ℕ) → kind_of vars x ≡ None → kind_of pvars x ≡ None) → Keeps env' → Stands c vars env → AreNew vars vs → AreKept (length c.objects) vars env env'
      → ((e e' : Environment) → Keeps e' → Stands c (vars ++ bindings_of vs) e → AreKept (length c.objects) (vars ++ bindings_of vs) e e' → Same (g' e') (g e))
      → Same (flat_map g' (environments c' vs env')) (flat_map g (environments c vs env))
  quantified_kept Keeps pvars keep g g' [] vars env env' l p s n r each =
      let here : Same (g' env') (g env) = each env env' p (subst (λ x. Stands c x env) (sym (append-nil vars)) s) (subst (λ x. AreKept (length c.objects) x env env') (sym (append-nil vars)) r) in
      same_append (g' env') (g env) [] [] here (same_refl [])
  quantified_kept Keeps pvars keep g g' (v ∷ vs) vars env env' l p s n r each =
      same_trans _ _ _
      (same_equal _ _ (flat_flat g' (λ o. environments c' vs (env' ++ (v.name.name, o) ∷ [])) (members_of c' v.kind.name)
      ∙ ap (flat_map (λ o. flat_map g' (environments c' vs (env' ++ (v.name.name, o) ∷ [])))) (members_same c c' w.world v.kind.name)))
      (same_trans _ _ _
      (same_flat_all (λ o. is_member c v.kind.name o ≡ true)
      (λ o. flat_map g' (environments c' vs (env' ++ (v.name.name, o) ∷ [])))
      (λ o. flat_map g (environments c vs (env ++ (v.name.name, o) ∷ []))) (members_of c v.kind.name) (all-members (members_of c v.kind.name))
      (λ o m. quantified_kept Keeps pvars keep g g' vs (vars ++ (v.name.name, v.kind.name) ∷ []) (env ++ (v.name.name, o) ∷ []) (env' ++ (v.name.name, o) ∷ [])
      (λ x h. l x (kind-prefix vars ((v.name.name, v.kind.name) ∷ []) x h)) (keep env' v.name.name o (l v.name.name n.0) p)
      (stands-more c vars env v.name.name v.kind.name o s m n.0) n.1
      (kept-more (length c.objects) vars env env' r v.name.name v.kind.name o)
      (λ e e' u t q.
      let same = append_assoc vars ((v.name.name, v.kind.name) ∷ []) (bindings_of vs) in
      each e e' u (subst (λ x. Stands c x e) same t) (subst (λ x. AreKept (length c.objects) x e e') same q))))
      (same_equal _ _ (sym (flat_flat g (λ o. environments c vs (env ++ (v.name.name, o) ∷ [])) (members_of c v.kind.name)))))

  -- another name hides no variable
  kept-hidden : (vars : List Binding) (base env' : Environment) (x : List ℕ) (o : ℕ) → kind_of vars x ≡ None → AreKept (length c.objects) vars base env' → AreKept (length c.objects) vars base (env' ++ (x, o) ∷ [])
  kept-hidden vars base env' x o n r y kind e = bound-last (length c.objects) env' x o y ∙ by (bytes_eq y x) refl
    where
      by : (b : Bool) → bytes_eq y x ≡ b → cond (bytes_eq y x) o (bound_object (length c.objects) env' y) ≡ bound_object (length c.objects) base y
      by false is = ap (λ b. cond b o (bound_object (length c.objects) env' y)) is ∙ r y kind e
      by true is = absurd (let h : None ≡ Some kind = sym n ∙ ap (kind_of vars) (sym (same-bytes y x is)) ∙ e in cc)

  -- ---- the rates of a process, whose condition is typed in its parameters
  module _ (q : Fraction) (Q : Expr) (steps : (env : Environment) (t : State) → value (expression_meant c' env Q) t ≡ Some q)
      (f : Cond) (pvars : List Binding) (base : Environment) (bs : Stands c pvars base) (typed : cond_faults cd pvars f ≡ []) where
    abbrev C : Condition
    C = condition_meant c base true f

    abbrev Keeps : Environment → Type 0
    Keeps e' = AreKept (length c.objects) pvars base e'

    keep : (e' : Environment) (x : List ℕ) (o : ℕ) → kind_of pvars x ≡ None → Keeps e' → Keeps (e' ++ (x, o) ∷ [])
    keep e' x o n p = kept-hidden pvars base e' x o n p

    meaning : (e' : Environment) → Keeps e' → condition_meant c' e' true f ≡ C
    meaning e' p = condition_same cd c c' w f pvars base e' true bs p typed

    abbrev put : Environment → Placed → List Effect
    put e' p = effects_meant c' e' (nested p.lists (e_when f (leaf (flow_node Q p.leaf.node) ∷ []) nowhere))

    abbrev flow : Rate → Effect
    flow r = whenever C (flow_write q r)

    -- the value of an amount for the step is that of q times the amount
    AmountIs : Environment → Environment → Expr → Type 0
    AmountIs env env' e = (t : State) → value (expression_meant c' env' (flow_amount Q e)) t ≡ value (Product (model.Number q) (amount_meant c env e)) t

    times : (a b : Expression) (t : State) → value a t ≡ Some q → (o : Option Fraction) → value b t ≡ o → value (Product a b) t ≡ value (Product (model.Number q) b) t
    times a b t h o k = ap (λ x. on_both (λ x y. Some (x *ℚ y)) x (value b t)) h

    amount_is : (vars : List Binding) (env env' : Environment) → Stands c vars env → AreKept (length c.objects) vars env env' → (e : Expr) → is_rate_amount e ≡ true → expr_faults cd vars true e ≡ [] → AmountIs env env' e
    unfolding AmountIs
    amount_is vars env env' s r (x_clock p) a t u = steps env' u ∙ ap Some (sym (*ℚ-one q))
    amount_is vars env env' s r (x_product (more_exprs e (more_exprs g no_exprs)) p) a t u =
        times (expression_meant c' env' Q) (expression_meant c' env' (if is_clock e then g else e)) u (steps env' u) _ refl
        ∙ ap (λ x. value (Product (model.Number q) x) u) (by (is_clock e))
      where
        by : (b : Bool) → expression_meant c' env' (if b then g else e) ≡ expression_meant c env (if b then g else e)
        by true = expression_same cd c c' w vars env env' s r g true (left-none (expr_faults cd vars true g) _ (right-none (expr_faults cd vars true e) _ t))
        by false = expression_same cd c c' w vars env env' s r e true (left-none (expr_faults cd vars true e) _ t)
    amount_is vars env env' s r (x_product no_exprs p) a t u = cc
    amount_is vars env env' s r (x_product (more_exprs e no_exprs) p) a t u = cc
    amount_is vars env env' s r (x_product (more_exprs e (more_exprs g (more_exprs h es))) p) a t u = cc
    amount_is vars env env' s r (x_number n p) a t u = cc
    amount_is vars env env' s r (x_fluent n p) a t u = cc
    amount_is vars env env' s r (x_sum n p) a t u = cc
    amount_is vars env env' s r (x_minus n p) a t u = cc
    amount_is vars env env' s r (x_difference n m p) a t u = cc
    amount_is vars env env' s r (x_quotient n m p) a t u = cc

    leaf_put : (vars : List Binding) (env env' : Environment) → Keeps env' → Stands c vars env → AreKept (length c.objects) vars env env' → (n : LeafNode) → is_rate n ≡ true → write_faults cd vars true n ≡ []
        → Same (whenever (condition_meant c' env' true f) (write_meant c' env' (flow_node Q n)) ∷ []) (map flow (rate_meant c env n))
    unfolding AmountIs
    leaf_put vars env env' p s r (Increase u e) a t =
        same_trans _ _ _ (same_equal _ _ (ap₂ (λ x (y : ℕ). whenever x (model.Increase y (expression_meant c' env' (flow_amount Q e))) ∷ []) (meaning env' p) (fluent_same cd c c' w vars env env' s r u (left-none (use_faults cd vars cd.functions u) _ t))))
        (same_write C _ _ (λ x. ap (λ o. given (fluent_number c env u) o (λ y. given (fluent_number c env u) (fluent_of x (fluent_number c env u)) (λ v. Ok (Moves (fluent_number c env u) y)))) (amount_is vars env env' s r e a (right-none (use_faults cd vars cd.functions u) _ t) x)))
    leaf_put vars env env' p s r (Decrease u e) a t =
        same_trans _ _ _ (same_equal _ _ (ap₂ (λ x (y : ℕ). whenever x (model.Decrease y (expression_meant c' env' (flow_amount Q e))) ∷ []) (meaning env' p) (fluent_same cd c c' w vars env env' s r u (left-none (use_faults cd vars cd.functions u) _ t))))
        (same_write C _ _ (λ x. ap (λ o. given (fluent_number c env u) o (λ y. given (fluent_number c env u) (fluent_of x (fluent_number c env u)) (λ v. Ok (Moves (fluent_number c env u) (neg_ℚ y))))) (amount_is vars env env' s r e a (right-none (use_faults cd vars cd.functions u) _ t) x)))
    leaf_put vars env env' p s r (Add u) a t = cc
    leaf_put vars env env' p s r (Delete u) a t = cc
    leaf_put vars env env' p s r (Assign u e) a t = cc
    leaf_put vars env env' p s r (ScaleUp u e) a t = cc
    leaf_put vars env env' p s r (ScaleDown u e) a t = cc

    rate_of_leaf : (vars : List Binding) (l : Leaf) → leaf_faults cd vars true l ≡ [] → is_rate l.node ≡ true
    unfolding leaf_faults
    rate_of_leaf vars l t = rule-holds (is_rate l.node) RateForm cd.file l.span (left-none (fault_where (true && not (is_rate l.node)) RateForm cd.file l.span) _ t)

    mutual
      pub flow_same : (e : effects.Effect) (vars : List Binding) (env env' : Environment) → ((x : List ℕ) → kind_of vars x ≡ None → kind_of pvars x ≡ None) → Keeps env' → Stands c vars env → AreKept (length c.objects) vars env env'
          → effect_faults cd vars true e ≡ [] → Same (flat_map (put env') (leaves_of e)) (map flow (rates_meant c env e))
      flow_same (e_all es x) vars env env' l p s r t = flows_same es vars env env' l p s r t
      flow_same (e_forall vs e x) vars env env' l p s r t =
          same_trans _ _ _
          (same_equal _ _ (flat_map-map (put env') (inside vs) (leaves_of e) ∙ flat_over (leaves_of e)))
          (same_trans _ _ _
          (flat_swap (λ p e'. put e' p) (leaves_of e) (environments c' vs env'))
          (same_trans _ _ _
          (quantified_kept Keeps pvars keep (λ x. map flow (rates_meant c x e)) (λ x. flat_map (put x) (leaves_of e)) vs vars env env' l p s
          (variables-new cd vars vs (left-none (variables_faults cd vars vs) _ t)) r
          (λ x x' u v q. flow_same e (vars ++ bindings_of vs) x x' (λ y h. l y (kind-prefix vars (bindings_of vs) y h)) u v q (right-none (variables_faults cd vars vs) _ t)))
          (same_equal _ _ (sym (map_flat flow (λ x. rates_meant c x e) (environments c vs env))))))
        where
          flat_over : (ps : List Placed) → flat_map (λ p. put env' (inside vs p)) ps ≡ flat_map (λ p. flat_map (λ x. put x p) (environments c' vs env')) ps
          flat_over [] = refl
          flat_over (p ∷ ps) = ap₂ (λ a b. a ++ b) (over_meant c' env' vs (nested p.lists (e_when f (leaf (flow_node Q p.leaf.node) ∷ []) nowhere))) (flat_over ps)
      flow_same (e_when g ls x) vars env env' l p s r t = absurd (let h = left-none (fault_where true RateForm cd.file x) _ t in cc)
      flow_same (e_leaf a x) vars env env' l p s r t = leaf_put vars env env' p s r a.node (rate_of_leaf vars a t) (leaf-write cd vars true a t)

      flows_same : (es : Effects) (vars : List Binding) (env env' : Environment) → ((x : List ℕ) → kind_of vars x ≡ None → kind_of pvars x ≡ None) → Keeps env' → Stands c vars env → AreKept (length c.objects) vars env env'
          → effects_faults cd vars true es ≡ [] → Same (flat_map (put env') (leaves_among es)) (map flow (all_rates_meant c env es))
      flows_same no_effects vars env env' l p s r t = same_refl []
      flows_same (more_effects e es) vars env env' l p s r t =
          same_trans _ _ _ (same_equal _ _ (flat_map-append (put env') (leaves_of e) (leaves_among es)))
          (same_trans _ _ _
          (same_append _ _ _ _ (flow_same e vars env env' l p s r (left-none (effect_faults cd vars true e) _ t)) (flows_same es vars env env' l p s r (right-none (effect_faults cd vars true e) _ t)))
          (same_equal _ _ (sym (map-append flow (rates_meant c env e) (all_rates_meant c env es)))))
