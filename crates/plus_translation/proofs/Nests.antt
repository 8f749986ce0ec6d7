-- The writes of an event one by one, each in its own nest of lists, come to the same as the event's effect with its
-- condition before each guard.
use Rattle.std.proofs.Common.{◌≡◌, ℕ, suc, ◌≤◌, ◌+◌, Bool, true, false, cond, ◌&&◌, ◌||◌, List, [], ◌∷◌, ◌++◌, map, length, refl, ap, ap₂, sym, subst, ◌∙◌, arith, append_assoc, append-nil, flat_map, All}
use Rattle.std.proofs.lemmas.List.Elements.{All-head, All-tail}
use Rattle.std.proofs.lemmas.List.{map-append}
use Rattle.std.proofs.lemmas.List.Folds.{flat_map-map}
use Rattle.std.proofs.lemmas.Grind.{flat_map-append}
use Rattle.plus_model.specs.Terms.{Condition, Always, Both, Effect, Event, State, Write}
use Rattle.plus_model.specs.Value.{holds}
use Rattle.plus_model.specs.Joint.{Stays, change_of}
use Rattle.std.specs.Str.{bytes_eq}
use Rattle.plus_tree.specs.declared.terms.TypedName.{TypedName}
use Rattle.plus_tree.specs.declared.trees.Leaf.{Leaf}
use Rattle.plus_tree.specs.Cond.{Cond}
use Rattle.plus_tree.specs.Effect as effects
use Rattle.plus_tree.specs.Effect.{Effects, e_all, e_forall, e_when, e_leaf, no_effects, more_effects}
use Rattle.plus_types.specs.Types.{Binding, bindings_of}
use Rattle.plus_types.specs.Faults.{Context, variables_faults, cond_faults, leaf_faults, leaves_faults, effect_faults, effects_faults}
use Rattle.plus_types.proofs.SoundLemmas.{left-none, right-none}
use Rattle.plus_expansion.specs.Objects.{members_of}
use Rattle.plus_expansion.specs.Environments.{Environment, environments, bound_object}
use Rattle.plus_expansion.specs.Expansion.{condition_meant, write_meant, leaf_meant, effects_meant, all_effects_meant}
use Rattle.plus_expansion.proofs.Members.{Stands, AreNew, is_member, stands-more, variables-new}
use Rattle.plus_expansion.proofs.Effects.{leaf-write}
use Rattle.plus_steps.specs.Translation.{whenever, fires_with}
use Rattle.plus_steps.proofs.Tally.{gained, lost, wrote, fine, when, change_gains, change_loses, change_written, change_fine, both_written}
use Rattle.plus_steps.proofs.Same.{Same, same_refl, same_equal, same_trans, same_append, flat_swap}
use Rattle.plus_translation.specs.Renamed.{nowhere, Scope, fresh_name, new_name, scope_with, renamed_list, effect_bindings, renamed_leaf, renamed_cond, renamed_effect, renamed_effects}
use Rattle.plus_translation.specs.Leaves.{over_effect, nested, Placed, inside, leaves_of, leaves_among}
use Rattle.plus_translation.specs.Translated.{event_guard}
use Rattle.plus_translation.proofs.Numbers.{members_same}
use Rattle.plus_translation.proofs.Names.{fresh_apart}
use Rattle.plus_translation.proofs.Meant.{bound-last, flat_flat, all-members, Contexts, AreRenamed, renamed-more, renamed-later, condition_same, write_same}

-- a list around an effect, also where it is empty
pub over_meant : (c : Context) (env : Environment) (vs : List TypedName) (e : effects.Effect) → effects_meant c env (over_effect vs e) ≡ flat_map (λ x. effects_meant c x e) (environments c vs env)
over_meant c env [] e = sym (append-nil (effects_meant c env e))
over_meant c env (v ∷ vs) e = refl

-- a guard is told by its truth
pub same_guard : (g h : Condition) (w : Write) → ((t : State) → holds g t ≡ holds h t) → Same (whenever g w ∷ []) (whenever h w ∷ [])
unfolding gained lost wrote fine
same_guard g h w e = record {
  fine_is = λ t. ap (λ b. when b (change_fine (change_of w t)) true && true) (e t);
  gained_is = λ a t. ap (λ b. when b (change_gains a (change_of w t)) false || false) (e t);
  lost_is = λ a t. ap (λ b. when b (change_loses a (change_of w t)) false || false) (e t);
  wrote_is = λ f t. ap (λ b. both_written (when b (change_written f (change_of w t)) Stays) Stays) (e t);
}

pub same_flat_all : {X : Type 0} (P : X → Type 0) (f g : X → List Effect) (xs : List X) → All P xs → ((x : X) → P x → Same (f x) (g x)) → Same (flat_map f xs) (flat_map g xs)
same_flat_all P f g [] a h = same_refl []
same_flat_all P f g (x ∷ xs) a h = same_append (f x) (g x) (flat_map f xs) (flat_map g xs) (h x (All-head P x xs a)) (same_flat_all P f g xs (All-tail P x xs a) h)

pub map_flat : {X Y Z : Type 0} (f : Y → Z) (g : X → List Y) (xs : List X) → map f (flat_map g xs) ≡ flat_map (λ x. map f (g x)) xs
map_flat f g [] = refl
map_flat f g (x ∷ xs) = map-append f (g x) (flat_map g xs) ∙ ap (λ ys. map f (g x) ++ ys) (map_flat f g xs)

and_true : (x : Bool) → x ≡ x && true
and_true true = refl
and_true false = refl

module _ (cd c c' : Context) (w : Contexts cd c c') (i : ℕ) where
  -- for each choice of objects for a list, in both, with a property that further new variables keep
  pub quantified_alike : (Keeps : Environment → Type 0) (from : ℕ) → ((e' : Environment) (m o : ℕ) → from ≤ m → Keeps e' → Keeps (e' ++ (fresh_name i m, o) ∷ []))
      → (g g' : Environment → List Effect) (vs : List TypedName) (k : ℕ) (vars : List Binding) (scope : Scope) (env env' : Environment) → from ≤ k → Keeps env' → Stands c vars env → AreNew vars vs → AreRenamed i k (length c.objects) vars scope env env'
      → ((e e' : Environment) → Keeps e' → Stands c (vars ++ bindings_of vs) e → AreRenamed i (k + length vs) (length c.objects) (vars ++ bindings_of vs) (scope_with i k vs scope) e e' → Same (g' e') (g e))
      → Same (flat_map g' (environments c' (renamed_list i k vs) env')) (flat_map g (environments c vs env))
  quantified_alike Keeps from keep g g' [] k vars scope env env' l p s n r each =
      let k0 : k ≡ k + 0 = omega arith in
      let here : Same (g' env') (g env) = each env env' p (subst (λ x. Stands c x env) (sym (append-nil vars)) s)
      (subst (λ x. AreRenamed i (k + 0) (length c.objects) x scope env env') (sym (append-nil vars)) (subst (λ (m : ℕ). AreRenamed i m (length c.objects) vars scope env env') k0 r)) in
      same_append (g' env') (g env) [] [] here (same_refl [])
  quantified_alike Keeps from keep g g' (v ∷ vs) k vars scope env env' l p s n r each =
      same_trans _ _ _
      (same_equal _ _ (flat_flat g' (λ o. environments c' (renamed_list i (suc k) vs) (env' ++ (fresh_name i k, o) ∷ [])) (members_of c' v.kind.name)
      ∙ ap (flat_map (λ o. flat_map g' (environments c' (renamed_list i (suc k) vs) (env' ++ (fresh_name i k, o) ∷ [])))) (members_same c c' w.world v.kind.name)))
      (same_trans _ _ _
      (same_flat_all (λ o. is_member c v.kind.name o ≡ true)
      (λ o. flat_map g' (environments c' (renamed_list i (suc k) vs) (env' ++ (fresh_name i k, o) ∷ [])))
      (λ o. flat_map g (environments c vs (env ++ (v.name.name, o) ∷ []))) (members_of c v.kind.name) (all-members (members_of c v.kind.name))
      (λ o m. quantified_alike Keeps from keep g g' vs (suc k) (vars ++ (v.name.name, v.kind.name) ∷ []) ((v.name.name, fresh_name i k) ∷ scope) (env ++ (v.name.name, o) ∷ []) (env' ++ (fresh_name i k, o) ∷ [])
      (omega arith) (keep env' k o l p)
      (stands-more c vars env v.name.name v.kind.name o s m n.0) n.1
      (renamed-more i k (length c.objects) vars scope env env' r v.name.name v.kind.name o)
      (λ e e' u t q.
      let same = append_assoc vars ((v.name.name, v.kind.name) ∷ []) (bindings_of vs) in
      let long : suc k + length vs ≡ k + suc (length vs) = omega arith in
      each e e' u (subst (λ x. Stands c x e) same t)
      (subst (λ x. AreRenamed i (k + suc (length vs)) (length c.objects) x (scope_with i (suc k) vs ((v.name.name, fresh_name i k) ∷ scope)) e e') same
      (subst (λ (m : ℕ). AreRenamed i m (length c.objects) ((vars ++ (v.name.name, v.kind.name) ∷ []) ++ bindings_of vs) (scope_with i (suc k) vs ((v.name.name, fresh_name i k) ∷ scope)) e e') long q)))))
      (same_equal _ _ (sym (flat_flat g (λ o. environments c vs (env ++ (v.name.name, o) ∷ [])) (members_of c v.kind.name)))))

  -- further new variables hide none of those before them
  renamed-hidden : (k m : ℕ) (vars : List Binding) (scope : Scope) (env env' : Environment) (o : ℕ) → k ≤ m → AreRenamed i k (length c.objects) vars scope env env' → AreRenamed i k (length c.objects) vars scope env (env' ++ (fresh_name i m, o) ∷ [])
  renamed-hidden k m vars scope env env' o l r x kind e =
      let h = r x kind e in
      record {
        place = h.place;
        before = h.before;
        name = h.name;
        same =
            bound-last (length c.objects) env' (fresh_name i m) o (new_name scope x)
            ∙ ap (λ b. cond b o (bound_object (length c.objects) env' (new_name scope x))) (ap (λ y. bytes_eq y (fresh_name i m)) h.name ∙ fresh_apart i h.place m (let b = h.before in omega arith))
            ∙ h.same;
      }

  -- ---- an event's condition, typed in its parameters
  module _ (f : Cond) (pvars : List Binding) (pscope : Scope) (base : Environment) (from : ℕ) (bs : Stands c pvars base) (typed : cond_faults cd pvars f ≡ []) where
    abbrev pub C : Condition
    C = condition_meant c base true f

    abbrev f' : Cond
    f' = renamed_cond i pscope from f

    abbrev pub Keeps : Environment → Type 0
    Keeps e' = AreRenamed i from (length c.objects) pvars pscope base e'

    keep : (e' : Environment) (m o : ℕ) → from ≤ m → Keeps e' → Keeps (e' ++ (fresh_name i m, o) ∷ [])
    keep e' m o l p = renamed-hidden from m pvars pscope base e' o l p

    meaning : (e' : Environment) → Keeps e' → condition_meant c' e' true f' ≡ C
    meaning e' p = condition_same cd c c' w i f pvars pscope base e' from true bs p typed

    abbrev event : Event
    event = record { label = []; condition = C; effects = [] }

    -- the place of a write, in an environment
    abbrev pub put : Environment → Placed → List Effect
    put e' p = effects_meant c' e' (nested p.lists (e_when (event_guard f' p.guards) (p.leaf ∷ []) nowhere))

    leaves_put : (vars : List Binding) (scope : Scope) (env env' : Environment) (k : ℕ) → Keeps env' → Stands c vars env → AreRenamed i k (length c.objects) vars scope env env'
        → (g : Cond) (g' : Cond) → condition_meant c' env' true g' ≡ condition_meant c env true g → (ls : List Leaf) → leaves_faults cd vars false ls ≡ []
        → Same (flat_map (put env') (map (λ l. record { lists = []; guards = g' ∷ []; leaf = l }) (map (renamed_leaf scope) ls))) (map (fires_with event) (map (leaf_meant c env (condition_meant c env true g)) ls))
    leaves_put vars scope env env' k p s r g g' e [] t = same_refl []
    leaves_put vars scope env env' k p s r g g' e (l ∷ ls) t =
        let wr : write_meant c' env' (renamed_leaf scope l).node ≡ write_meant c env l.node = write_same cd c c' w i vars scope env env' k s r l.node (leaf-write cd vars false l (left-none (leaf_faults cd vars false l) _ t)) in
        same_append _ _ _ _
        (same_trans _ _ _ (same_equal _ _ (ap₂ (λ x y. whenever (Both x (Both y Always)) (write_meant c' env' (renamed_leaf scope l).node) ∷ []) (meaning env' p) e ∙ ap (λ x. whenever (Both C (Both (condition_meant c env true g) Always)) x ∷ []) wr))
        (same_guard _ _ (write_meant c env l.node) (λ u. ap (λ x. holds C u && x) (sym (and_true (holds (condition_meant c env true g) u))))))
        (leaves_put vars scope env env' k p s r g g' e ls (right-none (leaf_faults cd vars false l) _ t))

    mutual
      pub nest_same : (e : effects.Effect) (vars : List Binding) (scope : Scope) (env env' : Environment) (k : ℕ) → from ≤ k → Keeps env' → Stands c vars env → AreRenamed i k (length c.objects) vars scope env env'
          → effect_faults cd vars false e ≡ [] → Same (flat_map (put env') (leaves_of (renamed_effect i scope k e))) (map (fires_with event) (effects_meant c env e))
      nest_same (e_all es x) vars scope env env' k l p s r t = nests_same es vars scope env env' k l p s r t
      nest_same (e_forall vs e x) vars scope env env' k l p s r t =
          same_trans _ _ _
          (same_equal _ _ (flat_map-map (put env') (inside (renamed_list i k vs)) (leaves_of (renamed_effect i (scope_with i k vs scope) (k + length vs) e))
          ∙ flat_over (leaves_of (renamed_effect i (scope_with i k vs scope) (k + length vs) e))))
          (same_trans _ _ _
          (flat_swap (λ p e'. put e' p) (leaves_of (renamed_effect i (scope_with i k vs scope) (k + length vs) e)) (environments c' (renamed_list i k vs) env'))
          (same_trans _ _ _
          (quantified_alike Keeps from keep (λ x. map (fires_with event) (effects_meant c x e)) (λ x. flat_map (put x) (leaves_of (renamed_effect i (scope_with i k vs scope) (k + length vs) e))) vs k vars scope env env' l p s
          (variables-new cd vars vs (left-none (variables_faults cd vars vs) _ t)) r
          (λ x x' u v q. nest_same e (vars ++ bindings_of vs) (scope_with i k vs scope) x x' (k + length vs) (omega arith) u v q (right-none (variables_faults cd vars vs) _ t)))
          (same_equal _ _ (sym (map_flat (fires_with event) (λ x. effects_meant c x e) (environments c vs env))))))
        where
          flat_over : (ps : List Placed) → flat_map (λ p. put env' (inside (renamed_list i k vs) p)) ps ≡ flat_map (λ p. flat_map (λ x. put x p) (environments c' (renamed_list i k vs) env')) ps
          flat_over [] = refl
          flat_over (p ∷ ps) = ap₂ (λ a b. a ++ b) (over_meant c' env' (renamed_list i k vs) (nested p.lists (e_when (event_guard f' p.guards) (p.leaf ∷ []) nowhere))) (flat_over ps)
      nest_same (e_when g ls x) vars scope env env' k l p s r t =
          leaves_put vars scope env env' k p s r g (renamed_cond i scope k g) (condition_same cd c c' w i g vars scope env env' k true s r (left-none (cond_faults cd vars g) _ t)) ls (right-none (cond_faults cd vars g) _ t)
      nest_same (e_leaf a x) vars scope env env' k l p s r t =
          let wr : write_meant c' env' (renamed_leaf scope a).node ≡ write_meant c env a.node = write_same cd c c' w i vars scope env env' k s r a.node (leaf-write cd vars false a t) in
          same_trans _ _ _ (same_equal _ _ (ap₂ (λ x y. whenever x y ∷ []) (meaning env' p) wr)) (same_guard C (Both C Always) (write_meant c env a.node) (λ u. and_true (holds C u)))

      nests_same : (es : Effects) (vars : List Binding) (scope : Scope) (env env' : Environment) (k : ℕ) → from ≤ k → Keeps env' → Stands c vars env → AreRenamed i k (length c.objects) vars scope env env'
          → effects_faults cd vars false es ≡ [] → Same (flat_map (put env') (leaves_among (renamed_effects i scope k es))) (map (fires_with event) (all_effects_meant c env es))
      nests_same no_effects vars scope env env' k l p s r t = same_refl []
      nests_same (more_effects e es) vars scope env env' k l p s r t =
          same_trans _ _ _ (same_equal _ _ (flat_map-append (put env') (leaves_of (renamed_effect i scope k e)) (leaves_among (renamed_effects i scope (k + effect_bindings e) es))))
          (same_trans _ _ _
          (same_append _ _ _ _ (nest_same e vars scope env env' k l p s r (left-none (effect_faults cd vars false e) _ t))
          (nests_same es vars scope env env' (k + effect_bindings e) (omega arith) p s (renamed-later i k (k + effect_bindings e) (length c.objects) vars scope env env' (omega arith) r) (right-none (effect_faults cd vars false e) _ t)))
          (same_equal _ _ (sym (map-append (fires_with event) (effects_meant c env e) (all_effects_meant c env es)))))
