-- The renamed forms of an event without faults have none, wherever no new name is in force yet.
use Rattle.std.proofs.Common.{◌≡◌, ℕ, suc, ◌<◌, ◌≤◌, ◌+◌, Bool, true, false, not, cond, List, [], ◌∷◌, ◌++◌, map, length, refl, ap, sym, subst, ◌∙◌, arith, append_assoc, append-nil, Some, None}
use Rattle.std.specs.Str.{bytes_eq}
use Rattle.plus_tree.specs.declared.terms.Term.{Term}
use Rattle.plus_tree.specs.declared.terms.Term.TheVariants.{Object, Variable}
use Rattle.plus_tree.specs.declared.terms.TypedName.{TypedName}
use Rattle.plus_tree.specs.declared.terms.Use.{Use}
use Rattle.plus_tree.specs.declared.trees.Leaf.{Leaf}
use Rattle.plus_tree.specs.declared.trees.LeafNode.{LeafNode}
use Rattle.plus_tree.specs.declared.trees.LeafNode.TheVariants.{Add, Delete, Assign, Increase, Decrease, ScaleUp, ScaleDown}
use Rattle.plus_tree.specs.Expr.{Expr, Exprs, x_number, x_clock, x_fluent, x_sum, x_product, x_minus, x_difference, x_quotient, no_exprs, more_exprs}
use Rattle.plus_tree.specs.Cond.{Cond, Conds, c_all, c_any, c_not, c_imply, c_forall, c_exists, c_atom, c_same, c_compare, no_conds, more_conds}
use Rattle.plus_tree.specs.Effect.{Effect, Effects, e_all, e_forall, e_when, e_leaf, no_effects, more_effects}
use Rattle.plus_types.specs.declared.faults.Wrong.TheVariants.{RateForm}
use Rattle.plus_types.specs.Types.{Binding, bindings_of, is_type, kind_of}
use Rattle.plus_types.specs.Faults.{Context, term_faults, use_faults, expr_faults, exprs_faults, variables_faults, cond_faults, conds_faults, number_faults, write_faults, leaf_faults, leaves_faults, effect_faults, effects_faults}
use Rattle.plus_types.proofs.SoundLemmas.{left-none, right-none}
use Rattle.plus_types.proofs.TypesLemmas.{same-bytes, bytes-self}
use Rattle.plus_translation.specs.Renamed.{Scope, fresh_name, new_name, scope_with, renamed_list, bindings_in, bindings_among, effect_bindings, effects_bindings, renamed_term, renamed_use, renamed_expr, renamed_exprs, renamed_cond, renamed_conds, renamed_node, renamed_leaf, renamed_effect, renamed_effects}
use Rattle.plus_translation.specs.Leaves.{Placed, inside, leaves_of, leaves_among}
use Rattle.plus_translation.proofs.Meant.{kind-last}
use Rattle.plus_translation.proofs.Names.{fresh_apart}
use Rattle.laws_translation.proofs.TypedLemmas.Listed.{both_none, rule_kept, no_rule, kind_kept, kind_behind, ListTyped, variables_from, variables_to}
use Rattle.laws_translation.proofs.TypedLemmas.Wider.{Declares, Moves, AllMove, term_moved, use_moved, EachName, Binds, BindAll}

pub eq_swap : (a b : List ℕ) → bytes_eq a b ≡ false → bytes_eq b a ≡ false
eq_swap a b e = by (bytes_eq b a) refl
  where
    by : (t : Bool) → bytes_eq b a ≡ t → bytes_eq b a ≡ false
    by false f = f
    by true f = absurd (let h : bytes_eq a a ≡ false = ap (bytes_eq a) (sym (same-bytes b a f)) ∙ e in let s = bytes-self a in cc)

-- a variable in force keeps its type under its new name, and names from the k-th on are new
pub record Renaming (i k : ℕ) (vars : List Binding) (scope : Scope) (vars' : List Binding) : Type 0 where
  pub some : (x kind : List ℕ) → kind_of vars x ≡ Some kind → kind_of vars' (new_name scope x) ≡ Some kind
  pub free : (m : ℕ) → k ≤ m → kind_of vars' (fresh_name i m) ≡ None

renaming_more : (i k : ℕ) (vars : List Binding) (scope : Scope) (vars' : List Binding) (x kind : List ℕ) → kind_of vars x ≡ None → Renaming i k vars scope vars'
    → Renaming i (suc k) (vars ++ (x, kind) ∷ []) ((x, fresh_name i k) ∷ scope) (vars' ++ (fresh_name i k, kind) ∷ [])
renaming_more i k vars scope vars' x kind new r = record {
  some = λ y found e. of y found e (bytes_eq y x) refl;
  free = λ m l.
      kind_behind vars' ((fresh_name i k, kind) ∷ []) (fresh_name i m) (r.free m (omega arith))
      ∙ ap (λ b. cond b (Some kind) None) (eq_swap (fresh_name i k) (fresh_name i m) (fresh_apart i k m (omega arith)));
}
  where
    here : (y found : List ℕ) → bytes_eq y x ≡ true → kind_of (vars ++ (x, kind) ∷ []) y ≡ Some found → Some kind ≡ Some found
    here y found h e =
        let n : kind_of vars y ≡ None = ap (kind_of vars) (same-bytes y x h) ∙ new in
        sym (ap (λ b. cond b (Some kind) None) h) ∙ sym (kind_behind vars ((x, kind) ∷ []) y n) ∙ e

    of : (y found : List ℕ) → kind_of (vars ++ (x, kind) ∷ []) y ≡ Some found → (b : Bool) → bytes_eq y x ≡ b → kind_of (vars' ++ (fresh_name i k, kind) ∷ []) (new_name ((x, fresh_name i k) ∷ scope) y) ≡ Some found
    of y found e true h =
        ap (λ b. kind_of (vars' ++ (fresh_name i k, kind) ∷ []) (cond b (fresh_name i k) (new_name scope y))) h
        ∙ kind_behind vars' ((fresh_name i k, kind) ∷ []) (fresh_name i k) (r.free k (omega arith))
        ∙ ap (λ b. cond b (Some kind) None) (bytes-self (fresh_name i k)) ∙ here y found h e
    of y found e false h =
        ap (λ b. kind_of (vars' ++ (fresh_name i k, kind) ∷ []) (cond b (fresh_name i k) (new_name scope y))) h
        ∙ kind_kept vars' ((fresh_name i k, kind) ∷ []) (new_name scope y) found (r.some y found (kind-last vars x kind y found h e))

pub renaming_later : (i k m : ℕ) (vars : List Binding) (scope : Scope) (vars' : List Binding) → k ≤ m → Renaming i k vars scope vars' → Renaming i m vars scope vars'
renaming_later i k m vars scope vars' l r = record { some = r.some; free = λ j h. r.free j (omega arith) }

module _ (c c' : Context) (w : Declares c c') (i : ℕ) where
  pub record ListRenamed (k : ℕ) (vars : List Binding) (scope : Scope) (vars' : List Binding) (vs : List TypedName) : Type 0 where
    pub list : ListTyped c'.types vars' (renamed_list i k vs)
    pub inside : Renaming i (k + length vs) (vars ++ bindings_of vs) (scope_with i k vs scope) (vars' ++ bindings_of (renamed_list i k vs))

  pub list_renamed : (k : ℕ) (vars : List Binding) (scope : Scope) (vars' : List Binding) (vs : List TypedName) → Renaming i k vars scope vars' → ListTyped c.types vars vs → ListRenamed k vars scope vars' vs
  list_renamed k vars scope vars' [] r t =
      let e : k ≡ k + 0 = omega arith in
      record {
        list = tt;
        inside = subst (λ n. Renaming i n (vars ++ []) scope (vars' ++ [])) e
            (subst (λ xs. Renaming i k xs scope (vars' ++ [])) (sym (append-nil vars)) (subst (λ xs. Renaming i k vars scope xs) (sym (append-nil vars')) r));
      }
  list_renamed k vars scope vars' (v ∷ vs) r t =
      let x = v.name.name in
      let kind = v.kind.name in
      let rest = list_renamed (suc k) (vars ++ (x, kind) ∷ []) ((x, fresh_name i k) ∷ scope) (vars' ++ (fresh_name i k, kind) ∷ []) vs (renaming_more i k vars scope vars' x kind t.0 r) t.2 in
      let e : suc k + length vs ≡ k + suc (length vs) = omega arith in
      record {
        list = (r.free k (omega arith), subst (λ ts. is_type ts kind ≡ true) (sym w.types) t.1, rest.list);
        inside = subst (λ n. Renaming i n (vars ++ bindings_of (v ∷ vs)) (scope_with i k (v ∷ vs) scope) (vars' ++ bindings_of (renamed_list i k (v ∷ vs)))) e
            (subst (λ xs. Renaming i (suc k + length vs) xs (scope_with i (suc k) vs ((x, fresh_name i k) ∷ scope)) (vars' ++ bindings_of (renamed_list i k (v ∷ vs)))) (append_assoc vars ((x, kind) ∷ []) (bindings_of vs))
            (subst (λ xs. Renaming i (suc k + length vs) ((vars ++ (x, kind) ∷ []) ++ bindings_of vs) (scope_with i (suc k) vs ((x, fresh_name i k) ∷ scope)) xs) (append_assoc vars' ((fresh_name i k, kind) ∷ []) (bindings_of (renamed_list i (suc k) vs))) rest.inside));
      }

  variables_renamed : (k : ℕ) (vars : List Binding) (scope : Scope) (vars' : List Binding) (vs : List TypedName) → Renaming i k vars scope vars' → variables_faults c vars vs ≡ [] → ListRenamed k vars scope vars' vs
  variables_renamed k vars scope vars' vs r f = list_renamed k vars scope vars' vs r (variables_from c vars vs f)

  module _ (k : ℕ) (vars : List Binding) (scope : Scope) (vars' : List Binding) (r : Renaming i k vars scope vars') where
    term_renamed : (t : Term) → Moves c c' w vars vars' t (renamed_term scope t)
    term_renamed (Object x) kind e = w.objects x.name kind e
    term_renamed (Variable x) kind e = r.some x.name kind e

    terms_renamed : (ts : List Term) → AllMove c c' w vars vars' ts (map (renamed_term scope) ts)
    terms_renamed [] = tt
    terms_renamed (t ∷ ts) = (term_renamed t, terms_renamed ts)

    atom_renamed : (u : Use) → use_faults c vars c.predicates u ≡ [] → use_faults c' vars' c'.predicates (renamed_use scope u) ≡ []
    atom_renamed u f = use_moved c c' w vars vars' c.predicates c'.predicates w.predicates u (renamed_use scope u) refl (terms_renamed u.args) f

    fluent_renamed : (u : Use) → use_faults c vars c.functions u ≡ [] → use_faults c' vars' c'.functions (renamed_use scope u) ≡ []
    fluent_renamed u f = use_moved c c' w vars vars' c.functions c'.functions w.functions u (renamed_use scope u) refl (terms_renamed u.args) f

    mutual
      expr_renamed : (clock : Bool) (e : Expr) → expr_faults c vars clock e ≡ [] → expr_faults c' vars' clock (renamed_expr scope e) ≡ []
      expr_renamed clock (x_number n s) f = refl
      expr_renamed clock (x_clock s) f = no_rule (not clock) RateForm c'.file s (rule_kept (not clock) RateForm c.file s f)
      expr_renamed clock (x_fluent u s) f = fluent_renamed u f
      expr_renamed clock (x_sum es s) f = exprs_renamed clock es f
      expr_renamed clock (x_product es s) f = exprs_renamed clock es f
      expr_renamed clock (x_minus e s) f = expr_renamed clock e f
      expr_renamed clock (x_difference e g s) f =
          both_none (expr_faults c' vars' clock (renamed_expr scope e)) _ (expr_renamed clock e (left-none (expr_faults c vars clock e) _ f)) (expr_renamed clock g (right-none (expr_faults c vars clock e) _ f))
      expr_renamed clock (x_quotient e g s) f =
          both_none (expr_faults c' vars' clock (renamed_expr scope e)) _ (expr_renamed clock e (left-none (expr_faults c vars clock e) _ f)) (expr_renamed clock g (right-none (expr_faults c vars clock e) _ f))

      exprs_renamed : (clock : Bool) (es : Exprs) → exprs_faults c vars clock es ≡ [] → exprs_faults c' vars' clock (renamed_exprs scope es) ≡ []
      exprs_renamed clock no_exprs f = refl
      exprs_renamed clock (more_exprs e es) f =
          both_none (expr_faults c' vars' clock (renamed_expr scope e)) _ (expr_renamed clock e (left-none (expr_faults c vars clock e) _ f)) (exprs_renamed clock es (right-none (expr_faults c vars clock e) _ f))

    number_renamed : (process : Bool) (u : Use) (e : Expr) → number_faults c vars process u e ≡ [] → number_faults c' vars' process (renamed_use scope u) (renamed_expr scope e) ≡ []
    number_renamed process u e f =
        both_none (use_faults c' vars' c'.functions (renamed_use scope u)) _ (fluent_renamed u (left-none (use_faults c vars c.functions u) _ f)) (expr_renamed process e (right-none (use_faults c vars c.functions u) _ f))

    write_renamed : (process : Bool) (x : LeafNode) → write_faults c vars process x ≡ [] → write_faults c' vars' process (renamed_node scope x) ≡ []
    write_renamed process (Add u) f = atom_renamed u f
    write_renamed process (Delete u) f = atom_renamed u f
    write_renamed process (Assign u e) f = number_renamed process u e f
    write_renamed process (Increase u e) f = number_renamed process u e f
    write_renamed process (Decrease u e) f = number_renamed process u e f
    write_renamed process (ScaleUp u e) f = number_renamed process u e f
    write_renamed process (ScaleDown u e) f = number_renamed process u e f

    -- a write that is no rate
    event_leaf_renamed : (l : Leaf) → leaf_faults c vars false l ≡ [] → leaf_faults c' vars' false (renamed_leaf scope l) ≡ []
    unfolding leaf_faults
    event_leaf_renamed l f = write_renamed false l.node f

    event_leaves_renamed : (ls : List Leaf) → leaves_faults c vars false ls ≡ [] → leaves_faults c' vars' false (map (renamed_leaf scope) ls) ≡ []
    event_leaves_renamed [] f = refl
    event_leaves_renamed (l ∷ ls) f =
        both_none (leaf_faults c' vars' false (renamed_leaf scope l)) _ (event_leaf_renamed l (left-none (leaf_faults c vars false l) _ f)) (event_leaves_renamed ls (right-none (leaf_faults c vars false l) _ f))

  mutual
    pub cond_renamed : (k : ℕ) (vars : List Binding) (scope : Scope) (vars' : List Binding) → Renaming i k vars scope vars' → (g : Cond) → cond_faults c vars g ≡ [] → cond_faults c' vars' (renamed_cond i scope k g) ≡ []
    cond_renamed k vars scope vars' r (c_all gs s) f = conds_renamed k vars scope vars' r gs f
    cond_renamed k vars scope vars' r (c_any gs s) f = conds_renamed k vars scope vars' r gs f
    cond_renamed k vars scope vars' r (c_not g s) f = cond_renamed k vars scope vars' r g f
    cond_renamed k vars scope vars' r (c_imply g h s) f =
        both_none (cond_faults c' vars' (renamed_cond i scope k g)) _ (cond_renamed k vars scope vars' r g (left-none (cond_faults c vars g) _ f))
        (cond_renamed (k + bindings_in g) vars scope vars' (renaming_later i k (k + bindings_in g) vars scope vars' (omega arith) r) h (right-none (cond_faults c vars g) _ f))
    cond_renamed k vars scope vars' r (c_forall vs g s) f =
        let b = variables_renamed k vars scope vars' vs r (left-none (variables_faults c vars vs) _ f) in
        both_none (variables_faults c' vars' (renamed_list i k vs)) _ (variables_to c' vars' (renamed_list i k vs) b.list)
        (cond_renamed (k + length vs) (vars ++ bindings_of vs) (scope_with i k vs scope) (vars' ++ bindings_of (renamed_list i k vs)) b.inside g (right-none (variables_faults c vars vs) _ f))
    cond_renamed k vars scope vars' r (c_exists vs g s) f =
        let b = variables_renamed k vars scope vars' vs r (left-none (variables_faults c vars vs) _ f) in
        both_none (variables_faults c' vars' (renamed_list i k vs)) _ (variables_to c' vars' (renamed_list i k vs) b.list)
        (cond_renamed (k + length vs) (vars ++ bindings_of vs) (scope_with i k vs scope) (vars' ++ bindings_of (renamed_list i k vs)) b.inside g (right-none (variables_faults c vars vs) _ f))
    cond_renamed k vars scope vars' r (c_atom u s) f = atom_renamed k vars scope vars' r u f
    cond_renamed k vars scope vars' r (c_same t u s) f =
        both_none (term_faults c' vars' (renamed_term scope t)) _ (term_moved c c' w vars vars' t (renamed_term scope t) (term_renamed k vars scope vars' r t) (left-none (term_faults c vars t) _ f))
        (term_moved c c' w vars vars' u (renamed_term scope u) (term_renamed k vars scope vars' r u) (right-none (term_faults c vars t) _ f))
    cond_renamed k vars scope vars' r (c_compare op e g s) f =
        both_none (expr_faults c' vars' false (renamed_expr scope e)) _ (expr_renamed k vars scope vars' r false e (left-none (expr_faults c vars false e) _ f))
        (expr_renamed k vars scope vars' r false g (right-none (expr_faults c vars false e) _ f))

    pub conds_renamed : (k : ℕ) (vars : List Binding) (scope : Scope) (vars' : List Binding) → Renaming i k vars scope vars' → (gs : Conds) → conds_faults c vars gs ≡ [] → conds_faults c' vars' (renamed_conds i scope k gs) ≡ []
    conds_renamed k vars scope vars' r no_conds f = refl
    conds_renamed k vars scope vars' r (more_conds g gs) f =
        both_none (cond_faults c' vars' (renamed_cond i scope k g)) _ (cond_renamed k vars scope vars' r g (left-none (cond_faults c vars g) _ f))
        (conds_renamed (k + bindings_in g) vars scope vars' (renaming_later i k (k + bindings_in g) vars scope vars' (omega arith) r) gs (right-none (cond_faults c vars g) _ f))

  mutual
    pub effect_renamed : (k : ℕ) (vars : List Binding) (scope : Scope) (vars' : List Binding) → Renaming i k vars scope vars' → (e : Effect) → effect_faults c vars false e ≡ [] → effect_faults c' vars' false (renamed_effect i scope k e) ≡ []
    effect_renamed k vars scope vars' r (e_all es s) f = effects_renamed k vars scope vars' r es f
    effect_renamed k vars scope vars' r (e_forall vs e s) f =
        let b = variables_renamed k vars scope vars' vs r (left-none (variables_faults c vars vs) _ f) in
        both_none (variables_faults c' vars' (renamed_list i k vs)) _ (variables_to c' vars' (renamed_list i k vs) b.list)
        (effect_renamed (k + length vs) (vars ++ bindings_of vs) (scope_with i k vs scope) (vars' ++ bindings_of (renamed_list i k vs)) b.inside e (right-none (variables_faults c vars vs) _ f))
    effect_renamed k vars scope vars' r (e_when g ls s) f =
        both_none (cond_faults c' vars' (renamed_cond i scope k g)) _ (cond_renamed k vars scope vars' r g (left-none (cond_faults c vars g) _ f))
        (event_leaves_renamed k vars scope vars' r ls (right-none (cond_faults c vars g) _ f))
    effect_renamed k vars scope vars' r (e_leaf l s) f = event_leaf_renamed k vars scope vars' r l f

    pub effects_renamed : (k : ℕ) (vars : List Binding) (scope : Scope) (vars' : List Binding) → Renaming i k vars scope vars' → (es : Effects) → effects_faults c vars false es ≡ [] → effects_faults c' vars' false (renamed_effects i scope k es) ≡ []
    effects_renamed k vars scope vars' r no_effects f = refl
    effects_renamed k vars scope vars' r (more_effects e es) f =
        both_none (effect_faults c' vars' false (renamed_effect i scope k e)) _ (effect_renamed k vars scope vars' r e (left-none (effect_faults c vars false e) _ f))
        (effects_renamed (k + effect_bindings e) vars scope vars' (renaming_later i k (k + effect_bindings e) vars scope vars' (omega arith) r) es (right-none (effect_faults c vars false e) _ f))

-- ---- which names the renamed forms bind

-- a new name of event i, from the low-th up to the high-th
pub record IsFresh (i low high : ℕ) (x : List ℕ) : Type 0 where
  pub place : ℕ
  pub above : low ≤ place
  pub below : place < high
  pub name : x ≡ fresh_name i place

-- of the lists around a write
abbrev pub EachList : (List ℕ → Type 0) → List (List TypedName) → Type 0
EachList P [] = Unit {0}
EachList P (vs ∷ rest) = EachName P vs × EachList P rest

module _ (i low high : ℕ) where
  pub list_names : (k : ℕ) (vs : List TypedName) → low ≤ k → k + length vs ≤ high → EachName (IsFresh i low high) (renamed_list i k vs)
  list_names k [] l h = tt
  list_names k (v ∷ vs) l h = (record { place = k; above = l; below = omega arith; name = refl }, list_names (suc k) vs (omega arith) (omega arith))

  mutual
    pub cond_names : (scope : Scope) (k : ℕ) (g : Cond) → low ≤ k → k + bindings_in g ≤ high → Binds (IsFresh i low high) (renamed_cond i scope k g)
    cond_names scope k (c_all gs s) l h = conds_names scope k gs l h
    cond_names scope k (c_any gs s) l h = conds_names scope k gs l h
    cond_names scope k (c_not g s) l h = cond_names scope k g l h
    cond_names scope k (c_imply g f s) l h = (cond_names scope k g l (omega arith), cond_names scope (k + bindings_in g) f (omega arith) (omega arith))
    cond_names scope k (c_forall vs g s) l h = (list_names k vs l (omega arith), cond_names (scope_with i k vs scope) (k + length vs) g (omega arith) (omega arith))
    cond_names scope k (c_exists vs g s) l h = (list_names k vs l (omega arith), cond_names (scope_with i k vs scope) (k + length vs) g (omega arith) (omega arith))
    cond_names scope k (c_atom u s) l h = tt
    cond_names scope k (c_same t u s) l h = tt
    cond_names scope k (c_compare op e f s) l h = tt

    pub conds_names : (scope : Scope) (k : ℕ) (gs : Conds) → low ≤ k → k + bindings_among gs ≤ high → BindAll (IsFresh i low high) (renamed_conds i scope k gs)
    conds_names scope k no_conds l h = tt
    conds_names scope k (more_conds g gs) l h = (cond_names scope k g l (omega arith), conds_names scope (k + bindings_in g) gs (omega arith) (omega arith))

  abbrev pub FreshPlaced : List Placed → Type 0
  FreshPlaced [] = Unit {0}
  FreshPlaced (p ∷ ps) = EachList (IsFresh i low high) p.lists × FreshPlaced ps

  placed_append : (ps qs : List Placed) → FreshPlaced ps → FreshPlaced qs → FreshPlaced (ps ++ qs)
  placed_append [] qs a b = b
  placed_append (p ∷ ps) qs a b = (a.0, placed_append ps qs a.1 b)

  placed_inside : (vs : List TypedName) (ps : List Placed) → EachName (IsFresh i low high) vs → FreshPlaced ps → FreshPlaced (map (inside vs) ps)
  placed_inside vs [] n a = tt
  placed_inside vs (p ∷ ps) n a = ((n, a.0), placed_inside vs ps n a.1)

  placed_when : (g : Cond) (ls : List Leaf) → FreshPlaced (map (λ (l : Leaf). record { lists = []; guards = g ∷ []; leaf = l }) ls)
  placed_when g [] = tt
  placed_when g (l ∷ ls) = (tt, placed_when g ls)

  mutual
    pub effect_names : (scope : Scope) (k : ℕ) (e : Effect) → low ≤ k → k + effect_bindings e ≤ high → FreshPlaced (leaves_of (renamed_effect i scope k e))
    effect_names scope k (e_all es s) l h = effects_names scope k es l h
    effect_names scope k (e_forall vs e s) l h =
        placed_inside (renamed_list i k vs) (leaves_of (renamed_effect i (scope_with i k vs scope) (k + length vs) e)) (list_names k vs l (omega arith)) (effect_names (scope_with i k vs scope) (k + length vs) e (omega arith) (omega arith))
    effect_names scope k (e_when g ls s) l h = placed_when (renamed_cond i scope k g) (map (renamed_leaf scope) ls)
    effect_names scope k (e_leaf x s) l h = (tt, tt)

    pub effects_names : (scope : Scope) (k : ℕ) (es : Effects) → low ≤ k → k + effects_bindings es ≤ high → FreshPlaced (leaves_among (renamed_effects i scope k es))
    effects_names scope k no_effects l h = tt
    effects_names scope k (more_effects e es) l h =
        placed_append (leaves_of (renamed_effect i scope k e)) (leaves_among (renamed_effects i scope (k + effect_bindings e) es)) (effect_names scope k e l (omega arith)) (effects_names scope (k + effect_bindings e) es (omega arith) (omega arith))
