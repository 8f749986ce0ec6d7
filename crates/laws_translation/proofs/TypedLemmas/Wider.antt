-- Forms without faults have none where more is declared, and more variables are in force that they do not bind.
use Rattle.std.proofs.Common.{◌≡◌, ℕ, Bool, true, false, not, cond, ◌&&◌, List, [], ◌∷◌, ◌++◌, length, suc, refl, ap, sym, subst, ◌∙◌, append_assoc, append-nil, Option, Some, None}
use Rattle.std.specs.Prelude.{◌==◌}
use Rattle.std.specs.Str.{bytes_eq}
use Rattle.plus_tree.specs.declared.terms.Term.{Term}
use Rattle.plus_tree.specs.declared.terms.Term.TheVariants.{Object, Variable}
use Rattle.plus_tree.specs.declared.terms.TypedName.{TypedName}
use Rattle.plus_tree.specs.declared.terms.Use.{Use}
use Rattle.plus_tree.specs.declared.trees.Head.{Head}
use Rattle.plus_tree.specs.declared.trees.Leaf.{Leaf}
use Rattle.plus_tree.specs.declared.trees.LeafNode.{LeafNode}
use Rattle.plus_tree.specs.declared.trees.LeafNode.TheVariants.{Add, Delete, Assign, Increase, Decrease, ScaleUp, ScaleDown}
use Rattle.plus_tree.specs.Expr.{Expr, Exprs, x_number, x_clock, x_fluent, x_sum, x_product, x_minus, x_difference, x_quotient, no_exprs, more_exprs}
use Rattle.plus_tree.specs.Cond.{Cond, Conds, c_all, c_any, c_not, c_imply, c_forall, c_exists, c_atom, c_same, c_compare, no_conds, more_conds}
use Rattle.plus_tree.specs.Effect.{Effect, Effects, e_all, e_forall, e_when, e_leaf, no_effects, more_effects}
use Rattle.plus_types.specs.declared.faults.Wrong.TheVariants.{WrongType, Arity, RateForm}
use Rattle.plus_types.specs.Types.{Binding, bindings_of, is_among, is_type, is_under, kind_of}
use Rattle.plus_types.specs.Faults.{Context, fault_where, params_of, term_span, term_kind, term_faults, known_faults, kind_of_faults, argument_faults, arguments_faults, declared_faults, use_faults, expr_faults, exprs_faults, variables_faults, cond_faults, conds_faults, number_faults, write_faults, leaf_faults, leaves_faults, effect_faults, effects_faults, is_rate}
use Rattle.plus_types.proofs.SoundLemmas.{left-none, right-none}
use Rattle.plus_types.proofs.TypesLemmas.{same-bytes}
use Rattle.laws_translation.proofs.TypedLemmas.Listed.{both_none, rule_kept, no_rule, kind_kept, kind_behind, none_before, none_behind, ListTyped, variables_from, variables_to}

-- the second context declares at least what the first does
pub record Declares (c c' : Context) : Type 0 where
  pub types : c'.types ≡ c.types
  pub objects : (x kind : List ℕ) → kind_of c.objects x ≡ Some kind → kind_of c'.objects x ≡ Some kind
  pub predicates : (x : List ℕ) (params : List TypedName) → params_of c.predicates x ≡ Some params → params_of c'.predicates x ≡ Some params
  pub functions : (x : List ℕ) (params : List TypedName) → params_of c.functions x ≡ Some params → params_of c'.functions x ≡ Some params

module _ (c c' : Context) (w : Declares c c') (vars vars' : List Binding) where
  -- a term that has a type has it as another term there
  abbrev pub Moves : Term → Term → Type 0
  Moves t u = (kind : List ℕ) → term_kind c vars t ≡ Some kind → term_kind c' vars' u ≡ Some kind

  abbrev pub AllMove : List Term → List Term → Type 0
  AllMove [] [] = Unit {0}
  AllMove (t ∷ ts) (u ∷ us) = Moves t u × AllMove ts us
  AllMove _ _ = ⊥

  term_known : (t : Term) → term_faults c vars t ≡ [] → (kind : List ℕ) × (term_kind c vars t ≡ Some kind)
  term_known t f = by (term_kind c vars t) refl f
    where
      by : (o : Option (List ℕ)) → term_kind c vars t ≡ o → known_faults c.file t o ≡ [] → (kind : List ℕ) × (term_kind c vars t ≡ Some kind)
      by None e g = absurd (none t g)
        where
          none : (t : Term) → known_faults c.file t None ≡ [] → ⊥
          none (Object x) g = cc
          none (Variable x) g = cc
      by (Some kind) e g = (kind, e)

  pub term_moved : (t u : Term) → Moves t u → term_faults c vars t ≡ [] → term_faults c' vars' u ≡ []
  term_moved t u m f = let k = term_known t f in ap (known_faults c'.file u) (m k.0 k.1)

  argument_moved : (param : List ℕ) (t u : Term) → Moves t u → argument_faults c vars param t ≡ [] → argument_faults c' vars' param u ≡ []
  argument_moved param t u m f = by (term_kind c vars t) refl f
    where
      by : (o : Option (List ℕ)) → term_kind c vars t ≡ o → kind_of_faults c param t o ≡ [] → argument_faults c' vars' param u ≡ []
      by None e g = absurd (none t g)
        where
          none : (t : Term) → kind_of_faults c param t None ≡ [] → ⊥
          none (Object x) g = cc
          none (Variable x) g = cc
      by (Some kind) e g =
          ap (kind_of_faults c' param u) (m kind e)
          ∙ no_rule (not (is_under c'.types kind param)) WrongType c'.file (term_span u) (ap (λ ts. not (is_under ts kind param)) w.types ∙ rule_kept (not (is_under c.types kind param)) WrongType c.file (term_span t) g)

  arguments_moved : (params : List TypedName) (ts us : List Term) → AllMove ts us → arguments_faults c vars params ts ≡ [] → arguments_faults c' vars' params us ≡ []
  arguments_moved params [] [] m f = refl
  arguments_moved params [] (u ∷ us) m f = absurd m
  arguments_moved params (t ∷ ts) [] m f = absurd m
  arguments_moved [] (t ∷ ts) (u ∷ us) m f =
      both_none (term_faults c' vars' u) _ (term_moved t u m.0 (left-none (term_faults c vars t) _ f)) (arguments_moved [] ts us m.1 (right-none (term_faults c vars t) _ f))
  arguments_moved (p ∷ ps) (t ∷ ts) (u ∷ us) m f =
      both_none (argument_faults c' vars' p.kind.name u) _ (argument_moved p.kind.name t u m.0 (left-none (argument_faults c vars p.kind.name t) _ f))
      (arguments_moved ps ts us m.1 (right-none (argument_faults c vars p.kind.name t) _ f))

  length_moved : (ts us : List Term) → AllMove ts us → length us ≡ length ts
  length_moved [] [] m = refl
  length_moved [] (u ∷ us) m = absurd m
  length_moved (t ∷ ts) [] m = absurd m
  length_moved (t ∷ ts) (u ∷ us) m = ap suc (length_moved ts us m.1)

  pub use_moved : (heads heads' : List Head) → ((x : List ℕ) (params : List TypedName) → params_of heads x ≡ Some params → params_of heads' x ≡ Some params)
      → (u v : Use) → v.head.name ≡ u.head.name → AllMove u.args v.args → use_faults c vars heads u ≡ [] → use_faults c' vars' heads' v ≡ []
  use_moved heads heads' h u v e m f = by (params_of heads u.head.name) refl f
    where
      by : (o : Option (List TypedName)) → params_of heads u.head.name ≡ o → declared_faults c vars u o ≡ [] → use_faults c' vars' heads' v ≡ []
      by None k g = absurd cc
      by (Some params) k g =
          let arity = rule_kept (not (length u.args == length params)) Arity c.file u.span (left-none (fault_where (not (length u.args == length params)) Arity c.file u.span) _ g) in
          ap (declared_faults c' vars' v) (ap (params_of heads') e ∙ h u.head.name params k)
          ∙ both_none (fault_where (not (length v.args == length params)) Arity c'.file v.span) _
          (no_rule (not (length v.args == length params)) Arity c'.file v.span (ap (λ (n : ℕ). not (n == length params)) (length_moved u.args v.args m) ∙ arity))
          (arguments_moved params u.args v.args m (right-none (fault_where (not (length u.args == length params)) Arity c.file u.span) _ g))

-- ---- more variables

-- the second variables have the first, and else no name but these
pub record WiderVars (extra : List (List ℕ)) (vars vars' : List Binding) : Type 0 where
  pub some : (x kind : List ℕ) → kind_of vars x ≡ Some kind → kind_of vars' x ≡ Some kind
  pub none : (x : List ℕ) → kind_of vars x ≡ None → is_among extra x ≡ false → kind_of vars' x ≡ None

pub wider_more : (extra : List (List ℕ)) (vars vars' : List Binding) (x kind : List ℕ) → kind_of vars' x ≡ None → WiderVars extra vars vars' → WiderVars extra (vars ++ (x, kind) ∷ []) (vars' ++ (x, kind) ∷ [])
wider_more extra vars vars' x kind new w = record {
  some = λ y found e. some y found e (kind_of vars y) refl;
  none = λ y e f. kind_behind vars' ((x, kind) ∷ []) y (w.none y (none_before vars ((x, kind) ∷ []) y e) f) ∙ none_behind vars ((x, kind) ∷ []) y e;
}
  where
    last : (y found : List ℕ) → kind_of ((x, kind) ∷ []) y ≡ Some found → kind_of vars' y ≡ None
    last y found e = by (bytes_eq y x) refl e
      where
        by : (b : Bool) → bytes_eq y x ≡ b → cond b (Some kind) None ≡ Some found → kind_of vars' y ≡ None
        by true h g = ap (kind_of vars') (same-bytes y x h) ∙ new
        by false h g = absurd cc

    some : (y found : List ℕ) → kind_of (vars ++ (x, kind) ∷ []) y ≡ Some found → (o : Option (List ℕ)) → kind_of vars y ≡ o → kind_of (vars' ++ (x, kind) ∷ []) y ≡ Some found
    some y found e (Some k) h = let s : Some k ≡ Some found = sym (kind_kept vars ((x, kind) ∷ []) y k h) ∙ e in kind_kept vars' ((x, kind) ∷ []) y found (w.some y found (h ∙ s))
    some y found e None h =
        let l : kind_of ((x, kind) ∷ []) y ≡ Some found = sym (kind_behind vars ((x, kind) ∷ []) y h) ∙ e in
        kind_behind vars' ((x, kind) ∷ []) y (last y found l) ∙ l

-- names that satisfy a rule, of a list and of what a condition binds
abbrev pub EachName : (List ℕ → Type 0) → List TypedName → Type 0
EachName P [] = Unit {0}
EachName P (v ∷ vs) = P v.name.name × EachName P vs

abbrev mutual
  pub Binds : (List ℕ → Type 0) → Cond → Type 0
  Binds P (c_all cs s) = BindAll P cs
  Binds P (c_any cs s) = BindAll P cs
  Binds P (c_not c s) = Binds P c
  Binds P (c_imply c d s) = Binds P c × Binds P d
  Binds P (c_forall vs c s) = EachName P vs × Binds P c
  Binds P (c_exists vs c s) = EachName P vs × Binds P c
  Binds P (c_atom u s) = Unit {0}
  Binds P (c_same t u s) = Unit {0}
  Binds P (c_compare op e f s) = Unit {0}

  pub BindAll : (List ℕ → Type 0) → Conds → Type 0
  BindAll P no_conds = Unit {0}
  BindAll P (more_conds c cs) = Binds P c × BindAll P cs

-- any names do
pub list_binds : (P : List ℕ → Type 0) → ((x : List ℕ) → P x) → (vs : List TypedName) → EachName P vs
list_binds P h [] = tt
list_binds P h (v ∷ vs) = (h v.name.name, list_binds P h vs)

mutual
  pub cond_binds : (P : List ℕ → Type 0) → ((x : List ℕ) → P x) → (g : Cond) → Binds P g
  cond_binds P h (c_all gs s) = conds_bind P h gs
  cond_binds P h (c_any gs s) = conds_bind P h gs
  cond_binds P h (c_not g s) = cond_binds P h g
  cond_binds P h (c_imply g f s) = (cond_binds P h g, cond_binds P h f)
  cond_binds P h (c_forall vs g s) = (list_binds P h vs, cond_binds P h g)
  cond_binds P h (c_exists vs g s) = (list_binds P h vs, cond_binds P h g)
  cond_binds P h (c_atom u s) = tt
  cond_binds P h (c_same t u s) = tt
  cond_binds P h (c_compare op e f s) = tt

  pub conds_bind : (P : List ℕ → Type 0) → ((x : List ℕ) → P x) → (gs : Conds) → BindAll P gs
  conds_bind P h no_conds = tt
  conds_bind P h (more_conds g gs) = (cond_binds P h g, conds_bind P h gs)

module _ (c c' : Context) (w : Declares c c') (extra : List (List ℕ)) where
  abbrev pub IsOther : List ℕ → Type 0
  IsOther x = is_among extra x ≡ false

  -- inside a list
  record Both (vars vars' : List Binding) (vs : List TypedName) : Type 0 where
    list : ListTyped c'.types vars' vs
    wider : WiderVars extra (vars ++ bindings_of vs) (vars' ++ bindings_of vs)

  list_wider : (vars vars' : List Binding) (vs : List TypedName) → WiderVars extra vars vars' → EachName IsOther vs → ListTyped c.types vars vs → Both vars vars' vs
  list_wider vars vars' [] v o t = record { list = tt; wider = subst (λ xs. WiderVars extra xs (vars' ++ [])) (sym (append-nil vars)) (subst (λ xs. WiderVars extra vars xs) (sym (append-nil vars')) v) }
  list_wider vars vars' (x ∷ vs) v o t =
      let new : kind_of vars' x.name.name ≡ None = v.none x.name.name t.0 o.0 in
      let rest = list_wider (vars ++ (x.name.name, x.kind.name) ∷ []) (vars' ++ (x.name.name, x.kind.name) ∷ []) vs (wider_more extra vars vars' x.name.name x.kind.name new v) o.1 t.2 in
      record {
        list = (new, subst (λ ts. is_type ts x.kind.name ≡ true) (sym w.types) t.1, rest.list);
        wider = subst (λ xs. WiderVars extra xs (vars' ++ bindings_of (x ∷ vs))) (append_assoc vars ((x.name.name, x.kind.name) ∷ []) (bindings_of vs))
            (subst (λ xs. WiderVars extra ((vars ++ (x.name.name, x.kind.name) ∷ []) ++ bindings_of vs) xs) (append_assoc vars' ((x.name.name, x.kind.name) ∷ []) (bindings_of vs)) rest.wider);
      }

  variables_wider : (vars vars' : List Binding) (vs : List TypedName) → WiderVars extra vars vars' → EachName IsOther vs → variables_faults c vars vs ≡ [] → Both vars vars' vs
  variables_wider vars vars' vs v o f = list_wider vars vars' vs v o (variables_from c vars vs f)

  term_wider : (vars vars' : List Binding) → WiderVars extra vars vars' → (t : Term) → Moves c c' w vars vars' t t
  term_wider vars vars' v (Object x) kind e = w.objects x.name kind e
  term_wider vars vars' v (Variable x) kind e = v.some x.name kind e

  terms_wider : (vars vars' : List Binding) → WiderVars extra vars vars' → (ts : List Term) → AllMove c c' w vars vars' ts ts
  terms_wider vars vars' v [] = tt
  terms_wider vars vars' v (t ∷ ts) = (term_wider vars vars' v t, terms_wider vars vars' v ts)

  pub atom_wider : (vars vars' : List Binding) → WiderVars extra vars vars' → (u : Use) → use_faults c vars c.predicates u ≡ [] → use_faults c' vars' c'.predicates u ≡ []
  atom_wider vars vars' v u f = use_moved c c' w vars vars' c.predicates c'.predicates w.predicates u u refl (terms_wider vars vars' v u.args) f

  pub fluent_wider : (vars vars' : List Binding) → WiderVars extra vars vars' → (u : Use) → use_faults c vars c.functions u ≡ [] → use_faults c' vars' c'.functions u ≡ []
  fluent_wider vars vars' v u f = use_moved c c' w vars vars' c.functions c'.functions w.functions u u refl (terms_wider vars vars' v u.args) f

  mutual
    pub expr_wider : (vars vars' : List Binding) → WiderVars extra vars vars' → (clock : Bool) (e : Expr) → expr_faults c vars clock e ≡ [] → expr_faults c' vars' clock e ≡ []
    expr_wider vars vars' v clock (x_number n s) f = refl
    expr_wider vars vars' v clock (x_clock s) f = no_rule (not clock) RateForm c'.file s (rule_kept (not clock) RateForm c.file s f)
    expr_wider vars vars' v clock (x_fluent u s) f = fluent_wider vars vars' v u f
    expr_wider vars vars' v clock (x_sum es s) f = exprs_wider vars vars' v clock es f
    expr_wider vars vars' v clock (x_product es s) f = exprs_wider vars vars' v clock es f
    expr_wider vars vars' v clock (x_minus e s) f = expr_wider vars vars' v clock e f
    expr_wider vars vars' v clock (x_difference e g s) f =
        both_none (expr_faults c' vars' clock e) _ (expr_wider vars vars' v clock e (left-none (expr_faults c vars clock e) _ f)) (expr_wider vars vars' v clock g (right-none (expr_faults c vars clock e) _ f))
    expr_wider vars vars' v clock (x_quotient e g s) f =
        both_none (expr_faults c' vars' clock e) _ (expr_wider vars vars' v clock e (left-none (expr_faults c vars clock e) _ f)) (expr_wider vars vars' v clock g (right-none (expr_faults c vars clock e) _ f))

    pub exprs_wider : (vars vars' : List Binding) → WiderVars extra vars vars' → (clock : Bool) (es : Exprs) → exprs_faults c vars clock es ≡ [] → exprs_faults c' vars' clock es ≡ []
    exprs_wider vars vars' v clock no_exprs f = refl
    exprs_wider vars vars' v clock (more_exprs e es) f =
        both_none (expr_faults c' vars' clock e) _ (expr_wider vars vars' v clock e (left-none (expr_faults c vars clock e) _ f)) (exprs_wider vars vars' v clock es (right-none (expr_faults c vars clock e) _ f))

  mutual
    pub cond_wider : (vars vars' : List Binding) → WiderVars extra vars vars' → (g : Cond) → Binds IsOther g → cond_faults c vars g ≡ [] → cond_faults c' vars' g ≡ []
    cond_wider vars vars' v (c_all gs s) o f = conds_wider vars vars' v gs o f
    cond_wider vars vars' v (c_any gs s) o f = conds_wider vars vars' v gs o f
    cond_wider vars vars' v (c_not g s) o f = cond_wider vars vars' v g o f
    cond_wider vars vars' v (c_imply g h s) o f =
        both_none (cond_faults c' vars' g) _ (cond_wider vars vars' v g o.0 (left-none (cond_faults c vars g) _ f)) (cond_wider vars vars' v h o.1 (right-none (cond_faults c vars g) _ f))
    cond_wider vars vars' v (c_forall vs g s) o f =
        let b = variables_wider vars vars' vs v o.0 (left-none (variables_faults c vars vs) _ f) in
        both_none (variables_faults c' vars' vs) _ (variables_to c' vars' vs b.list) (cond_wider (vars ++ bindings_of vs) (vars' ++ bindings_of vs) b.wider g o.1 (right-none (variables_faults c vars vs) _ f))
    cond_wider vars vars' v (c_exists vs g s) o f =
        let b = variables_wider vars vars' vs v o.0 (left-none (variables_faults c vars vs) _ f) in
        both_none (variables_faults c' vars' vs) _ (variables_to c' vars' vs b.list) (cond_wider (vars ++ bindings_of vs) (vars' ++ bindings_of vs) b.wider g o.1 (right-none (variables_faults c vars vs) _ f))
    cond_wider vars vars' v (c_atom u s) o f = atom_wider vars vars' v u f
    cond_wider vars vars' v (c_same t u s) o f =
        both_none (term_faults c' vars' t) _ (term_moved c c' w vars vars' t t (term_wider vars vars' v t) (left-none (term_faults c vars t) _ f))
        (term_moved c c' w vars vars' u u (term_wider vars vars' v u) (right-none (term_faults c vars t) _ f))
    cond_wider vars vars' v (c_compare op e g s) o f =
        both_none (expr_faults c' vars' false e) _ (expr_wider vars vars' v false e (left-none (expr_faults c vars false e) _ f)) (expr_wider vars vars' v false g (right-none (expr_faults c vars false e) _ f))

    pub conds_wider : (vars vars' : List Binding) → WiderVars extra vars vars' → (gs : Conds) → BindAll IsOther gs → conds_faults c vars gs ≡ [] → conds_faults c' vars' gs ≡ []
    conds_wider vars vars' v no_conds o f = refl
    conds_wider vars vars' v (more_conds g gs) o f =
        both_none (cond_faults c' vars' g) _ (cond_wider vars vars' v g o.0 (left-none (cond_faults c vars g) _ f)) (conds_wider vars vars' v gs o.1 (right-none (cond_faults c vars g) _ f))

  -- an amount or a write
  number_wider : (vars vars' : List Binding) → WiderVars extra vars vars' → (process : Bool) (u : Use) (e : Expr) → number_faults c vars process u e ≡ [] → number_faults c' vars' process u e ≡ []
  number_wider vars vars' v process u e f =
      both_none (use_faults c' vars' c'.functions u) _ (fluent_wider vars vars' v u (left-none (use_faults c vars c.functions u) _ f)) (expr_wider vars vars' v process e (right-none (use_faults c vars c.functions u) _ f))

  pub write_wider : (vars vars' : List Binding) → WiderVars extra vars vars' → (process : Bool) (x : LeafNode) → write_faults c vars process x ≡ [] → write_faults c' vars' process x ≡ []
  write_wider vars vars' v process (Add u) f = atom_wider vars vars' v u f
  write_wider vars vars' v process (Delete u) f = atom_wider vars vars' v u f
  write_wider vars vars' v process (Assign u e) f = number_wider vars vars' v process u e f
  write_wider vars vars' v process (Increase u e) f = number_wider vars vars' v process u e f
  write_wider vars vars' v process (Decrease u e) f = number_wider vars vars' v process u e f
  write_wider vars vars' v process (ScaleUp u e) f = number_wider vars vars' v process u e f
  write_wider vars vars' v process (ScaleDown u e) f = number_wider vars vars' v process u e f

  pub leaf_wider : (vars vars' : List Binding) → WiderVars extra vars vars' → (process : Bool) (l : Leaf) → leaf_faults c vars process l ≡ [] → leaf_faults c' vars' process l ≡ []
  unfolding leaf_faults
  leaf_wider vars vars' v process l f =
      both_none (fault_where (process && not (is_rate l.node)) RateForm c'.file l.span) _
      (no_rule (process && not (is_rate l.node)) RateForm c'.file l.span (rule_kept (process && not (is_rate l.node)) RateForm c.file l.span (left-none (fault_where (process && not (is_rate l.node)) RateForm c.file l.span) _ f)))
      (write_wider vars vars' v process l.node (right-none (fault_where (process && not (is_rate l.node)) RateForm c.file l.span) _ f))

  leaves_wider : (vars vars' : List Binding) → WiderVars extra vars vars' → (process : Bool) (ls : List Leaf) → leaves_faults c vars process ls ≡ [] → leaves_faults c' vars' process ls ≡ []
  leaves_wider vars vars' v process [] f = refl
  leaves_wider vars vars' v process (l ∷ ls) f =
      both_none (leaf_faults c' vars' process l) _ (leaf_wider vars vars' v process l (left-none (leaf_faults c vars process l) _ f)) (leaves_wider vars vars' v process ls (right-none (leaf_faults c vars process l) _ f))

  -- an effect, where none of these names matters
  mutual
    pub effect_wider : ((x : List ℕ) → IsOther x) → (vars vars' : List Binding) → WiderVars extra vars vars' → (process : Bool) (e : Effect) → effect_faults c vars process e ≡ [] → effect_faults c' vars' process e ≡ []
    effect_wider o vars vars' v process (e_all es s) f = effects_wider o vars vars' v process es f
    effect_wider o vars vars' v process (e_forall vs e s) f =
        let b = variables_wider vars vars' vs v (list_binds IsOther o vs) (left-none (variables_faults c vars vs) _ f) in
        both_none (variables_faults c' vars' vs) _ (variables_to c' vars' vs b.list) (effect_wider o (vars ++ bindings_of vs) (vars' ++ bindings_of vs) b.wider process e (right-none (variables_faults c vars vs) _ f))
    effect_wider o vars vars' v process (e_when g ls s) f =
        let rest = right-none (fault_where process RateForm c.file s) _ f in
        both_none (fault_where process RateForm c'.file s) _ (no_rule process RateForm c'.file s (rule_kept process RateForm c.file s (left-none (fault_where process RateForm c.file s) _ f)))
        (both_none (cond_faults c' vars' g) _ (cond_wider vars vars' v g (cond_binds IsOther o g) (left-none (cond_faults c vars g) _ rest)) (leaves_wider vars vars' v process ls (right-none (cond_faults c vars g) _ rest)))
    effect_wider o vars vars' v process (e_leaf l s) f = leaf_wider vars vars' v process l f

    pub effects_wider : ((x : List ℕ) → IsOther x) → (vars vars' : List Binding) → WiderVars extra vars vars' → (process : Bool) (es : Effects) → effects_faults c vars process es ≡ [] → effects_faults c' vars' process es ≡ []
    effects_wider o vars vars' v process no_effects f = refl
    effects_wider o vars vars' v process (more_effects e es) f =
        both_none (effect_faults c' vars' process e) _ (effect_wider o vars vars' v process e (left-none (effect_faults c vars process e) _ f)) (effects_wider o vars vars' v process es (right-none (effect_faults c vars process e) _ f))
