-- Bare forms have faults where the forms have.
use Rattle.std.proofs.Common.{◌≡◌, ℕ, Bool, true, false, not, cond, ◌&&◌, ◌||◌, List, [], ◌∷◌, ◌++◌, map, length, refl, ap, ap₂, sym, ◌∙◌, Option, Some, None}
use Rattle.std.specs.Prelude.{◌==◌, if◌then◌else◌}
use Rattle.std.specs.List.{list_any}
use Rattle.plus_tokens.specs.declared.span.Span.{Span}
use Rattle.plus_tree.specs.declared.names.Spelled.{Spelled}
use Rattle.plus_tree.specs.declared.terms.Term.{Term}
use Rattle.plus_tree.specs.declared.terms.Term.TheVariants.{Object, Variable}
use Rattle.plus_tree.specs.declared.terms.TypedName.{TypedName}
use Rattle.plus_tree.specs.declared.terms.Use.{Use}
use Rattle.plus_tree.specs.declared.trees.Head.{Head}
use Rattle.plus_tree.specs.declared.trees.Leaf.{Leaf}
use Rattle.plus_tree.specs.declared.trees.LeafNode.{LeafNode}
use Rattle.plus_tree.specs.declared.trees.LeafNode.TheVariants.{Add, Delete, Assign, Increase, Decrease, ScaleUp, ScaleDown}
use Rattle.plus_tree.specs.declared.trees.Schema.{Schema}
use Rattle.plus_tree.specs.declared.trees.Init.{Init}
use Rattle.plus_tree.specs.declared.trees.Init.TheVariants.{Holds, Absent, Value, At, AtNot}
use Rattle.plus_tree.specs.Expr.{Expr, Exprs, x_number, x_clock, x_fluent, x_sum, x_product, x_minus, x_difference, x_quotient, no_exprs, more_exprs}
use Rattle.plus_tree.specs.Cond.{Cond, Conds, c_all, c_any, c_not, c_imply, c_forall, c_exists, c_atom, c_same, c_compare, no_conds, more_conds}
use Rattle.plus_tree.specs.Effect.{Effect, Effects, e_all, e_forall, e_when, e_leaf, no_effects, more_effects}
use Rattle.plus_types.specs.declared.faults.File.{File}
use Rattle.plus_types.specs.declared.faults.File.TheVariants as files
use Rattle.plus_types.specs.declared.faults.Wrong.{Wrong}
use Rattle.plus_types.specs.declared.faults.Wrong.TheVariants.{UnknownType, Arity, WrongType, Twice, Shadowed, TypeLoop, RateForm}
use Rattle.plus_types.specs.declared.faults.TypeFault.{TypeFault}
use Rattle.plus_types.specs.declared.faults.TypeFault.TheVariants.{At as AtFault}
use Rattle.plus_types.specs.Types.{Binding, bindings_of, bound_names, is_among, is_type, is_above, is_under}
use Rattle.plus_types.specs.Faults.{Context, fault_where, listed_faults, types_faults, bound_faults, kind_faults, member_faults, list_faults, twice_faults, head_faults, heads_faults, params_of, term_span, term_kind, known_faults, term_faults, kind_of_faults, argument_faults, arguments_faults, declared_faults, use_faults, expr_faults, exprs_faults, variables_faults, cond_faults, conds_faults, has_clock, have_clock, is_clock, are_clock_and_rate, is_rate_amount, is_rate, number_faults, write_faults, leaf_faults, leaves_faults, effect_faults, effects_faults, schema_faults, schemas_faults, ground_name, same_names, initial_faults, valued_after, init_faults, is_empty}
use Rattle.plus_canonical.specs.Same.{bare_spelled, bare_typed, bare_term, bare_use, bare_expr, bare_exprs, bare_cond, bare_conds, bare_node, bare_leaf, bare_effect, bare_effects, bare_head, bare_schema, bare_init}
use Rattle.laws_translation.proofs.SameLemmas.Bare.{length_bare, bindings_bare, ground_name_bare, bare_params, params_bare}

empty_append : (xs ys : List TypeFault) → is_empty (xs ++ ys) ≡ (is_empty xs && is_empty ys)
empty_append [] ys = refl
empty_append (x ∷ xs) ys = refl

-- two walks find faults where two others do
pub both_empty : (xs ys us vs : List TypeFault) → is_empty xs ≡ is_empty us → is_empty ys ≡ is_empty vs → is_empty (xs ++ ys) ≡ is_empty (us ++ vs)
both_empty xs ys us vs e f = empty_append xs ys ∙ ap₂ (λ a b. a && b) e f ∙ sym (empty_append us vs)

rule_empty : (b : Bool) (w v : Wrong) (f g : File) (s t : Span) → is_empty (fault_where b w f s) ≡ is_empty (fault_where b v g t)
rule_empty true w v f g s t = refl
rule_empty false w v f g s t = refl

pub rules_empty : (a b : Bool) (w : Wrong) (f : File) (s t : Span) → a ≡ b → is_empty (fault_where a w f s) ≡ is_empty (fault_where b w f t)
rules_empty a b w f s t e = ap (λ x. is_empty (fault_where x w f s)) e ∙ rule_empty b w w f f s t

bound_empty : (file : File) (outer earlier : List (List ℕ)) (x : Spelled) → is_empty (bound_faults file outer earlier (bare_spelled x)) ≡ is_empty (bound_faults file outer earlier x)
bound_empty file outer earlier x = by (is_among outer x.name) (is_among earlier x.name)
  where
    by : (a b : Bool) → is_empty (cond a (AtFault Shadowed file (bare_spelled x).span ∷ []) (fault_where b Twice file (bare_spelled x).span)) ≡ is_empty (cond a (AtFault Shadowed file x.span ∷ []) (fault_where b Twice file x.span))
    by true b = refl
    by false true = refl
    by false false = refl

member_empty : (types : List Binding) (file : File) (outer earlier : List (List ℕ)) (x : TypedName) → is_empty (member_faults types file outer earlier (bare_typed x)) ≡ is_empty (member_faults types file outer earlier x)
unfolding member_faults
member_empty types file outer earlier x =
    both_empty (bound_faults file outer earlier (bare_spelled x.name)) (kind_faults types file (bare_spelled x.kind)) (bound_faults file outer earlier x.name) (kind_faults types file x.kind)
    (bound_empty file outer earlier x.name) (rule_empty (not (is_type types x.kind.name)) UnknownType UnknownType file file (bare_spelled x.kind).span x.kind.span)

pub list_empty : (types : List Binding) (file : File) (outer earlier : List (List ℕ)) (xs : List TypedName) → is_empty (list_faults types file outer earlier (map bare_typed xs)) ≡ is_empty (list_faults types file outer earlier xs)
list_empty types file outer earlier [] = refl
list_empty types file outer earlier (x ∷ xs) =
    both_empty (member_faults types file outer earlier (bare_typed x)) (list_faults types file outer (earlier ++ x.name.name ∷ []) (map bare_typed xs)) (member_faults types file outer earlier x) (list_faults types file outer (earlier ++ x.name.name ∷ []) xs)
    (member_empty types file outer earlier x) (list_empty types file outer (earlier ++ x.name.name ∷ []) xs)

listed_empty : (types : List Binding) (earlier : List (List ℕ)) (t : TypedName) → is_empty (listed_faults types earlier (bare_typed t)) ≡ is_empty (listed_faults types earlier t)
unfolding listed_faults
listed_empty types earlier t = by (is_among earlier t.name.name) (is_above types t.name.name t.name.name)
  where
    by : (a b : Bool) → is_empty (if a then AtFault Twice files.Domain (bare_typed t).name.span ∷ [] else fault_where b TypeLoop files.Domain (bare_typed t).name.span) ≡ is_empty (if a then AtFault Twice files.Domain t.name.span ∷ [] else fault_where b TypeLoop files.Domain t.name.span)
    by true b = refl
    by false true = refl
    by false false = refl

pub types_empty : (types : List Binding) (earlier : List (List ℕ)) (ts : List TypedName) → is_empty (types_faults types earlier (map bare_typed ts)) ≡ is_empty (types_faults types earlier ts)
types_empty types earlier [] = refl
types_empty types earlier (t ∷ ts) =
    both_empty (listed_faults types earlier (bare_typed t)) (types_faults types (earlier ++ t.name.name ∷ []) (map bare_typed ts)) (listed_faults types earlier t) (types_faults types (earlier ++ t.name.name ∷ []) ts)
    (listed_empty types earlier t) (types_empty types (earlier ++ t.name.name ∷ []) ts)

head_empty : (types : List Binding) (earlier : List (List ℕ)) (h : Head) → is_empty (head_faults types earlier (bare_head h)) ≡ is_empty (head_faults types earlier h)
unfolding head_faults
head_empty types earlier h =
    both_empty (twice_faults earlier (bare_spelled h.name)) (list_faults types files.Domain [] [] (map bare_typed h.params)) (twice_faults earlier h.name) (list_faults types files.Domain [] [] h.params)
    (rule_empty (is_among earlier h.name.name) Twice Twice files.Domain files.Domain (bare_spelled h.name).span h.name.span) (list_empty types files.Domain [] [] h.params)

pub heads_empty : (types : List Binding) (earlier : List (List ℕ)) (hs : List Head) → is_empty (heads_faults types earlier (map bare_head hs)) ≡ is_empty (heads_faults types earlier hs)
heads_empty types earlier [] = refl
heads_empty types earlier (h ∷ hs) =
    both_empty (head_faults types earlier (bare_head h)) (heads_faults types (earlier ++ h.name.name ∷ []) (map bare_head hs)) (head_faults types earlier h) (heads_faults types (earlier ++ h.name.name ∷ []) hs)
    (head_empty types earlier h) (heads_empty types (earlier ++ h.name.name ∷ []) hs)

-- ---- whether `#t` stands somewhere

mutual
  clock_in_bare : (e : Expr) → has_clock (bare_expr e) ≡ has_clock e
  clock_in_bare (x_number n s) = refl
  clock_in_bare (x_clock s) = refl
  clock_in_bare (x_fluent u s) = refl
  clock_in_bare (x_sum es s) = clocks_in_bare es
  clock_in_bare (x_product es s) = clocks_in_bare es
  clock_in_bare (x_minus e s) = clock_in_bare e
  clock_in_bare (x_difference e f s) = ap₂ (λ a b. a || b) (clock_in_bare e) (clock_in_bare f)
  clock_in_bare (x_quotient e f s) = ap₂ (λ a b. a || b) (clock_in_bare e) (clock_in_bare f)

  clocks_in_bare : (es : Exprs) → have_clock (bare_exprs es) ≡ have_clock es
  clocks_in_bare no_exprs = refl
  clocks_in_bare (more_exprs e es) = ap₂ (λ a b. a || b) (clock_in_bare e) (clocks_in_bare es)

is_clock_bare : (e : Expr) → is_clock (bare_expr e) ≡ is_clock e
is_clock_bare (x_number n s) = refl
is_clock_bare (x_clock s) = refl
is_clock_bare (x_fluent u s) = refl
is_clock_bare (x_sum es s) = refl
is_clock_bare (x_product es s) = refl
is_clock_bare (x_minus e s) = refl
is_clock_bare (x_difference e f s) = refl
is_clock_bare (x_quotient e f s) = refl

clock_and_rate_bare : (es : Exprs) → are_clock_and_rate (bare_exprs es) ≡ are_clock_and_rate es
clock_and_rate_bare no_exprs = refl
clock_and_rate_bare (more_exprs e no_exprs) = refl
clock_and_rate_bare (more_exprs e (more_exprs f no_exprs)) =
    ap₂ (λ a b. a || b) (ap₂ (λ a b. a && not b) (is_clock_bare e) (clock_in_bare f)) (ap₂ (λ a b. a && not b) (is_clock_bare f) (clock_in_bare e))
clock_and_rate_bare (more_exprs e (more_exprs f (more_exprs g es))) = refl

amount_bare : (e : Expr) → is_rate_amount (bare_expr e) ≡ is_rate_amount e
amount_bare (x_number n s) = refl
amount_bare (x_clock s) = refl
amount_bare (x_fluent u s) = refl
amount_bare (x_sum es s) = refl
amount_bare (x_product es s) = clock_and_rate_bare es
amount_bare (x_minus e s) = refl
amount_bare (x_difference e f s) = refl
amount_bare (x_quotient e f s) = refl

rate_bare : (x : LeafNode) → is_rate (bare_node x) ≡ is_rate x
rate_bare (Add u) = refl
rate_bare (Delete u) = refl
rate_bare (Assign u e) = refl
rate_bare (Increase u e) = amount_bare e
rate_bare (Decrease u e) = amount_bare e
rate_bare (ScaleUp u e) = refl
rate_bare (ScaleDown u e) = refl

-- ---- forms

module _ (c : Context) where
  abbrev b : Context
  b = record { types = c.types; objects = c.objects; predicates = map bare_head c.predicates; functions = map bare_head c.functions; file = c.file }

  kind_bare : (vars : List Binding) (t : Term) → term_kind b vars (bare_term t) ≡ term_kind c vars t
  kind_bare vars (Object x) = refl
  kind_bare vars (Variable x) = refl

  known_empty : (t : Term) (o : Option (List ℕ)) → is_empty (known_faults c.file (bare_term t) o) ≡ is_empty (known_faults c.file t o)
  known_empty (Object x) None = refl
  known_empty (Variable x) None = refl
  known_empty t (Some kind) = refl

  pub term_empty : (vars : List Binding) (t : Term) → is_empty (term_faults b vars (bare_term t)) ≡ is_empty (term_faults c vars t)
  term_empty vars t = ap (λ o. is_empty (known_faults c.file (bare_term t) o)) (kind_bare vars t) ∙ known_empty t (term_kind c vars t)

  kind_of_empty : (param : List ℕ) (t : Term) (o : Option (List ℕ)) → is_empty (kind_of_faults b param (bare_term t) o) ≡ is_empty (kind_of_faults c param t o)
  kind_of_empty param (Object x) None = refl
  kind_of_empty param (Variable x) None = refl
  kind_of_empty param t (Some kind) = rule_empty (not (is_under c.types kind param)) WrongType WrongType c.file c.file (term_span (bare_term t)) (term_span t)

  argument_empty : (vars : List Binding) (param : List ℕ) (t : Term) → is_empty (argument_faults b vars param (bare_term t)) ≡ is_empty (argument_faults c vars param t)
  argument_empty vars param t = ap (λ o. is_empty (kind_of_faults b param (bare_term t) o)) (kind_bare vars t) ∙ kind_of_empty param t (term_kind c vars t)

  arguments_empty : (vars : List Binding) (params : List TypedName) (ts : List Term) → is_empty (arguments_faults b vars (map bare_typed params) (map bare_term ts)) ≡ is_empty (arguments_faults c vars params ts)
  arguments_empty vars params [] = by params
    where
      by : (params : List TypedName) → is_empty (arguments_faults b vars (map bare_typed params) []) ≡ is_empty (arguments_faults c vars params [])
      by [] = refl
      by (p ∷ ps) = refl
  arguments_empty vars [] (t ∷ ts) =
      both_empty (term_faults b vars (bare_term t)) (arguments_faults b vars [] (map bare_term ts)) (term_faults c vars t) (arguments_faults c vars [] ts) (term_empty vars t) (arguments_empty vars [] ts)
  arguments_empty vars (p ∷ ps) (t ∷ ts) =
      both_empty (argument_faults b vars p.kind.name (bare_term t)) (arguments_faults b vars (map bare_typed ps) (map bare_term ts)) (argument_faults c vars p.kind.name t) (arguments_faults c vars ps ts)
      (argument_empty vars p.kind.name t) (arguments_empty vars ps ts)

  declared_empty : (vars : List Binding) (u : Use) (o : Option (List TypedName)) → is_empty (declared_faults b vars (bare_use u) (bare_params o)) ≡ is_empty (declared_faults c vars u o)
  declared_empty vars u None = refl
  declared_empty vars u (Some params) =
      both_empty (fault_where (not (length (map bare_term u.args) == length (map bare_typed params))) Arity c.file (bare_use u).span) (arguments_faults b vars (map bare_typed params) (map bare_term u.args))
      (fault_where (not (length u.args == length params)) Arity c.file u.span) (arguments_faults c vars params u.args)
      (rules_empty (not (length (map bare_term u.args) == length (map bare_typed params))) (not (length u.args == length params)) Arity c.file (bare_use u).span u.span
      (ap₂ (λ (m n : ℕ). not (m == n)) (length_bare bare_term u.args) (length_bare bare_typed params)))
      (arguments_empty vars params u.args)

  pub use_empty : (vars : List Binding) (hs : List Head) (u : Use) → is_empty (use_faults b vars (map bare_head hs) (bare_use u)) ≡ is_empty (use_faults c vars hs u)
  use_empty vars hs u = ap (λ o. is_empty (declared_faults b vars (bare_use u) o)) (params_bare hs u.head.name) ∙ declared_empty vars u (params_of hs u.head.name)

  mutual
    expr_empty : (vars : List Binding) (clock : Bool) (e : Expr) → is_empty (expr_faults b vars clock (bare_expr e)) ≡ is_empty (expr_faults c vars clock e)
    expr_empty vars clock (x_number n s) = refl
    expr_empty vars clock (x_clock s) = rule_empty (not clock) RateForm RateForm c.file c.file _ s
    expr_empty vars clock (x_fluent u s) = use_empty vars c.functions u
    expr_empty vars clock (x_sum es s) = exprs_empty vars clock es
    expr_empty vars clock (x_product es s) = exprs_empty vars clock es
    expr_empty vars clock (x_minus e s) = expr_empty vars clock e
    expr_empty vars clock (x_difference e f s) =
        both_empty (expr_faults b vars clock (bare_expr e)) (expr_faults b vars clock (bare_expr f)) (expr_faults c vars clock e) (expr_faults c vars clock f) (expr_empty vars clock e) (expr_empty vars clock f)
    expr_empty vars clock (x_quotient e f s) =
        both_empty (expr_faults b vars clock (bare_expr e)) (expr_faults b vars clock (bare_expr f)) (expr_faults c vars clock e) (expr_faults c vars clock f) (expr_empty vars clock e) (expr_empty vars clock f)

    exprs_empty : (vars : List Binding) (clock : Bool) (es : Exprs) → is_empty (exprs_faults b vars clock (bare_exprs es)) ≡ is_empty (exprs_faults c vars clock es)
    exprs_empty vars clock no_exprs = refl
    exprs_empty vars clock (more_exprs e es) =
        both_empty (expr_faults b vars clock (bare_expr e)) (exprs_faults b vars clock (bare_exprs es)) (expr_faults c vars clock e) (exprs_faults c vars clock es) (expr_empty vars clock e) (exprs_empty vars clock es)

  mutual
    pub cond_empty : (vars : List Binding) (f : Cond) → is_empty (cond_faults b vars (bare_cond f)) ≡ is_empty (cond_faults c vars f)
    cond_empty vars (c_all fs s) = conds_empty vars fs
    cond_empty vars (c_any fs s) = conds_empty vars fs
    cond_empty vars (c_not f s) = cond_empty vars f
    cond_empty vars (c_imply f g s) = both_empty (cond_faults b vars (bare_cond f)) (cond_faults b vars (bare_cond g)) (cond_faults c vars f) (cond_faults c vars g) (cond_empty vars f) (cond_empty vars g)
    cond_empty vars (c_forall vs f s) =
        both_empty (variables_faults b vars (map bare_typed vs)) (cond_faults b (vars ++ bindings_of (map bare_typed vs)) (bare_cond f)) (variables_faults c vars vs) (cond_faults c (vars ++ bindings_of vs) f)
        (list_empty c.types c.file (bound_names vars) [] vs) (ap (λ xs. is_empty (cond_faults b (vars ++ xs) (bare_cond f))) (bindings_bare vs) ∙ cond_empty (vars ++ bindings_of vs) f)
    cond_empty vars (c_exists vs f s) =
        both_empty (variables_faults b vars (map bare_typed vs)) (cond_faults b (vars ++ bindings_of (map bare_typed vs)) (bare_cond f)) (variables_faults c vars vs) (cond_faults c (vars ++ bindings_of vs) f)
        (list_empty c.types c.file (bound_names vars) [] vs) (ap (λ xs. is_empty (cond_faults b (vars ++ xs) (bare_cond f))) (bindings_bare vs) ∙ cond_empty (vars ++ bindings_of vs) f)
    cond_empty vars (c_atom u s) = use_empty vars c.predicates u
    cond_empty vars (c_same t u s) = both_empty (term_faults b vars (bare_term t)) (term_faults b vars (bare_term u)) (term_faults c vars t) (term_faults c vars u) (term_empty vars t) (term_empty vars u)
    cond_empty vars (c_compare op e f s) =
        both_empty (expr_faults b vars false (bare_expr e)) (expr_faults b vars false (bare_expr f)) (expr_faults c vars false e) (expr_faults c vars false f) (expr_empty vars false e) (expr_empty vars false f)

    conds_empty : (vars : List Binding) (fs : Conds) → is_empty (conds_faults b vars (bare_conds fs)) ≡ is_empty (conds_faults c vars fs)
    conds_empty vars no_conds = refl
    conds_empty vars (more_conds f fs) = both_empty (cond_faults b vars (bare_cond f)) (conds_faults b vars (bare_conds fs)) (cond_faults c vars f) (conds_faults c vars fs) (cond_empty vars f) (conds_empty vars fs)

  number_empty : (vars : List Binding) (process : Bool) (u : Use) (e : Expr) → is_empty (number_faults b vars process (bare_use u) (bare_expr e)) ≡ is_empty (number_faults c vars process u e)
  number_empty vars process u e =
      both_empty (use_faults b vars b.functions (bare_use u)) (expr_faults b vars process (bare_expr e)) (use_faults c vars c.functions u) (expr_faults c vars process e) (use_empty vars c.functions u) (expr_empty vars process e)

  write_empty : (vars : List Binding) (process : Bool) (x : LeafNode) → is_empty (write_faults b vars process (bare_node x)) ≡ is_empty (write_faults c vars process x)
  write_empty vars process (Add u) = use_empty vars c.predicates u
  write_empty vars process (Delete u) = use_empty vars c.predicates u
  write_empty vars process (Assign u e) = number_empty vars process u e
  write_empty vars process (Increase u e) = number_empty vars process u e
  write_empty vars process (Decrease u e) = number_empty vars process u e
  write_empty vars process (ScaleUp u e) = number_empty vars process u e
  write_empty vars process (ScaleDown u e) = number_empty vars process u e

  leaf_empty : (vars : List Binding) (process : Bool) (l : Leaf) → is_empty (leaf_faults b vars process (bare_leaf l)) ≡ is_empty (leaf_faults c vars process l)
  unfolding leaf_faults
  leaf_empty vars process l =
      both_empty (fault_where (process && not (is_rate (bare_node l.node))) RateForm c.file (bare_leaf l).span) (write_faults b vars process (bare_node l.node)) (fault_where (process && not (is_rate l.node)) RateForm c.file l.span) (write_faults c vars process l.node)
      (rules_empty (process && not (is_rate (bare_node l.node))) (process && not (is_rate l.node)) RateForm c.file (bare_leaf l).span l.span (ap (λ x. process && not x) (rate_bare l.node))) (write_empty vars process l.node)

  leaves_empty : (vars : List Binding) (process : Bool) (ls : List Leaf) → is_empty (leaves_faults b vars process (map bare_leaf ls)) ≡ is_empty (leaves_faults c vars process ls)
  leaves_empty vars process [] = refl
  leaves_empty vars process (l ∷ ls) =
      both_empty (leaf_faults b vars process (bare_leaf l)) (leaves_faults b vars process (map bare_leaf ls)) (leaf_faults c vars process l) (leaves_faults c vars process ls) (leaf_empty vars process l) (leaves_empty vars process ls)

  mutual
    effect_empty : (vars : List Binding) (process : Bool) (e : Effect) → is_empty (effect_faults b vars process (bare_effect e)) ≡ is_empty (effect_faults c vars process e)
    effect_empty vars process (e_all es s) = effects_empty vars process es
    effect_empty vars process (e_forall vs e s) =
        both_empty (variables_faults b vars (map bare_typed vs)) (effect_faults b (vars ++ bindings_of (map bare_typed vs)) process (bare_effect e)) (variables_faults c vars vs) (effect_faults c (vars ++ bindings_of vs) process e)
        (list_empty c.types c.file (bound_names vars) [] vs) (ap (λ xs. is_empty (effect_faults b (vars ++ xs) process (bare_effect e))) (bindings_bare vs) ∙ effect_empty (vars ++ bindings_of vs) process e)
    effect_empty vars process (e_when f ls s) =
        both_empty (fault_where process RateForm c.file _) (cond_faults b vars (bare_cond f) ++ leaves_faults b vars process (map bare_leaf ls)) (fault_where process RateForm c.file s) (cond_faults c vars f ++ leaves_faults c vars process ls)
        (rule_empty process RateForm RateForm c.file c.file _ s)
        (both_empty (cond_faults b vars (bare_cond f)) (leaves_faults b vars process (map bare_leaf ls)) (cond_faults c vars f) (leaves_faults c vars process ls) (cond_empty vars f) (leaves_empty vars process ls))
    effect_empty vars process (e_leaf l s) = leaf_empty vars process l

    effects_empty : (vars : List Binding) (process : Bool) (es : Effects) → is_empty (effects_faults b vars process (bare_effects es)) ≡ is_empty (effects_faults c vars process es)
    effects_empty vars process no_effects = refl
    effects_empty vars process (more_effects e es) =
        both_empty (effect_faults b vars process (bare_effect e)) (effects_faults b vars process (bare_effects es)) (effect_faults c vars process e) (effects_faults c vars process es) (effect_empty vars process e) (effects_empty vars process es)

  schema_empty : (process : Bool) (earlier : List (List ℕ)) (a : Schema) → is_empty (schema_faults b process earlier (bare_schema a)) ≡ is_empty (schema_faults c process earlier a)
  unfolding schema_faults
  schema_empty process earlier a =
      both_empty (twice_faults earlier (bare_spelled a.name)) _ (twice_faults earlier a.name) _ (rule_empty (is_among earlier a.name.name) Twice Twice files.Domain files.Domain (bare_spelled a.name).span a.name.span)
      (both_empty (variables_faults b [] (map bare_typed a.params)) _ (variables_faults c [] a.params) _ (list_empty c.types c.file [] [] a.params)
      (both_empty (cond_faults b (bindings_of (map bare_typed a.params)) (bare_cond a.condition)) (effect_faults b (bindings_of (map bare_typed a.params)) process (bare_effect a.effect)) (cond_faults c (bindings_of a.params) a.condition) (effect_faults c (bindings_of a.params) process a.effect)
      (ap (λ xs. is_empty (cond_faults b xs (bare_cond a.condition))) (bindings_bare a.params) ∙ cond_empty (bindings_of a.params) a.condition)
      (ap (λ xs. is_empty (effect_faults b xs process (bare_effect a.effect))) (bindings_bare a.params) ∙ effect_empty (bindings_of a.params) process a.effect)))

  pub schemas_empty : (process : Bool) (earlier : List (List ℕ)) (ss : List Schema) → is_empty (schemas_faults b process earlier (map bare_schema ss)) ≡ is_empty (schemas_faults c process earlier ss)
  schemas_empty process earlier [] = refl
  schemas_empty process earlier (a ∷ ss) =
      both_empty (schema_faults b process earlier (bare_schema a)) (schemas_faults b process (earlier ++ a.name.name ∷ []) (map bare_schema ss)) (schema_faults c process earlier a) (schemas_faults c process (earlier ++ a.name.name ∷ []) ss)
      (schema_empty process earlier a) (schemas_empty process (earlier ++ a.name.name ∷ []) ss)

  -- ---- `:init`

  initial_empty : (valued : List (List (List ℕ))) (i : Init) → is_empty (initial_faults b valued (bare_init i)) ≡ is_empty (initial_faults c valued i)
  initial_empty valued (Holds u) = use_empty [] c.predicates u
  initial_empty valued (Absent u s) = use_empty [] c.predicates u
  initial_empty valued (At t u s) = use_empty [] c.predicates u
  initial_empty valued (AtNot t u s) = use_empty [] c.predicates u
  initial_empty valued (Value u n s) =
      both_empty (use_faults b [] b.functions (bare_use u)) (fault_where (list_any (same_names (ground_name (bare_use u))) valued) Twice c.file _) (use_faults c [] c.functions u) (fault_where (list_any (same_names (ground_name u)) valued) Twice c.file s)
      (use_empty [] c.functions u)
      (rules_empty (list_any (same_names (ground_name (bare_use u))) valued) (list_any (same_names (ground_name u)) valued) Twice c.file _ s (ap (λ g. list_any (same_names g) valued) (ground_name_bare u)))

  valued_bare : (valued : List (List (List ℕ))) (i : Init) → valued_after valued (bare_init i) ≡ valued_after valued i
  valued_bare valued (Holds u) = refl
  valued_bare valued (Absent u s) = refl
  valued_bare valued (At t u s) = refl
  valued_bare valued (AtNot t u s) = refl
  valued_bare valued (Value u n s) = ap (λ g. valued ++ g ∷ []) (ground_name_bare u)

  pub init_empty : (valued : List (List (List ℕ))) (is : List Init) → is_empty (init_faults b valued (map bare_init is)) ≡ is_empty (init_faults c valued is)
  init_empty valued [] = refl
  init_empty valued (i ∷ is) =
      both_empty (initial_faults b valued (bare_init i)) (init_faults b (valued_after valued (bare_init i)) (map bare_init is)) (initial_faults c valued i) (init_faults c (valued_after valued i) is)
      (initial_empty valued i) (ap (λ v. is_empty (init_faults b v (map bare_init is))) (valued_bare valued i) ∙ init_empty (valued_after valued i) is)
