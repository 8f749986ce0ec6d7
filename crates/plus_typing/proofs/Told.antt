-- The faults of the walk are those of the rules that are not met, form by form.
use Rattle.std.proofs.Common.{◌≡◌, ℕ, Bool, true, false, not, cond, ◌||◌, ◌&&◌, List, [], ◌∷◌, ◌++◌, map, filter, length, refl, ap, ap₂, sym, ◌∙◌, append_assoc, append-nil, flat_map, Option, Some, None}
use Rattle.std.specs.Prelude.{is_some, ◌==◌}
use Rattle.std.specs.List.{list_any}
use Rattle.std.proofs.lemmas.List.{map-append}
use Rattle.std.proofs.lemmas.List.Elements.{filter-append}
use Rattle.std.proofs.lemmas.Grind.{flat_map-append}
use Rattle.plus_tokens.specs.declared.span.Span.{Span}
use Rattle.plus_tree.specs.declared.names.Spelled.{Spelled}
use Rattle.plus_tree.specs.declared.terms.Term.{Term}
use Rattle.plus_tree.specs.declared.terms.Term.TheVariants.{Object, Variable}
use Rattle.plus_tree.specs.declared.terms.TypedName.{TypedName}
use Rattle.plus_tree.specs.declared.terms.Use.{Use}
use Rattle.plus_tree.specs.declared.trees.Head.{Head}
use Rattle.plus_tree.specs.declared.trees.Leaf.{Leaf}
use Rattle.plus_tree.specs.declared.trees.LeafNode.{LeafNode}
use Rattle.plus_tree.specs.declared.trees.LeafNode.TheVariants.{Add, Delete, Assign, Increase, Decrease, ScaleUp, ScaleDown}
use Rattle.plus_tree.specs.declared.trees.Schema.{Schema}
use Rattle.plus_tree.specs.declared.trees.Domain.{Domain}
use Rattle.plus_tree.specs.declared.trees.Init.{Init}
use Rattle.plus_tree.specs.declared.trees.Init.TheVariants.{Holds, Absent, Value}
use Rattle.plus_tree.specs.declared.trees.Init.TheVariants as inits
use Rattle.plus_tree.specs.declared.trees.Problem.{Problem}
use Rattle.plus_tree.specs.Expr.{Expr, Exprs, x_number, x_clock, x_fluent, x_sum, x_product, x_minus, x_difference, x_quotient, no_exprs, more_exprs}
use Rattle.plus_tree.specs.Cond.{Cond, Conds, c_all, c_any, c_not, c_imply, c_forall, c_exists, c_atom, c_same, c_compare, no_conds, more_conds}
use Rattle.plus_tree.specs.Effect.{Effect, Effects, e_all, e_forall, e_when, e_leaf, no_effects, more_effects}
use Rattle.plus_types.specs.declared.faults.File.{File}
use Rattle.plus_types.specs.declared.faults.File.TheVariants as files
use Rattle.plus_types.specs.declared.faults.Wrong.{Wrong}
use Rattle.plus_types.specs.declared.faults.Wrong.TheVariants.{UnknownType, UnknownName, Arity, WrongType, Twice, Shadowed, TypeLoop, RateForm, DomainName}
use Rattle.plus_types.specs.declared.faults.TypeFault.{TypeFault}
use Rattle.plus_types.specs.declared.faults.TypeFault.TheVariants.{At}
use Rattle.plus_types.specs.Types.{Binding, is_among, bindings_of, bound_names, is_type, is_above, is_under}
use Rattle.plus_types.specs.Faults.{Context, domain_context, fault_where, listed_faults, types_faults, member_faults, list_faults, twice_faults, head_faults, heads_faults, params_of, term_kind, term_span, term_faults, known_faults, kind_of_faults, argument_faults, arguments_faults, declared_faults, use_faults, expr_faults, exprs_faults, variables_faults, cond_faults, conds_faults, number_faults, write_faults, leaf_faults, leaves_faults, effect_faults, effects_faults, is_rate, schema_faults, schemas_faults, domain_name_faults, ground_name, same_names, init_faults, declaration_faults, rule_faults, state_faults, problem_faults, type_faults}
use Rattle.plus_typing.specs.Forms.{Place, Form, used, side, binds, clock, writes, guards, Found, found, inside, reading, in_expr, in_exprs, in_cond, in_conds, in_amount, in_write, in_leaf, in_effect, in_effects, in_domain, in_problem, in_head, in_schema, in_init}
use Rattle.plus_typing.specs.Asked.{Asked, ask, broken, passes, ask_types, ask_list, unknown, ask_arguments, ask_use, ask_form, ask_forms, ask_each, ask_heads, ask_schemas, ask_declarations, ask_rules, ask_value, ask_init, ask_problem, rules_asked}

-- ---- what is not met

pub broken_append : (xs ys : List Asked) → broken (xs ++ ys) ≡ broken xs ++ broken ys
broken_append xs ys =
    ap (map (λ (q : Asked). At q.wrong q.file q.span)) (filter-append (λ (q : Asked). not q.met) xs ys)
    ∙ map-append (λ (q : Asked). At q.wrong q.file q.span) (filter (λ (q : Asked). not q.met) xs) (filter (λ (q : Asked). not q.met) ys)

broken_both : (xs ys : List Asked) (a b : List TypeFault) → broken xs ≡ a → broken ys ≡ b → broken (xs ++ ys) ≡ a ++ b
broken_both xs ys a b e f = broken_append xs ys ∙ ap₂ (λ c d. c ++ d) e f

-- a rule in front of others
ask_not : (b : Bool) (w : Wrong) (f : File) (s : Span) (qs : List Asked) → broken (ask (not b) w f s ∷ qs) ≡ fault_where b w f s ++ broken qs
ask_not true w f s qs = refl
ask_not false w f s qs = refl

ask_met : (b : Bool) (w : Wrong) (f : File) (s : Span) (qs : List Asked) → broken (ask b w f s ∷ qs) ≡ fault_where (not b) w f s ++ broken qs
ask_met true w f s qs = refl
ask_met false w f s qs = refl

-- ---- lists

listed : (a b : Bool) (s : Span) (qs : List Asked)
    → broken (ask (not a) Twice files.Domain s ∷ ask (a || not b) TypeLoop files.Domain s ∷ qs)
    ≡ cond a (At Twice files.Domain s ∷ []) (fault_where b TypeLoop files.Domain s) ++ broken qs
listed true b s qs = refl
listed false true s qs = refl
listed false false s qs = refl

pub types_told : (types : List Binding) (earlier : List (List ℕ)) (ts : List TypedName) → broken (ask_types types earlier ts) ≡ types_faults types earlier ts
unfolding listed_faults
types_told types earlier [] = refl
types_told types earlier (t ∷ more) =
    listed (is_among earlier t.name.name) (is_above types t.name.name t.name.name) t.name.span (ask_types types (earlier ++ t.name.name ∷ []) more)
    ∙ ap (λ ys. listed_faults types earlier t ++ ys) (types_told types (earlier ++ t.name.name ∷ []) more)

member : (a b k : Bool) (file : File) (s r : Span) (qs : List Asked)
    → broken (ask (not a) Shadowed file s ∷ ask (a || not b) Twice file s ∷ ask k UnknownType file r ∷ qs)
    ≡ (cond a (At Shadowed file s ∷ []) (fault_where b Twice file s) ++ fault_where (not k) UnknownType file r) ++ broken qs
member true b true file s r qs = refl
member true b false file s r qs = refl
member false true true file s r qs = refl
member false true false file s r qs = refl
member false false true file s r qs = refl
member false false false file s r qs = refl

pub list_told : (types : List Binding) (file : File) (outer earlier : List (List ℕ)) (xs : List TypedName) → broken (ask_list types file outer earlier xs) ≡ list_faults types file outer earlier xs
unfolding member_faults
list_told types file outer earlier [] = refl
list_told types file outer earlier (x ∷ xs) =
    member (is_among outer x.name.name) (is_among earlier x.name.name) (is_type types x.kind.name) file x.name.span x.kind.span (ask_list types file outer (earlier ++ x.name.name ∷ []) xs)
    ∙ ap (λ ys. member_faults types file outer earlier x ++ ys) (list_told types file outer (earlier ++ x.name.name ∷ []) xs)

-- ---- uses

known : (file : File) (t : Term) (o : Option (List ℕ)) (qs : List Asked) → broken (ask (is_some o) (unknown t) file (term_span t) ∷ qs) ≡ known_faults file t o ++ broken qs
known file (Object x) None qs = refl
known file (Variable x) None qs = refl
known file t (Some k) qs = refl

of_type : (c : Context) (kind : List ℕ) (t : Term) (o : Option (List ℕ)) (qs : List Asked)
    → broken (ask (is_some o) (unknown t) c.file (term_span t) ∷ ask (passes o (λ k. is_under c.types k kind)) WrongType c.file (term_span t) ∷ qs)
    ≡ kind_of_faults c kind t o ++ broken qs
of_type c kind (Object x) None qs = refl
of_type c kind (Variable x) None qs = refl
of_type c kind t (Some k) qs = ask_met (is_under c.types k kind) WrongType c.file (term_span t) qs

arguments_told : (here : Place) (ps : List TypedName) (ts : List Term) → broken (ask_arguments here ps ts) ≡ arguments_faults here.context here.vars ps ts
arguments_told here ps [] = refl
arguments_told here [] (t ∷ ts) =
    known here.context.file t (term_kind here.context here.vars t) (ask_arguments here [] ts)
    ∙ ap (λ ys. term_faults here.context here.vars t ++ ys) (arguments_told here [] ts)
arguments_told here (p ∷ ps) (t ∷ ts) =
    of_type here.context p.kind.name t (term_kind here.context here.vars t) (ask_arguments here ps ts)
    ∙ ap (λ ys. argument_faults here.context here.vars p.kind.name t ++ ys) (arguments_told here ps ts)

use_told : (here : Place) (u : Use) (o : Option (List TypedName)) → broken (ask_use here u o) ≡ declared_faults here.context here.vars u o
use_told here u None = ap (λ ys. At UnknownName here.context.file u.head.span ∷ ys) (arguments_told here [] u.args)
use_told here u (Some ps) =
    ask_met (length u.args == length ps) Arity here.context.file u.span (ask_arguments here ps u.args)
    ∙ ap (λ ys. fault_where (not (length u.args == length ps)) Arity here.context.file u.span ++ ys) (arguments_told here ps u.args)

-- ---- forms

abbrev pub told : List Found → List TypeFault
told fs = broken (ask_forms fs)

both : (xs ys : List Found) (a b : List TypeFault) → told xs ≡ a → told ys ≡ b → told (xs ++ ys) ≡ a ++ b
both xs ys a b e f = ap broken (flat_map-append (λ (g : Found). ask_form g.place g.form) xs ys) ∙ broken_both (ask_forms xs) (ask_forms ys) a b e f

one : (here : Place) (form : Form) (a : List TypeFault) → broken (ask_form here form) ≡ a → told (found here form) ≡ a
one here form a e = ap broken (append-nil (ask_form here form)) ∙ e

used_told : (here : Place) (heads : List Head) (u : Use) → told (found here (used heads u)) ≡ use_faults here.context here.vars heads u
used_told here heads u = one here (used heads u) (use_faults here.context here.vars heads u) (use_told here u (params_of heads u.head.name))

side_told : (here : Place) (t : Term) → told (found here (side t)) ≡ term_faults here.context here.vars t
side_told here t =
    one here (side t) (term_faults here.context here.vars t)
    (known here.context.file t (term_kind here.context here.vars t) [] ∙ append-nil (term_faults here.context here.vars t))

binds_told : (here : Place) (vs : List TypedName) → told (found here (binds vs)) ≡ variables_faults here.context here.vars vs
binds_told here vs = one here (binds vs) (variables_faults here.context here.vars vs) (list_told here.context.types here.context.file (bound_names here.vars) [] vs)

clock_told : (here : Place) (s : Span) → told (found here (clock s)) ≡ fault_where (not here.flows) RateForm here.context.file s
clock_told here s =
    one here (clock s) (fault_where (not here.flows) RateForm here.context.file s)
    (ask_met here.flows RateForm here.context.file s [] ∙ append-nil (fault_where (not here.flows) RateForm here.context.file s))

guards_told : (here : Place) (s : Span) → told (found here (guards s)) ≡ fault_where here.flows RateForm here.context.file s
guards_told here s =
    one here (guards s) (fault_where here.flows RateForm here.context.file s)
    (ask_not here.flows RateForm here.context.file s [] ∙ append-nil (fault_where here.flows RateForm here.context.file s))

writes_told : (here : Place) (l : Leaf) → told (found here (writes l)) ≡ fault_where (here.flows && not (is_rate l.node)) RateForm here.context.file l.span
writes_told here l = one here (writes l) (fault_where (here.flows && not (is_rate l.node)) RateForm here.context.file l.span) (by here.flows (is_rate l.node))
  where
    by : (a b : Bool) → broken (ask (not a || b) RateForm here.context.file l.span ∷ []) ≡ fault_where (a && not b) RateForm here.context.file l.span
    by true true = refl
    by true false = refl
    by false b = refl

mutual
  expr_told : (here : Place) (e : Expr) → told (in_expr here e) ≡ expr_faults here.context here.vars here.flows e
  expr_told here (x_number n s) = refl
  expr_told here (x_clock s) = clock_told here s
  expr_told here (x_fluent u s) = used_told here here.context.functions u
  expr_told here (x_sum es s) = exprs_told here es
  expr_told here (x_product es s) = exprs_told here es
  expr_told here (x_minus e s) = expr_told here e
  expr_told here (x_difference e f s) = both (in_expr here e) (in_expr here f) _ _ (expr_told here e) (expr_told here f)
  expr_told here (x_quotient e f s) = both (in_expr here e) (in_expr here f) _ _ (expr_told here e) (expr_told here f)

  exprs_told : (here : Place) (es : Exprs) → told (in_exprs here es) ≡ exprs_faults here.context here.vars here.flows es
  exprs_told here no_exprs = refl
  exprs_told here (more_exprs e es) = both (in_expr here e) (in_exprs here es) _ _ (expr_told here e) (exprs_told here es)

mutual
  cond_told : (here : Place) (f : Cond) → here.flows ≡ false → told (in_cond here f) ≡ cond_faults here.context here.vars f
  cond_told here (c_all cs s) h = conds_told here cs h
  cond_told here (c_any cs s) h = conds_told here cs h
  cond_told here (c_not f s) h = cond_told here f h
  cond_told here (c_imply f g s) h = both (in_cond here f) (in_cond here g) _ _ (cond_told here f h) (cond_told here g h)
  cond_told here (c_forall vs f s) h = both (found here (binds vs)) (in_cond (inside here vs) f) _ _ (binds_told here vs) (cond_told (inside here vs) f h)
  cond_told here (c_exists vs f s) h = both (found here (binds vs)) (in_cond (inside here vs) f) _ _ (binds_told here vs) (cond_told (inside here vs) f h)
  cond_told here (c_atom u s) h = used_told here here.context.predicates u
  cond_told here (c_same t u s) h = both (found here (side t)) (found here (side u)) _ _ (side_told here t) (side_told here u)
  cond_told here (c_compare op e f s) h =
      both (in_expr here e) (in_expr here f) _ _ (expr_told here e ∙ ap (λ b. expr_faults here.context here.vars b e) h)
      (expr_told here f ∙ ap (λ b. expr_faults here.context here.vars b f) h)

  conds_told : (here : Place) (fs : Conds) → here.flows ≡ false → told (in_conds here fs) ≡ conds_faults here.context here.vars fs
  conds_told here no_conds h = refl
  conds_told here (more_conds f fs) h = both (in_cond here f) (in_conds here fs) _ _ (cond_told here f h) (conds_told here fs h)

amount_told : (here : Place) (u : Use) (e : Expr) → told (in_amount here u e) ≡ number_faults here.context here.vars here.flows u e
amount_told here u e = both (found here (used here.context.functions u)) (in_expr here e) _ _ (used_told here here.context.functions u) (expr_told here e)

write_told : (here : Place) (n : LeafNode) → told (in_write here n) ≡ write_faults here.context here.vars here.flows n
write_told here (Add u) = used_told here here.context.predicates u
write_told here (Delete u) = used_told here here.context.predicates u
write_told here (Assign u e) = amount_told here u e
write_told here (Increase u e) = amount_told here u e
write_told here (Decrease u e) = amount_told here u e
write_told here (ScaleUp u e) = amount_told here u e
write_told here (ScaleDown u e) = amount_told here u e

leaf_told : (here : Place) (l : Leaf) → told (in_leaf here l) ≡ leaf_faults here.context here.vars here.flows l
unfolding leaf_faults
leaf_told here l = both (found here (writes l)) (in_write here l.node) _ _ (writes_told here l) (write_told here l.node)

leaves_told : (here : Place) (ls : List Leaf) → told (flat_map (in_leaf here) ls) ≡ leaves_faults here.context here.vars here.flows ls
leaves_told here [] = refl
leaves_told here (l ∷ ls) = both (in_leaf here l) (flat_map (in_leaf here) ls) _ _ (leaf_told here l) (leaves_told here ls)

mutual
  effect_told : (here : Place) (e : Effect) → told (in_effect here e) ≡ effect_faults here.context here.vars here.flows e
  effect_told here (e_all es s) = effects_told here es
  effect_told here (e_forall vs e s) = both (found here (binds vs)) (in_effect (inside here vs) e) _ _ (binds_told here vs) (effect_told (inside here vs) e)
  effect_told here (e_when f ls s) =
      both (found here (guards s)) (in_cond (reading here) f ++ flat_map (in_leaf here) ls) _ _ (guards_told here s)
      (both (in_cond (reading here) f) (flat_map (in_leaf here) ls) _ _ (cond_told (reading here) f refl) (leaves_told here ls))
  effect_told here (e_leaf l s) = leaf_told here l

  effects_told : (here : Place) (es : Effects) → told (in_effects here es) ≡ effects_faults here.context here.vars here.flows es
  effects_told here no_effects = refl
  effects_told here (more_effects e es) = both (in_effect here e) (in_effects here es) _ _ (effect_told here e) (effects_told here es)

-- ---- declarations

-- one that is declared once, what stands in it, and the others
each_told : {X : Type 0} (name : X → Spelled) (inner : X → List Found) (earlier : List (List ℕ)) (x : X) (more : List X) (a b : List TypeFault)
    → told (inner x) ≡ a → broken (ask_each name inner (earlier ++ (name x).name ∷ []) more) ≡ b
    → broken (ask_each name inner earlier (x ∷ more)) ≡ (twice_faults earlier (name x) ++ a) ++ b
each_told name inner earlier x more a b e f =
    ask_not (is_among earlier (name x).name) Twice files.Domain (name x).span (ask_forms (inner x) ++ ask_each name inner (earlier ++ (name x).name ∷ []) more)
    ∙ ap (λ ys. twice_faults earlier (name x) ++ ys) (broken_both (ask_forms (inner x)) (ask_each name inner (earlier ++ (name x).name ∷ []) more) a b e f)
    ∙ sym (append_assoc (twice_faults earlier (name x)) a b)

heads_told : (d : Domain) (earlier : List (List ℕ)) (hs : List Head)
    → broken (ask_each (λ (h : Head). h.name) (in_head d) earlier hs) ≡ heads_faults (bindings_of d.types) earlier hs
unfolding head_faults
heads_told d earlier [] = refl
heads_told d earlier (h ∷ more) =
    each_told (λ (h : Head). h.name) (in_head d) earlier h more _ _ (binds_told (in_domain false d) h.params) (heads_told d (earlier ++ h.name.name ∷ []) more)

schema_told : (here : Place) (a : Schema) → told (in_schema here a)
    ≡ variables_faults here.context here.vars a.params
    ++ (cond_faults here.context (here.vars ++ bindings_of a.params) a.condition ++ effect_faults here.context (here.vars ++ bindings_of a.params) here.flows a.effect)
schema_told here a =
    both (found here (binds a.params)) (in_cond (reading (inside here a.params)) a.condition ++ in_effect (inside here a.params) a.effect) _ _ (binds_told here a.params)
    (both (in_cond (reading (inside here a.params)) a.condition) (in_effect (inside here a.params) a.effect) _ _ (cond_told (reading (inside here a.params)) a.condition refl) (effect_told (inside here a.params) a.effect))

schemas_told : (d : Domain) (flows : Bool) (earlier : List (List ℕ)) (ss : List Schema)
    → broken (ask_each (λ (a : Schema). a.name) (in_schema (in_domain flows d)) earlier ss) ≡ schemas_faults (domain_context d) flows earlier ss
unfolding schema_faults
schemas_told d flows earlier [] = refl
schemas_told d flows earlier (a ∷ more) =
    each_told (λ (a : Schema). a.name) (in_schema (in_domain flows d)) earlier a more _ _ (schema_told (in_domain flows d) a) (schemas_told d flows (earlier ++ a.name.name ∷ []) more)

declarations_told : (d : Domain) → broken (ask_declarations d) ≡ declaration_faults d
unfolding declaration_faults
declarations_told d =
    broken_both (ask_types (bindings_of d.types) [] d.types) _ _ _ (types_told (bindings_of d.types) [] d.types)
    (broken_both (ask_list (bindings_of d.types) files.Domain [] [] d.constants) _ _ _ (list_told (bindings_of d.types) files.Domain [] [] d.constants)
    (broken_both (ask_heads d d.predicates) (ask_heads d d.functions) _ _ (heads_told d [] d.predicates) (heads_told d [] d.functions)))

rules_told : (d : Domain) → broken (ask_rules d) ≡ rule_faults d
unfolding rule_faults
rules_told d =
    broken_both (ask_schemas (in_domain false d) d.actions) _ _ _ (schemas_told d false [] d.actions)
    (broken_both (ask_schemas (in_domain true d) d.processes) (ask_schemas (in_domain false d) d.events) _ _ (schemas_told d true [] d.processes) (schemas_told d false [] d.events))

-- ---- the problem

-- a member that gives no fluent a value
no_value : (here : Place) (valued : List (List (List ℕ))) (a b : List TypeFault) (i : List Found) (more : List Init)
    → told i ≡ a → broken (ask_init here valued more) ≡ b → broken (ask_forms i ++ ask_init here (valued ++ []) more) ≡ a ++ b
no_value here valued a b i more e f =
    broken_both (ask_forms i) (ask_init here (valued ++ []) more) a b e (ap (λ vs. broken (ask_init here vs more)) (append-nil valued) ∙ f)

init_told : (here : Place) (valued : List (List (List ℕ))) (is : List Init) → here.vars ≡ [] → broken (ask_init here valued is) ≡ init_faults here.context valued is
init_told here valued [] v = refl
init_told here valued (Holds u ∷ more) v =
    no_value here valued _ _ (in_init here (Holds u)) more (used_told here here.context.predicates u ∙ ap (λ vs. use_faults here.context vs here.context.predicates u) v) (init_told here valued more v)
init_told here valued (Absent u s ∷ more) v =
    no_value here valued _ _ (in_init here (Absent u s)) more (used_told here here.context.predicates u ∙ ap (λ vs. use_faults here.context vs here.context.predicates u) v) (init_told here valued more v)
init_told here valued (inits.At t u s ∷ more) v =
    no_value here valued _ _ (in_init here (inits.At t u s)) more (used_told here here.context.predicates u ∙ ap (λ vs. use_faults here.context vs here.context.predicates u) v) (init_told here valued more v)
init_told here valued (inits.AtNot t u s ∷ more) v =
    no_value here valued _ _ (in_init here (inits.AtNot t u s)) more (used_told here here.context.predicates u ∙ ap (λ vs. use_faults here.context vs here.context.predicates u) v) (init_told here valued more v)
init_told here valued (Value u n s ∷ more) v =
    broken_both (ask_forms (in_init here (Value u n s))) (ask_value here.context.file valued (Value u n s) ++ ask_init here (valued ++ ground_name u ∷ []) more) _ _
    (used_told here here.context.functions u ∙ ap (λ vs. use_faults here.context vs here.context.functions u) v)
    (ask_not (list_any (same_names (ground_name u)) valued) Twice here.context.file s (ask_init here (valued ++ ground_name u ∷ []) more)
    ∙ ap (λ ys. fault_where (list_any (same_names (ground_name u)) valued) Twice here.context.file s ++ ys) (init_told here (valued ++ ground_name u ∷ []) more v))
    ∙ sym (append_assoc (use_faults here.context [] here.context.functions u) (fault_where (list_any (same_names (ground_name u)) valued) Twice here.context.file s) (init_faults here.context (valued ++ ground_name u ∷ []) more))

state_told : (d : Domain) (p : Problem) → broken (ask_init (in_problem d p) [] p.init ++ ask_forms (in_cond (in_problem d p) p.goal)) ≡ state_faults d p
unfolding state_faults
state_told d p = broken_both (ask_init (in_problem d p) [] p.init) _ _ _ (init_told (in_problem d p) [] p.init refl) (cond_told (in_problem d p) p.goal refl)

problem_told : (d : Domain) (p : Problem) → broken (ask_problem d p) ≡ problem_faults d p
unfolding problem_faults
problem_told d p =
    broken_both (ask_list (bindings_of d.types) files.Problem [] (bound_names (bindings_of d.constants)) p.objects) _ _ _ (list_told (bindings_of d.types) files.Problem [] (bound_names (bindings_of d.constants)) p.objects)
    (ask_met _ DomainName files.Problem p.domain.span (ask_init (in_problem d p) [] p.init ++ ask_forms (in_cond (in_problem d p) p.goal))
    ∙ ap (λ ys. domain_name_faults d p ++ ys) (state_told d p))

pub first_broken : (d : Domain) (p : Problem) → type_faults d p ≡ broken (rules_asked d p)
first_broken d p =
    sym (broken_both (ask_declarations d) (ask_rules d ++ ask_problem d p) _ _ (declarations_told d)
    (broken_both (ask_rules d) (ask_problem d p) _ _ (rules_told d) (problem_told d p)))
