-- Trees that are equal but for spans have one canonical text.
use Rattle.std.proofs.Common.{◌≡◌, ℕ, List, [], ◌∷◌, ◌++◌, refl, sym, ap, ◌∙◌}
use Rattle.std.specs.Prelude.{map, codes}
use Rattle.plus_tree.specs.declared.names.Spelled.{Spelled}
use Rattle.plus_tree.specs.declared.terms.Term.{Term}
use Rattle.plus_tree.specs.declared.terms.Term.TheVariants.{Object, Variable}
use Rattle.plus_tree.specs.declared.terms.TypedName.{TypedName}
use Rattle.plus_tree.specs.declared.terms.Use.{Use}
use Rattle.plus_tree.specs.declared.terms.Literal.{Literal}
use Rattle.plus_tree.specs.declared.trees.Leaf.{Leaf}
use Rattle.plus_tree.specs.declared.trees.LeafNode.{LeafNode}
use Rattle.plus_tree.specs.declared.trees.LeafNode.TheVariants.{Add, Delete, Assign, Increase, Decrease, ScaleUp, ScaleDown}
use Rattle.plus_tree.specs.declared.trees.Head.{Head}
use Rattle.plus_tree.specs.declared.trees.Schema.{Schema}
use Rattle.plus_tree.specs.declared.trees.Domain.{Domain}
use Rattle.plus_tree.specs.declared.trees.Init.{Init}
use Rattle.plus_tree.specs.declared.trees.Init.TheVariants.{Holds, Absent, Value, At, AtNot}
use Rattle.plus_tree.specs.declared.trees.Problem.{Problem}
use Rattle.plus_tree.specs.Expr.{Expr, Exprs, x_number, x_clock, x_fluent, x_sum, x_product, x_minus, x_difference, x_quotient, no_exprs, more_exprs}
use Rattle.plus_tree.specs.Cond.{Cond, Conds, c_all, c_any, c_not, c_imply, c_forall, c_exists, c_atom, c_same, c_compare, no_conds, more_conds}
use Rattle.plus_tree.specs.Effect.{Effect, Effects, e_all, e_forall, e_when, e_leaf, no_effects, more_effects}
use Rattle.plus_printer.specs.Words.{word, spaced, term_text, use_text, typed_text, variable_text, listed, variables_text, literal_text, predicates_opening, functions_opening}
use Rattle.plus_printer.specs.Canon.{expr_text, exprs_text, cond_text, conds_text, write_text, node_text, leaf_text, leaves_text, effect_text, effects_text, section, keyword_text, requirements_text, head_text, keys_text, schema_text, schemas_text, heads_text, declared_text, happening_text, domain_text, init_text, for_text, titled_text, stated_text, problem_text}
use Rattle.plus_canonical.specs.Same.{bare_spelled, bare_term, bare_typed, bare_use, bare_literal, bare_expr, bare_exprs, bare_cond, bare_conds, bare_node, bare_leaf, bare_effect, bare_effects, bare_head, bare_schema, bare_domain, bare_init, bare_problem, SameDomain, SameProblem}

spaced_bare : (X : Type 0) (f : X → List ℕ) (bare : X → X) → ((x : X) → f (bare x) ≡ f x) → (xs : List X) → spaced f (map bare xs) ≡ spaced f xs
spaced_bare X f bare one [] = refl
spaced_bare X f bare one (x ∷ xs) =
    ap (λ l. (word (codes " ") ++ l) ++ spaced f (map bare xs)) (one x) ∙ ap (λ l. (word (codes " ") ++ f x) ++ l) (spaced_bare X f bare one xs)

section_bare : (X : Type 0) (first : List ℕ) (f : X → List ℕ) (bare : X → X) → ((x : X) → f (bare x) ≡ f x) → (xs : List X) → section first f (map bare xs) ≡ section first f xs
unfolding section
section_bare X first f bare one [] = refl
section_bare X first f bare one (x ∷ xs) = ap (λ l. word first ++ (l ++ word (codes ")\n"))) (spaced_bare X f bare one (x ∷ xs))

-- ---- terms, uses and lists

term_bare : (t : Term) → term_text (bare_term t) ≡ term_text t
unfolding term_text
term_bare (Object x) = refl
term_bare (Variable x) = refl

use_bare : (u : Use) → use_text (bare_use u) ≡ use_text u
unfolding use_text
use_bare u = ap (λ l. word (codes "(") ++ (u.head.name ++ (l ++ word (codes ")")))) (spaced_bare Term term_text bare_term term_bare u.args)

typed_bare : (x : TypedName) → typed_text (bare_typed x) ≡ typed_text x
unfolding typed_text
typed_bare x = refl

variable_bare : (x : TypedName) → variable_text (bare_typed x) ≡ variable_text x
unfolding variable_text typed_text
variable_bare x = refl

listed_bare : (vs : List TypedName) → listed (map bare_typed vs) ≡ listed vs
listed_bare [] = refl
listed_bare (v ∷ vs) =
    ap (λ l. l ++ spaced variable_text (map bare_typed vs)) (variable_bare v) ∙ ap (λ l. variable_text v ++ l) (spaced_bare TypedName variable_text bare_typed variable_bare vs)

variables_bare : (vs : List TypedName) → variables_text (map bare_typed vs) ≡ variables_text vs
unfolding variables_text
variables_bare vs = ap (λ l. word (codes "(") ++ (l ++ word (codes ")"))) (listed_bare vs)

literal_bare : (n : Literal) → literal_text (bare_literal n) ≡ literal_text n
unfolding literal_text
literal_bare n = refl

-- ---- expressions and conditions

mutual
  expr_bare : (e : Expr) → expr_text (bare_expr e) ≡ expr_text e
  expr_bare (x_number n s) = literal_bare n
  expr_bare (x_clock s) = refl
  expr_bare (x_fluent u s) = use_bare u
  expr_bare (x_sum es s) = rw (exprs_bare es) refl
  expr_bare (x_product es s) = rw (exprs_bare es) refl
  expr_bare (x_minus e s) = rw (expr_bare e) refl
  expr_bare (x_difference e f s) = rw (expr_bare e, expr_bare f) refl
  expr_bare (x_quotient e f s) = rw (expr_bare e, expr_bare f) refl

  exprs_bare : (es : Exprs) → exprs_text (bare_exprs es) ≡ exprs_text es
  exprs_bare no_exprs = refl
  exprs_bare (more_exprs e es) = rw (expr_bare e, exprs_bare es) refl

mutual
  cond_bare : (c : Cond) → cond_text (bare_cond c) ≡ cond_text c
  cond_bare (c_all cs s) = rw (conds_bare cs) refl
  cond_bare (c_any cs s) = rw (conds_bare cs) refl
  cond_bare (c_not c s) = rw (cond_bare c) refl
  cond_bare (c_imply c d s) = rw (cond_bare c, cond_bare d) refl
  cond_bare (c_forall vs c s) = rw (variables_bare vs, cond_bare c) refl
  cond_bare (c_exists vs c s) = rw (variables_bare vs, cond_bare c) refl
  cond_bare (c_atom u s) = use_bare u
  cond_bare (c_same t u s) = rw (term_bare t, term_bare u) refl
  cond_bare (c_compare op e f s) = rw (expr_bare e, expr_bare f) refl

  conds_bare : (cs : Conds) → conds_text (bare_conds cs) ≡ conds_text cs
  conds_bare no_conds = refl
  conds_bare (more_conds c cs) = rw (cond_bare c, conds_bare cs) refl

-- ---- effects

write_bare : (first : List ℕ) (u : Use) (e : Expr) → write_text first (bare_use u) (bare_expr e) ≡ write_text first u e
unfolding write_text
write_bare first u e = rw (use_bare u, expr_bare e) refl

node_bare : (n : LeafNode) → node_text (bare_node n) ≡ node_text n
node_bare (Add u) = use_bare u
node_bare (Delete u) = rw (use_bare u) refl
node_bare (Assign u e) = write_bare (codes "(assign ") u e
node_bare (Increase u e) = write_bare (codes "(increase ") u e
node_bare (Decrease u e) = write_bare (codes "(decrease ") u e
node_bare (ScaleUp u e) = write_bare (codes "(scale-up ") u e
node_bare (ScaleDown u e) = write_bare (codes "(scale-down ") u e

leaf_bare : (l : Leaf) → leaf_text (bare_leaf l) ≡ leaf_text l
unfolding leaf_text
leaf_bare l = node_bare l.node

leaves_bare : (ls : List Leaf) → leaves_text (map bare_leaf ls) ≡ leaves_text ls
unfolding leaves_text
leaves_bare [] = refl
leaves_bare (l ∷ []) = leaf_bare l
leaves_bare (l ∷ more ∷ ls) = ap (λ t. word (codes "(and") ++ (t ++ word (codes ")"))) (spaced_bare Leaf leaf_text bare_leaf leaf_bare (l ∷ more ∷ ls))

mutual
  effect_bare : (e : Effect) → effect_text (bare_effect e) ≡ effect_text e
  effect_bare (e_all es s) = rw (effects_bare es) refl
  effect_bare (e_forall vs e s) = rw (variables_bare vs, effect_bare e) refl
  effect_bare (e_when c ls s) = rw (cond_bare c, leaves_bare ls) refl
  effect_bare (e_leaf l s) = leaf_bare l

  effects_bare : (es : Effects) → effects_text (bare_effects es) ≡ effects_text es
  effects_bare no_effects = refl
  effects_bare (more_effects e es) = rw (effect_bare e, effects_bare es) refl

-- ---- sections

keyword_bare : (x : Spelled) → keyword_text (bare_spelled x) ≡ keyword_text x
unfolding keyword_text
keyword_bare x = refl

requirements_bare : (xs : List Spelled) → requirements_text (map bare_spelled xs) ≡ requirements_text xs
unfolding requirements_text
requirements_bare [] = refl
requirements_bare (x ∷ xs) = rw (spaced_bare Spelled keyword_text bare_spelled keyword_bare (x ∷ xs)) refl

head_bare : (h : Head) → head_text (bare_head h) ≡ head_text h
unfolding head_text
head_bare h = rw (spaced_bare TypedName variable_text bare_typed variable_bare h.params) refl

keys_bare : (a : Schema) → keys_text (bare_schema a) ≡ keys_text a
unfolding keys_text
keys_bare a = rw (variables_bare a.params, cond_bare a.condition, effect_bare a.effect) refl

schema_bare : (first : List ℕ) (a : Schema) → schema_text first (bare_schema a) ≡ schema_text first a
unfolding schema_text
schema_bare first a = rw (keys_bare a) refl

schemas_bare : (first : List ℕ) (xs : List Schema) → schemas_text first (map bare_schema xs) ≡ schemas_text first xs
schemas_bare first [] = refl
schemas_bare first (a ∷ xs) = rw (schema_bare first a, schemas_bare first xs) refl

-- ---- the whole

heads_bare : (d : Domain) → heads_text (bare_domain d) ≡ heads_text d
unfolding heads_text
heads_bare d = rw (section_bare Head predicates_opening head_text bare_head head_bare d.predicates, section_bare Head functions_opening head_text bare_head head_bare d.functions) refl

declared_bare : (d : Domain) → declared_text (bare_domain d) ≡ declared_text d
unfolding declared_text
declared_bare d = rw (requirements_bare d.requirements, section_bare TypedName (codes " (:types") typed_text bare_typed typed_bare d.types, section_bare TypedName (codes " (:constants") typed_text bare_typed typed_bare d.constants, heads_bare d) refl

happening_bare : (d : Domain) → happening_text (bare_domain d) ≡ happening_text d
unfolding happening_text
happening_bare d = rw (schemas_bare (codes " (:action ") d.actions, schemas_bare (codes " (:process ") d.processes, schemas_bare (codes " (:event ") d.events) refl

domain_bare : (d : Domain) → domain_text (bare_domain d) ≡ domain_text d
unfolding domain_text
domain_bare d = rw (declared_bare d, happening_bare d) refl

pub one_domain_text : (d e : Domain) → SameDomain d e → domain_text d ≡ domain_text e
one_domain_text d e same = sym (domain_bare d) ∙ ap domain_text same ∙ domain_bare e

init_bare : (x : Init) → init_text (bare_init x) ≡ init_text x
init_bare (Holds u) = use_bare u
init_bare (Absent u s) = rw (use_bare u) refl
init_bare (Value u n s) = rw (use_bare u, literal_bare n) refl
init_bare (At t u s) = rw (use_bare u, literal_bare t) refl
init_bare (AtNot t u s) = rw (use_bare u, literal_bare t) refl

titled_bare : (p : Problem) → titled_text (bare_problem p) ≡ titled_text p
unfolding titled_text for_text
titled_bare p = refl

stated_bare : (p : Problem) → stated_text (bare_problem p) ≡ stated_text p
unfolding stated_text
stated_bare p = rw (spaced_bare Init init_text bare_init init_bare p.init, cond_bare p.goal) refl

problem_bare : (p : Problem) → problem_text (bare_problem p) ≡ problem_text p
unfolding problem_text
problem_bare p = rw (titled_bare p, requirements_bare p.requirements, section_bare TypedName (codes " (:objects") typed_text bare_typed typed_bare p.objects, stated_bare p) refl

pub one_problem_text : (p q : Problem) → SameProblem p q → problem_text p ≡ problem_text q
one_problem_text p q same = sym (problem_bare p) ∙ ap problem_text same ∙ problem_bare q
