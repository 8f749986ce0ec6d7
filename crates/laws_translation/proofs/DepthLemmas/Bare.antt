-- The shape of a tree does not depend on its places.
use Rattle.std.proofs.Common.{◌≡◌, ℕ, ◌-◌, Bool, ◌&&◌, List, [], ◌∷◌, map, refl, sym, ap, ap₂, ◌∙◌}
use Rattle.std.specs.Prelude.{nat_lt}
use Rattle.std.specs.List.{list_all}
use Rattle.plus_tree.specs.declared.trees.Leaf.{Leaf}
use Rattle.plus_tree.specs.declared.trees.LeafNode.{LeafNode}
use Rattle.plus_tree.specs.declared.trees.LeafNode.TheVariants.{Add, Delete, Assign, Increase, Decrease, ScaleUp, ScaleDown}
use Rattle.plus_tree.specs.declared.trees.Schema.{Schema}
use Rattle.plus_tree.specs.declared.trees.Domain.{Domain}
use Rattle.plus_tree.specs.declared.trees.Init.{Init}
use Rattle.plus_tree.specs.declared.trees.Init.TheVariants.{Holds, Absent, Value, At, AtNot}
use Rattle.plus_tree.specs.declared.trees.Problem.{Problem}
use Rattle.plus_tree.specs.Expr.{Expr, Exprs, x_number, x_clock, x_fluent, x_sum, x_product, x_minus, x_difference, x_quotient, no_exprs, more_exprs}
use Rattle.plus_tree.specs.Cond.{Cond, Conds, c_all, c_any, c_not, c_imply, c_forall, c_exists, c_atom, c_same, c_compare, no_conds, more_conds}
use Rattle.plus_tree.specs.Effect.{Effect, Effects, e_all, e_forall, e_when, e_leaf, no_effects, more_effects}
use Rattle.plus_canonical.specs.Same.{bare_expr, bare_exprs, bare_cond, bare_conds, bare_node, bare_leaf, bare_effect, bare_effects, bare_schema, bare_domain, bare_init, bare_problem, SameDomain, SameProblem}
use Rattle.plus_translation.specs.Depth.{form, form_in_form, expr_within, exprs_within, cond_within, conds_within, node_within, leaves_within, effect_within, effects_within, schema_within, init_within, domain_within, problem_within}

mutual
  expr_bare : (n : ℕ) (e : Expr) → expr_within n (bare_expr e) ≡ expr_within n e
  expr_bare n (x_number l s) = refl
  expr_bare n (x_clock s) = refl
  expr_bare n (x_fluent u s) = refl
  expr_bare n (x_sum es s) = ap (λ b. form n && b) (exprs_bare (n - 1) es)
  expr_bare n (x_product es s) = ap (λ b. form n && b) (exprs_bare (n - 1) es)
  expr_bare n (x_minus e s) = ap (λ b. form n && b) (expr_bare (n - 1) e)
  expr_bare n (x_difference e f s) = ap₂ (λ a b. form n && (a && b)) (expr_bare (n - 1) e) (expr_bare (n - 1) f)
  expr_bare n (x_quotient e f s) = ap₂ (λ a b. form n && (a && b)) (expr_bare (n - 1) e) (expr_bare (n - 1) f)

  exprs_bare : (n : ℕ) (es : Exprs) → exprs_within n (bare_exprs es) ≡ exprs_within n es
  exprs_bare n no_exprs = refl
  exprs_bare n (more_exprs e es) = ap₂ (λ a b. a && b) (expr_bare n e) (exprs_bare n es)

mutual
  cond_bare : (n : ℕ) (c : Cond) → cond_within n (bare_cond c) ≡ cond_within n c
  cond_bare n (c_all cs s) = ap (λ b. form n && b) (conds_bare (n - 1) cs)
  cond_bare n (c_any cs s) = ap (λ b. form n && b) (conds_bare (n - 1) cs)
  cond_bare n (c_not c s) = ap (λ b. form n && b) (cond_bare (n - 1) c)
  cond_bare n (c_imply c d s) = ap₂ (λ a b. form n && (a && b)) (cond_bare (n - 1) c) (cond_bare (n - 1) d)
  cond_bare n (c_forall vs c s) = ap (λ b. form_in_form n && b) (cond_bare (n - 1) c)
  cond_bare n (c_exists vs c s) = ap (λ b. form_in_form n && b) (cond_bare (n - 1) c)
  cond_bare n (c_atom u s) = refl
  cond_bare n (c_same t u s) = refl
  cond_bare n (c_compare op e f s) = ap₂ (λ a b. form n && (a && b)) (expr_bare (n - 1) e) (expr_bare (n - 1) f)

  conds_bare : (n : ℕ) (cs : Conds) → conds_within n (bare_conds cs) ≡ conds_within n cs
  conds_bare n no_conds = refl
  conds_bare n (more_conds c cs) = ap₂ (λ a b. a && b) (cond_bare n c) (conds_bare n cs)

node_bare : (n : ℕ) (x : LeafNode) → node_within n (bare_node x) ≡ node_within n x
node_bare n (Add u) = refl
node_bare n (Delete u) = refl
node_bare n (Assign u e) = ap (λ b. form_in_form n && b) (expr_bare (n - 1) e)
node_bare n (Increase u e) = ap (λ b. form_in_form n && b) (expr_bare (n - 1) e)
node_bare n (Decrease u e) = ap (λ b. form_in_form n && b) (expr_bare (n - 1) e)
node_bare n (ScaleUp u e) = ap (λ b. form_in_form n && b) (expr_bare (n - 1) e)
node_bare n (ScaleDown u e) = ap (λ b. form_in_form n && b) (expr_bare (n - 1) e)

all_bare : {X : Type 0} (f : X → Bool) (g : X → X) → ((x : X) → f (g x) ≡ f x) → (xs : List X) → list_all f (map g xs) ≡ list_all f xs
all_bare f g h [] = refl
all_bare f g h (x ∷ xs) = ap₂ (λ a b. a && b) (h x) (all_bare f g h xs)

leaves_bare : (n : ℕ) (ls : List Leaf) → leaves_within n (map bare_leaf ls) ≡ leaves_within n ls
leaves_bare n [] = refl
leaves_bare n (l ∷ []) = node_bare n l.node
leaves_bare n (l ∷ k ∷ ls) = ap (λ b. form n && b) (all_bare (λ (x : Leaf). node_within (n - 1) x.node) bare_leaf (λ (x : Leaf). node_bare (n - 1) x.node) (l ∷ k ∷ ls))

mutual
  effect_bare : (n : ℕ) (e : Effect) → effect_within n (bare_effect e) ≡ effect_within n e
  effect_bare n (e_all es s) = ap (λ b. form n && b) (effects_bare (n - 1) es)
  effect_bare n (e_forall vs e s) = ap (λ b. form_in_form n && b) (effect_bare (n - 1) e)
  effect_bare n (e_when c ls s) = ap₂ (λ a b. form n && (a && b)) (cond_bare (n - 1) c) (leaves_bare (n - 1) ls)
  effect_bare n (e_leaf l s) = node_bare n l.node

  effects_bare : (n : ℕ) (es : Effects) → effects_within n (bare_effects es) ≡ effects_within n es
  effects_bare n no_effects = refl
  effects_bare n (more_effects e es) = ap₂ (λ a b. a && b) (effect_bare n e) (effects_bare n es)

schema_bare : (n : ℕ) (a : Schema) → schema_within n (bare_schema a) ≡ schema_within n a
schema_bare n a = ap₂ (λ x y. form_in_form n && (x && y)) (cond_bare (n - 1) a.condition) (effect_bare (n - 1) a.effect)

init_bare : (n : ℕ) (x : Init) → init_within n (bare_init x) ≡ init_within n x
init_bare n (Holds u) = refl
init_bare n (Absent u s) = refl
init_bare n (Value u l s) = refl
init_bare n (At t u s) = refl
init_bare n (AtNot t u s) = refl

domain_bare : (n : ℕ) (d : Domain) → domain_within n (bare_domain d) ≡ domain_within n d
domain_bare n d =
    let s : (xs : List Schema) → list_all (schema_within (n - 1)) (map bare_schema xs) ≡ list_all (schema_within (n - 1)) xs = all_bare (schema_within (n - 1)) bare_schema (schema_bare (n - 1)) in
    ap₂ (λ a b. nat_lt 2 n && (a && b)) (s d.actions) (ap₂ (λ a b. a && b) (s d.processes) (s d.events))

problem_bare : (n : ℕ) (p : Problem) → problem_within n (bare_problem p) ≡ problem_within n p
problem_bare n p = ap₂ (λ a b. form_in_form n && (a && b)) (all_bare (init_within (n - 2)) bare_init (init_bare (n - 2)) p.init) (cond_bare (n - 2) p.goal)

pub domain_same : (n : ℕ) (d again : Domain) → SameDomain d again → domain_within n d ≡ domain_within n again
domain_same n d again e = sym (domain_bare n d) ∙ ap (domain_within n) e ∙ domain_bare n again

pub problem_same : (n : ℕ) (p again : Problem) → SameProblem p again → problem_within n p ≡ problem_within n again
problem_same n p again e = sym (problem_bare n p) ∙ ap (problem_within n) e ∙ problem_bare n again
