-- Whether the canonical text of a tree has no more than so many parentheses open at once.
use Rattle.std.specs.Prelude.{ℕ, ◌-◌, Bool, true, ◌&&◌, nat_lt, List, [], ◌∷◌}
use Rattle.std.specs.List.{list_all}
use Rattle.plus_tree.specs.declared.trees.Leaf.{Leaf}
use Rattle.plus_tree.specs.declared.trees.LeafNode.{LeafNode}
use Rattle.plus_tree.specs.declared.trees.LeafNode.TheVariants.{Add, Delete, Assign, Increase, Decrease, ScaleUp, ScaleDown}
use Rattle.plus_tree.specs.declared.trees.Schema.{Schema}
use Rattle.plus_tree.specs.declared.trees.Domain.{Domain}
use Rattle.plus_tree.specs.declared.trees.Init.{Init}
use Rattle.plus_tree.specs.declared.trees.Init.TheVariants.{Holds, Absent, Value, At, AtNot}
use Rattle.plus_tree.specs.declared.trees.Problem.{Problem}
use Rattle.plus_tree.specs.Expr.{Expr, Exprs, x_number, x_clock, x_fluent, x_sum, x_product, x_minus, x_difference, x_quotient, no_exprs, more_exprs}
use Rattle.plus_tree.specs.Cond.{Cond, Conds, c_all, c_any, c_not, c_imply, c_forall, c_exists, c_atom, c_same, c_compare, no_conds, more_conds}
use Rattle.plus_tree.specs.Effect.{Effect, Effects, e_all, e_forall, e_when, e_leaf, no_effects, more_effects}

-- there is room for a form, and for one inside a form
abbrev pub form : ℕ → Bool
form n = nat_lt 0 n

abbrev pub form_in_form : ℕ → Bool
form_in_form n = nat_lt 1 n

abbrev mutual
  pub expr_within : ℕ → Expr → Bool
  expr_within n (x_number l s) = true
  expr_within n (x_clock s) = true
  expr_within n (x_fluent u s) = form n
  expr_within n (x_sum es s) = form n && exprs_within (n - 1) es
  expr_within n (x_product es s) = form n && exprs_within (n - 1) es
  expr_within n (x_minus e s) = form n && expr_within (n - 1) e
  expr_within n (x_difference e f s) = form n && (expr_within (n - 1) e && expr_within (n - 1) f)
  expr_within n (x_quotient e f s) = form n && (expr_within (n - 1) e && expr_within (n - 1) f)

  pub exprs_within : ℕ → Exprs → Bool
  exprs_within n no_exprs = true
  exprs_within n (more_exprs e es) = expr_within n e && exprs_within n es

abbrev mutual
  pub cond_within : ℕ → Cond → Bool
  cond_within n (c_all cs s) = form n && conds_within (n - 1) cs
  cond_within n (c_any cs s) = form n && conds_within (n - 1) cs
  cond_within n (c_not c s) = form n && cond_within (n - 1) c
  cond_within n (c_imply c d s) = form n && (cond_within (n - 1) c && cond_within (n - 1) d)
  cond_within n (c_forall vs c s) = form_in_form n && cond_within (n - 1) c
  cond_within n (c_exists vs c s) = form_in_form n && cond_within (n - 1) c
  cond_within n (c_atom u s) = form n
  cond_within n (c_same t u s) = form n
  cond_within n (c_compare op e f s) = form n && (expr_within (n - 1) e && expr_within (n - 1) f)

  pub conds_within : ℕ → Conds → Bool
  conds_within n no_conds = true
  conds_within n (more_conds c cs) = cond_within n c && conds_within n cs

-- the fluent is a form inside the form of its write
abbrev pub node_within : ℕ → LeafNode → Bool
node_within n (Add u) = form n
node_within n (Delete u) = form_in_form n
node_within n (Assign u e) = form_in_form n && expr_within (n - 1) e
node_within n (Increase u e) = form_in_form n && expr_within (n - 1) e
node_within n (Decrease u e) = form_in_form n && expr_within (n - 1) e
node_within n (ScaleUp u e) = form_in_form n && expr_within (n - 1) e
node_within n (ScaleDown u e) = form_in_form n && expr_within (n - 1) e

-- one write stands bare, several or none stand in an `and`
abbrev pub leaves_within : ℕ → List Leaf → Bool
leaves_within n (l ∷ []) = node_within n l.node
leaves_within n ls = form n && list_all (λ l. node_within (n - 1) l.node) ls

abbrev mutual
  pub effect_within : ℕ → Effect → Bool
  effect_within n (e_all es s) = form n && effects_within (n - 1) es
  effect_within n (e_forall vs e s) = form_in_form n && effect_within (n - 1) e
  effect_within n (e_when c ls s) = form n && (cond_within (n - 1) c && leaves_within (n - 1) ls)
  effect_within n (e_leaf l s) = node_within n l.node

  pub effects_within : ℕ → Effects → Bool
  effects_within n no_effects = true
  effects_within n (more_effects e es) = effect_within n e && effects_within n es

-- its parameters stand in a form of their own
abbrev pub schema_within : ℕ → Schema → Bool
schema_within n a = form_in_form n && (cond_within (n - 1) a.condition && effect_within (n - 1) a.effect)

abbrev pub init_within : ℕ → Init → Bool
init_within n (Holds u) = form n
init_within n (Absent u s) = form_in_form n
init_within n (Value u l s) = form_in_form n
init_within n (At t u s) = form_in_form n
init_within n (AtNot t u s) = nat_lt 2 n

-- the whole has its name in a form, and its sections are forms: heads are forms in them
abbrev pub domain_within : ℕ → Domain → Bool
domain_within n d =
    nat_lt 2 n && (list_all (schema_within (n - 1)) d.actions && (list_all (schema_within (n - 1)) d.processes && list_all (schema_within (n - 1)) d.events))

abbrev pub problem_within : ℕ → Problem → Bool
problem_within n p = form_in_form n && (list_all (init_within (n - 2)) p.init && cond_within (n - 2) p.goal)

-- the most parentheses that a text may have open at once
abbrev pub most_depth : ℕ
most_depth = 64

abbrev pub pair_within : Domain → Problem → Bool
pair_within d p = domain_within most_depth d && problem_within most_depth p
