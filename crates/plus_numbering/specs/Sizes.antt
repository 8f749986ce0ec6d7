-- How many nodes the ground forms of a tree have. The objects that variables stand for and the sign of a condition make
-- no difference.
use Rattle.std.specs.Prelude.{ℕ, zero, suc, Bool, true, false, min, ◌+◌, ◌*◌, List, [], ◌∷◌, length, sum_by, if◌then◌else◌}
use Rattle.plus_tree.specs.declared.terms.TypedName.{TypedName}
use Rattle.plus_tree.specs.declared.trees.Leaf.{Leaf}
use Rattle.plus_tree.specs.declared.trees.LeafNode.{LeafNode}
use Rattle.plus_tree.specs.declared.trees.LeafNode.TheVariants.{Add, Delete, Assign, Increase, Decrease, ScaleUp, ScaleDown}
use Rattle.plus_tree.specs.declared.trees.Schema.{Schema}
use Rattle.plus_tree.specs.declared.trees.Domain.{Domain}
use Rattle.plus_tree.specs.declared.trees.Problem as tree
use Rattle.plus_tree.specs.Expr.{Expr, Exprs, x_number, x_clock, x_fluent, x_sum, x_product, x_minus, x_difference, x_quotient, no_exprs, more_exprs}
use Rattle.plus_tree.specs.Cond.{Cond, Conds, c_all, c_any, c_not, c_imply, c_forall, c_exists, c_atom, c_same, c_compare, no_conds, more_conds}
use Rattle.plus_tree.specs.Effect.{Effect, Effects, e_all, e_forall, e_when, e_leaf, no_effects, more_effects}
use Rattle.plus_types.specs.Faults.{Context, is_clock}
use Rattle.plus_expansion.specs.Objects.{members_of}

-- how many environments there are for a list of variables
abbrev pub choices : Context → List TypedName → ℕ
choices c [] = 1
choices c (v ∷ vs) = length (members_of c v.kind.name) * choices c vs

-- ---- expressions

abbrev pub operands : Exprs → ℕ
operands no_exprs = 0
operands (more_exprs e es) = suc (operands es)

-- of several operands: one operator less; the one node of 0 where there is none
abbrev pub operators : ℕ → ℕ
operators zero = 1
operators (suc n) = n

abbrev mutual
  pub expression_size : Expr → ℕ
  expression_size (x_number n s) = 1
  expression_size (x_clock s) = 1
  expression_size (x_fluent u s) = 1
  expression_size (x_sum es s) = operators (operands es) + expressions_size es
  expression_size (x_product es s) = operators (operands es) + expressions_size es
  expression_size (x_minus e s) = 2 + expression_size e
  expression_size (x_difference e f s) = 1 + (expression_size e + expression_size f)
  expression_size (x_quotient e f s) = 1 + (expression_size e + expression_size f)

  pub expressions_size : Exprs → ℕ
  expressions_size no_exprs = 0
  expressions_size (more_exprs e es) = expression_size e + expressions_size es

-- ---- conditions

abbrev mutual
  pub condition_size : Context → Cond → ℕ
  condition_size c (c_all fs s) = 1 + conditions_size c fs
  condition_size c (c_any fs s) = 1 + conditions_size c fs
  condition_size c (c_not f s) = condition_size c f
  condition_size c (c_imply f g s) = 1 + (condition_size c f + condition_size c g)
  condition_size c (c_forall vs f s) = 1 + choices c vs * condition_size c f
  condition_size c (c_exists vs f s) = 1 + choices c vs * condition_size c f
  condition_size c (c_atom u s) = 1
  condition_size c (c_same t u s) = 1
  condition_size c (c_compare test e f s) = 1 + (expression_size e + expression_size f)

  pub conditions_size : Context → Conds → ℕ
  conditions_size c no_conds = 0
  conditions_size c (more_conds f fs) = condition_size c f + conditions_size c fs

-- ---- effects

abbrev pub write_size : LeafNode → ℕ
write_size (Add u) = 0
write_size (Delete u) = 0
write_size (Assign u e) = expression_size e
write_size (Increase u e) = expression_size e
write_size (Decrease u e) = expression_size e
write_size (ScaleUp u e) = expression_size e
write_size (ScaleDown u e) = expression_size e

-- a write under a guard of so many nodes
abbrev pub leaf_size : ℕ → Leaf → ℕ
leaf_size guard l = 1 + (guard + write_size l.node)

abbrev mutual
  pub effect_size : Context → Effect → ℕ
  effect_size c (e_all es s) = effects_size c es
  effect_size c (e_forall vs e s) = choices c vs * effect_size c e
  effect_size c (e_when f ls s) = sum_by (leaf_size (condition_size c f)) ls
  effect_size c (e_leaf l s) = leaf_size 1 l

  pub effects_size : Context → Effects → ℕ
  effects_size c no_effects = 0
  effects_size c (more_effects e es) = effect_size c e + effects_size c es

-- ---- rates

-- of several factors two make a rate, one of which is `#t`
abbrev pub factor_size : Exprs → ℕ
factor_size (more_exprs e (more_exprs f no_exprs)) = expression_size (if is_clock e then f else e)
factor_size _ = 1

abbrev pub amount_size : Expr → ℕ
amount_size (x_product es s) = factor_size es
amount_size e = expression_size e

abbrev pub rate_size : LeafNode → ℕ
rate_size (Increase u e) = 1 + amount_size e
rate_size (Decrease u e) = 1 + amount_size e
rate_size _ = 0

abbrev mutual
  pub rates_size : Context → Effect → ℕ
  rates_size c (e_all es s) = all_rates_size c es
  rates_size c (e_forall vs e s) = choices c vs * rates_size c e
  rates_size c (e_when f ls s) = 0
  rates_size c (e_leaf l s) = rate_size l.node

  pub all_rates_size : Context → Effects → ℕ
  all_rates_size c no_effects = 0
  all_rates_size c (more_effects e es) = rates_size c e + all_rates_size c es

-- ---- schemas

-- an instance of a process, or of an action or an event
abbrev pub schema_size : Context → Bool → Schema → ℕ
schema_size c process a = condition_size c a.condition + (if process then rates_size c a.effect else effect_size c a.effect)

-- the instances of schemas
abbrev pub instances : Context → List Schema → ℕ
instances c schemas = sum_by (λ a. choices c a.params) schemas

-- the nodes of the instances of schemas
abbrev pub schemas_size : Context → (Schema → ℕ) → List Schema → ℕ
schemas_size c size schemas = sum_by (λ a. choices c a.params * size a) schemas

-- the nodes of the ground events, processes and goal
abbrev pub problem_size : Context → Domain → tree.Problem → ℕ
problem_size c d p =
    schemas_size c (schema_size c false) d.events + (schemas_size c (schema_size c true) d.processes + condition_size c p.goal)

-- ---- what is held of a number: it, or else the first above the limit of nodes, the greatest limit
unfoldable pub held : ℕ → ℕ
held n = min n 1000001
