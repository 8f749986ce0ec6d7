-- The literals of the text, in the order in which they are tested.
use Rattle.std.specs.Prelude.{ℕ, List, [], ◌∷◌, ◌++◌, map, Option, Some, None, slice_get}
use Rattle.std.specs.List.{flat_map, position_or_len}
use Rattle.std.specs.Str.{bytes_eq}
use Rattle.plus_tree.specs.declared.terms.Literal.{Literal}
use Rattle.plus_tree.specs.declared.trees.Leaf.{Leaf}
use Rattle.plus_tree.specs.declared.trees.LeafNode.{LeafNode}
use Rattle.plus_tree.specs.declared.trees.LeafNode.TheVariants.{Add, Delete, Assign, Increase, Decrease, ScaleUp, ScaleDown}
use Rattle.plus_tree.specs.declared.trees.Schema.{Schema}
use Rattle.plus_tree.specs.declared.trees.Domain.{Domain}
use Rattle.plus_tree.specs.declared.trees.Init.{Init}
use Rattle.plus_tree.specs.declared.trees.Init.TheVariants.{Value, At, AtNot}
use Rattle.plus_tree.specs.declared.trees.Problem as tree
use Rattle.plus_tree.specs.Expr.{Expr, Exprs, x_number, x_clock, x_fluent, x_sum, x_product, x_minus, x_difference, x_quotient, no_exprs, more_exprs}
use Rattle.plus_tree.specs.Cond.{Cond, Conds, c_all, c_any, c_not, c_imply, c_forall, c_exists, c_atom, c_same, c_compare, no_conds, more_conds}
use Rattle.plus_tree.specs.Effect.{Effect, Effects, e_all, e_forall, e_when, e_leaf, no_effects, more_effects}
use Rattle.plus_types.specs.declared.faults.File.{File}
use Rattle.plus_types.specs.declared.faults.File.TheVariants as files
use Rattle.plus_types.specs.Faults.{action_names}

abbrev mutual
  pub expression_literals : Expr → List Literal
  expression_literals (x_number n s) = n ∷ []
  expression_literals (x_clock s) = []
  expression_literals (x_fluent u s) = []
  expression_literals (x_sum es s) = expressions_literals es
  expression_literals (x_product es s) = expressions_literals es
  expression_literals (x_minus e s) = expression_literals e
  expression_literals (x_difference e f s) = expression_literals e ++ expression_literals f
  expression_literals (x_quotient e f s) = expression_literals e ++ expression_literals f

  pub expressions_literals : Exprs → List Literal
  expressions_literals no_exprs = []
  expressions_literals (more_exprs e es) = expression_literals e ++ expressions_literals es

abbrev mutual
  pub condition_literals : Cond → List Literal
  condition_literals (c_all cs s) = conditions_literals cs
  condition_literals (c_any cs s) = conditions_literals cs
  condition_literals (c_not c s) = condition_literals c
  condition_literals (c_imply c d s) = condition_literals c ++ condition_literals d
  condition_literals (c_forall vs c s) = condition_literals c
  condition_literals (c_exists vs c s) = condition_literals c
  condition_literals (c_atom u s) = []
  condition_literals (c_same t u s) = []
  condition_literals (c_compare test e f s) = expression_literals e ++ expression_literals f

  pub conditions_literals : Conds → List Literal
  conditions_literals no_conds = []
  conditions_literals (more_conds c cs) = condition_literals c ++ conditions_literals cs

abbrev pub write_literals : LeafNode → List Literal
write_literals (Add u) = []
write_literals (Delete u) = []
write_literals (Assign u e) = expression_literals e
write_literals (Increase u e) = expression_literals e
write_literals (Decrease u e) = expression_literals e
write_literals (ScaleUp u e) = expression_literals e
write_literals (ScaleDown u e) = expression_literals e

abbrev mutual
  pub effect_literals : Effect → List Literal
  effect_literals (e_all es s) = effects_literals es
  effect_literals (e_forall vs e s) = effect_literals e
  effect_literals (e_when c ls s) = condition_literals c ++ flat_map (λ (l : Leaf). write_literals l.node) ls
  effect_literals (e_leaf l s) = write_literals l.node

  pub effects_literals : Effects → List Literal
  effects_literals no_effects = []
  effects_literals (more_effects e es) = effect_literals e ++ effects_literals es

-- of a schema, a condition before its effect
abbrev pub schema_literals : Schema → List Literal
schema_literals a = condition_literals a.condition ++ effect_literals a.effect

abbrev pub init_literals : Init → List Literal
init_literals (Value u n s) = n ∷ []
init_literals (At t u s) = t ∷ []
init_literals (AtNot t u s) = t ∷ []
init_literals _ = []

abbrev pub in_file : File → List Literal → List (File × Literal)
in_file file ls = map (λ l. (file, l)) ls

-- of a pair: the initial state, the goal, the processes, the events
abbrev pub literals_of : Domain → tree.Problem → List (File × Literal)
literals_of d p =
    in_file files.Problem (flat_map init_literals p.init ++ condition_literals p.goal)
    ++ in_file files.Domain (flat_map schema_literals d.processes ++ flat_map schema_literals d.events)

-- the literals of the action with a name
abbrev pub literals_in : Option Schema → List Literal
literals_in None = []
literals_in (Some a) = schema_literals a

abbrev pub call_literals : Domain → List ℕ → List Literal
call_literals d name = literals_in (slice_get d.actions (position_or_len (bytes_eq name) (action_names d)))
