-- Trees that are equal but for spans. The bare form of a tree has the same names, numbers and members, in the same order,
-- and one place in all its spans; two trees are equal but for spans where their bare forms are equal. The place itself means
-- nothing.
use Rattle.std.specs.Prelude.{◌≡◌, map}
use Rattle.plus_tokens.specs.declared.span.Span.{Span}
use Rattle.plus_tree.specs.declared.names.Spelled.{Spelled}
use Rattle.plus_tree.specs.declared.terms.Term.{Term}
use Rattle.plus_tree.specs.declared.terms.Term.TheVariants.{Object, Variable}
use Rattle.plus_tree.specs.declared.terms.TypedName.{TypedName}
use Rattle.plus_tree.specs.declared.terms.Use.{Use}
use Rattle.plus_tree.specs.declared.terms.Literal.{Literal}
use Rattle.plus_tree.specs.declared.trees.Leaf.{Leaf}
use Rattle.plus_tree.specs.declared.trees.LeafNode.{LeafNode}
use Rattle.plus_tree.specs.declared.trees.LeafNode.TheVariants.{Add, Delete, Assign, Increase, Decrease, ScaleUp, ScaleDown}
use Rattle.plus_tree.specs.declared.trees.Head.{Head}
use Rattle.plus_tree.specs.declared.trees.Schema.{Schema}
use Rattle.plus_tree.specs.declared.trees.Domain.{Domain}
use Rattle.plus_tree.specs.declared.trees.Init.{Init}
use Rattle.plus_tree.specs.declared.trees.Init.TheVariants.{Holds, Absent, Value, At, AtNot}
use Rattle.plus_tree.specs.declared.trees.Problem.{Problem}
use Rattle.plus_tree.specs.Expr.{Expr, Exprs, x_number, x_clock, x_fluent, x_sum, x_product, x_minus, x_difference, x_quotient, no_exprs, more_exprs}
use Rattle.plus_tree.specs.Cond.{Cond, Conds, c_all, c_any, c_not, c_imply, c_forall, c_exists, c_atom, c_same, c_compare, no_conds, more_conds}
use Rattle.plus_tree.specs.Effect.{Effect, Effects, e_all, e_forall, e_when, e_leaf, no_effects, more_effects}

-- the place of each part of a bare tree
abbrev pub no_span : Span
no_span = record { start = 0; «end» = 0 }

abbrev pub bare_spelled : Spelled → Spelled
bare_spelled x = record { name = x.name; span = no_span }

abbrev pub bare_typed : TypedName → TypedName
bare_typed x = record { name = bare_spelled x.name; kind = bare_spelled x.kind }

abbrev pub bare_term : Term → Term
bare_term (Object x) = Object (bare_spelled x)
bare_term (Variable x) = Variable (bare_spelled x)

abbrev pub bare_use : Use → Use
bare_use u = record { head = bare_spelled u.head; args = map bare_term u.args; span = no_span }

abbrev pub bare_literal : Literal → Literal
bare_literal n = record { negative = n.negative; digits = n.digits; places = n.places; span = no_span }

abbrev mutual
  pub bare_expr : Expr → Expr
  bare_expr (x_number n s) = x_number (bare_literal n) no_span
  bare_expr (x_clock s) = x_clock no_span
  bare_expr (x_fluent u s) = x_fluent (bare_use u) no_span
  bare_expr (x_sum es s) = x_sum (bare_exprs es) no_span
  bare_expr (x_product es s) = x_product (bare_exprs es) no_span
  bare_expr (x_minus e s) = x_minus (bare_expr e) no_span
  bare_expr (x_difference e f s) = x_difference (bare_expr e) (bare_expr f) no_span
  bare_expr (x_quotient e f s) = x_quotient (bare_expr e) (bare_expr f) no_span

  pub bare_exprs : Exprs → Exprs
  bare_exprs no_exprs = no_exprs
  bare_exprs (more_exprs e es) = more_exprs (bare_expr e) (bare_exprs es)

abbrev mutual
  pub bare_cond : Cond → Cond
  bare_cond (c_all cs s) = c_all (bare_conds cs) no_span
  bare_cond (c_any cs s) = c_any (bare_conds cs) no_span
  bare_cond (c_not c s) = c_not (bare_cond c) no_span
  bare_cond (c_imply c d s) = c_imply (bare_cond c) (bare_cond d) no_span
  bare_cond (c_forall vs c s) = c_forall (map bare_typed vs) (bare_cond c) no_span
  bare_cond (c_exists vs c s) = c_exists (map bare_typed vs) (bare_cond c) no_span
  bare_cond (c_atom u s) = c_atom (bare_use u) no_span
  bare_cond (c_same t u s) = c_same (bare_term t) (bare_term u) no_span
  bare_cond (c_compare op e f s) = c_compare op (bare_expr e) (bare_expr f) no_span

  pub bare_conds : Conds → Conds
  bare_conds no_conds = no_conds
  bare_conds (more_conds c cs) = more_conds (bare_cond c) (bare_conds cs)

abbrev pub bare_node : LeafNode → LeafNode
bare_node (Add u) = Add (bare_use u)
bare_node (Delete u) = Delete (bare_use u)
bare_node (Assign u e) = Assign (bare_use u) (bare_expr e)
bare_node (Increase u e) = Increase (bare_use u) (bare_expr e)
bare_node (Decrease u e) = Decrease (bare_use u) (bare_expr e)
bare_node (ScaleUp u e) = ScaleUp (bare_use u) (bare_expr e)
bare_node (ScaleDown u e) = ScaleDown (bare_use u) (bare_expr e)

abbrev pub bare_leaf : Leaf → Leaf
bare_leaf l = record { node = bare_node l.node; span = no_span }

abbrev mutual
  pub bare_effect : Effect → Effect
  bare_effect (e_all es s) = e_all (bare_effects es) no_span
  bare_effect (e_forall vs e s) = e_forall (map bare_typed vs) (bare_effect e) no_span
  bare_effect (e_when c ls s) = e_when (bare_cond c) (map bare_leaf ls) no_span
  bare_effect (e_leaf l s) = e_leaf (bare_leaf l) no_span

  pub bare_effects : Effects → Effects
  bare_effects no_effects = no_effects
  bare_effects (more_effects e es) = more_effects (bare_effect e) (bare_effects es)

abbrev pub bare_head : Head → Head
bare_head h = record { name = bare_spelled h.name; params = map bare_typed h.params; span = no_span }

abbrev pub bare_schema : Schema → Schema
bare_schema a = record {
  name = bare_spelled a.name;
  params = map bare_typed a.params;
  condition = bare_cond a.condition;
  effect = bare_effect a.effect;
  span = no_span;
}

abbrev pub bare_domain : Domain → Domain
bare_domain d = record {
  name = bare_spelled d.name;
  requirements = map bare_spelled d.requirements;
  types = map bare_typed d.types;
  constants = map bare_typed d.constants;
  predicates = map bare_head d.predicates;
  functions = map bare_head d.functions;
  actions = map bare_schema d.actions;
  processes = map bare_schema d.processes;
  events = map bare_schema d.events;
  span = no_span;
}

abbrev pub bare_init : Init → Init
bare_init (Holds u) = Holds (bare_use u)
bare_init (Absent u s) = Absent (bare_use u) no_span
bare_init (Value u n s) = Value (bare_use u) (bare_literal n) no_span
bare_init (At t u s) = At (bare_literal t) (bare_use u) no_span
bare_init (AtNot t u s) = AtNot (bare_literal t) (bare_use u) no_span

abbrev pub bare_problem : Problem → Problem
bare_problem p = record {
  name = bare_spelled p.name;
  domain = bare_spelled p.domain;
  requirements = map bare_spelled p.requirements;
  objects = map bare_typed p.objects;
  init = map bare_init p.init;
  goal = bare_cond p.goal;
  span = no_span;
}

-- equal but for spans
abbrev pub SameDomain : Domain → Domain → Type 0
SameDomain d again = bare_domain d ≡ bare_domain again

abbrev pub SameProblem : Problem → Problem → Type 0
SameProblem p again = bare_problem p ≡ bare_problem again
