-- The forms of a pair that the rules of typing speak of, each with the place where it stands.
use Rattle.std.specs.Prelude.{Bool, true, false, List, [], ◌∷◌, ◌++◌, map, flat_map}
use Rattle.plus_tokens.specs.declared.span.Span.{Span}
use Rattle.plus_tree.specs.declared.terms.Term.{Term}
use Rattle.plus_tree.specs.declared.terms.TypedName.{TypedName}
use Rattle.plus_tree.specs.declared.terms.Use.{Use}
use Rattle.plus_tree.specs.declared.trees.Head.{Head}
use Rattle.plus_tree.specs.declared.trees.Leaf.{Leaf}
use Rattle.plus_tree.specs.declared.trees.LeafNode.{LeafNode}
use Rattle.plus_tree.specs.declared.trees.LeafNode.TheVariants.{Add, Delete, Assign, Increase, Decrease, ScaleUp, ScaleDown}
use Rattle.plus_tree.specs.declared.trees.Schema.{Schema}
use Rattle.plus_tree.specs.declared.trees.Domain.{Domain}
use Rattle.plus_tree.specs.declared.trees.Init.{Init}
use Rattle.plus_tree.specs.declared.trees.Init.TheVariants.{Holds, Absent, Value, At, AtNot}
use Rattle.plus_tree.specs.declared.trees.Problem.{Problem}
use Rattle.plus_tree.specs.Expr.{Expr, Exprs, x_number, x_clock, x_fluent, x_sum, x_product, x_minus, x_difference, x_quotient, no_exprs, more_exprs}
use Rattle.plus_tree.specs.Cond.{Cond, Conds, c_all, c_any, c_not, c_imply, c_forall, c_exists, c_atom, c_same, c_compare, no_conds, more_conds}
use Rattle.plus_tree.specs.Effect.{Effect, Effects, e_all, e_forall, e_when, e_leaf, no_effects, more_effects}
use Rattle.plus_types.specs.Types.{Binding, bindings_of}
use Rattle.plus_types.specs.Faults.{Context, domain_context, problem_context}

-- where a form stands: what is declared there, which variables are bound around it, and whether it is part of a process
-- and of no condition
pub record Place : Type 0 where
  pub context : Context
  pub vars : List Binding
  pub flows : Bool

-- a form that a rule speaks of
pub data Form : Type 0 where
  -- a predicate or a function with its arguments, and the predicates or functions that are declared
  used : List Head → Use → Form
  -- one side of an equality of two objects
  side : Term → Form
  -- the list of a quantifier, of a schema, or of a predicate or function that is declared
  binds : List TypedName → Form
  -- `#t`
  clock : Span → Form
  -- one write of an effect
  writes : Leaf → Form
  -- a conditional effect, `when`
  guards : Span → Form

pub record Found : Type 0 where
  pub place : Place
  pub form : Form

-- this one form
abbrev pub found : Place → Form → List Found
found here form = record { place = here; form = form } ∷ []

-- inside a list of variables
abbrev pub inside : Place → List TypedName → Place
inside here vs = record { context = here.context; vars = here.vars ++ bindings_of vs; flows = here.flows }

-- in a condition
abbrev pub reading : Place → Place
reading here = record { context = here.context; vars = here.vars; flows = false }

-- ---- expressions, conditions and effects

abbrev mutual
  pub in_expr : Place → Expr → List Found
  in_expr here (x_number n s) = []
  in_expr here (x_clock s) = found here (clock s)
  in_expr here (x_fluent u s) = found here (used here.context.functions u)
  in_expr here (x_sum es s) = in_exprs here es
  in_expr here (x_product es s) = in_exprs here es
  in_expr here (x_minus e s) = in_expr here e
  in_expr here (x_difference e f s) = in_expr here e ++ in_expr here f
  in_expr here (x_quotient e f s) = in_expr here e ++ in_expr here f

  pub in_exprs : Place → Exprs → List Found
  in_exprs here no_exprs = []
  in_exprs here (more_exprs e es) = in_expr here e ++ in_exprs here es

abbrev mutual
  pub in_cond : Place → Cond → List Found
  in_cond here (c_all cs s) = in_conds here cs
  in_cond here (c_any cs s) = in_conds here cs
  in_cond here (c_not f s) = in_cond here f
  in_cond here (c_imply f g s) = in_cond here f ++ in_cond here g
  in_cond here (c_forall vs f s) = found here (binds vs) ++ in_cond (inside here vs) f
  in_cond here (c_exists vs f s) = found here (binds vs) ++ in_cond (inside here vs) f
  in_cond here (c_atom u s) = found here (used here.context.predicates u)
  in_cond here (c_same t u s) = found here (side t) ++ found here (side u)
  in_cond here (c_compare op e f s) = in_expr here e ++ in_expr here f

  pub in_conds : Place → Conds → List Found
  in_conds here no_conds = []
  in_conds here (more_conds f fs) = in_cond here f ++ in_conds here fs

-- a fluent that is written, and the amount
abbrev pub in_amount : Place → Use → Expr → List Found
in_amount here u e = found here (used here.context.functions u) ++ in_expr here e

abbrev pub in_write : Place → LeafNode → List Found
in_write here (Add u) = found here (used here.context.predicates u)
in_write here (Delete u) = found here (used here.context.predicates u)
in_write here (Assign u e) = in_amount here u e
in_write here (Increase u e) = in_amount here u e
in_write here (Decrease u e) = in_amount here u e
in_write here (ScaleUp u e) = in_amount here u e
in_write here (ScaleDown u e) = in_amount here u e

abbrev pub in_leaf : Place → Leaf → List Found
in_leaf here l = found here (writes l) ++ in_write here l.node

abbrev mutual
  pub in_effect : Place → Effect → List Found
  in_effect here (e_all es s) = in_effects here es
  in_effect here (e_forall vs e s) = found here (binds vs) ++ in_effect (inside here vs) e
  in_effect here (e_when f ls s) = found here (guards s) ++ (in_cond (reading here) f ++ flat_map (in_leaf here) ls)
  in_effect here (e_leaf l s) = in_leaf here l

  pub in_effects : Place → Effects → List Found
  in_effects here no_effects = []
  in_effects here (more_effects e es) = in_effect here e ++ in_effects here es

-- ---- what a domain declares

-- in a domain, and in a problem, outside of all lists
abbrev pub in_domain : Bool → Domain → Place
in_domain flows d = record { context = domain_context d; vars = []; flows = flows }

abbrev pub in_problem : Domain → Problem → Place
in_problem d p = record { context = problem_context d p; vars = []; flows = false }

-- the parameters of a predicate or a function
abbrev pub in_head : Domain → Head → List Found
in_head d h = found (in_domain false d) (binds h.params)

-- the parameters, the condition and the effect of an action, a process or an event
abbrev pub in_schema : Place → Schema → List Found
in_schema here a =
    found here (binds a.params)
    ++ (in_cond (reading (inside here a.params)) a.condition ++ in_effect (inside here a.params) a.effect)

-- ---- the problem

abbrev pub in_init : Place → Init → List Found
in_init here (Holds u) = found here (used here.context.predicates u)
in_init here (Absent u s) = found here (used here.context.predicates u)
in_init here (At t u s) = found here (used here.context.predicates u)
in_init here (AtNot t u s) = found here (used here.context.predicates u)
in_init here (Value u n s) = found here (used here.context.functions u)

-- all forms of a pair
abbrev pub forms : Domain → Problem → List Found
forms d p =
    flat_map (in_head d) d.predicates
    ++ (flat_map (in_head d) d.functions
    ++ (flat_map (in_schema (in_domain false d)) d.actions
    ++ (flat_map (in_schema (in_domain true d)) d.processes
    ++ (flat_map (in_schema (in_domain false d)) d.events
    ++ (flat_map (in_init (in_problem d p)) p.init ++ in_cond (in_problem d p) p.goal)))))

-- ---- the forms of one kind

-- a use, and the predicates or functions among which the one that it names is declared
pub record UseAt : Type 0 where
  pub place : Place
  pub heads : List Head
  pub form : Use

-- a form of another kind
pub record Standing (X : Type 0) : Type 0 where
  pub place : Place
  pub form : X

abbrev pub uses_at : Place → Form → List UseAt
uses_at here (used heads u) = record { place = here; heads = heads; form = u } ∷ []
uses_at here _ = []

abbrev pub terms_at : Place → Form → List (Standing Term)
terms_at here (used heads u) = map (λ t. record { place = here; form = t }) u.args
terms_at here (side t) = record { place = here; form = t } ∷ []
terms_at here _ = []

abbrev pub lists_at : Place → Form → List (Standing (List TypedName))
lists_at here (binds vs) = record { place = here; form = vs } ∷ []
lists_at here _ = []

abbrev pub clocks_at : Place → Form → List (Standing Span)
clocks_at here (clock s) = record { place = here; form = s } ∷ []
clocks_at here _ = []

abbrev pub writes_at : Place → Form → List (Standing Leaf)
writes_at here (writes l) = record { place = here; form = l } ∷ []
writes_at here _ = []

abbrev pub guards_at : Place → Form → List (Standing Span)
guards_at here (guards s) = record { place = here; form = s } ∷ []
guards_at here _ = []

-- the uses of a pair, its arguments with the sides of its equalities of objects, its lists of variables, each `#t`, its
-- writes, and its conditional effects
abbrev pub all_uses : Domain → Problem → List UseAt
all_uses d p = flat_map (λ f. uses_at f.place f.form) (forms d p)

abbrev pub all_terms : Domain → Problem → List (Standing Term)
all_terms d p = flat_map (λ f. terms_at f.place f.form) (forms d p)

abbrev pub all_lists : Domain → Problem → List (Standing (List TypedName))
all_lists d p = flat_map (λ f. lists_at f.place f.form) (forms d p)

abbrev pub all_clocks : Domain → Problem → List (Standing Span)
all_clocks d p = flat_map (λ f. clocks_at f.place f.form) (forms d p)

abbrev pub all_writes : Domain → Problem → List (Standing Leaf)
all_writes d p = flat_map (λ f. writes_at f.place f.form) (forms d p)

abbrev pub all_guards : Domain → Problem → List (Standing Span)
all_guards d p = flat_map (λ f. guards_at f.place f.form) (forms d p)
