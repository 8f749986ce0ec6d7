-- The canonical text of a domain and of a problem (this project's profile). Each section stands on a line of its own behind
-- one space. A schema has all its three keys. A `when` with one write has it bare, else its writes stand in an `and`.
use Rattle.std.specs.Prelude.{ℕ, List, [], ◌∷◌, ◌++◌, codes}
use Rattle.plus_tree.specs.declared.names.Spelled.{Spelled}
use Rattle.plus_tree.specs.declared.terms.Use.{Use}
use Rattle.plus_tree.specs.declared.terms.Literal.{Literal}
use Rattle.plus_tree.specs.declared.trees.Leaf.{Leaf}
use Rattle.plus_tree.specs.declared.trees.LeafNode.{LeafNode}
use Rattle.plus_tree.specs.declared.trees.LeafNode.TheVariants.{Add, Delete, Assign, Increase, Decrease, ScaleUp, ScaleDown}
use Rattle.plus_tree.specs.declared.trees.Head.{Head}
use Rattle.plus_tree.specs.declared.trees.Schema.{Schema}
use Rattle.plus_tree.specs.declared.trees.Domain.{Domain}
use Rattle.plus_tree.specs.declared.trees.Init.{Init}
use Rattle.plus_tree.specs.declared.trees.Init.TheVariants.{Holds, Absent, Value, At, AtNot}
use Rattle.plus_tree.specs.declared.trees.Problem.{Problem}
use Rattle.plus_tree.specs.Expr.{Expr, Exprs, x_number, x_clock, x_fluent, x_sum, x_product, x_minus, x_difference, x_quotient, no_exprs, more_exprs}
use Rattle.plus_tree.specs.Cond.{Cond, Conds, c_all, c_any, c_not, c_imply, c_forall, c_exists, c_atom, c_same, c_compare, no_conds, more_conds}
use Rattle.plus_tree.specs.Effect.{Effect, Effects, e_all, e_forall, e_when, e_leaf, no_effects, more_effects}
use Rattle.plus_printer.specs.Words.{word, domain_opening, problem_opening, requirements_opening, predicates_opening, functions_opening, precondition_key, spaced, term_text, use_text, typed_text, variable_text, variables_text, literal_text, comparison_text}

abbrev mutual
  pub expr_text : Expr → List ℕ
  expr_text (x_number n s) = literal_text n
  expr_text (x_clock s) = word (codes "#t")
  expr_text (x_fluent u s) = use_text u
  expr_text (x_sum es s) = word (codes "(+") ++ (exprs_text es ++ word (codes ")"))
  expr_text (x_product es s) = word (codes "(*") ++ (exprs_text es ++ word (codes ")"))
  expr_text (x_minus e s) = word (codes "(- ") ++ (expr_text e ++ word (codes ")"))
  expr_text (x_difference e f s) = word (codes "(- ") ++ (expr_text e ++ (word (codes " ") ++ (expr_text f ++ word (codes ")"))))
  expr_text (x_quotient e f s) = word (codes "(/ ") ++ (expr_text e ++ (word (codes " ") ++ (expr_text f ++ word (codes ")"))))

  pub exprs_text : Exprs → List ℕ
  exprs_text no_exprs = []
  exprs_text (more_exprs e es) = (word (codes " ") ++ expr_text e) ++ exprs_text es

abbrev mutual
  pub cond_text : Cond → List ℕ
  cond_text (c_all cs s) = word (codes "(and") ++ (conds_text cs ++ word (codes ")"))
  cond_text (c_any cs s) = word (codes "(or") ++ (conds_text cs ++ word (codes ")"))
  cond_text (c_not c s) = word (codes "(not ") ++ (cond_text c ++ word (codes ")"))
  cond_text (c_imply c d s) = word (codes "(imply ") ++ (cond_text c ++ (word (codes " ") ++ (cond_text d ++ word (codes ")"))))
  cond_text (c_forall vs c s) = word (codes "(forall ") ++ (variables_text vs ++ (word (codes " ") ++ (cond_text c ++ word (codes ")"))))
  cond_text (c_exists vs c s) = word (codes "(exists ") ++ (variables_text vs ++ (word (codes " ") ++ (cond_text c ++ word (codes ")"))))
  cond_text (c_atom u s) = use_text u
  cond_text (c_same t u s) = word (codes "(= ") ++ (term_text t ++ (word (codes " ") ++ (term_text u ++ word (codes ")"))))
  cond_text (c_compare op e f s) =
      word (codes "(") ++ (comparison_text op ++ (word (codes " ") ++ (expr_text e ++ (word (codes " ") ++ (expr_text f ++ word (codes ")"))))))

  pub conds_text : Conds → List ℕ
  conds_text no_conds = []
  conds_text (more_conds c cs) = (word (codes " ") ++ cond_text c) ++ conds_text cs

-- a write of a fluent: the word, the fluent, the amount
unfoldable pub write_text : List ℕ → Use → Expr → List ℕ
write_text first u e = word first ++ (use_text u ++ (word (codes " ") ++ (expr_text e ++ word (codes ")"))))

abbrev pub node_text : LeafNode → List ℕ
node_text (Add u) = use_text u
node_text (Delete u) = word (codes "(not ") ++ (use_text u ++ word (codes ")"))
node_text (Assign u e) = write_text (codes "(assign ") u e
node_text (Increase u e) = write_text (codes "(increase ") u e
node_text (Decrease u e) = write_text (codes "(decrease ") u e
node_text (ScaleUp u e) = write_text (codes "(scale-up ") u e
node_text (ScaleDown u e) = write_text (codes "(scale-down ") u e

unfoldable pub leaf_text : Leaf → List ℕ
leaf_text l = node_text l.node

-- one write stands bare, several or none stand in an `and`
unfoldable pub leaves_text : List Leaf → List ℕ
leaves_text (l ∷ []) = leaf_text l
leaves_text [] = word (codes "(and") ++ (spaced leaf_text [] ++ word (codes ")"))
leaves_text (l ∷ more ∷ ls) = word (codes "(and") ++ (spaced leaf_text (l ∷ more ∷ ls) ++ word (codes ")"))

abbrev mutual
  pub effect_text : Effect → List ℕ
  effect_text (e_all es s) = word (codes "(and") ++ (effects_text es ++ word (codes ")"))
  effect_text (e_forall vs e s) = word (codes "(forall ") ++ (variables_text vs ++ (word (codes " ") ++ (effect_text e ++ word (codes ")"))))
  effect_text (e_when c ls s) = word (codes "(when ") ++ (cond_text c ++ (word (codes " ") ++ (leaves_text ls ++ word (codes ")"))))
  effect_text (e_leaf l s) = leaf_text l

  pub effects_text : Effects → List ℕ
  effects_text no_effects = []
  effects_text (more_effects e es) = (word (codes " ") ++ effect_text e) ++ effects_text es

-- ---- sections

-- a section, where it has a member: ` (:word member ..)` on a line
unfoldable pub section : {A : Type 0} → List ℕ → (A → List ℕ) → List A → List ℕ
section first f [] = []
section first f (x ∷ xs) = word first ++ (spaced f (x ∷ xs) ++ word (codes ")\n"))

unfoldable pub keyword_text : Spelled → List ℕ
keyword_text k = word (codes ":") ++ k.name

-- requirements, where there are some
unfoldable pub requirements_text : List Spelled → List ℕ
requirements_text [] = []
requirements_text (k ∷ ks) = requirements_opening ++ (spaced keyword_text (k ∷ ks) ++ word (codes ")\n"))

unfoldable pub head_text : Head → List ℕ
head_text h = word (codes "(") ++ (h.name.name ++ (spaced variable_text h.params ++ word (codes ")")))

-- the parameters, the precondition, the effect
unfoldable pub keys_text : Schema → List ℕ
keys_text a =
    variables_text a.params ++ (precondition_key ++ (cond_text a.condition ++ (word (codes " :effect ") ++ effect_text a.effect)))

unfoldable pub schema_text : List ℕ → Schema → List ℕ
schema_text first a =
    word first ++ (a.name.name ++ (word (codes " :parameters ") ++ (keys_text a ++ word (codes ")\n"))))

-- schemas of one kind, each on a line
abbrev pub schemas_text : List ℕ → List Schema → List ℕ
schemas_text first [] = []
schemas_text first (a ∷ more) = schema_text first a ++ schemas_text first more

-- the predicates and functions of a domain
unfoldable pub heads_text : Domain → List ℕ
heads_text d = section predicates_opening head_text d.predicates ++ section functions_opening head_text d.functions

-- what a domain declares
unfoldable pub declared_text : Domain → List ℕ
declared_text d =
    requirements_text d.requirements
    ++ (section (codes " (:types") typed_text d.types ++ (section (codes " (:constants") typed_text d.constants ++ heads_text d))

-- what happens in it
unfoldable pub happening_text : Domain → List ℕ
happening_text d =
    schemas_text (codes " (:action ") d.actions
    ++ (schemas_text (codes " (:process ") d.processes
    ++ (schemas_text (codes " (:event ") d.events ++ word (codes ")\n")))

unfoldable pub domain_text : Domain → List ℕ
domain_text d =
    domain_opening ++ (d.name.name ++ (word (codes ")\n") ++ (declared_text d ++ happening_text d)))

abbrev pub absent_text : Use → List ℕ
absent_text u = word (codes "(not ") ++ (use_text u ++ word (codes ")"))

-- a timed literal, with what becomes true or false
abbrev pub timed_text : Literal → List ℕ → List ℕ
timed_text t text = word (codes "(at ") ++ (literal_text t ++ (word (codes " ") ++ (text ++ word (codes ")"))))

abbrev pub init_text : Init → List ℕ
init_text (Holds u) = use_text u
init_text (Absent u s) = absent_text u
init_text (At t u s) = timed_text t (use_text u)
init_text (AtNot t u s) = timed_text t (absent_text u)
init_text (Value u n s) = word (codes "(= ") ++ (use_text u ++ (word (codes " ") ++ (literal_text n ++ word (codes ")"))))

-- the domain that a problem is for
unfoldable pub for_text : Problem → List ℕ
for_text p = word (codes " (:domain ") ++ (p.domain.name ++ word (codes ")\n"))

-- the name of a problem, and of its domain
unfoldable pub titled_text : Problem → List ℕ
titled_text p = problem_opening ++ (p.name.name ++ (word (codes ")\n") ++ for_text p))

-- what a problem states
unfoldable pub stated_text : Problem → List ℕ
stated_text p =
    word (codes " (:init") ++ (spaced init_text p.init ++ (word (codes ")\n (:goal ") ++ (cond_text p.goal ++ word (codes ")\n)\n"))))

unfoldable pub problem_text : Problem → List ℕ
problem_text p =
    titled_text p
    ++ (requirements_text p.requirements
    ++ (section (codes " (:objects") typed_text p.objects ++ stated_text p))
