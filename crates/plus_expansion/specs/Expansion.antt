-- The ground problem that a domain and a problem stand for: every variable is replaced by the objects of its type
-- (the usual grounding of PDDL, Fox and Long 2003; the order of what is ground is this project's profile).
use Rattle.std.specs.Prelude.{ℕ, zero, suc, Bool, true, false, not, List, [], ◌∷◌, ◌++◌, map, length, Option, Some, None, nat_eq, pos, if◌then◌else◌}
use Rattle.std.specs.List.{list_any, flat_map}
use Rattle.plus_fraction.specs.Fraction.{Fraction, whole}
use Rattle.plus_model.specs.Terms as model
use Rattle.plus_model.specs.Terms.{Expression, Sum, Difference, Product, Quotient, Test, Below, Same, Above, Condition, Always, Write, Effect, Rate, Action, Event, Process, Timed, State, Problem}
use Rattle.plus_state.specs.Tests.{joined}
use Rattle.plus_model.specs.Value.{signed}
use Rattle.plus_model.specs.Trajectory.{is_below}
use Rattle.plus_state.specs.View.{Labels}
use Rattle.plus_tree.specs.declared.terms.Literal.{Literal}
use Rattle.plus_tree.specs.declared.terms.Comparison.{Comparison}
use Rattle.plus_tree.specs.declared.terms.Comparison.TheVariants.{Less, AtMost, Equal, AtLeast, Greater}
use Rattle.plus_tree.specs.declared.trees.Leaf.{Leaf}
use Rattle.plus_tree.specs.declared.trees.LeafNode.{LeafNode}
use Rattle.plus_tree.specs.declared.trees.LeafNode.TheVariants.{Add, Delete, Assign, Increase, Decrease, ScaleUp, ScaleDown}
use Rattle.plus_tree.specs.declared.trees.Schema.{Schema}
use Rattle.plus_tree.specs.declared.trees.Domain.{Domain}
use Rattle.plus_tree.specs.declared.trees.Init.{Init}
use Rattle.plus_tree.specs.declared.trees.Init.TheVariants.{Holds, Value, At, AtNot}
use Rattle.plus_tree.specs.declared.trees.Problem as tree
use Rattle.plus_tree.specs.Expr.{Expr, Exprs, x_number, x_clock, x_fluent, x_sum, x_product, x_minus, x_difference, x_quotient, no_exprs, more_exprs}
use Rattle.plus_tree.specs.Cond.{Cond, Conds, c_all, c_any, c_not, c_imply, c_forall, c_exists, c_atom, c_same, c_compare, no_conds, more_conds}
use Rattle.plus_tree.specs.Effect as effects
use Rattle.plus_tree.specs.Effect.{Effects, e_all, e_forall, e_when, e_leaf, no_effects, more_effects}
use Rattle.plus_types.specs.Faults.{Context, problem_context, is_clock}
use Rattle.plus_literal.specs.Value.{literal_value}
use Rattle.plus_expansion.specs.Objects.{object_names}
use Rattle.plus_expansion.specs.Numbers.{ground_names, ground_labels, label_of}
use Rattle.plus_expansion.specs.Environments.{Environment, environments, term_object, atom_number, fluent_number}

-- ---- expressions

-- several operands of a sum or a product, grouped to the left; it has at least two
abbrev pub grouped : (Expression → Expression → Expression) → Expression → List Expression → Expression
grouped op e [] = e
grouped op e (f ∷ fs) = grouped op (op e f) fs

abbrev pub chained : (Expression → Expression → Expression) → List Expression → Expression
chained op [] = model.Number (whole (pos 0))
chained op (e ∷ es) = grouped op e es

-- `(- e)` is 0 - e; `#t`, which stands only in rates, is 1
abbrev mutual
  pub expression_meant : Context → Environment → Expr → Expression
  expression_meant c env (x_number n s) = model.Number (literal_value n)
  expression_meant c env (x_clock s) = model.Number (whole (pos 1))
  expression_meant c env (x_fluent u s) = model.Fluent (fluent_number c env u)
  expression_meant c env (x_sum es s) = chained Sum (expressions_meant c env es)
  expression_meant c env (x_product es s) = chained Product (expressions_meant c env es)
  expression_meant c env (x_minus e s) = Difference (model.Number (whole (pos 0))) (expression_meant c env e)
  expression_meant c env (x_difference e f s) = Difference (expression_meant c env e) (expression_meant c env f)
  expression_meant c env (x_quotient e f s) = Quotient (expression_meant c env e) (expression_meant c env f)

  pub expressions_meant : Context → Environment → Exprs → List Expression
  expressions_meant c env no_exprs = []
  expressions_meant c env (more_exprs e es) = expression_meant c env e ∷ expressions_meant c env es

-- ---- conditions

abbrev pub test_meant : Comparison → Test
test_meant Less = Below
test_meant AtMost = model.AtMost
test_meant Equal = Same
test_meant AtLeast = model.AtLeast
test_meant Greater = Above

-- A condition, or its negation where the sign is false. Negations go inward to atoms and comparisons: not all is any
-- not. A quantifier ranges over the objects of the types of its variables.
abbrev mutual
  pub condition_meant : Context → Environment → Bool → Cond → Condition
  condition_meant c env positive (c_all fs s) = joined positive (conditions_meant c env positive fs)
  condition_meant c env positive (c_any fs s) = joined (not positive) (conditions_meant c env positive fs)
  condition_meant c env positive (c_not f s) = condition_meant c env (not positive) f
  condition_meant c env positive (c_imply f g s) =
      joined (not positive) (condition_meant c env (not positive) f ∷ condition_meant c env positive g ∷ [])
  condition_meant c env positive (c_forall vs f s) = joined positive (map (λ e. condition_meant c e positive f) (environments c vs env))
  condition_meant c env positive (c_exists vs f s) = joined (not positive) (map (λ e. condition_meant c e positive f) (environments c vs env))
  condition_meant c env positive (c_atom u s) = model.Atom (atom_number c env u) positive
  condition_meant c env positive (c_same t u s) = joined (signed positive (nat_eq (term_object c env t) (term_object c env u))) []
  condition_meant c env positive (c_compare test e f s) =
      model.Compare (test_meant test) (expression_meant c env e) (expression_meant c env f) positive

  pub conditions_meant : Context → Environment → Bool → Conds → List Condition
  conditions_meant c env positive no_conds = []
  conditions_meant c env positive (more_conds f fs) = condition_meant c env positive f ∷ conditions_meant c env positive fs

-- ---- effects

abbrev pub write_meant : Context → Environment → LeafNode → Write
write_meant c env (Add u) = model.Add (atom_number c env u)
write_meant c env (Delete u) = model.Delete (atom_number c env u)
write_meant c env (Assign u e) = model.Assign (fluent_number c env u) (expression_meant c env e)
write_meant c env (Increase u e) = model.Increase (fluent_number c env u) (expression_meant c env e)
write_meant c env (Decrease u e) = model.Decrease (fluent_number c env u) (expression_meant c env e)
write_meant c env (ScaleUp u e) = model.ScaleUp (fluent_number c env u) (expression_meant c env e)
write_meant c env (ScaleDown u e) = model.ScaleDown (fluent_number c env u) (expression_meant c env e)

abbrev pub leaf_meant : Context → Environment → Condition → Leaf → Effect
leaf_meant c env guard l = record { guard = guard; write = write_meant c env l.node }

-- The writes of an effect in text order. Each write of a `when` has its condition as guard; a `forall` repeats its
-- effect for the objects of the types of its variables.
abbrev mutual
  pub effects_meant : Context → Environment → effects.Effect → List Effect
  effects_meant c env (e_all es s) = all_effects_meant c env es
  effects_meant c env (e_forall vs e s) = flat_map (λ inner. effects_meant c inner e) (environments c vs env)
  effects_meant c env (e_when f ls s) = map (leaf_meant c env (condition_meant c env true f)) ls
  effects_meant c env (e_leaf l s) = leaf_meant c env Always l ∷ []

  pub all_effects_meant : Context → Environment → Effects → List Effect
  all_effects_meant c env no_effects = []
  all_effects_meant c env (more_effects e es) = effects_meant c env e ++ all_effects_meant c env es

-- ---- rates

-- the amount of a rate: e of `(* #t e)` or `(* e #t)`, and 1 of `#t`
abbrev pub factor_meant : Context → Environment → Exprs → Expression
factor_meant c env (more_exprs e (more_exprs f no_exprs)) = expression_meant c env (if is_clock e then f else e)
factor_meant c env _ = model.Number (whole (pos 0))

abbrev pub amount_meant : Context → Environment → Expr → Expression
amount_meant c env (x_product es s) = factor_meant c env es
amount_meant c env e = expression_meant c env e

abbrev pub rate_meant : Context → Environment → LeafNode → List Rate
rate_meant c env (Increase u e) = record { fluent = fluent_number c env u; up = true; amount = amount_meant c env e } ∷ []
rate_meant c env (Decrease u e) = record { fluent = fluent_number c env u; up = false; amount = amount_meant c env e } ∷ []
rate_meant c env _ = []

-- the rates of the effect of a process, in text order
abbrev mutual
  pub rates_meant : Context → Environment → effects.Effect → List Rate
  rates_meant c env (e_all es s) = all_rates_meant c env es
  rates_meant c env (e_forall vs e s) = flat_map (λ inner. rates_meant c inner e) (environments c vs env)
  rates_meant c env (e_when f ls s) = []
  rates_meant c env (e_leaf l s) = rate_meant c env l.node

  pub all_rates_meant : Context → Environment → Effects → List Rate
  all_rates_meant c env no_effects = []
  all_rates_meant c env (more_effects e es) = rates_meant c env e ++ all_rates_meant c env es

-- ---- actions, events and processes

-- the label of a schema's instance: its name, and the names of its objects
abbrev pub instance_label : Context → Schema → Environment → List ℕ
instance_label c a env = label_of a.name.name (object_names c (map (λ b. b.1) env))

abbrev pub action_meant : Context → Schema → Environment → Action
action_meant c a env = record {
  label = instance_label c a env;
  condition = condition_meant c env true a.condition;
  effects = effects_meant c env a.effect;
}

abbrev pub event_meant : Context → Schema → Environment → Event
event_meant c a env = record {
  label = instance_label c a env;
  condition = condition_meant c env true a.condition;
  effects = effects_meant c env a.effect;
}

abbrev pub process_meant : Context → Schema → Environment → Process
process_meant c a env = record {
  label = instance_label c a env;
  condition = condition_meant c env true a.condition;
  rates = rates_meant c env a.effect;
}

-- the instances of schemas, schema by schema, one for each choice of objects for the parameters
abbrev pub instances_of : {A : Type 0} → Context → (Schema → Environment → A) → List Schema → List A
instances_of c f schemas = flat_map (λ a. map (f a) (environments c a.params [])) schemas

-- ---- the initial state

-- the number of the atom that a member of `:init` makes true, where it makes one true
abbrev pub held_by : Context → Init → List ℕ
held_by c (Holds u) = atom_number c [] u ∷ []
held_by c _ = []

-- whether each of the ground atoms from number k on is one of these
abbrev pub truths_from : List ℕ → ℕ → ℕ → List Bool
truths_from held k zero = []
truths_from held k (suc n) = list_any (nat_eq k) held ∷ truths_from held (suc k) n

-- the ground fluent, and the value that a member of `:init` gives it, where it gives one
abbrev pub given_by : Context → Init → List (ℕ × Fraction)
given_by c (Value u n s) = (fluent_number c [] u, literal_value n) ∷ []
given_by c _ = []

-- the value given to a fluent
abbrev pub value_given : ℕ → List (ℕ × Fraction) → Option Fraction
value_given k [] = None
value_given k (g ∷ gs) = if nat_eq k g.0 then Some g.1 else value_given k gs

-- the values of the ground fluents from number k on
abbrev pub values_from : List (ℕ × Fraction) → ℕ → ℕ → List (Option Fraction)
values_from given k zero = []
values_from given k (suc n) = value_given k given ∷ values_from given (suc k) n

-- at first exactly the atoms that `:init` lists are true, and the fluents have the values that it gives
abbrev pub initial_state : Context → List Init → State
initial_state c inits = record {
  atoms = truths_from (flat_map (held_by c) inits) 0 (length (ground_names c c.predicates));
  fluents = values_from (flat_map (given_by c) inits) 0 (length (ground_names c c.functions));
}

-- ---- timed initial literals

-- the literal that an atom becomes true, or false, at this time; at a time below 0, which no text spells, nothing happens
abbrev pub literal_at : Literal → ℕ → Bool → List Timed
literal_at t atom positive = if t.negative then [] else record { time = literal_value t; atom = atom; positive = positive } ∷ []

-- the timed literal that a member of `:init` is, where it is one
abbrev pub timed_by : Context → Init → List Timed
timed_by c (At t u s) = literal_at t (atom_number c [] u) true
timed_by c (AtNot t u s) = literal_at t (atom_number c [] u) false
timed_by c _ = []

-- behind those of an earlier time, before those of the same time
abbrev pub insert_timed : Timed → List Timed → List Timed
insert_timed l [] = l ∷ []
insert_timed l (m ∷ ms) = if is_below m.time l.time then m ∷ insert_timed l ms else l ∷ m ∷ ms

-- ordered by time, those of one time as they stood
abbrev pub by_time : List Timed → List Timed
by_time [] = []
by_time (l ∷ ls) = insert_timed l (by_time ls)

-- the timed literals of `:init`, ordered by time and then by text
abbrev pub timed_meant : Context → List Init → List Timed
timed_meant c inits = by_time (flat_map (timed_by c) inits)

-- ---- the ground problem

abbrev pub expanded_in : Context → Domain → tree.Problem → Problem
expanded_in c d p = record {
  atoms = length (ground_names c c.predicates);
  fluents = length (ground_names c c.functions);
  processes = instances_of c (process_meant c) d.processes;
  events = instances_of c (event_meant c) d.events;
  timed = timed_meant c p.init;
  initial = initial_state c p.init;
  goal = condition_meant c [] true p.goal;
}

abbrev pub expanded : Domain → tree.Problem → Problem
expanded d p = expanded_in (problem_context d p) d p

-- the texts of its atoms and fluents
abbrev pub labels_in : Context → Labels
labels_in c = record { atoms = ground_labels c c.predicates; fluents = ground_labels c c.functions }

abbrev pub labels_meant : Domain → tree.Problem → Labels
labels_meant d p = labels_in (problem_context d p)
