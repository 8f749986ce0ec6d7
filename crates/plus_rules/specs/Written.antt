-- Constraints of a text beside a well-typed pair: what is asked of them, and what they stand for. The forms are those of PDDL 3
-- (Gerevini and Long 2005). Their conditions stand beside the problem as its goal does: they may name all objects of the pair, and
-- together, in the place of the goal, they count as it would (this project's profile).
use Rattle.std.specs.Prelude.{ℕ, true, List, [], ◌∷◌, ◌++◌, map}
use Rattle.std.specs.List.{flat_map}
use Rattle.plus_tree.specs.declared.terms.Literal.{Literal}
use Rattle.plus_tree.specs.declared.trees.Rule.{Rule}
use Rattle.plus_tree.specs.declared.trees.Rule.TheVariants.{Always, Sometime, Within, HoldAfter}
use Rattle.plus_tree.specs.declared.trees.Constraint as written
use Rattle.plus_tree.specs.declared.trees.Domain.{Domain}
use Rattle.plus_tree.specs.declared.trees.Problem.{Problem}
use Rattle.plus_tree.specs.Cond.{Cond, Conds, c_all, conds_of}
use Rattle.plus_types.specs.declared.faults.TypeFault.{TypeFault}
use Rattle.plus_types.specs.Faults.{Context, problem_context, cond_faults}
use Rattle.plus_literal.specs.Value.{literal_value}
use Rattle.plus_expansion.specs.Expansion.{expanded, condition_meant}
use Rattle.plus_expansion.specs.Literals.{condition_literals}
use Rattle.plus_expansion.specs.Nodes.{problem_nodes}
use Rattle.plus_constraints.specs.Constraint as model
use Rattle.plus_constraints.specs.Constraint.{When, Constraint}

-- ---- what is asked of them

-- the broken rules of typing, in text order; they are told as faults of the problem
abbrev pub faults_of : Domain → Problem → List written.Constraint → List TypeFault
faults_of d p cs = flat_map (λ (c : written.Constraint). cond_faults (problem_context d p) [] c.cond) cs

-- all conditions together, as one that stands nowhere in a text
abbrev pub conditions_in : List written.Constraint → Conds
conditions_in cs = conds_of (map (λ (c : written.Constraint). c.cond) cs)

abbrev pub together : List written.Constraint → Cond
together cs = c_all (conditions_in cs) (record { start = 0; «end» = 0 })

-- the problem with them in the place of its goal
abbrev pub beside : Problem → List written.Constraint → Problem
beside p cs = record p { goal = together cs }

-- the nodes of the ground events, processes and conditions together
abbrev pub nodes_of : Domain → Problem → List written.Constraint → ℕ
nodes_of d p cs = problem_nodes (expanded d (beside p cs))

abbrev pub times_of : Rule → List Literal
times_of Always = []
times_of Sometime = []
times_of (Within t) = t ∷ []
times_of (HoldAfter t) = t ∷ []

-- the literals of all conditions, and then the times of all rules, each in text order
abbrev pub numbers_of : List written.Constraint → List Literal
numbers_of cs = flat_map (λ (c : written.Constraint). condition_literals c.cond) cs ++ flat_map (λ (c : written.Constraint). times_of c.rule) cs

-- ---- what they stand for

abbrev pub when_meant : Rule → When
when_meant Always = model.Always
when_meant Sometime = model.Sometime
when_meant (Within t) = model.Within (literal_value t)
when_meant (HoldAfter t) = model.HoldAfter (literal_value t)

abbrev pub constraint_meant : Context → written.Constraint → Constraint
constraint_meant k c = record { when = when_meant c.rule; condition = condition_meant k [] true c.cond }

abbrev pub constraints_meant : Domain → Problem → List written.Constraint → List Constraint
constraints_meant d p cs = map (constraint_meant (problem_context d p)) cs
