-- How large ground forms are. A node is a condition, an expression, an effect or a rate; an `All` or `Any` is one, and
-- its members are others.
use Rattle.std.specs.Prelude.{ℕ, ◌+◌, sum_by}
use Rattle.plus_model.specs.Terms.{Expression, Number, Fluent, Sum, Difference, Product, Quotient, Condition, Always, Never, Both, Either, Atom, Compare, Write, Add, Delete, Assign, Increase, Decrease, ScaleUp, ScaleDown, Effect, Rate, Action, Event, Process, Problem}

abbrev pub expression_nodes : Expression → ℕ
expression_nodes (Number x) = 1
expression_nodes (Fluent f) = 1
expression_nodes (Sum a b) = 1 + (expression_nodes a + expression_nodes b)
expression_nodes (Difference a b) = 1 + (expression_nodes a + expression_nodes b)
expression_nodes (Product a b) = 1 + (expression_nodes a + expression_nodes b)
expression_nodes (Quotient a b) = 1 + (expression_nodes a + expression_nodes b)

-- `All [c, d]` is Both c (Both d Always): its one node is counted at the end
abbrev pub condition_nodes : Condition → ℕ
condition_nodes Always = 1
condition_nodes Never = 1
condition_nodes (Both c d) = condition_nodes c + condition_nodes d
condition_nodes (Either c d) = condition_nodes c + condition_nodes d
condition_nodes (Atom a positive) = 1
condition_nodes (Compare test left right positive) = 1 + (expression_nodes left + expression_nodes right)

abbrev pub write_nodes : Write → ℕ
write_nodes (Add a) = 0
write_nodes (Delete a) = 0
write_nodes (Assign f e) = expression_nodes e
write_nodes (Increase f e) = expression_nodes e
write_nodes (Decrease f e) = expression_nodes e
write_nodes (ScaleUp f e) = expression_nodes e
write_nodes (ScaleDown f e) = expression_nodes e

abbrev pub effect_nodes : Effect → ℕ
effect_nodes e = 1 + (condition_nodes e.guard + write_nodes e.write)

abbrev pub rate_nodes : Rate → ℕ
rate_nodes r = 1 + expression_nodes r.amount

abbrev pub action_nodes : Action → ℕ
action_nodes a = condition_nodes a.condition + sum_by effect_nodes a.effects

abbrev pub event_nodes : Event → ℕ
event_nodes e = condition_nodes e.condition + sum_by effect_nodes e.effects

abbrev pub process_nodes : Process → ℕ
process_nodes p = condition_nodes p.condition + sum_by rate_nodes p.rates

-- of the ground events, processes and goal together
abbrev pub problem_nodes : Problem → ℕ
problem_nodes P = sum_by event_nodes P.events + (sum_by process_nodes P.processes + condition_nodes P.goal)
