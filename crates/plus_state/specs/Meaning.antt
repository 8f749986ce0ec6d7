-- What the terms of the code mean: the ground terms of the model, and the ground problem of lists of them, with
-- fractions of any size. The first argument of each is the fraction that a number means.
use Rattle.std.specs.Prelude.{ℕ, List, map, length}
use Rattle.plus_fraction.specs.Fraction.{Fraction}
use Rattle.plus_model.specs.Terms as model
use Rattle.plus_model.specs.Terms.{Expression, Sum, Difference, Product, Quotient, Condition, Always, Never, Both, Either, Below, Same, Above}
use Rattle.plus_state.specs.declared.term.Expr.{Expr, Number, Fluent, Add', Sub', Mul', Div'}
use Rattle.plus_state.specs.declared.term.Test.{Test}
use Rattle.plus_state.specs.declared.term.Test.TheVariants.{Less, AtMost, Equal, AtLeast, Greater}
use Rattle.plus_state.specs.declared.term.Cond.{Cond, All', Any', Atom, Compare, Row_of-Cond, end_of-Cond, more_of-Cond}
use Rattle.plus_state.specs.declared.term.Write.{Write}
use Rattle.plus_state.specs.declared.term.Write.TheVariants.{Add, Delete, Assign, Increase, Decrease, ScaleUp, ScaleDown}
use Rattle.plus_state.specs.declared.term.Effect.{Effect}
use Rattle.plus_state.specs.declared.term.Rate.{Rate}
use Rattle.plus_state.specs.declared.term.Overflow.{Overflow}
use Rattle.plus_state.specs.declared.problem.Action.{Action}
use Rattle.plus_state.specs.declared.problem.Event.{Event}
use Rattle.plus_state.specs.declared.problem.Process.{Process}
use Rattle.plus_state.specs.declared.problem.Timed.{Timed}
use Rattle.plus_state.specs.Node.{Node}

-- an expression
abbrev pub expression_of : {Q : Type 0} → (Q → Fraction) → Expr Q → Expression
expression_of v (Number x) = model.Number (v x)
expression_of v (Fluent f) = model.Fluent f.0
expression_of v (Add' p a q b) = Sum (expression_of v a) (expression_of v b)
expression_of v (Sub' p a q b) = Difference (expression_of v a) (expression_of v b)
expression_of v (Mul' p a q b) = Product (expression_of v a) (expression_of v b)
expression_of v (Div' p a q b) = Quotient (expression_of v a) (expression_of v b)

abbrev pub test_of : Test → model.Test
test_of Less = Below
test_of AtMost = model.AtMost
test_of Equal = Same
test_of AtLeast = model.AtLeast
test_of Greater = Above

-- `All [c, d]` is Both c (Both d Always), and `Any [c, d]` is Either c (Either d Never)
abbrev mutual
  pub condition_of : {Q : Type 0} → (Q → Fraction) → Cond Q → Condition
  condition_of v (All' shape members) = all_in v members
  condition_of v (Any' shape members) = any_in v members
  condition_of v (Atom a positive) = model.Atom a.0 positive
  condition_of v (Compare test left right positive) = model.Compare (test_of test) (expression_of v left) (expression_of v right) positive

  pub all_in : {Q : Type 0} → (Q → Fraction) → {m : _} → Row_of-Cond Q m → Condition
  all_in v end_of-Cond = Always
  all_in v (more_of-Cond c rest) = Both (condition_of v c) (all_in v rest)

  pub any_in : {Q : Type 0} → (Q → Fraction) → {m : _} → Row_of-Cond Q m → Condition
  any_in v end_of-Cond = Never
  any_in v (more_of-Cond c rest) = Either (condition_of v c) (any_in v rest)

-- an operation whose result is no value
abbrev pub overflow_of : {Q : Type 0} → (Q → Fraction) → Overflow Q → Node
overflow_of v o = record { sign = o.sign; left = v o.left; right = v o.right }

abbrev pub write_of : {Q : Type 0} → (Q → Fraction) → Write Q → model.Write
write_of v (Add a) = model.Add a.0
write_of v (Delete a) = model.Delete a.0
write_of v (Assign f e) = model.Assign f.0 (expression_of v e)
write_of v (Increase f e) = model.Increase f.0 (expression_of v e)
write_of v (Decrease f e) = model.Decrease f.0 (expression_of v e)
write_of v (ScaleUp f e) = model.ScaleUp f.0 (expression_of v e)
write_of v (ScaleDown f e) = model.ScaleDown f.0 (expression_of v e)

abbrev pub effect_of : {Q : Type 0} → (Q → Fraction) → Effect Q → model.Effect
effect_of v e = record { guard = condition_of v e.guard; write = write_of v e.write }

abbrev pub rate_of : {Q : Type 0} → (Q → Fraction) → Rate Q → model.Rate
rate_of v r = record { fluent = r.fluent.0; up = r.up; amount = expression_of v r.amount }

abbrev pub action_of : {Q : Type 0} → (Q → Fraction) → Action Q → model.Action
action_of v a = record { label = a.label; condition = condition_of v a.condition; effects = map (effect_of v) a.effects.items }

abbrev pub event_of : {Q : Type 0} → (Q → Fraction) → Event Q → model.Event
event_of v e = record { label = e.label; condition = condition_of v e.condition; effects = map (effect_of v) e.effects.items }

abbrev pub process_of : {Q : Type 0} → (Q → Fraction) → Process Q → model.Process
process_of v p = record { label = p.label; condition = condition_of v p.condition; rates = map (rate_of v) p.rates.items }

abbrev pub timed_of : {Q : Type 0} → (Q → Fraction) → Timed Q → model.Timed
timed_of v t = record { time = v t.time; atom = t.atom.0; positive = t.positive }

-- the ground problem with these labels of atoms and of fluents and these members: there are as many atoms and fluents as labels
abbrev pub problem_from : {Q : Type 0} → (Q → Fraction) → (atoms fluents : List (List ℕ)) → List (Process Q) → List (Event Q) → List (Timed Q) → model.State → Cond Q → model.Problem
problem_from v atoms fluents processes events timed initial goal = record {
  atoms = length atoms;
  fluents = length fluents;
  processes = map (process_of v) processes;
  events = map (event_of v) events;
  timed = map (timed_of v) timed;
  initial = initial;
  goal = condition_of v goal;
}
