-- The tests that are asked of a pair and of a plan without time, in one type.
use Rattle.std.specs.Prelude.{ℕ, ◌≤◌, List}
use Rattle.plus_number.specs.Frac.{IsFrac64}
use Rattle.plus_state.specs.Tested as tested
use Rattle.plus_tree.specs.declared.terms.Literal.{Literal}
use Rattle.plus_types.specs.declared.faults.File.{File}
use Rattle.plus_literal.specs.Value.{LiteralFits}
use Rattle.plus_expansion.specs.Counts.{Counted}
use Rattle.plus_plan.specs.declared.faults.PlanFault.{PlanFault}
use Rattle.plus_plan.specs.declared.faults.PlanFault.TheVariants.{NotLine, LineTooLong, Memory}
use Rattle.plus_stepped.specs.Tests as stepped
use Rattle.plus_stepped.specs.Tests.{StepTest}
use Rattle.plus_numeric.specs.declared.level.Place.{Place}

-- A count passes where there are no more of its kind than may be, a literal where it is a value of the type of numbers; a test
-- of the action in a line, which has this number and this label, or of the goal, as `plus_stepped` says. All others are listed only
-- where they fail: something is beyond level two; a line is none; the text goes on behind its limit; the call of a line names no
-- action, or its arguments do not fit.
pub data Test : Type 0 where
  beyond : Place → Test
  count : Counted → Test
  literal : File → Literal → Test
  no_line : PlanFault → Test
  too_long : Test
  unknown_action : ℕ → List ℕ → Test
  wrong_arguments : ℕ → List ℕ → Test
  in_line : ℕ → List ℕ → StepTest → Test
  at_end : StepTest → Test

unfoldable pub Passes : Test → Type 0
Passes (beyond place) = ⊥
Passes (count c) = c.number ≤ c.most
Passes (literal file l) = LiteralFits IsFrac64 l
Passes (no_line fault) = ⊥
Passes too_long = ⊥
Passes (unknown_action n name) = ⊥
Passes (wrong_arguments n name) = ⊥
Passes (in_line n label t) = stepped.Passes IsFrac64 t
Passes (at_end t) = stepped.Passes IsFrac64 t

-- no test fails
abbrev pub AllPass : List Test → Type 0
AllPass ts = tested.AllPass Passes ts

-- the first test that fails
abbrev pub FirstFailing : List Test → Test → Type 0
FirstFailing ts t = tested.FirstFailing Passes ts t

-- by this the plan breaks a rule
abbrev pub IsBreach : Test → Type 0
IsBreach (unknown_action n name) = Unit {0}
IsBreach (wrong_arguments n name) = Unit {0}
IsBreach (in_line n label t) = stepped.IsBreach t
IsBreach (at_end t) = stepped.IsBreach t
IsBreach _ = ⊥

-- this says nothing of the plan: a limit of the program stands
abbrev pub IsStepLimit : StepTest → Type 0
IsStepLimit (stepped.asks node) = Unit {0}
IsStepLimit _ = ⊥

abbrev pub IsLineLimit : PlanFault → Type 0
IsLineLimit (NotLine n start last) = ⊥
IsLineLimit (LineTooLong n) = Unit {0}
IsLineLimit Memory = ⊥

abbrev pub IsLimit : Test → Type 0
IsLimit (count c) = Unit {0}
IsLimit (literal file l) = Unit {0}
IsLimit (no_line fault) = IsLineLimit fault
IsLimit too_long = Unit {0}
IsLimit (in_line n label t) = IsStepLimit t
IsLimit (at_end t) = IsStepLimit t
IsLimit _ = ⊥
