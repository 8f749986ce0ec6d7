-- The rows of what is ground, by computation.
use Rattle.std.proofs.Common.{refl}
use Rattle.plus_fraction.specs.Gcd.{gcd, gcd_within}
use Rattle.plus_fraction.specs.Fraction.{over, compared}
use Rattle.plus_types.specs.Types.{is_above_within, is_above, is_under}
use Rattle.plus_types.specs.Faults.{listed_faults, member_faults, head_faults, leaf_faults, schema_faults, declaration_faults, rule_faults, state_faults, problem_faults}
use Rattle.rows.specs.Expansion.Ground.{ObjectRows, NumberRows, ProblemRows, TimedRows, CallRows, ConditionRows, ExpressionRows, SizeRows}

pub object_rows : ObjectRows
unfolding is_above_within is_above is_under listed_faults member_faults head_faults leaf_faults schema_faults declaration_faults rule_faults state_faults problem_faults
object_rows = record {
  well_typed = refl;
  places = refl;
  vans = refl;
  trucks = refl;
  boats = refl;
  objects = refl;
  choices = refl;
  no_choice = refl;
  empty_choice = refl;
}

pub number_rows : NumberRows
unfolding is_above_within is_above is_under
number_rows = record {
  atoms = refl;
  fluents = refl;
  first = refl;
  second = refl;
  third = refl;
  last = refl;
  wrong_type = refl;
  of_fluent = refl;
}

pub problem_rows : ProblemRows
unfolding is_above_within is_above is_under
problem_rows = record {
  atoms = refl;
  fluents = refl;
  processes = refl;
  events = refl;
  first_atoms = refl;
  first_values = refl;
  goal_meant = refl;
}

pub timed_rows : TimedRows
unfolding is_above_within is_above is_under listed_faults member_faults head_faults leaf_faults schema_faults declaration_faults rule_faults state_faults problem_faults compared over gcd gcd_within
timed_rows = record {
  well_typed = refl;
  none = refl;
  in_order = refl;
  first_atoms = refl;
  before_zero = refl;
  times = refl;
}

pub call_rows : CallRows
unfolding is_above_within is_above is_under
call_rows = record {
  instance = refl;
  unknown = refl;
  event_is_none = refl;
  few = refl;
  many = refl;
  wrong_type = refl;
  unknown_object = refl;
  no_object_of_its_type = refl;
  in_order = refl;
}

pub condition_rows : ConditionRows
unfolding is_above_within is_above is_under
condition_rows = record {
  none = refl;
  one_of_none = refl;
  any = refl;
  not_any = refl;
  not_imply = refl;
  for_every = refl;
  not_every = refl;
  over_none = refl;
  innermost = refl;
  unbound = refl;
  every_of_none = refl;
  bound_twice = refl;
}

pub expression_rows : ExpressionRows
unfolding is_above_within is_above is_under
expression_rows = record {
  sum = refl;
  product = refl;
  minus = refl;
  quotient = refl;
}

pub size_rows : SizeRows
unfolding is_above_within is_above is_under
size_rows = record {
  problem = refl;
  action = refl;
  within = refl;
  literals = refl;
  of_action = refl;
  of_none = refl;
}
