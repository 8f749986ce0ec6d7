-- The rows of typing, by computation.
use Rattle.std.proofs.Common.{refl}
use Rattle.plus_types.specs.Types.{is_above_within, is_above, is_under}
use Rattle.plus_types.specs.Faults.{listed_faults, member_faults, head_faults, leaf_faults, schema_faults, declaration_faults, rule_faults, state_faults, problem_faults}
use Rattle.plus_typing.specs.Worked.Typing.{TypesRows, TypeListRows, DeclarationRows, UseRows, VariableRows, SchemaRows, RateRows, InitialRows}

pub types_rows : TypesRows
unfolding is_above_within is_above is_under
types_rows = record {
  itself = refl;
  above = refl;
  further = refl;
  downward = refl;
  beside = refl;
  top = refl;
  top_of_unlisted = refl;
  top_is_under_none = refl;
  not_above_itself = refl;
  listed = refl;
  only_above = refl;
  object = refl;
  unknown = refl;
}

pub type_list_rows : TypeListRows
unfolding is_above_within is_above is_under listed_faults member_faults head_faults leaf_faults schema_faults declaration_faults rule_faults state_faults problem_faults
type_list_rows = record {
  well_listed = refl;
  twice = refl;
  loop = refl;
  above_itself = refl;
  under_object = refl;
  through_object = refl;
  by_the_second = refl;
}

pub declaration_rows : DeclarationRows
unfolding is_above_within is_above is_under listed_faults member_faults head_faults leaf_faults schema_faults declaration_faults rule_faults state_faults problem_faults
declaration_rows = record {
  constant_type = refl;
  object_type = refl;
  parameter_type = refl;
  type_above = refl;
  constant_twice = refl;
  object_twice = refl;
  object_and_constant = refl;
  name_before_type = refl;
  parameter_twice = refl;
  predicate_twice = refl;
  function_twice = refl;
  predicate_and_function = refl;
  domain_name = refl;
}

pub use_rows : UseRows
unfolding is_above_within is_above is_under listed_faults member_faults head_faults leaf_faults schema_faults declaration_faults rule_faults state_faults problem_faults
use_rows = record {
  right = refl;
  subtype = refl;
  under_object = refl;
  supertype = refl;
  wrong_second = refl;
  unknown_predicate = refl;
  function_as_predicate = refl;
  unknown_object = refl;
  unbound = refl;
  few = refl;
  many = refl;
  same_objects = refl;
  numbers = refl;
  unknown_function = refl;
  clock_in_goal = refl;
  in_order = refl;
}

pub variable_rows : VariableRows
unfolding is_above_within is_above is_under listed_faults member_faults head_faults leaf_faults schema_faults declaration_faults rule_faults state_faults problem_faults
variable_rows = record {
  bound = refl;
  shadowed = refl;
  twice = refl;
  in_turn = refl;
  past_its_list = refl;
  wrong_type = refl;
  unknown_type = refl;
}

pub schema_rows : SchemaRows
unfolding is_above_within is_above is_under listed_faults member_faults head_faults leaf_faults schema_faults declaration_faults rule_faults state_faults problem_faults
schema_rows = record {
  parameters = refl;
  condition_first = refl;
  objects_of_the_problem = refl;
  quantified_effect = refl;
  conditional_effect = refl;
  twice = refl;
  kinds_apart = refl;
}

pub rate_rows : RateRows
unfolding is_above_within is_above is_under listed_faults member_faults head_faults leaf_faults schema_faults declaration_faults rule_faults state_faults problem_faults
rate_rows = record {
  rate = refl;
  clock_alone = refl;
  clock_last = refl;
  no_clock = refl;
  two_clocks = refl;
  three_factors = refl;
  assigned = refl;
  added_atom = refl;
  in_process_when = refl;
  in_action = refl;
  in_event = refl;
}

pub initial_rows : InitialRows
unfolding is_above_within is_above is_under listed_faults member_faults head_faults leaf_faults schema_faults declaration_faults rule_faults state_faults problem_faults
initial_rows = record {
  second_value = refl;
}
