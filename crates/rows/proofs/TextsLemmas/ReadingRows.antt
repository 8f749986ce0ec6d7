-- The rows, by computation.
use Rattle.std.proofs.Common.{refl}
use Rattle.std.specs.Fmt.{digits}
use Rattle.plus_tokens.specs.First.{word_at, number_at, token_at, first_token}
use Rattle.plus_tokens.specs.Items.{items_from}
use Rattle.plus_tokens.specs.Numeral.{numeral_of}
use Rattle.plus_parser.specs.Balanced.{skip}
use Rattle.plus_printer.specs.Canon.{write_text, leaf_text, leaves_text, section, keyword_text, requirements_text, head_text, keys_text, schema_text, heads_text, declared_text, happening_text, domain_text, for_text, titled_text, stated_text, problem_text}
use Rattle.plus_parser.specs.Phrases.Grammar.{token_of, until_close, form_step, argument_step, list_step, list_of, variables_of, use_end, use_form, expr_from, expr_next, two_of, pair_of, many_of, minus_of, expr_body, expr_at}
use Rattle.plus_parser.specs.Phrases.Literals.{kind_literal}
use Rattle.plus_printer.specs.Words.{word, domain_opening, problem_opening, requirements_opening, predicates_opening, functions_opening, precondition_key, term_text, use_text, typed_text, variable_text, variables_text, padded, pointed, number_text, literal_text}
use Rattle.plus_parser.specs.ReadingDomain.{requirement_step, predicate_at, function_step, key_step, schema_of, section_step, domain_part, end_of, front_of, domain_in}
use Rattle.plus_parser.specs.Forms.ReadingForms.{form_next, both_of, term_next, compared_of, cond_body, cond_at, leaf_behind, leaf_at, simple_at, effect_body, effect_at}
use Rattle.plus_parser.specs.ReadingProblem.{literal_next, timed_of, init_at, problem_part, problem_in}
use Rattle.plus_parser.specs.ReadingConstraints.{time_next, constraint_behind, constraint_at, constraints_at, constraints_of}
use Rattle.rows.specs.Texts.Reading.{DomainRow, ProblemRow, FaultRows, ConstraintRows}

pub domain_row_holds : DomainRow
unfolding skip write_text leaf_text leaves_text section keyword_text requirements_text head_text keys_text schema_text heads_text declared_text happening_text domain_text for_text titled_text stated_text problem_text token_of until_close form_step argument_step list_step list_of variables_of use_end use_form expr_from expr_next two_of pair_of many_of minus_of expr_body expr_at kind_literal word domain_opening problem_opening requirements_opening predicates_opening functions_opening precondition_key term_text use_text typed_text variable_text variables_text padded pointed number_text literal_text requirement_step predicate_at function_step key_step schema_of section_step domain_part end_of front_of domain_in form_next both_of term_next compared_of cond_body cond_at leaf_behind leaf_at simple_at effect_body effect_at literal_next timed_of init_at problem_part problem_in digits word_at number_at token_at first_token items_from numeral_of
domain_row_holds = refl

pub problem_row_holds : ProblemRow
unfolding skip write_text leaf_text leaves_text section keyword_text requirements_text head_text keys_text schema_text heads_text declared_text happening_text domain_text for_text titled_text stated_text problem_text token_of until_close form_step argument_step list_step list_of variables_of use_end use_form expr_from expr_next two_of pair_of many_of minus_of expr_body expr_at kind_literal word domain_opening problem_opening requirements_opening predicates_opening functions_opening precondition_key term_text use_text typed_text variable_text variables_text padded pointed number_text literal_text requirement_step predicate_at function_step key_step schema_of section_step domain_part end_of front_of domain_in form_next both_of term_next compared_of cond_body cond_at leaf_behind leaf_at simple_at effect_body effect_at literal_next timed_of init_at problem_part problem_in digits word_at number_at token_at first_token items_from numeral_of
problem_row_holds = refl

pub fault_rows_holds : FaultRows
unfolding skip write_text leaf_text leaves_text section keyword_text requirements_text head_text keys_text schema_text heads_text declared_text happening_text domain_text for_text titled_text stated_text problem_text token_of until_close form_step argument_step list_step list_of variables_of use_end use_form expr_from expr_next two_of pair_of many_of minus_of expr_body expr_at kind_literal word domain_opening problem_opening requirements_opening predicates_opening functions_opening precondition_key term_text use_text typed_text variable_text variables_text padded pointed number_text literal_text requirement_step predicate_at function_step key_step schema_of section_step domain_part end_of front_of domain_in form_next both_of term_next compared_of cond_body cond_at leaf_behind leaf_at simple_at effect_body effect_at literal_next timed_of init_at problem_part problem_in digits word_at number_at token_at first_token items_from numeral_of
fault_rows_holds = record {
  empty = refl;
  unclosed = refl;
  durative = refl;
  behind = refl;
  byte_behind = refl;
  reserved = refl;
  reserved_case = refl;
  twice = refl;
  key_twice = refl;
  type_first = refl;
  no_type = refl;
  one_operand = refl;
  nested_when = refl;
  forall_in_when = refl;
  function_type = refl;
  bare_fluent = refl;
  init_variable = refl;
  at_negative = refl;
  no_goal = refl;
  not_timed = refl;
}

pub constraint_rows_hold : ConstraintRows
unfolding token_of until_close form_step argument_step use_end expr_from expr_next expr_body expr_at kind_literal word term_text use_text padded pointed number_text literal_text end_of form_next both_of compared_of cond_body cond_at time_next constraint_behind constraint_at constraints_at constraints_of digits word_at number_at token_at first_token items_from numeral_of
constraint_rows_hold = record {
  list = refl;
  none = refl;
  single = refl;
  places = refl;
  empty = refl;
  unclosed = refl;
  bare = refl;
  condition = refl;
  nested = refl;
  behind = refl;
  no_condition = refl;
  two_conditions = refl;
  no_time = refl;
  time = refl;
  negative = refl;
  negative_zero = refl;
  fraction = refl;
}
