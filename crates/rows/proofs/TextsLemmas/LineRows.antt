-- The rows, by computation.
use Rattle.std.proofs.Common.{refl}
use Rattle.plus_tokens.specs.First.{word_at, number_at, token_at, first_token}
use Rattle.plus_tokens.specs.Items.{items_from}
use Rattle.plus_tokens.specs.Numeral.{numeral_of}
use Rattle.plus_plan.specs.Grammar.{colon_of, divisor_of, quotient_of, time_of, name_of, args_of, call_of, end_of, number_of, close_square_of, duration_of, timed_line, untimed_line}
use Rattle.plus_plan.specs.Lines.{read_line}
use Rattle.rows.specs.Texts.Lines.{LineRows, FaultRows, CutRows}

pub line_rows : LineRows
unfolding colon_of divisor_of quotient_of time_of name_of args_of call_of end_of number_of close_square_of duration_of timed_line untimed_line read_line word_at number_at token_at first_token items_from numeral_of
line_rows = record {
  empty = refl;
  blank = refl;
  comment = refl;
  act = refl;
  as_planners_print = refl;
  quotient = refl;
  spaced_quotient = refl;
  negative_duration = refl;
  last = refl;
  step = refl;
}

pub fault_rows : FaultRows
unfolding colon_of divisor_of quotient_of time_of name_of args_of call_of end_of number_of close_square_of duration_of timed_line untimed_line read_line word_at number_at token_at first_token items_from numeral_of
fault_rows = record {
  unclosed = refl;
  no_colon = refl;
  keyword = refl;
  negative = refl;
  point_above = refl;
  point_below = refl;
  zero = refl;
  no_name = refl;
  variable = refl;
  behind = refl;
  behind_the_end = refl;
  no_duration = refl;
  open_duration = refl;
  untimed = refl;
  no_token = refl;
  name_of_65 = refl;
  timed = refl;
  step_with_duration = refl;
  short = refl;
  long = refl;
}

pub cut_rows : CutRows
unfolding colon_of divisor_of quotient_of time_of name_of args_of call_of end_of number_of close_square_of duration_of timed_line untimed_line read_line word_at number_at token_at first_token items_from numeral_of
cut_rows = record {
  nothing = refl;
  no_lf = refl;
  lf = refl;
  lf_alone = refl;
  empty_line = refl;
}
