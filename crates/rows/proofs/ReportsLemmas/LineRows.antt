-- The rows, by computation.
use Rattle.std.proofs.Common.{refl}
use Rattle.std.specs.Fmt.{digits}
use Rattle.plus_fraction.specs.Gcd.{gcd, gcd_within}
use Rattle.plus_fraction.specs.Fraction.{over}
use Rattle.plus_report.specs.Text.{bottom_text, fraction_text}
use Rattle.plus_report.specs.Verdicts.{operation_text, line_text, breach_text, limit_text}
use Rattle.plus_report.specs.Refusals.{place_text, early_text}
use Rattle.rows.specs.Reports.Lines.{VerdictRows, EarlyRows}

pub verdict_rows : VerdictRows
unfolding digits gcd gcd_within over bottom_text fraction_text operation_text line_text breach_text limit_text place_text early_text
verdict_rows = record {
  valid = refl;
  unknown_action = refl;
  wrong_arguments = refl;
  precondition = refl;
  time_goes_back = refl;
  after_end = refl;
  conflict = refl;
  no_value = refl;
  repeats = refl;
  unsettled = refl;
  coupled = refl;
  no_first_moment = refl;
  goal = refl;
  happenings = refl;
  plus = refl;
  minus = refl;
  times = refl;
  divide = refl;
  nonlinear = refl;
  nonlinear_process = refl;
  other = refl;
}

pub early_rows : EarlyRows
unfolding digits gcd gcd_within over bottom_text fraction_text operation_text line_text breach_text limit_text place_text early_text
early_rows = record {
  bad_line = refl;
  long_domain = refl;
  long_problem = refl;
  long_plan = refl;
  depth = refl;
  depth_out = refl;
  literal = refl;
  literal_of_line = refl;
  translated = refl;
  translated_domain = refl;
  objects = refl;
  atoms = refl;
  fluents = refl;
  processes = refl;
  events = refl;
  actions = refl;
  nodes = refl;
  byte = refl;
  long = refl;
  unclosed = refl;
  form = refl;
  unknown_type = refl;
  unknown_name = refl;
  arity = refl;
  wrong_type = refl;
  twice = refl;
  unbound = refl;
  shadowed = refl;
  type_loop = refl;
  rate_form = refl;
  domain_name = refl;
  name_taken = refl;
  not_level_two = refl;
  off_grid = refl;
}
