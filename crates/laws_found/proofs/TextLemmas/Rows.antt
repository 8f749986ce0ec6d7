-- The rows, computed.
use Rattle.std.proofs.Common.{refl}
use Rattle.std.specs.Fmt.{digits}
use Rattle.plus_fraction.specs.Fraction.{over}
use Rattle.plus_fraction.specs.Gcd.{gcd, gcd_within}
use Rattle.plus_tokens.specs.First.{word_at, number_at, token_at, first_token}
use Rattle.plus_tokens.specs.Items.{items_from}
use Rattle.plus_tokens.specs.Numeral.{numeral_of}
use Rattle.plus_plan.specs.Grammar.{colon_of, divisor_of, quotient_of, time_of, name_of, args_of, call_of, end_of, number_of, close_square_of, duration_of, timed_line}
use Rattle.plus_plan.specs.Lines.{read_line}
use Rattle.plus_report.specs.Text.{bottom_text, fraction_text}
use Rattle.laws_found.specs.Text.Rows.{WrittenRow, EmptyRow, ReadRow}

pub written_row : WrittenRow
unfolding fraction_text bottom_text over gcd gcd_within digits
written_row = refl

pub empty_row : EmptyRow
unfolding fraction_text bottom_text over gcd gcd_within digits
empty_row = refl

pub read_row : ReadRow
unfolding read_line items_from first_token token_at number_at word_at numeral_of timed_line time_of quotient_of divisor_of colon_of name_of args_of call_of end_of number_of close_square_of duration_of
read_row = refl
