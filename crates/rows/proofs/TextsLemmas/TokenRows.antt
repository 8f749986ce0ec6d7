-- The rows, by computation.
use Rattle.std.proofs.Common.{refl}
use Rattle.plus_tokens.specs.First.{word_at, number_at, token_at, first_token}
use Rattle.rows.specs.Texts.Tokens.{TokenRows, ByteRows, LongRows}

pub token_rows : TokenRows
unfolding word_at number_at token_at first_token
token_rows = record {
  opens = refl;
  closes = refl;
  opens_square = refl;
  closes_square = refl;
  behind_blanks = refl;
  behind_comment = refl;
  nothing = refl;
  comment_alone = refl;
  further_on = refl;
  name = refl;
  name_with_digits = refl;
  variable = refl;
  keyword = refl;
  colon = refl;
  colon_before_a_digit = refl;
  number = refl;
  decimal = refl;
  negative = refl;
  before_a_name_byte = refl;
  minus = refl;
  minus_before_a_name = refl;
  plus = refl;
  times = refl;
  divide = refl;
  less = refl;
  at_most = refl;
  equal = refl;
  at_least = refl;
  greater = refl;
  clock = refl;
  last = refl;
}

pub byte_rows : ByteRows
unfolding word_at number_at token_at first_token
byte_rows = record {
  point_last = refl;
  point_alone = refl;
  two_points = refl;
  second_point = refl;
  no_digit_before = refl;
  letter_behind = refl;
  minus_behind = refl;
  behind_a_negative = refl;
  variable_behind = refl;
  less_behind = refl;
  no_variable = refl;
  variable_at_the_end = refl;
  no_clock = refl;
  clock_goes_on = refl;
  no_end = refl;
  end_goes_on = refl;
  low_line = refl;
  quote = refl;
  form_feed = refl;
  past_ascii = refl;
}

pub long_rows : LongRows
unfolding word_at number_at token_at first_token
long_rows = record {
  name_of_64 = refl;
  name_of_65 = refl;
  variable_of_64 = refl;
  variable_of_65 = refl;
  keyword_of_65 = refl;
  digits_19 = refl;
  digits_20 = refl;
  negative_20 = refl;
  places_9 = refl;
  places_10 = refl;
  and_point = refl;
  and_letter = refl;
}
