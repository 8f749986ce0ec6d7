-- Limits on what comes from outside (this project's profile).
use Rattle.std.specs.Prelude.{ℕ}

-- the most bytes of a text
abbrev pub text_limit : ℕ
text_limit = 1048576

-- how many bytes of a text are asked of a shelf at once
abbrev pub piece_size : ℕ
piece_size = 4096

-- the most moments that a caller may allow a plan to enter
abbrev pub most_happenings : ℕ
most_happenings = 1000000
