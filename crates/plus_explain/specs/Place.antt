-- Lines and places of a text. An offset counts bytes from 0.
use Rattle.std.specs.Prelude.{ℕ, ◌+◌, ◌==◌, Bool, not, List, take, drop, count_by, take_while}
use Rattle.std.specs.List.{after_last}

abbrev pub is_newline : ℕ → Bool
is_newline byte = byte == 10

-- the number of the line in which an offset stands: one more than there are line feeds before it
abbrev pub line_at : List ℕ → ℕ → ℕ
line_at text offset = count_by is_newline (take offset text) + 1

-- what stands in that line before the offset
abbrev pub line_before : List ℕ → ℕ → List ℕ
line_before text offset = after_last is_newline (take offset text)

-- what stands in that line from the offset on
abbrev pub line_behind : List ℕ → ℕ → List ℕ
line_behind text offset = take_while (λ byte. not (is_newline byte)) (drop offset text)
