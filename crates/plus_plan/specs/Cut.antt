-- A text, cut into lines. The rule is this project's profile: a line ends at its LF, which is no part of it.
use Rattle.std.specs.Prelude.{ℕ, ◌+◌, Bool, not, ◌==◌, List, [], ◌∷◌, length, drop, slice_range, min, if◌then◌else◌}
use Rattle.std.specs.List.{prefix_len}

-- one more byte at the front of the first line
abbrev pub with_front : ℕ → List (List ℕ) → List (List ℕ)
with_front b [] = (b ∷ []) ∷ []
with_front b (l ∷ ls) = (b ∷ l) ∷ ls

-- the lines of a text: it is cut at each LF, and a last line without LF counts where it has a byte
abbrev pub lines_of : List ℕ → List (List ℕ)
lines_of [] = []
lines_of (b ∷ bs) = if b == 10 then [] ∷ lines_of bs else with_front b (lines_of bs)

-- a byte that ends no line
abbrev pub goes_on : ℕ → Bool
goes_on b = not (b == 10)

-- where the line that begins at an offset ends: at the next LF, or at the end of the text
abbrev pub line_end : List ℕ → ℕ → ℕ
line_end text from = from + prefix_len goes_on (drop from text)

-- the bytes of that line
abbrev pub line_from : List ℕ → ℕ → List ℕ
line_from text from = slice_range text from (line_end text from)

-- where the line behind it begins: behind the LF, or at the end of the text
abbrev pub next_line : List ℕ → ℕ → ℕ
next_line text from = min (line_end text from + 1) (length text)
