-- What is written of a place in a text.
use Rattle.std.specs.Prelude.{ℕ, ◌+◌, ◌-◌, min, List, [], ◌∷◌, ◌++◌, length, codes, decimal}
use Rattle.plus_explain.specs.Place.{line_at, line_before, line_behind}
use Rattle.plus_explain.specs.Marked.{marked_text}

-- `FILE:LINE:COLUMN: WHY`
abbrev pub position_text : List ℕ → ℕ → ℕ → List ℕ → List ℕ
position_text file line column why =
    (file ++ codes ":") ++ ((decimal line ++ codes ":") ++ ((decimal column ++ codes ": ") ++ (why ++ 10 ∷ [])))

-- the same of the place of an offset, then its line, and a mark under what stands there from start to last
abbrev pub place_text : List ℕ → List ℕ → ℕ → ℕ → List ℕ → List ℕ
place_text file text start last why =
    let before = line_before text start in
    position_text file (line_at text start) (length before + 1) why
    ++ marked_text (before ++ line_behind text start) (length before) (length before + (min last (length text) - start))
