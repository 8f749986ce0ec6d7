-- What titles say, with exact times and values.
use Rattle.std.specs.Prelude.{ℕ, List, [], ◌∷◌, ◌++◌, ◌==◌, if◌then◌else◌, codes, decimal}
use Rattle.plus_fraction.specs.Fraction.{Fraction}
use Rattle.plus_report.specs.Text.{fraction_text}

-- a value at a time
unfoldable pub point_title : Fraction → Fraction → List ℕ
point_title time value = codes "at " ++ (fraction_text time ++ (codes ": " ++ fraction_text value))

-- how often, where it is more than once
unfoldable pub times_text : ℕ → List ℕ
times_text count = if count == 1 then [] else decimal count ++ codes " times "

-- from one time to another
unfoldable pub span_text : Fraction → Fraction → List ℕ
span_text from to = codes "from " ++ (fraction_text from ++ (codes " to " ++ fraction_text to))

unfoldable pub bar_title : ℕ → Fraction → Fraction → List ℕ
bar_title count from to = times_text count ++ span_text from to

-- which step of its moment something is, where it is one: a timed literal comes before them
unfoldable pub step_text : ℕ → List ℕ
step_text step = if step == 0 then [] else codes ", step " ++ decimal step

-- what happens at a step of a moment
unfoldable pub mark_title : Fraction → ℕ → List ℕ → List ℕ
mark_title time step name = codes "at " ++ (fraction_text time ++ (step_text step ++ (codes ": " ++ name)))
