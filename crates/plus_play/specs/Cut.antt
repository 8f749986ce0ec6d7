-- What the lines of a plan text say as far as it is within its limit. Of one that goes on behind its limit these are its whole lines, and
-- the piece of a line behind them.
use Rattle.std.specs.Prelude.{ℕ, ◌+◌, List, [], ◌∷◌, ◌++◌, ◌==◌, if◌then◌else◌, Bool, length, take, nat_lt, Result, Err}
use Rattle.std.specs.List.{list_any}
use Rattle.plus_io.specs.Limits.{text_limit}
use Rattle.plus_plan.specs.declared.forms.Line.{Line}
use Rattle.plus_plan.specs.declared.forms.PlanForm.{PlanForm}
use Rattle.plus_plan.specs.declared.faults.PlanFault.{PlanFault}
use Rattle.plus_plan.specs.declared.faults.PlanFault.TheVariants.{LineTooLong}
use Rattle.plus_plan.specs.Cut.{lines_of}
use Rattle.plus_plan.specs.Lines.{plan_lines}
use Rattle.plus_plan.specs.Spells.{line_limit}

-- an LF stands in these bytes
abbrev pub has_lf : List ℕ → Bool
has_lf bytes = list_any (λ b. b == 10) bytes

-- up to and with the last LF
abbrev pub whole_lines : List ℕ → List ℕ
whole_lines [] = []
whole_lines (b ∷ bs) = if has_lf (b ∷ bs) then b ∷ whole_lines bs else []

-- behind the last LF
abbrev pub last_piece : List ℕ → List ℕ
last_piece [] = []
last_piece (b ∷ bs) = if has_lf (b ∷ bs) then last_piece bs else b ∷ bs

-- the piece of a line, which has this number, at which a text is cut off: it may be longer than a line may be already
abbrev pub cut_piece : ℕ → List ℕ → List (Result Line PlanFault)
cut_piece n piece = if nat_lt line_limit (length piece) then Err (LineTooLong n) ∷ [] else []

-- the whole lines of a text that goes on behind its limit, of which this is what is within
abbrev pub long_lines : PlanForm → List ℕ → List (Result Line PlanFault)
long_lines form text = plan_lines form (whole_lines text) ++ cut_piece (length (lines_of (whole_lines text)) + 1) (last_piece text)

-- what the lines of a text say, as far as it is within its limit
unfoldable pub text_lines : PlanForm → List ℕ → List (Result Line PlanFault)
text_lines form bytes = if nat_lt text_limit (length bytes) then long_lines form (take text_limit bytes) else plan_lines form bytes
