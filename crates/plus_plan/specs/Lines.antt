-- The lines of a plan text, each with what it says or why it is no line.
use Rattle.std.specs.Prelude.{ℕ, ◌+◌, List, [], ◌∷◌, nat_lt, if◌then◌else◌, length, Option, Some, None, Result, Ok, Err}
use Rattle.plus_plan.specs.declared.forms.Line.{Line}
use Rattle.plus_plan.specs.declared.forms.PlanForm.{PlanForm}
use Rattle.plus_plan.specs.declared.faults.PlanFault.{PlanFault}
use Rattle.plus_plan.specs.declared.faults.PlanFault.TheVariants as faults
use Rattle.plus_plan.specs.declared.reader.Refusal.{Refusal}
use Rattle.plus_plan.specs.declared.reader.Refusal.TheVariants as refusals
use Rattle.plus_tokens.specs.Items.{items_of}
use Rattle.plus_plan.specs.Grammar.{line_of}
use Rattle.plus_plan.specs.Cut.{lines_of}
use Rattle.plus_plan.specs.Spells.{line_limit}

-- the fault in line n, which has so many bytes: the end of the line is the place with its length
abbrev pub fault_of : ℕ → ℕ → Refusal → PlanFault
fault_of n size (refusals.At s) = faults.NotLine n s.start s.«end»
fault_of n size refusals.AtEnd = faults.NotLine n size size
fault_of n size refusals.Memory = faults.Memory

abbrev pub placed : ℕ → ℕ → Result Line Refusal → Result Line PlanFault
placed n size (Ok l) = Ok l
placed n size (Err e) = Err (fault_of n size e)

-- what these bytes say as line n, or why they are no line
unfoldable pub read_line : PlanForm → ℕ → List ℕ → Result Line PlanFault
read_line form n bytes =
    if nat_lt line_limit (length bytes) then Err (faults.LineTooLong n)
    else placed n (length bytes) (line_of form n (items_of bytes))

-- what these lines say, where the first has this number; blank lines are counted too
abbrev pub numbered : PlanForm → ℕ → List (List ℕ) → List (Result Line PlanFault)
numbered form n [] = []
numbered form n (l ∷ ls) = read_line form n l ∷ numbered form (n + 1) ls

-- what the lines of a plan text say, numbered from 1
abbrev pub plan_lines : PlanForm → List ℕ → List (Result Line PlanFault)
plan_lines form text = numbered form 1 (lines_of text)
