-- A plan text that comes in pieces: what a reader of its lines holds, and what one call makes of it.
use Rattle.std.specs.Prelude.{◌≡◌, ℕ, ◌+◌, ◌-◌, ◌<◌, ◌≤◌, ◌⊎◌, Bool, true, false, ◌&&◌, ◌||◌, List, [], ◌∷◌, ◌++◌, length, min, nat_lt, if◌then◌else◌, Some, None, Result, Ok}
use Rattle.plus_plan.specs.declared.forms.Line.{Line}
use Rattle.plus_plan.specs.declared.forms.PlanForm.{PlanForm}
use Rattle.plus_plan.specs.declared.faults.PlanFault.{PlanFault}
use Rattle.plus_plan.specs.declared.faults.PlanFault.TheVariants as faults
use Rattle.plus_plan.specs.Cut.{lines_of, line_end, line_from, next_line}
use Rattle.plus_plan.specs.Lines.{read_line, numbered}
use Rattle.plus_plan.specs.Spells.{Spells, line_limit}
use Rattle.plus_plan.specs.Place.{IsFault}
use Rattle.plus_plan.specs.Answers.{HasBottom, RefusedAs}
use Rattle.plus_plan.specs.Pending.{Pending}

-- a reader that has taken nothing
abbrev pub fresh : PlanForm → Pending
fresh form = record { form = form; rest = []; number = 1; closed = false; fault = None }

-- ---- taking a piece

-- an LF stands in these bytes
abbrev pub has_lf : List ℕ → Bool
has_lf bytes = nat_lt (line_end bytes 0) (length bytes)

-- how many bytes of a piece are taken: up to and with its first LF, and no more than one byte past the limit of a line; none where a
-- whole line waits
abbrev pub taken_of : Pending → List ℕ → ℕ
taken_of r piece = if has_lf r.rest then 0 else min (line_limit + 1 - length r.rest) (next_line piece 0)

-- these bytes are taken
abbrev pub fed : Pending → List ℕ → Pending
fed r bytes = record r { rest = r.rest ++ bytes }

-- the text has ended
abbrev pub at_end : Pending → Pending
at_end r = record r { closed = true }

-- ---- giving a line

-- the bytes end where a line ends: there are none, or the last is an LF
abbrev pub AtLine : List ℕ → Type 0
AtLine bytes = (bytes ≡ []) ⊎ (front : List ℕ) × (bytes ≡ front ++ 10 ∷ [])

-- these bytes may come behind what was taken: none, where the text has ended
abbrev pub MayFollow : Pending → List ℕ → Type 0
MayFollow r more = r.closed ≡ true → more ≡ []

-- what the lines say that wait, with more bytes behind them
abbrev pub lines_with : Pending → List ℕ → List (Result Line PlanFault)
lines_with r more = numbered r.form r.number (lines_of (r.rest ++ more))

-- a line is to be given or refused: it has its LF, or it is too long, or it is the last of a text that has ended
abbrev pub is_due : Pending → Bool
is_due r = has_lf r.rest || (nat_lt line_limit (length r.rest) || (r.closed && nat_lt 0 (length r.rest)))

-- no line is to be given or refused: none has its LF, the last has not ended, and it may still be within its limit
pub record IsIdle (r : Pending) : Type 0 where
  pub no_fault : r.fault ≡ None
  pub no_lf : line_end r.rest 0 ≡ length r.rest
  pub not_last : r.closed ≡ true → r.rest ≡ []
  pub short : length r.rest ≤ line_limit

-- the number of the line behind that with a number: the greatest is kept
abbrev pub number_behind : ℕ → ℕ
number_behind n = min (n + 1) 4294967295

-- the line is given: the rest without it is empty, and the next number is due
abbrev pub without_line : Pending → Pending
without_line r = record r { rest = []; number = number_behind r.number }

-- the line that is given of a reader
pub record IsNext (r : Pending) (line : Line) : Type 0 where
  pub no_fault : r.fault ≡ None
  -- it is what the bytes that wait spell
  pub read : read_line r.form r.number (line_from r.rest 0) ≡ Ok line
  pub spelled : Spells r.form r.number line (line_from r.rest 0)
  pub bottom : HasBottom line
  -- it is the first of the lines that wait, whatever comes behind them, and the others are those of what comes
  pub some : 0 < length r.rest
  pub ends : r.closed ≡ false → AtLine r.rest
  pub first : (more : List ℕ) → MayFollow r more → lines_with r more ≡ Ok line ∷ numbered r.form (r.number + 1) (lines_of more)

-- the reader that refused a line with this fault keeps it; for want of memory the line waits
abbrev pub keeping : PlanFault → Pending → Pending
keeping faults.Memory r = r
keeping (faults.NotLine n start last) r = record r { fault = Some (faults.NotLine n start last) }
keeping (faults.LineTooLong n) r = record r { fault = Some (faults.LineTooLong n) }

-- the line that waits is refused for this reason, unless memory ran out
pub record IsRefusedNext (r : Pending) (e : PlanFault) : Type 0 where
  pub read : RefusedAs e (read_line r.form r.number (line_from r.rest 0))
  pub why : IsFault r.form r.number (line_from r.rest 0) e
  pub some : 0 < length r.rest
  -- it has its LF, unless the text has ended or it is too long already
  pub ends : r.closed ≡ false → AtLine r.rest ⊎ ((line_end r.rest 0 ≡ length r.rest) × (line_limit < length r.rest))
  -- it is the first of the lines that wait, whatever comes behind them
  pub first :
      (more : List ℕ) → MayFollow r more
      → (behind : List (Result Line PlanFault)) × (lines_with r more ≡ read_line r.form r.number (line_from r.rest 0) ∷ behind)
