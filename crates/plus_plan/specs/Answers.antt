-- What the answer on one line of a text says.
use Rattle.std.specs.Prelude.{◌≡◌, ℕ, ◌+◌, ◌<◌, ◌≤◌, List, ◌∷◌, length, drop, Option, Some, Result, Ok, Err, MatchResult}
use Rattle.plus_plan.specs.declared.forms.Line.{Line}
use Rattle.plus_plan.specs.declared.forms.Line.TheVariants as lines
use Rattle.plus_plan.specs.declared.forms.PlanForm.{PlanForm}
use Rattle.plus_plan.specs.declared.faults.PlanFault.{PlanFault}
use Rattle.plus_plan.specs.declared.faults.PlanFault.TheVariants as faults
use Rattle.plus_plan.specs.Cut.{lines_of, line_from, next_line}
use Rattle.plus_plan.specs.Lines.{read_line, numbered}
use Rattle.plus_plan.specs.Place.{IsFault}
use Rattle.plus_plan.specs.Spells.{Spells, line_limit}

-- the time of a line, where it has one, is a fraction: its bottom is above 0
abbrev pub HasBottom : Line → Type 0
HasBottom (lines.Act n t c) = 0 < t.bottom
HasBottom (lines.End n t) = 0 < t.bottom
HasBottom _ = Unit {0}

-- The line is refused for this reason, unless memory ran out.
abbrev pub RefusedAs : PlanFault → Result Line PlanFault → Type 0
RefusedAs (faults.NotLine n start last) read = read ≡ Err (faults.NotLine n start last)
RefusedAs (faults.LineTooLong n) read = read ≡ Err (faults.LineTooLong n)
RefusedAs faults.Memory read = Unit {0}

-- the line at an offset has more bytes than a line may have
abbrev pub IsTooLong : List ℕ → ℕ → Type 0
IsTooLong text from = line_limit < length (line_from text from)

-- a line that the bytes at an offset spell is the one given, unless memory ran out
abbrev pub GivesSpelled : PlanForm → ℕ → List ℕ → ℕ → Result (Option (Line × ℕ)) PlanFault → Type 0
GivesSpelled form n text from result =
    (l : Line) → Spells form n l (line_from text from)
    → MatchResult result (λ o. o ≡ Some (l, next_line text from)) (λ e. e ≡ faults.Memory)

-- x is the line of a text that begins at an offset, with this number, and where the next line begins
pub record IsLineAt (form : PlanForm) (n : ℕ) (text : List ℕ) (from : ℕ) (x : Line × ℕ) : Type 0 where
  -- what the line says, as the definition reads it and as its bytes spell it
  pub read : read_line form n (line_from text from) ≡ Ok x.0
  pub spelled : Spells form n x.0 (line_from text from)
  pub bottom : HasBottom x.0
  -- the next line begins further on
  pub next : x.1 ≡ next_line text from
  pub rises : from < x.1
  pub inside : x.1 ≤ length text
  -- the lines from here on are this one and those from the next on
  pub cut : lines_of (drop from text) ≡ line_from text from ∷ lines_of (drop x.1 text)
  pub said : numbered form n (lines_of (drop from text)) ≡ Ok x.0 ∷ numbered form (n + 1) (lines_of (drop x.1 text))

-- the line of a text that begins at an offset, with this number, is refused for this reason, unless memory ran out
pub record IsRefusedAt (form : PlanForm) (n : ℕ) (text : List ℕ) (from : ℕ) (e : PlanFault) : Type 0 where
  -- as the definition reads the line, and by what its tokens begin
  pub read : RefusedAs e (read_line form n (line_from text from))
  pub why : IsFault form n (line_from text from) e
  -- it is the first of the lines from here on
  pub said : numbered form n (lines_of (drop from text)) ≡ read_line form n (line_from text from) ∷ numbered form (n + 1) (lines_of (drop (next_line text from) text))
