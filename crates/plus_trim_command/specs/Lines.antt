-- The lines of a plan text, one by one.
use Rattle.std.specs.Prelude.{◌≡◌, ℕ, ◌+◌, ◌<◌, ◌≤◌, List, [], ◌∷◌, ◌++◌, length, take, drop, map, All, Ok}
use Rattle.plus_io.specs.Limits.{text_limit}
use Rattle.plus_plan.specs.declared.forms.Line.{Line}
use Rattle.plus_plan.specs.declared.forms.Line.TheVariants.{Blank, Act, End, Step}
use Rattle.plus_plan.specs.declared.forms.PlanForm.TheVariants.{Timed}
use Rattle.plus_plan.specs.Answers.{HasBottom}
use Rattle.plus_plan.specs.Cut.{lines_of}
use Rattle.plus_plan.specs.Lines.{numbered, plan_lines}

-- What was read of a text, at most one byte past its limit: all of it, where that is within; else its first bytes up to the limit, and
-- one byte more, whichever. So it is judged as the text is.
pub data IsPlanText (bytes read : List ℕ) : Type 0 where
  whole : read ≡ bytes → IsPlanText bytes read
  longer : text_limit < length bytes → text_limit < length read → take text_limit read ≡ take text_limit bytes → IsPlanText bytes read

-- the lines that are not blank
abbrev pub spoken : List Line → List Line
spoken [] = []
spoken (Blank ∷ ls) = spoken ls
spoken (Act n t c ∷ ls) = Act n t c ∷ spoken ls
spoken (End n t ∷ ls) = End n t ∷ spoken ls
spoken (Step n c ∷ ls) = Step n c ∷ spoken ls

-- from an offset on, each line of the text is a line of a plan
abbrev pub AreLinesFrom : List ℕ → ℕ → ℕ → Type 0
AreLinesFrom text from number = (rest : List Line) × (numbered Timed number (lines_of (drop from text)) ≡ map Ok rest)

-- the line at an offset was read, and is kept where it is not blank
pub record ReadsOne (text : List ℕ) (from number : ℕ) (old new : List Line) (next : ℕ) : Type 0 where
  pub line : Line
  pub says : numbered Timed number (lines_of (drop from text)) ≡ Ok line ∷ numbered Timed (number + 1) (lines_of (drop next text))
  pub keeps : new ≡ old ++ spoken (line ∷ [])
  pub bottom : HasBottom line
  pub rises : from < next
  pub inside : next ≤ length text

-- up to an offset the lines are read, and those that are not blank are kept
pub record HaveRead (text : List ℕ) (from number : ℕ) (lines : List Line) : Type 0 where
  pub inside : from ≤ length text
  pub few : number ≤ from + 1
  pub all :
      (ls : List Line) → plan_lines Timed text ≡ map Ok ls
      → (rest : List Line) × (numbered Timed number (lines_of (drop from text)) ≡ map Ok rest) × (spoken ls ≡ lines ++ spoken rest)
  pub bottoms : All HasBottom lines
