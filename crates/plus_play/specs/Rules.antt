-- What one who plays lines says of it, and where it may be stopped.
use Rattle.std.specs.Prelude.{◌≡◌, ℕ, ◌<◌, ◌≤◌, List, ◌∷◌, ◌++◌, length, map, Option, IfSome, Result, Ok, Err}
use Rattle.plus_io.specs.Limits.{text_limit}
use Rattle.plus_io.specs.Taken.{Took}
use Rattle.plus_plan.specs.declared.forms.Line.{Line}
use Rattle.plus_plan.specs.declared.forms.PlanForm.{PlanForm}
use Rattle.plus_plan.specs.declared.faults.PlanFault.{PlanFault}
use Rattle.plus_plan.specs.declared.faults.PlanFault.TheVariants as faults
use Rattle.plus_plan.specs.Lines.{plan_lines}
use Rattle.plus_play.specs.Cut.{text_lines}

-- where one stops: on a line, at what is no line, behind the limit of the text, at its end, or while what is told is handed on
pub data Why : Type 0 where
  on_line : Line → Why
  no_line : PlanFault → Why
  too_long : Why
  at_end : Why
  handing : Why

-- Of one who plays lines (S), what it tells to (O) and its stops (T). A relation of two of each stands between where it began and where it
-- is now.
pub record Rules (S O T : Type 0) : Type 1 where
  pub told : O → Option (List ℕ)  -- what it told, where that is known
  pub Can : S → O → Type 0  -- it may go on
  pub Handed : S → O → Type 0  -- all that it tells is handed on
  pub Played : S → O → List Line → S → O → Type 0  -- these lines are played
  pub Ended : S → O → List Line → S → O → Type 0  -- they are, and they are all
  pub Stops : S → O → List Line → Why → S → O → T → Type 0  -- they are played, and then it stops so

-- what was told stays told, and more may be
abbrev pub TellsMore : {S O T : Type 0} → Rules S O T → O → O → Type 0
TellsMore {S} {O} {T} R old new = (more : List ℕ) × Took (R.told old) (R.told new) more

-- these lines too are played
abbrev pub Goes : {S O T : Type 0} → Rules S O T → List Line → S → O → S → O → Type 0
Goes {S} {O} {T} R more old out new now = (first : S) (start : O) (lines : List Line) → R.Played first start lines old out → R.Played first start (lines ++ more) new now

-- what is told goes out, and nothing more is played
abbrev pub Hands : {S O T : Type 0} → Rules S O T → S → O → S → O → Type 0
Hands {S} {O} {T} R old out new now = (first : S) (start : O) (lines : List Line) → R.Played first start lines old out → R.Played first start lines new now

-- the lines have ended
abbrev pub Finishes : {S O T : Type 0} → Rules S O T → S → O → S → O → Type 0
Finishes {S} {O} {T} R old out new now = (first : S) (start : O) (lines : List Line) → R.Played first start lines old out → R.Ended first start lines new now

-- it stops here, whatever was played
abbrev pub StopsAt : {S O T : Type 0} → Rules S O T → Why → S → O → S → O → T → Type 0
StopsAt {S} {O} {T} R why old out new now stop = (first : S) (start : O) (lines : List Line) → R.Played first start lines old out → R.Stops first start lines why new now stop

-- ---- a text

-- the lines of a text begin with these
abbrev pub BeginsWith : PlanForm → List ℕ → List Line → Type 0
BeginsWith form bytes lines = (behind : List (Result Line PlanFault)) × (text_lines form bytes ≡ map Ok lines ++ behind)

-- and then comes this
abbrev pub ComesNext : PlanForm → List ℕ → List Line → Result Line PlanFault → Type 0
ComesNext form bytes lines next = (behind : List (Result Line PlanFault)) × (text_lines form bytes ≡ map Ok lines ++ next ∷ behind)

-- the text is within its limit, and these are its lines
pub record AreAll (form : PlanForm) (bytes : List ℕ) (lines : List Line) : Type 0 where
  pub within : length bytes ≤ text_limit
  pub read : plan_lines form bytes ≡ map Ok lines

-- the text goes on behind its limit, and these are its lines within
pub record GoesOver (form : PlanForm) (bytes : List ℕ) (lines : List Line) : Type 0 where
  pub over : text_limit < length bytes
  pub read : text_lines form bytes ≡ map Ok lines

-- the lines of a text begin with these, and then comes what one stops at
abbrev pub Stands : PlanForm → List ℕ → List Line → Why → Type 0
Stands form bytes lines (on_line line) = ComesNext form bytes lines (Ok line)
Stands form bytes lines (no_line (faults.NotLine n start last)) = ComesNext form bytes lines (Err (faults.NotLine n start last))
Stands form bytes lines (no_line (faults.LineTooLong n)) = ComesNext form bytes lines (Err (faults.LineTooLong n))
Stands form bytes lines (no_line faults.Memory) = BeginsWith form bytes lines
Stands form bytes lines too_long = GoesOver form bytes lines
Stands form bytes lines at_end = AreAll form bytes lines
Stands form bytes lines handing = BeginsWith form bytes lines

-- lines are played, and they are all: those of the text, where its bytes are told
pub record IsPlayed {S O T : Type 0} (R : Rules S O T) (form : PlanForm) (bytes : Option (List ℕ)) (first : S) (start : O) (new : S) (now : O) : Type 0 where
  pub lines : List Line
  pub ended : R.Ended first start lines new now
  pub all : IfSome bytes (λ text. AreAll form text lines)

-- lines are played up to a stop: those with which the text begins, where its bytes are told
pub record IsHalted {S O T : Type 0} (R : Rules S O T) (form : PlanForm) (bytes : Option (List ℕ)) (first : S) (start : O) (new : S) (now : O) (stop : T) : Type 0 where
  pub lines : List Line
  pub why : Why
  pub stops : R.Stops first start lines why new now stop
  pub stands : IfSome bytes (λ text. Stands form text lines why)
