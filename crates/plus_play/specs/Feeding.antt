-- A text that is played as it comes, in pieces.
use Rattle.std.specs.Prelude.{◌≡◌, ℕ, ◌≤◌, Bool, true, false, List, [], ◌++◌, length, Option, Some, None, Result, Ok, Err}
use Rattle.plus_io.specs.Faults.{Rose}
use Rattle.plus_io.specs.Files.{Takes}
use Rattle.plus_io.specs.Limits.{text_limit, piece_size}
use Rattle.plus_plan.specs.declared.forms.Line.{Line}
use Rattle.plus_plan.specs.declared.forms.PlanForm.{PlanForm}
use Rattle.plus_plan.specs.Given.{HasGiven}
use Rattle.plus_plan.specs.Pending.{Pending}
use Rattle.plus_plan.specs.Pieces.{IsIdle}
use Rattle.plus_play.specs.Rules.{Rules, Why, TellsMore, Stands, IsPlayed, IsHalted}
use Rattle.plus_play.specs.declared.file.Pause.{Pause}
use Rattle.plus_play.specs.declared.file.Pause.TheVariants.{Halt, Failed}

-- of what has come of this text these lines are played, and no line of it is refused
pub record IsFed {S O T : Type 0} (R : Rules S O T) (form : PlanForm) (text : List ℕ) (first : S) (start : O) (reader : Pending) (now : S) (out : O) : Type 0 where
  pub lines : List Line
  pub given : HasGiven form text lines reader
  pub no_fault : reader.fault ≡ None
  pub played : R.Played first start lines now out

-- the text is read of these bytes, within the limit; where it has ended, they are all
pub record IsReadOf (bytes text : List ℕ) (ended : Bool) : Type 0 where
  pub behind : List ℕ
  pub is : bytes ≡ text ++ behind
  pub within : length text ≤ text_limit
  pub all : ended ≡ true → behind ≡ []

-- a stop in a text, whatever stands behind it
pub record HaltsOn {S O T : Type 0} (R : Rules S O T) (form : PlanForm) (text : List ℕ) (ended : Bool) (first : S) (start : O) (new : S) (now : O) (stop : T) : Type 0 where
  pub lines : List Line
  pub why : Why
  pub stops : R.Stops first start lines why new now stop
  pub stands : (bytes : List ℕ) → IsReadOf bytes text ended → Stands form bytes lines why

-- this piece of a text is played, where the text with it is within the limit
pub record Feeds {S O T : Type 0} (R : Rules S O T) (piece : List ℕ) (held : Pending) (old : S) (out : O) (holds : Pending) (new : S) (now : O) : Type 0 where
  pub fed :
      (form : PlanForm) (text : List ℕ) (first : S) (start : O) → IsFed R form text first start held old out → length (text ++ piece) ≤ text_limit
      → IsFed R form (text ++ piece) first start holds new now

-- a stop in this piece
pub record HaltsFeeding {S O T : Type 0} (R : Rules S O T) (piece : List ℕ) (held : Pending) (old : S) (out : O) (new : S) (now : O) (stop : T) : Type 0 where
  pub halts :
      (form : PlanForm) (text : List ℕ) (first : S) (start : O) → IsFed R form text first start held old out → length (text ++ piece) ≤ text_limit
      → HaltsOn R form (text ++ piece) held.closed first start new now stop

-- the text has ended, and is played
pub record EndsFeeding {S O T : Type 0} (R : Rules S O T) (held : Pending) (old : S) (out : O) (new : S) (now : O) : Type 0 where
  pub ends :
      (form : PlanForm) (text : List ℕ) (first : S) (start : O) → IsFed R form text first start held old out → length text ≤ text_limit
      → IsPlayed R form (Some text) first start new now

-- or there is a stop
pub record HaltsEnding {S O T : Type 0} (R : Rules S O T) (held : Pending) (old : S) (out : O) (new : S) (now : O) (stop : T) : Type 0 where
  pub halts :
      (form : PlanForm) (text : List ℕ) (first : S) (start : O) → IsFed R form text first start held old out → length text ≤ text_limit
      → IsHalted R form (Some text) first start new now stop

-- ---- a file

-- of these bytes so many have come, and are played
pub record HasCome {S O T : Type 0} (R : Rules S O T) (form : PlanForm) (bytes rest : Option (List ℕ)) (total : ℕ) (first : S) (start : O) (reader : Pending) (now : S) (out : O) : Type 0 where
  pub text : List ℕ
  pub front : Takes bytes rest text
  pub size : length text ≡ total
  pub fed : IsFed R form text first start reader now out

-- what has come is played, all that is told of it is handed on, and no line is due
pub record IsReading {S O T : Type 0} (R : Rules S O T) (form : PlanForm) (bytes rest : Option (List ℕ)) (total : ℕ) (first : S) (start : O) (reader : Pending) (now : S) (out : O) : Type 0 where
  pub come : HasCome R form bytes rest total first start reader now out
  pub handed : R.Handed now out
  pub idle : IsIdle reader
  pub going : reader.closed ≡ false

-- the shelf failed: nothing is picked and nothing was played, or what has come is played
pub data IsCutShort {S O T : Type 0} (R : Rules S O T) (form : PlanForm) (bytes picked rest : Option (List ℕ)) (first : S) (start : O) (reader : Pending) (now : S) (out : O) : Type 0 where
  unpicked : picked ≡ None → now ≡ first → out ≡ start → IsCutShort R form bytes picked rest first start reader now out
  reading : (total : ℕ) → IsReading R form bytes rest total first start reader now out → IsCutShort R form bytes picked rest first start reader now out

-- the playing stops, or the shelf failed
abbrev pub Pauses : {S O T : Type 0} → Rules S O T → PlanForm → Option (List ℕ) → Option (List ℕ) → Option (List ℕ) → ℕ → ℕ → S → O → Pending → S → O → Pause T → Type 0
Pauses R form bytes picked rest before after first start reader now out (Halt stop) = IsHalted R form bytes first start now out stop
Pauses R form bytes picked rest before after first start reader now out Failed = Rose before after × IsCutShort R form bytes picked rest first start reader now out

-- ---- what is told is not held back

-- The reading is ahead of what is told by one piece at most: nothing was read; or what had come before the last piece was played, and all
-- that it tells handed on, and since then more may have been told.
pub data KeepsUp {S O T : Type 0} (R : Rules S O T) (form : PlanForm) (bytes rest : Option (List ℕ)) (first : S) (start out : O) : Type 0 where
  unread : Takes bytes rest [] → KeepsUp R form bytes rest first start out
  ahead :
      (total : ℕ) (left : Option (List ℕ)) (reader : Pending) (now : S) (between : O) (piece : List ℕ) → IsReading R form bytes left total first start reader now between
      → Takes left rest piece → length piece ≤ piece_size → TellsMore R between out → KeepsUp R form bytes rest first start out

-- it ends otherwise than by a fault of the shelf, and so this is
abbrev pub UnlessFailed : {T : Type 0} → Result (Unit {0}) (Pause T) → Type 0 → Type 0
UnlessFailed (Ok u) Q = Q
UnlessFailed (Err (Halt stop)) Q = Q
UnlessFailed (Err Failed) Q = Unit {0}
