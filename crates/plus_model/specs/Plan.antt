-- The lines of a plan that were read. A plan is a list of timed actions, as in Fox and Long (2003),
-- and may end with a line that says how long the world goes on after them. Several actions may have
-- one time: they go one after the other, in the order of the text (this project's profile; no
-- separation by a small epsilon is asked for, and none is added).
use Rattle.std.specs.Prelude.{ℕ, Bool, List, [], ◌∷◌}
use Rattle.plus_fraction.specs.Fraction.{Fraction, ◌≤ℚ◌}
use Rattle.plus_model.specs.Terms.{Action}

-- the ground action that a call names, or why there is none
pub data Called : Type 0 where
  Instance : Action → Called
  UnknownAction WrongArguments : List ℕ → Called

-- an action at a time, or the end at a time
pub data Line : Type 0 where
  ActLine : Fraction → Called → Line
  EndLine : Fraction → Line

-- the time of a line
abbrev pub time_of : Line → Fraction
time_of (ActLine t call) = t
time_of (EndLine t) = t

-- the lines that were read, blank ones left out, and whether the text was read to its end. A plan
-- that is not closed may have further lines: the meaning of what was read so far must not depend on
-- them.
pub record Plan : Type 0 where
  pub lines : List Line
  pub closed : Bool

-- no time is below that of the line before, and no line stands after an end
abbrev pub IsInOrder : List Line → Type 0
IsInOrder [] = Unit {0}
IsInOrder (line ∷ []) = Unit {0}
IsInOrder (EndLine t ∷ next ∷ lines) = ⊥
IsInOrder (ActLine t call ∷ next ∷ lines) = (t ≤ℚ time_of next) × IsInOrder (next ∷ lines)
