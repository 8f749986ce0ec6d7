-- A plan as acts and an end: its actions with their times, and the time of its last line, be that an end or an action; 0 where it
-- has none. That is this project's profile: a plan without an end goes on up to its last action.
use Rattle.std.specs.Prelude.{ℕ, suc, List, [], ◌∷◌}
use Rattle.plus_fraction.specs.Fraction.{Fraction}
use Rattle.plus_model.specs.Plan.{Instance, UnknownAction, WrongArguments, Line, ActLine, EndLine}
use Rattle.plus_trim.specs.Acts.{Act}
pub use Rattle.plus_planner.specs.Laws.{last_time}

-- how many lines are actions
abbrev pub act_count : List Line → ℕ
act_count [] = 0
act_count (ActLine t call ∷ ls) = suc (act_count ls)
act_count (EndLine t ∷ ls) = act_count ls

-- the ground actions that the lines call, with their times
abbrev pub acts_in : List Line → List Act
acts_in [] = []
acts_in (ActLine t (Instance action) ∷ ls) = (t, action) ∷ acts_in ls
acts_in (ActLine t (UnknownAction name) ∷ ls) = acts_in ls
acts_in (ActLine t (WrongArguments name) ∷ ls) = acts_in ls
acts_in (EndLine t ∷ ls) = acts_in ls
