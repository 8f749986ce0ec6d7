-- Worked rows of plans whose text was not read to its end, and of breaches of a second line.
use Rattle.std.specs.Prelude.{ℕ, true, false, List, [], ◌∷◌}
use Rattle.plus_model.specs.Terms.{Problem}
use Rattle.plus_model.specs.Plan.{Called, Instance, ActLine, Line, Plan}
use Rattle.plus_model.specs.History.{Part, Round, Act, Run}
use Rattle.plus_model.specs.Trajectory.{Prefix}
use Rattle.rows.specs.Model.Door.{door_state, unlock, call_at, plan_of, lines_of}
use Rattle.rows.specs.Model.Rises.{n, values, up, world, enter, note}
use Rattle.rows.specs.Model.Token.{token_state, loop_world, loop_plan}
use Rattle.rows.specs.Model.Token as token

-- no line is read, and the text is not at its end
abbrev pub unread : Plan
unread = lines_of []

-- an event holds at once: it fires where the text is at its end, and before that only the first
-- part stands
pub record UnreadRow : Type 0 where
  pub first : Prefix loop_world unread (token.enter 0 (token_state true false) (token_state true false) ∷ [])
  pub no_round :
      Prefix loop_world unread
      (token.enter 0 (token_state true false) (token_state true false) ∷ Round (0 ∷ []) (token_state false true) ∷ []) → ⊥
  pub at_end :
      Prefix loop_world loop_plan
      (token.enter 0 (token_state true false) (token_state true false) ∷ Round (0 ∷ []) (token_state false true) ∷ [])

-- x rises
abbrev pub rising : Problem
rising = world (up ∷ []) []

abbrev pub noted_at : ℕ → Line
noted_at t = ActLine (n t) (Instance note)

-- a line waits at 5, and then none is left
pub record OpenRow : Type 0 where
  pub runs : Prefix rising (lines_of (noted_at 5 ∷ [])) (enter 0 (values 0 0) ∷ Run (0 ∷ []) ∷ [])
  pub acts : Prefix rising (lines_of (noted_at 0 ∷ [])) (enter 0 (values 0 0) ∷ Act 0 (values 0 0) ∷ [])
  pub no_further :
      Prefix rising (lines_of (noted_at 0 ∷ [])) (enter 0 (values 0 0) ∷ Act 0 (values 0 0) ∷ Run (0 ∷ []) ∷ []) → ⊥

-- unlocked at 0, and then this call
abbrev pub unlocked_then : Called → Plan
unlocked_then call = plan_of (call_at 0 (Instance unlock) ∷ call_at 0 call ∷ [])

abbrev pub unlocked_history : List Part
unlocked_history = enter 0 (door_state true true) ∷ Act 0 (door_state true false) ∷ []
