-- Acts, which are actions at times, and an end, as a plan; and the same without one of them.
use Rattle.std.specs.Prelude.{◌≡◌, ℕ, zero, suc, List, [], ◌∷◌, ◌++◌, Option, Some, None, slice_get, true}
use Rattle.plus_fraction.specs.Fraction.{Fraction, ◌≤ℚ◌}
use Rattle.plus_model.specs.Terms.{Action}
use Rattle.plus_model.specs.Plan.{Instance, Line, ActLine, EndLine, Plan}
use Rattle.plus_state.specs.View.{action_of}
use Rattle.plus_state.specs.Fits.{ActionFits}
use Rattle.plus_trim.specs.declared.acts.TimedAction.{TimedAction}

-- an action at a time
abbrev pub Act : Type 0
Act = Fraction × Action

-- an action at a time of the code
abbrev pub act_of : {Q : Type 0} → (Q → Fraction) → TimedAction Q → Act
act_of v a = (v a.time, action_of v a.action)

-- a line for each act
abbrev pub lines_of : List Act → List Line
lines_of [] = []
lines_of (x ∷ xs) = ActLine x.0 (Instance x.1) ∷ lines_of xs

-- these lines, and then the end
abbrev pub whole : List Line → Fraction → Plan
whole lines last = record { lines = lines ++ EndLine last ∷ []; closed = true }

-- the acts, and then the end
abbrev pub plan_of : List Act → Fraction → Plan
plan_of xs last = whole (lines_of xs) last

-- the list without member i
abbrev pub without : {X : Type 0} → ℕ → List X → List X
without i [] = []
without zero (x ∷ xs) = xs
without (suc i) (x ∷ xs) = x ∷ without i xs

abbrev pub with_some : {X : Type 0} → Option X → List X → List X
with_some None xs = xs
with_some (Some x) xs = x ∷ xs

-- the members at these places
abbrev pub chosen : {X : Type 0} → List X → List ℕ → List X
chosen xs [] = []
chosen xs (p ∷ ps) = with_some (slice_get xs p) (chosen xs ps)

-- from the time t on the times of the acts do not fall, and none is above the end
abbrev pub AreAhead : Fraction → List Act → Fraction → Type 0
AreAhead t [] last = t ≤ℚ last
AreAhead t (x ∷ xs) last = (t ≤ℚ x.0) × AreAhead x.0 xs last

-- the actions fit a problem with so many atoms and fluents
abbrev pub AllFit : ℕ → ℕ → List Act → Type 0
AllFit atoms fluents xs = (k : ℕ) (x : Act) → slice_get xs k ≡ Some x → ActionFits atoms fluents x.1
