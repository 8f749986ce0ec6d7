-- Which conditions of a list hold, by a look at some of them, whose numbers rise. Of each other one it is known what a look at
-- it would tell.
use Rattle.std.specs.Prelude.{◌≡◌, ℕ, Bool, false, List, [], ◌∷◌, ◌++◌, length, map, Option, Some, None, slice_get, if◌then◌else◌}
use Rattle.plus_fraction.specs.Fraction.{Fraction}
use Rattle.plus_model.specs.Terms.{Condition, State}
use Rattle.plus_model.specs.Value.{holds}
use Rattle.plus_model.specs.Firing.{is_in}
use Rattle.plus_state.specs.Node.{Node}
use Rattle.plus_state.specs.Asked.{AllFit, FirstUnfit}
use Rattle.plus_state.specs.Tests.{tests_of}
use Rattle.plus_state.specs.View.{overflow_of}
use Rattle.plus_state.specs.declared.looked.Looked.{Looked}
use Rattle.plus_state.specs.declared.looked.Looked.TheVariants.{First, These}
use Rattle.plus_state.specs.declared.term.EventId.{EventId}
use Rattle.plus_state.specs.declared.term.ProcessId.{ProcessId}
use Rattle.plus_state.specs.declared.walk.WalkStop.{WalkStop}
use Rattle.plus_state.specs.declared.walk.WalkStop.TheVariants.{Number, Memory}
use Rattle.plus_state.specs.Numbers.{numbers_from, AreMembers}

-- the numbers of those that are looked at
abbrev pub looked_numbers : {I : Type 0} → (I → ℕ) → Looked I → List ℕ
looked_numbers number (First n) = numbers_from 0 n
looked_numbers number (These members) = map number members.now

abbrev pub events_looked : Looked EventId → List ℕ
events_looked looked = looked_numbers (λ (e : EventId). e.0) looked

abbrev pub processes_looked : Looked ProcessId → List ℕ
processes_looked looked = looked_numbers (λ (p : ProcessId). p.0) looked

abbrev pub asked_at : Option Condition → State → List Node
asked_at None s = []
asked_at (Some c) s = tests_of c s

abbrev pub holds_at : Option Condition → State → Bool
holds_at None s = false
holds_at (Some c) s = holds c s

-- what those with these numbers ask, in order
abbrev pub asked_among : List Condition → List ℕ → State → List Node
asked_among cs [] s = []
asked_among cs (k ∷ ks) s = asked_at (slice_get cs k) s ++ asked_among cs ks s

-- those of these numbers whose condition holds
abbrev pub held_among : List Condition → List ℕ → State → List ℕ
held_among cs [] s = []
held_among cs (k ∷ ks) s = if holds_at (slice_get cs k) s then k ∷ held_among cs ks s else held_among cs ks s

-- each other condition asks nothing that fails
abbrev pub OthersPass : (Fraction → Type 0) → List Condition → State → List ℕ → Type 0
OthersPass fits cs s looked =
    (k : ℕ) (c : Condition) → slice_get cs k ≡ Some c → is_in looked k ≡ false → AllFit fits (tests_of c s)

-- no other condition holds
abbrev pub OthersFalse : List Condition → State → List ℕ → Type 0
OthersFalse cs s looked =
    (k : ℕ) (c : Condition) → slice_get cs k ≡ Some c → is_in looked k ≡ false → holds c s ≡ false

-- what is known where only these are looked at
pub record AreKnown (fits : Fraction → Type 0) (cs : List Condition) (s : State) (looked : List ℕ) : Type 0 where
  pub members : AreMembers (length cs) looked
  pub pass : OthersPass fits cs s looked
  pub silent : OthersFalse cs s looked

-- the first of these nodes that is no value; want of memory may come at any time
abbrev pub WalkStops : {Q : Type 0} → (Q → Fraction) → (Fraction → Type 0) → List Node → WalkStop Q → Type 0
WalkStops v fits ns (Number o) = FirstUnfit fits ns (overflow_of v o)
WalkStops v fits ns Memory = Unit {0}
