-- The events that hold just after a state, along rates: the first of them, and what it asks to find it.
use Rattle.std.specs.Prelude.{◌≡◌, ◌↔◌, ℕ, suc, Bool, true, List, [], ◌∷◌, ◌++◌, Option, Some, None, Result, MatchResult, MatchOption, option_map, slice_get, if◌then◌else◌}
use Rattle.plus_fraction.specs.Fraction.{Fraction}
use Rattle.plus_model.specs.Terms.{Event, State, Problem}
use Rattle.plus_model.specs.Running.{JustAfter}
use Rattle.plus_model.specs.Piece.{after}
use Rattle.plus_model.specs.Live.{live}
use Rattle.plus_model.specs.Breach.{IsFirst, HoldsAfter}
use Rattle.plus_state.specs.declared.term.EventId.{EventId}
use Rattle.plus_state.specs.declared.outcome.Limit.{Limit}
use Rattle.plus_crossing.specs.Conds.{live_asks}
use Rattle.plus_stretch.specs.Tests.{event, Test, AllPass, FirstFailing, of_limit}
use Rattle.plus_stretch.specs.declared.halt.Halt.{Halt}
use Rattle.plus_stretch.specs.StretchTests.{owned, after_tests}
use Rattle.plus_stretch.specs.Told.{Told}

-- the event holds just after, by the test of values and slopes on its live comparisons
unfoldable pub soon : Event → State → List Fraction → Bool
soon e s rs = after (live e.condition s) s rs

-- the tests of one event, with its number
unfoldable pub event_tests : ℕ → Event → State → List Fraction → List Test
event_tests k e s rs = owned (event k) (live_asks 0 e.condition s rs)

-- those of events from number k on, up to the first that holds just after
abbrev pub soon_tests : ℕ → List Event → State → List Fraction → List Test
soon_tests k [] s rs = []
soon_tests k (e ∷ es) s rs = event_tests k e s rs ++ (if soon e s rs then [] else soon_tests (suc k) es s rs)

-- the first that holds just after
abbrev pub first_after : ℕ → List Event → State → List Fraction → Option ℕ
first_after k [] s rs = None
first_after k (e ∷ es) s rs = if soon e s rs then Some k else first_after (suc k) es s rs

-- no event holds just after
abbrev pub NoneHoldsAfter : Problem → State → List Fraction → Type 0
NoneHoldsAfter P s rs = (i : ℕ) (e : Event) → slice_get P.events i ≡ Some e → JustAfter s rs e.condition → ⊥

-- whether the event holds just after, where all its tests pass; or the first test that fails
abbrev pub SoonTells : {Q : Type 0} → (Q → Fraction) → (Fraction → Type 0) → ℕ → Event → State → List Fraction → Result Bool (Limit Q) → Type 0
SoonTells v fits k e s rs answer =
    MatchResult answer (λ b. AllPass fits (event_tests k e s rs) × (b ≡ soon e s rs) × ((soon e s rs ≡ true) ↔ JustAfter s rs e.condition)) (λ l. FirstFailing fits (event_tests k e s rs) (of_limit v l))

-- the first event that holds just after, where all tests up to it pass; or the first test that fails
abbrev pub MomentlessTells : {Q : Type 0} → (Q → Fraction) → (Fraction → Type 0) → Problem → State → List Fraction → Result (Option EventId) (Limit Q) → Type 0
MomentlessTells v fits P s rs answer =
    MatchResult answer (λ o. AllPass fits (soon_tests 0 P.events s rs) × (option_map (λ e. e.0) o ≡ first_after 0 P.events s rs) × MatchOption o (NoneHoldsAfter P s rs) (λ e. IsFirst (HoldsAfter P s rs) e.0))
    (λ l. FirstFailing fits (soon_tests 0 P.events s rs) (of_limit v l))

-- no event holds just after; or this is the first that does, and the time is given
pub record IsNoneSoon (P : Problem) (s : State) (rs : List Fraction) : Type 0 where
  pub later : first_after 0 P.events s rs ≡ None
  pub none : NoneHoldsAfter P s rs

pub record IsSoon (P : Problem) (t : Fraction) (s : State) (rs : List Fraction) (e : ℕ) (time : Fraction) : Type 0 where
  pub time_is : time ≡ t
  pub first : IsFirst (HoldsAfter P s rs) e

abbrev pub NoneSoonTold : {Q A : Type 0} → (Q → Fraction) → (Fraction → Type 0) → Problem → Fraction → State → List Fraction → Result A (Halt Q) → Type 0
NoneSoonTold value fits P t s rs answer = Told value fits (after_tests t 0 P.events s rs []) (λ _. IsNoneSoon P s rs) (IsSoon P t s rs) answer
