-- What holds just after a state, and the tests that this asks.
use Rattle.std.specs.Prelude.{◌≡◌, ℕ, suc, ◌+◌, Bool, true, List, [], ◌++◌, Option, Some, None, Result, MatchResult, ◌↔◌, pos}
use Rattle.plus_fraction.specs.Fraction.{Fraction, whole, ◌<ℚ◌}
use Rattle.plus_model.specs.Terms.{Test, Expression, Condition, Always, Never, Both, Either, Atom, Compare, State}
use Rattle.plus_model.specs.Value.{holds}
use Rattle.plus_model.specs.Running.{moved, JustAfter}
use Rattle.plus_model.specs.Piece.{Piece, piece}
use Rattle.plus_state.specs.Fits.{comparisons}
use Rattle.plus_state.specs.Tests.{decided}
use Rattle.plus_crossing.specs.declared.node.PieceStop.{PieceStop}
use Rattle.plus_crossing.specs.declared.node.CondStop.{CondStop}
use Rattle.plus_crossing.specs.Asked.{Ask, AllPass, FirstFailing, stop_of, cond_stop_of, numbered}
use Rattle.plus_crossing.specs.Pieces.{piece_asks, if_straight}

-- what is asked where the atoms do not decide the condition
abbrev pub if_open : Option Bool → List Ask → List Ask
if_open (Some b) ts = []
if_open None ts = ts

unfoldable pub asks_open : Option Bool → List Ask → List Ask → List Ask
asks_open o xs ys = if_open o (xs ++ ys)

-- what is asked of the live comparisons of a condition, by what is asked of the two sides of one. So many comparisons, live
-- or not, stand before the condition
abbrev pub live_tests : (Expression → Expression → List Ask) → ℕ → Condition → State → List Ask
live_tests on k Always s = []
live_tests on k Never s = []
live_tests on k (Both c d) s = asks_open (decided (Both c d) s) (live_tests on k c s) (live_tests on (k + comparisons c) d s)
live_tests on k (Either c d) s = asks_open (decided (Either c d) s) (live_tests on k c s) (live_tests on (k + comparisons c) d s)
live_tests on k (Atom a positive) s = []
live_tests on k (Compare t l r positive) s = numbered (suc k) (on l r)

-- the left side's tests, and the right side's where the left has a value
unfoldable pub asks_sides : Piece → List Ask → List Ask → List Ask
asks_sides p xs ys = xs ++ if_straight p ys

abbrev pub sides_asks : State → List Fraction → Expression → Expression → List Ask
sides_asks s rs l r = asks_sides (piece l s rs) (piece_asks l s rs) (piece_asks r s rs)

-- the tests that tell what holds just after
abbrev pub live_asks : ℕ → Condition → State → List Fraction → List Ask
live_asks k c s rs = live_tests (sides_asks s rs) k c s

-- the condition has this truth just after
pub record TruthAfter (s : State) (rs : List Fraction) (c : Condition) (b : Bool) : Type 0 where
  pub until : Fraction
  pub above : whole (pos 0) <ℚ until
  pub inside : (x : Fraction) → whole (pos 0) <ℚ x → x <ℚ until → holds c (moved s rs x) ≡ b

abbrev pub AfterSides : {Q : Type 0} → (Q → Fraction) → (Fraction → Type 0) → Test → Expression → Expression → Bool → State → List Fraction → Result Bool (PieceStop Q) → Type 0
AfterSides v fits t l r positive s rs answer =
    MatchResult answer (λ b. AllPass fits (asks_sides (piece l s rs) (piece_asks l s rs) (piece_asks r s rs)) × TruthAfter s rs (Compare t l r positive) b)
    (λ w. FirstFailing fits (asks_sides (piece l s rs) (piece_asks l s rs) (piece_asks r s rs)) (stop_of v w))

abbrev pub AfterAnswers : {Q : Type 0} → (Q → Fraction) → (Fraction → Type 0) → ℕ → Condition → State → List Fraction → Result Bool (CondStop Q) → Type 0
AfterAnswers v fits k c s rs answer =
    MatchResult answer (λ b. AllPass fits (live_asks k c s rs) × TruthAfter s rs c b) (λ w. FirstFailing fits (live_asks k c s rs) (cond_stop_of v w))

-- whether the condition holds just after, where all tests pass; or the first test that fails
abbrev pub JustAfterAnswers : {Q : Type 0} → (Q → Fraction) → (Fraction → Type 0) → Condition → State → List Fraction → Result Bool (CondStop Q) → Type 0
JustAfterAnswers v fits c s rs answer =
    MatchResult answer (λ b. AllPass fits (live_asks 0 c s rs) × ((b ≡ true) ↔ JustAfter s rs c)) (λ w. FirstFailing fits (live_asks 0 c s rs) (cond_stop_of v w))
