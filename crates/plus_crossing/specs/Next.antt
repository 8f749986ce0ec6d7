-- The next root of the live comparisons, and the tests that this asks: of each comparison the pieces of its sides, and where
-- both have a value and meet later the nodes of their root.
use Rattle.std.specs.Prelude.{◌⊎◌, ℕ, Bool, List, [], ◌++◌, Option, Some, None, option_map, Result, MatchResult, if◌then◌else◌}
use Rattle.plus_fraction.specs.Fraction.{Fraction, ◌<ℚ◌, compared}
use Rattle.plus_model.specs.Terms.{Below, Expression, Condition, Always, Never, Both, Either, Atom, Compare, State}
use Rattle.plus_model.specs.Value.{passes}
use Rattle.plus_model.specs.Piece.{Piece, Missing, Crooked, Straight, piece}
use Rattle.plus_state.specs.Tests.{decided}
use Rattle.plus_crossing.specs.declared.node.PieceStop.{PieceStop}
use Rattle.plus_crossing.specs.declared.node.CondStop.{CondStop}
use Rattle.plus_crossing.specs.Asked.{Ask, AllPass, FirstFailing, stop_of, cond_stop_of}
use Rattle.plus_crossing.specs.Pieces.{piece_asks, if_straight}
use Rattle.plus_crossing.specs.Roots.{IsRoot, root_asks}
use Rattle.plus_crossing.specs.Conds.{live_tests}

abbrev pub root_on : Piece → Piece → List Ask
root_on Missing q = []
root_on Crooked q = []
root_on (Straight v m) Missing = []
root_on (Straight v m) Crooked = []
root_on (Straight v m) (Straight w n) = root_asks v m w n

unfoldable pub cross_sides : Piece → List Ask → Piece → List Ask → List Ask
cross_sides p xs q ys = xs ++ if_straight p (ys ++ root_on p q)

abbrev pub root_sides : State → List Fraction → Expression → Expression → List Ask
root_sides s rs l r = cross_sides (piece l s rs) (piece_asks l s rs) (piece r s rs) (piece_asks r s rs)

-- the tests that tell the roots
abbrev pub cross_asks : ℕ → Condition → State → List Fraction → List Ask
cross_asks k c s rs = live_tests (root_sides s rs) k c s

unfoldable pub RootSides : Piece → Piece → Fraction → Type 0
RootSides Missing q x = ⊥
RootSides Crooked q x = ⊥
RootSides (Straight v m) Missing x = ⊥
RootSides (Straight v m) Crooked x = ⊥
RootSides (Straight v m) (Straight w n) x = IsRoot v m w n x

unfoldable pub RootOpen : Option Bool → (Fraction → Type 0) → (Fraction → Type 0) → Fraction → Type 0
RootOpen None P Q x = P x ⊎ Q x
RootOpen (Some b) P Q x = ⊥

unfoldable pub Nowhere : Fraction → Type 0
Nowhere x = ⊥

-- a live comparison has a root here
abbrev pub LiveRoot : Condition → State → List Fraction → Fraction → Type 0
LiveRoot Always s rs = Nowhere
LiveRoot Never s rs = Nowhere
LiveRoot (Both c d) s rs = RootOpen (decided (Both c d) s) (LiveRoot c s rs) (LiveRoot d s rs)
LiveRoot (Either c d) s rs = RootOpen (decided (Either c d) s) (LiveRoot c s rs) (LiveRoot d s rs)
LiveRoot (Atom a positive) s rs = Nowhere
LiveRoot (Compare t l r positive) s rs = RootSides (piece l s rs) (piece r s rs)

-- r is the least strictly between a and u
pub record IsLeast (P : Fraction → Type 0) (a u r : Fraction) : Type 0 where
  pub after : a <ℚ r
  pub before : r <ℚ u
  pub root : P r
  pub none : (x : Fraction) → a <ℚ x → x <ℚ r → P x → ⊥

-- the least strictly between a and u, or that there is none
unfoldable pub IsNext : (Fraction → Type 0) → Fraction → Fraction → Option Fraction → Type 0
IsNext P a u None = (x : Fraction) → a <ℚ x → x <ℚ u → P x → ⊥
IsNext P a u (Some r) = IsLeast P a u r

abbrev pub is_below : Fraction → Fraction → Bool
is_below x y = passes Below (compared x y)

abbrev pub lesser : Option Fraction → Option Fraction → Option Fraction
lesser None y = y
lesser (Some r) None = Some r
lesser (Some r) (Some q) = if is_below q r then Some q else Some r

abbrev pub NextSides : {Q : Type 0} → (Q → Fraction) → (Fraction → Type 0) → Expression → Expression → State → List Fraction → Fraction → Fraction → Result (Option Q) (PieceStop Q) → Type 0
NextSides v fits l r s rs a u answer =
    MatchResult answer (λ o. AllPass fits (cross_sides (piece l s rs) (piece_asks l s rs) (piece r s rs) (piece_asks r s rs)) × IsNext (RootSides (piece l s rs) (piece r s rs)) a u (option_map v o))
    (λ w. FirstFailing fits (cross_sides (piece l s rs) (piece_asks l s rs) (piece r s rs) (piece_asks r s rs)) (stop_of v w))

-- the least root of a live comparison strictly between a and u where all tests pass, or the first test that fails
abbrev pub NextAnswers : {Q : Type 0} → (Q → Fraction) → (Fraction → Type 0) → ℕ → Condition → State → List Fraction → Fraction → Fraction → Result (Option Q) (CondStop Q) → Type 0
NextAnswers v fits k c s rs a u answer =
    MatchResult answer (λ o. AllPass fits (cross_asks k c s rs) × IsNext (LiveRoot c s rs) a u (option_map v o)) (λ w. FirstFailing fits (cross_asks k c s rs) (cond_stop_of v w))
