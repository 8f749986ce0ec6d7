-- The roots of the live comparisons of a condition as a list: the moments at which its truth may change.
use Rattle.std.specs.Prelude.{◌≡◌, ℕ, Bool, List, [], ◌∷◌, ◌++◌, map, Option, Some, None, option_map, Result, MatchResult, if◌then◌else◌}
use Rattle.plus_fraction.specs.Fraction.{Fraction, ◌-ℚ◌, ◌/ℚ◌}
use Rattle.plus_model.specs.Terms.{Expression, Condition, Always, Never, Both, Either, Atom, Compare, State}
use Rattle.plus_model.specs.Piece.{Piece, Missing, Crooked, Straight, piece}
use Rattle.plus_state.specs.Stops.{as_list}
use Rattle.plus_state.specs.Tests.{decided}
use Rattle.plus_crossing.specs.declared.node.PieceStop.{PieceStop}
use Rattle.plus_crossing.specs.declared.listing.RootsStop.{RootsStop}
use Rattle.plus_crossing.specs.declared.listing.RootsStop.TheVariants.{Condition as OfCondition, Memory}
use Rattle.plus_crossing.specs.Asked.{Ask, AllPass, FirstFailing, stop_of, cond_stop_of}
use Rattle.plus_crossing.specs.Roots.{meets_later}
use Rattle.plus_crossing.specs.Next.{root_sides, cross_asks}

-- where two lines meet later
abbrev pub roots_on : Piece → Piece → List Fraction
roots_on Missing q = []
roots_on Crooked q = []
roots_on (Straight v m) Missing = []
roots_on (Straight v m) Crooked = []
roots_on (Straight v m) (Straight w n) = if meets_later v m w n then ((w -ℚ v) /ℚ (m -ℚ n)) ∷ [] else []

abbrev pub open_roots : Option Bool → List Fraction → List Fraction → List Fraction
open_roots (Some b) xs ys = []
open_roots None xs ys = xs ++ ys

-- the roots of the live comparisons of a condition, in text order
abbrev pub live_roots : Condition → State → List Fraction → List Fraction
live_roots Always s rs = []
live_roots Never s rs = []
live_roots (Both c d) s rs = open_roots (decided (Both c d) s) (live_roots c s rs) (live_roots d s rs)
live_roots (Either c d) s rs = open_roots (decided (Either c d) s) (live_roots c s rs) (live_roots d s rs)
live_roots (Atom a positive) s rs = []
live_roots (Compare t l r positive) s rs = roots_on (piece l s rs) (piece r s rs)

-- the root of two sides, if they have one, where all tests pass; or the first test that fails
abbrev pub SidesTell : {Q : Type 0} → (Q → Fraction) → (Fraction → Type 0) → Expression → Expression → State → List Fraction → Result (Option Q) (PieceStop Q) → Type 0
SidesTell v fits l r s rs answer =
    MatchResult answer (λ o. AllPass fits (root_sides s rs l r) × (as_list (option_map v o) ≡ roots_on (piece l s rs) (piece r s rs)))
    (λ w. FirstFailing fits (root_sides s rs l r) (stop_of v w))

-- the stop is the first of these tests that fails; want of memory may come at any time
abbrev pub RootsStops : {Q : Type 0} → (Q → Fraction) → (Fraction → Type 0) → List Ask → RootsStop Q → Type 0
RootsStops v fits ts (OfCondition w) = FirstFailing fits ts (cond_stop_of v w)
RootsStops v fits ts Memory = Unit {0}

-- all tests pass and the roots stand behind those that were there before; or the first test that fails
abbrev pub RootsTell : {Q A : Type 0} → (Q → Fraction) → (Fraction → Type 0) → ℕ → Condition → State → List Fraction → List Q → List Q → Result A (RootsStop Q) → Type 0
RootsTell v fits k c s rs old new answer =
    MatchResult answer (λ _. AllPass fits (cross_asks k c s rs) × (map v new ≡ map v old ++ live_roots c s rs)) (λ w. RootsStops v fits (cross_asks k c s rs) w)
