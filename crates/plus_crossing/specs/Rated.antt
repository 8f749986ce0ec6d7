-- The rates of all fluents, told by those that are given.
use Rattle.std.specs.Prelude.{◌≡◌, ◌≤◌, ℕ, zero, suc, List, [], ◌∷◌, length, take, drop, map, not, option_map, unwrap_or, slice_get, Result, IsSomeAnd, MatchResult, pos}
use Rattle.std.specs.Ordering.{nat_cmp}
use Rattle.std.specs.BTreeMap.{is_at}
use Rattle.std.specs.Map.{lookup}
use Rattle.plus_fraction.specs.Fraction.{Fraction, whole}
use Rattle.plus_model.specs.Firing.{numbers_of}
use Rattle.plus_model.specs.Value.{is_zero}
use Rattle.plus_state.specs.declared.term.FluentId.{FluentId}
use Rattle.plus_state.specs.Changes.{AreIn, Over}

-- the rate that is given to number k, or 0
abbrev pub given_rate : {Q : Type 0} → (Q → Fraction) → List (ℕ × Q) → ℕ → Fraction
given_rate v given k = unwrap_or (option_map v (lookup (is_at (nat_cmp k)) given)) (whole (pos 0))

-- the rates of n fluents, from number k on
unfoldable pub all_rates : {Q : Type 0} → (Q → Fraction) → List (ℕ × Q) → ℕ → ℕ → List Fraction
all_rates v given k zero = []
all_rates v given k (suc n) = given_rate v given k ∷ all_rates v given (suc k) n

-- the fluents that move, by their numbers
abbrev pub moving_of : List Fraction → List ℕ
moving_of rates = numbers_of (λ r. not (is_zero r)) 0 rates

-- the numbers of fluents
abbrev pub fluent_numbers : List FluentId → List ℕ
fluent_numbers fluents = map (λ f. f.0) fluents

-- number k stands at place i
abbrev pub IsAt : {Q : Type 0} → ℕ → ℕ → List (ℕ × Q) → Type 0
IsAt i k given = IsSomeAnd (slice_get given i) (λ e. e.0 ≡ k)

-- where number k stands, or else how many numbers are below it, all others being above
abbrev pub IsFoundAt : {Q : Type 0} → ℕ → List (ℕ × Q) → Result ℕ ℕ → Type 0
IsFoundAt k given found =
    MatchResult found (λ i. IsAt i k given) (λ i. (i ≤ length given) × AreIn k (take i given) × Over k (drop i given))
