-- What net rates ask: of each member in ground order, of each of its rates in order, the nodes of the amount; then the amount
-- and the fluent must have values; then the node that adds the amount to the sum of the fluent, or takes it from it. The sums
-- begin at 0.
use Rattle.std.specs.Prelude.{◌≡◌, ℕ, Bool, true, false, List, [], ◌∷◌, ◌++◌, length, map, replicate, Option, Some, None, Result, Ok, Err, MatchResult, slice_get, pos}
use Rattle.plus_fraction.specs.Fraction.{Fraction, whole}
use Rattle.plus_model.specs.Terms.{Rate, State, Problem}
use Rattle.plus_model.specs.Value.{value, fluent_of}
use Rattle.plus_model.specs.Piece.{rate_of}
use Rattle.plus_model.specs.Running.{rated, add_rates, rates_at, rates}
use Rattle.plus_state.specs.declared.term.Sign.{Sign}
use Rattle.plus_state.specs.declared.term.Sign.TheVariants.{Plus, Minus}
use Rattle.plus_state.specs.Asked.{nodes, node}
use Rattle.plus_state.specs.View.{overflow_of}
use Rattle.plus_settle.specs.declared.stops.RateStop.{RateStop}
use Rattle.plus_settle.specs.declared.stops.RateStop.TheVariants.{NoValue, Number, Memory}
use Rattle.plus_settle.specs.Steps.{SettleStep, asks, no_value, AllPass, FirstStop}

abbrev pub sign_of : Bool → Sign
sign_of true = Plus
sign_of false = Minus

-- a value that is needed
abbrev pub need : ℕ → Option Fraction → List SettleStep
need f None = no_value f ∷ []
need f (Some x) = []

abbrev pub sum_steps : Bool → Fraction → Option Fraction → List SettleStep
sum_steps up y None = []
sum_steps up y (Some x) = asks (node (sign_of up) y x) ∷ []

-- one rate, with these sums so far
unfoldable pub rate_steps : Rate → State → List Fraction → List SettleStep
rate_steps r s sums =
    map asks (nodes r.amount s) ++ (need r.fluent (value r.amount s) ++ (need r.fluent (fluent_of s r.fluent) ++ sum_steps r.up (rate_of sums r.fluent) (value r.amount s)))

-- what comes behind, with the sums then
abbrev pub after_sums : Result (List Fraction) ℕ → (List Fraction → List SettleStep) → List SettleStep
after_sums (Err f) more = []
after_sums (Ok sums) more = more sums

-- the rates of one process
abbrev pub add_rates_steps : List Rate → State → List Fraction → List SettleStep
add_rates_steps [] s sums = []
add_rates_steps (r ∷ rs) s sums =
    rate_steps r s sums ++ after_sums (rated r.fluent r.up (value r.amount s) (fluent_of s r.fluent) sums) (add_rates_steps rs s)

abbrev pub sum_rates_steps : Problem → List ℕ → State → List Fraction → List SettleStep
sum_rates_steps P [] s sums = []
sum_rates_steps P (p ∷ ps) s sums =
    add_rates_steps (rates_at (slice_get P.processes p)) s sums ++ after_sums (add_rates (rates_at (slice_get P.processes p)) s sums) (sum_rates_steps P ps s)

-- the net rates of these processes
unfoldable pub rates_steps : Problem → State → List ℕ → List SettleStep
rates_steps P s members = sum_rates_steps P members s (replicate (length s.fluents) (whole (pos 0)))

-- the stop is the first of these steps that stops; want of memory may come at any time
abbrev pub RateStops : {Q : Type 0} → (Q → Fraction) → (Fraction → Type 0) → List SettleStep → RateStop Q → Type 0
RateStops v fits ns (NoValue f) = FirstStop fits ns (no_value f.0)
RateStops v fits ns (Number o) = FirstStop fits ns (asks (overflow_of v o))
RateStops v fits ns Memory = Unit {0}

-- there are no rates, for this reason; a number that does not fit and want of memory say nothing of it
abbrev pub NoRates : {Q : Type 0} → Result (List Fraction) ℕ → RateStop Q → Type 0
NoRates r (NoValue f) = r ≡ Err f.0
NoRates r (Number o) = Unit {0}
NoRates r Memory = Unit {0}

-- all steps pass and the sums are these, or the first step that stops
abbrev pub RatesTell : {Q A : Type 0} → (Q → Fraction) → (Fraction → Type 0) → List SettleStep → Result (List Fraction) ℕ → List Fraction → Result A (RateStop Q) → Type 0
RatesTell v fits ns r new answer = MatchResult answer (λ _. AllPass fits ns × (r ≡ Ok new)) (λ e. RateStops v fits ns e × NoRates r e)

-- what a call answers that puts its answer in place of another: this one, unless it stops
abbrev pub as_given : {A H : Type 0} → A → Result (Unit {0}) H → Result A H
as_given a (Ok u) = Ok a
as_given a (Err h) = Err h

abbrev pub NetRates : {Q : Type 0} → (Q → Fraction) → (Fraction → Type 0) → Problem → State → List ℕ → Result (List Fraction) (RateStop Q) → Type 0
NetRates v fits P s members answer =
    MatchResult answer (λ rs. AllPass fits (rates_steps P s members) × (rates P s members ≡ Ok rs)) (λ e. RateStops v fits (rates_steps P s members) e × NoRates (rates P s members) e)
