-- What settling asks, in the order of evaluation (this project's profile), and what it answers.
use Rattle.std.specs.Prelude.{◌≡◌, ◌⊎◌, ℕ, suc, Bool, false, not, List, [], ◌∷◌, ◌++◌, map, Option, Some, None, Result, Ok, Err, MatchResult}
use Rattle.plus_fraction.specs.Fraction.{Fraction}
use Rattle.plus_model.specs.Terms.{Process, State, Problem}
use Rattle.plus_model.specs.Value.{is_zero}
use Rattle.plus_model.specs.Piece.{rate_of}
use Rattle.plus_model.specs.Firing.{numbers_of}
use Rattle.plus_model.specs.Running.{holding, rates, GoesOn, Chosen, Settled, first_coupled}
use Rattle.plus_model.specs.Breach.{IsFirst, Differs}
use Rattle.plus_state.specs.Node.{Node}
use Rattle.plus_state.specs.View.{overflow_of}
use Rattle.plus_state.specs.Asked.{FirstUnfit}
use Rattle.plus_state.specs.Walk.{all_asked}
use Rattle.plus_state.specs.declared.walk.WalkStop.{WalkStop}
use Rattle.plus_state.specs.declared.walk.WalkStop.TheVariants as walk
use Rattle.plus_settle.specs.declared.settling.Running.{Running}
use Rattle.plus_settle.specs.declared.stops.RateStop.{RateStop}
use Rattle.plus_settle.specs.declared.stops.RateStop.TheVariants as rate
use Rattle.plus_settle.specs.declared.stops.GoStop.{GoStop}
use Rattle.plus_settle.specs.declared.stops.GoStop.TheVariants as go
use Rattle.plus_settle.specs.declared.stops.SettleStop.{SettleStop}
use Rattle.plus_settle.specs.declared.stops.SettleStop.TheVariants.{Unsettled, Coupled, NoValue, Number, Nonlinear, Memory}
use Rattle.plus_settle.specs.Steps.{SettleStep, asks, straight, no_value, unsettled, coupled, AllPass, FirstStop}
use Rattle.plus_settle.specs.Rates.{after_sums, rates_steps}
use Rattle.plus_state.specs.Numbers.{process_numbers}
use Rattle.plus_settle.specs.Members.{soon}
use Rattle.plus_settle.specs.Confirms.{soon_steps, go_steps, first_other}

-- what the conditions of these processes ask
abbrev pub condition_nodes : List Process → State → List Node
condition_nodes ps s = all_asked (map (λ (p : Process). p.condition) ps) s

-- what it asks which processes hold just after
abbrev pub chosen_steps : ℕ → List Process → State → List Fraction → List SettleStep
chosen_steps k [] s rs = []
chosen_steps k (p ∷ ps) s rs = soon_steps k p s rs ++ chosen_steps (suc k) ps s rs

-- those that do
unfoldable pub running_soon : Problem → State → List Fraction → List ℕ
running_soon P s rs = numbers_of (λ p. soon p s rs) 0 P.processes

-- the fluent has a rate that is not zero
abbrev pub moves : List Fraction → ℕ → Bool
moves rs f = not (is_zero (rate_of rs f))

abbrev pub first_some : {A : Type 0} → Option A → Option A → Option A
first_some None y = y
first_some (Some x) y = Some x

-- after all tests of the members at their own rates: the first that differs, or the first that reads a moving fluent
abbrev pub coupled_steps : Option (ℕ × ℕ) → List SettleStep
coupled_steps None = []
coupled_steps (Some c) = coupled c.0 c.1 ∷ []

abbrev pub end_steps : Option ℕ → Option (ℕ × ℕ) → List SettleStep
end_steps (Some p) c = unsettled p ∷ []
end_steps None c = coupled_steps c

-- what is asked with the members and their own rates
unfoldable pub own_then : Problem → State → List ℕ → List Fraction → List SettleStep
own_then P s members own =
    go_steps P members s own ++ end_steps (first_other members 0 P.processes s own) (first_coupled P members own)

-- with the members; with the rates of those that hold
unfoldable pub members_then : Problem → State → List ℕ → List SettleStep
members_then P s members = rates_steps P s members ++ after_sums (rates P s members) (own_then P s members)

unfoldable pub first_then : Problem → State → List Fraction → List SettleStep
first_then P s first = chosen_steps 0 P.processes s first ++ members_then P s (running_soon P s first)

-- the conditions of all processes in ground order; the rates of those that hold; which processes hold just after at these
-- rates; the rates of these; whether exactly these hold just after at their own rates, up to the first process that
-- differs, which is unsettled; then the first member with a rate that reads a moving fluent
unfoldable pub settle_steps : Problem → State → List SettleStep
settle_steps P s =
    map asks (condition_nodes P.processes s) ++ (rates_steps P s (holding P s) ++ after_sums (rates P s (holding P s)) (first_then P s))

-- the stop is the first of these steps that stops; want of memory may come at any time
abbrev pub StopIs : {Q : Type 0} → (Q → Fraction) → (Fraction → Type 0) → List SettleStep → SettleStop Q → Type 0
StopIs v fits ns (Unsettled p) = FirstStop fits ns (unsettled p.0)
StopIs v fits ns (Coupled p f) = FirstStop fits ns (coupled p.0 f.0)
StopIs v fits ns (NoValue f) = FirstStop fits ns (no_value f.0)
StopIs v fits ns (Number o) = FirstStop fits ns (asks (overflow_of v o))
StopIs v fits ns (Nonlinear p k) = FirstStop fits ns (straight p.0 k false)
StopIs v fits ns Memory = Unit {0}

abbrev pub ConditionStops : {Q : Type 0} → (Q → Fraction) → (Fraction → Type 0) → List Node → SettleStop Q → Type 0
ConditionStops v fits ns (Unsettled p) = ⊥
ConditionStops v fits ns (Coupled p f) = ⊥
ConditionStops v fits ns (NoValue f) = ⊥
ConditionStops v fits ns (Number o) = FirstUnfit fits ns (overflow_of v o)
ConditionStops v fits ns (Nonlinear p k) = ⊥
ConditionStops v fits ns Memory = Unit {0}

abbrev pub ChosenStops : {Q : Type 0} → (Q → Fraction) → (Fraction → Type 0) → List SettleStep → SettleStop Q → Type 0
ChosenStops v fits ns (Unsettled p) = ⊥
ChosenStops v fits ns (Coupled p f) = ⊥
ChosenStops v fits ns (NoValue f) = ⊥
ChosenStops v fits ns (Number o) = FirstStop fits ns (asks (overflow_of v o))
ChosenStops v fits ns (Nonlinear p k) = FirstStop fits ns (straight p.0 k false)
ChosenStops v fits ns Memory = Unit {0}

-- stops of the parts as those of the whole
abbrev pub of_rate : {Q : Type 0} → RateStop Q → SettleStop Q
of_rate (rate.NoValue f) = NoValue f
of_rate (rate.Number o) = Number o
of_rate rate.Memory = Memory

abbrev pub of_walk : {Q : Type 0} → WalkStop Q → SettleStop Q
of_walk (walk.Number o) = Number o
of_walk walk.Memory = Memory

abbrev pub of_go : {Q : Type 0} → GoStop Q → SettleStop Q
of_go (go.Number o) = Number o
of_go (go.Nonlinear p k) = Nonlinear p k

-- a fluent lacks a value for these rates
abbrev pub LacksValue : {Q : Type 0} → Result (List Fraction) ℕ → SettleStop Q → Type 0
LacksValue r (Unsettled p) = ⊥
LacksValue r (Coupled p f) = ⊥
LacksValue r (NoValue f) = r ≡ Err f.0
LacksValue r (Number o) = Unit {0}
LacksValue r (Nonlinear p k) = ⊥
LacksValue r Memory = Unit {0}

abbrev pub OwnRates : {Q : Type 0} → (Q → Fraction) → (Fraction → Type 0) → Problem → State → List ℕ → Result (List Fraction) (SettleStop Q) → Type 0
OwnRates v fits P s members answer =
    MatchResult answer (λ rs. AllPass fits (rates_steps P s members) × (rates P s members ≡ Ok rs)) (λ e. StopIs v fits (rates_steps P s members) e × LacksValue (rates P s members) e)

-- the process is the first that differs, or the pair is the first coupled one
abbrev pub NotConfirmed : {Q : Type 0} → Problem → State → List ℕ → List Fraction → SettleStop Q → Type 0
NotConfirmed P s members own (Unsettled p) = IsFirst (Differs P s members own) p.0
NotConfirmed P s members own (Coupled p f) = GoesOn P s own members × (first_coupled P members own ≡ Some (p.0, f.0))
NotConfirmed P s members own (NoValue f) = ⊥
NotConfirmed P s members own (Number o) = Unit {0}
NotConfirmed P s members own (Nonlinear p k) = Unit {0}
NotConfirmed P s members own Memory = Unit {0}

abbrev pub Confirmed : {Q A : Type 0} → (Q → Fraction) → (Fraction → Type 0) → Problem → State → List ℕ → List Fraction → Result A (SettleStop Q) → Type 0
Confirmed v fits P s members own answer =
    MatchResult answer (λ _. AllPass fits (own_then P s members own) × GoesOn P s own members × (first_coupled P members own ≡ None)) (λ e. StopIs v fits (own_then P s members own) e × NotConfirmed P s members own e)

-- the chosen processes do not confirm themselves, and p is the first that shows it
pub record UnsettledAt (P : Problem) (s : State) (p : ℕ) : Type 0 where
  pub running : List ℕ
  pub chosen : Chosen P s running
  pub own : List Fraction
  pub own_is : rates P s running ≡ Ok own
  pub first : IsFirst (Differs P s running own) p

-- the set is settled, and p and f are the first process of it and the first fluent that it reads and that moves
pub record CoupledAt (P : Problem) (s : State) (p f : ℕ) : Type 0 where
  pub running : List ℕ
  pub own : List Fraction
  pub settled : Settled P s running own
  pub first : first_coupled P running own ≡ Some (p, f)

-- the state has no running set, for this reason; a number that does not fit, a comparison that is not linear and want of
-- memory say nothing of it
abbrev pub NotSettled : {Q : Type 0} → Problem → State → SettleStop Q → Type 0
NotSettled P s (Unsettled p) = UnsettledAt P s p.0
NotSettled P s (Coupled p f) = CoupledAt P s p.0 f.0
NotSettled P s (NoValue f) = (rates P s (holding P s) ≡ Err f.0) ⊎ ((running : List ℕ) × Chosen P s running × (rates P s running ≡ Err f.0))
NotSettled P s (Number o) = Unit {0}
NotSettled P s (Nonlinear p k) = Unit {0}
NotSettled P s Memory = Unit {0}

-- the running set with its rates, none of whose members reads a moving fluent
pub record IsRunning (P : Problem) (s : State) (members : List ℕ) (own : List Fraction) : Type 0 where
  pub settled : Settled P s members own
  pub uncoupled : first_coupled P members own ≡ None

-- all steps pass and there is this running set, or the first step that stops
abbrev pub SettleAnswers : {Q : Type 0} → (Q → Fraction) → (Fraction → Type 0) → Problem → State → Result (Running Q) (SettleStop Q) → Type 0
SettleAnswers v fits P s answer =
    MatchResult answer (λ r. AllPass fits (settle_steps P s) × IsRunning P s (process_numbers r.members.items) r.rates) (λ e. StopIs v fits (settle_steps P s) e × NotSettled P s e)
