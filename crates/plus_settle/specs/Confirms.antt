-- What it asks to find the first process that differs from its membership, at these rates: of each process in ground order, up
-- to the first that differs, the tests of its condition.
use Rattle.std.specs.Prelude.{◌≡◌, ℕ, suc, Bool, true, false, List, [], ◌∷◌, ◌++◌, Option, Some, None, Result, MatchResult, MatchOption, ◌↔◌, option_map, not, if◌then◌else◌}
use Rattle.plus_fraction.specs.Fraction.{Fraction}
use Rattle.plus_model.specs.Terms.{Process, State, Problem}
use Rattle.plus_model.specs.Firing.{is_in}
use Rattle.plus_model.specs.Running.{JustAfter, GoesOn}
use Rattle.plus_model.specs.Breach.{IsFirst, Differs}
use Rattle.plus_state.specs.View.{overflow_of}
use Rattle.plus_state.specs.declared.term.ProcessId.{ProcessId}
use Rattle.plus_crossing.specs.Conds.{live_asks}
use Rattle.plus_settle.specs.declared.stops.GoStop.{GoStop}
use Rattle.plus_settle.specs.declared.stops.GoStop.TheVariants.{Number, Nonlinear}
use Rattle.plus_settle.specs.Steps.{SettleStep, asks, straight, AllPass, FirstStop, owned}
use Rattle.plus_settle.specs.Members.{soon}

-- the tests of one process
unfoldable pub soon_steps : ℕ → Process → State → List Fraction → List SettleStep
soon_steps k p s rs = owned k (live_asks 0 p.condition s rs)

-- the process runs and is no member, or the other way round
abbrev pub differ : Bool → Bool → Bool
differ true b = not b
differ false b = b

-- processes from number k on
abbrev pub confirm_steps : List ℕ → ℕ → List Process → State → List Fraction → List SettleStep
confirm_steps members k [] s rs = []
confirm_steps members k (p ∷ ps) s rs =
    soon_steps k p s rs ++ (if differ (soon p s rs) (is_in members k) then [] else confirm_steps members (suc k) ps s rs)

unfoldable pub go_steps : Problem → List ℕ → State → List Fraction → List SettleStep
go_steps P members s rs = confirm_steps members 0 P.processes s rs

-- the first that differs from its membership
abbrev pub first_other : List ℕ → ℕ → List Process → State → List Fraction → Option ℕ
first_other members k [] s rs = None
first_other members k (p ∷ ps) s rs =
    if differ (soon p s rs) (is_in members k) then Some k else first_other members (suc k) ps s rs

abbrev pub GoStops : {Q : Type 0} → (Q → Fraction) → (Fraction → Type 0) → List SettleStep → GoStop Q → Type 0
GoStops v fits ns (Number o) = FirstStop fits ns (asks (overflow_of v o))
GoStops v fits ns (Nonlinear p k) = FirstStop fits ns (straight p.0 k false)

-- whether the process holds just after, where all tests pass; or the first test that fails
abbrev pub SoonTells : {Q : Type 0} → (Q → Fraction) → (Fraction → Type 0) → ℕ → Process → State → List Fraction → Result Bool (GoStop Q) → Type 0
SoonTells v fits k p s rs answer =
    MatchResult answer (λ b. AllPass fits (soon_steps k p s rs) × (b ≡ soon p s rs) × ((soon p s rs ≡ true) ↔ JustAfter s rs p.condition)) (λ e. GoStops v fits (soon_steps k p s rs) e)

-- the first process that differs, where all tests up to it pass; or the first test that fails
abbrev pub Confirms : {Q : Type 0} → (Q → Fraction) → (Fraction → Type 0) → Problem → List ℕ → State → List Fraction → Result (Option ProcessId) (GoStop Q) → Type 0
Confirms v fits P members s rs answer =
    MatchResult answer (λ o. AllPass fits (go_steps P members s rs) × (option_map (λ p. p.0) o ≡ first_other members 0 P.processes s rs) × MatchOption o (GoesOn P s rs members) (λ p. IsFirst (Differs P s members rs) p.0))
    (λ e. GoStops v fits (go_steps P members s rs) e)

-- whether the set goes on, where all tests up to the first that differs pass; or the first test that fails
abbrev pub GoAnswers : {Q : Type 0} → (Q → Fraction) → (Fraction → Type 0) → Problem → List ℕ → State → List Fraction → Result Bool (GoStop Q) → Type 0
GoAnswers v fits P members s rs answer =
    MatchResult answer (λ b. AllPass fits (go_steps P members s rs) × ((b ≡ true) ↔ GoesOn P s rs members)) (λ e. GoStops v fits (go_steps P members s rs) e)
