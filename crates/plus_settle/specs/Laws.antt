-- A state has one running set.
use Rattle.std.specs.Prelude.{◌≡◌, ℕ, List}
use Rattle.plus_fraction.specs.Fraction.{Fraction}
use Rattle.plus_model.specs.Terms.{State, Problem}
use Rattle.plus_settle.specs.Settles.{IsRunning}

-- two running sets of a state are the same, with the same rates
abbrev pub OneRunningSet : Type 0
OneRunningSet =
    (P : Problem) (s : State) (members others : List ℕ) (own rates : List Fraction)
    → IsRunning P s members own → IsRunning P s others rates → (members ≡ others) × (own ≡ rates)
