-- Whether a member of a set has a rate that reads a fluent that moves.
use Rattle.std.specs.Prelude.{◌≡◌, ℕ, List, Some, None, Result, Ok, Err}
use Rattle.plus_fraction.specs.Fraction.{Fraction}
use Rattle.plus_model.specs.Terms.{Problem}
use Rattle.plus_model.specs.Running.{first_coupled}
use Rattle.plus_settle.specs.declared.stops.SettleStop.{SettleStop}
use Rattle.plus_settle.specs.declared.stops.SettleStop.TheVariants.{Unsettled, Coupled, NoValue, Number, Nonlinear, Memory}

-- none of these members has one at these rates; else the first that has, with the first such fluent
abbrev pub Uncoupled : {Q : Type 0} → Problem → List ℕ → List Fraction → Result (Unit {0}) (SettleStop Q) → Type 0
Uncoupled P members rs (Ok u) = first_coupled P members rs ≡ None
Uncoupled P members rs (Err (Unsettled p)) = ⊥
Uncoupled P members rs (Err (Coupled p f)) = first_coupled P members rs ≡ Some (p.0, f.0)
Uncoupled P members rs (Err (NoValue f)) = ⊥
Uncoupled P members rs (Err (Number o)) = ⊥
Uncoupled P members rs (Err (Nonlinear p k)) = ⊥
Uncoupled P members rs (Err Memory) = Unit {0}
