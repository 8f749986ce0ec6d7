-- What a step of time does to the fluents.
use Rattle.std.specs.Prelude.{◌≡◌, List, Ok}
use Rattle.plus_fraction.specs.Fraction.{Fraction}
use Rattle.plus_model.specs.Terms.{State, Problem}
use Rattle.plus_model.specs.Running.{rates, moved, holding}
use Rattle.plus_state.specs.Node.{Node}
use Rattle.plus_state.specs.View.{overflow_of}
use Rattle.plus_state.specs.Asked.{FirstUnfit}
use Rattle.plus_stepped.specs.declared.stop.StepStop.{StepStop}
use Rattle.plus_stepped.specs.declared.stop.StepStop.TheVariants.{Number, Memory}

-- the processes that hold have run for so long, at the rates of the state before
pub record MovesTo (P : Problem) (q : Fraction) (s next : State) : Type 0 where
  pub rate : List Fraction
  pub rate_is : rates P s (holding P s) ≡ Ok rate
  pub is : next ≡ moved s rate q

-- the processes that hold have no rates
abbrev pub CannotMove : Problem → State → Type 0
CannotMove P s = (rate : List Fraction) → rates P s (holding P s) ≡ Ok rate → ⊥

-- the first of these nodes that does not fit, or want of memory
abbrev pub ConditionStops : {Q : Type 0} → (Q → Fraction) → (Fraction → Type 0) → List Node → StepStop Q → Type 0
ConditionStops v fits ns (Number o) = FirstUnfit fits ns (overflow_of v o)
ConditionStops v fits ns Memory = Unit {0}
ConditionStops v fits ns _ = ⊥
