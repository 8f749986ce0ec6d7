-- A refusal, told of a part of a call and of the call.
use Rattle.std.proofs.Common.{◌≡◌, ℕ, Bool, false, List}
use Rattle.std.specs.Prelude.{Err}
use Rattle.plus_fraction.specs.Fraction.{Fraction}
use Rattle.plus_state.specs.declared.outcome.Breach.{Breach as Broken}
use Rattle.plus_timeline.specs.declared.stop.Stop.{Stop}
use Rattle.plus_timeline.specs.declared.stop.Stop.TheVariants.{Breach, Limit, Ended, Memory}
use Rattle.plus_stretch.specs.Tests.{Test}
use Rattle.plus_timeline.specs.Told.{Told}

pub refusal_told : {Q A B : Type 0} (value : Q → Fraction) (fits : Fraction → Type 0) (acted : ℕ) (ended : Bool) (tests : List Test) (Does : A → Type 0) (Does' : B → Type 0) (Means : Broken Q → Type 0) (stop : Stop Q) → ended ≡ false → Told value fits acted false tests Does Means (Err stop) → Told value fits acted ended tests Does' Means (Err stop)
refusal_told value fits acted ended tests Does Does' Means (Breach b) e h = record { going = e; first = h.first; means = h.means }
refusal_told value fits acted ended tests Does Does' Means (Limit l) e h = record { going = e; first = h.first }
refusal_told value fits acted ended tests Does Does' Means Ended e h = cc
refusal_told value fits acted ended tests Does Does' Means Memory e h = e
