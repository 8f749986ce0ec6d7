-- Constraints that fit a problem. They do so in one way at most, so that a value can keep it.
use Rattle.std.specs.Prelude.{ℕ, ◌<◌, ◌^◌, List}
use Rattle.std.specs.List.{All}
use Rattle.std.proofs.Props.{props}
use Rattle.plus_number.specs.declared.frac.Frac64.{Frac64}
use Rattle.plus_number.specs.Frac.{fraction_of}
use Rattle.plus_state.specs.View.{condition_of}
use Rattle.plus_state.specs.Fits.{Fits, comparisons}
use Rattle.plus_state.specs.FitsOnce.{Fits-prop}
use Rattle.plus_watch.specs.declared.watched.Watched.{Watched}

-- their conditions are over so many atoms and fluents
abbrev pub AllFit : ℕ → ℕ → List (Watched Frac64) → Type 0
AllFit atoms fluents ws = All (λ w. Fits atoms fluents (condition_of fraction_of w.cond)) ws

pub AllFit-prop : (atoms fluents : ℕ) (ws : List (Watched Frac64)) → IsProp (AllFit atoms fluents ws)
AllFit-prop atoms fluents ws = hlevel (props, Fits-prop)

-- the comparisons of each are numbered by 32 bits
abbrev pub AreFew : List (Watched Frac64) → Type 0
AreFew ws = All (λ w. comparisons (condition_of fraction_of w.cond) < 2 ^ 32) ws

pub AreFew-prop : (ws : List (Watched Frac64)) → IsProp (AreFew ws)
AreFew-prop ws = hlevel props
