-- What contracts see of a plan in steps, and what its calls do.
use Rattle.std.specs.Prelude.{◌≡◌, ℕ, suc, [], pos, refl}
use Rattle.std.specs.Coded.{Coded, code_by, coded_ℕ, coded×}
use Rattle.plus_fraction.specs.Fraction.{Fraction, whole, ◌<ℚ◌}
use Rattle.plus_fraction.specs.FractionCode.{coded_fraction}
use Rattle.plus_model.specs.Terms.{Action, State, Problem}
use Rattle.plus_model.specs.Codes.{coded_state}
use Rattle.plus_model.specs.Trajectory.{literals}
use Rattle.plus_state.specs.Fits.{StateFits}
use Rattle.plus_steps.specs.Stepped.{Does, Rests, Ticked}
use Rattle.plus_stepped.specs.Grid.{AllOnGrid, InTime, IsAt}

pub record SteppedView : Type 0 where
  pub state : State
  pub interval : Fraction
  pub place : ℕ  -- of the next timed literal
  pub ticks : ℕ  -- up to it

abbrev pub coded_stepped : Coded SteppedView
coded_stepped = code_by (State × (Fraction × (ℕ × ℕ))) (coded× coded_state (coded× coded_fraction (coded× coded_ℕ coded_ℕ)))
    (λ v. (v.state, (v.interval, (v.place, v.ticks)))) (λ p. record { state = p.0; interval = p.1.0; place = p.1.1.0; ticks = p.1.1.1 }) (λ _. refl)

-- a step takes time, and timed literals stand in order on its grid
pub record HasGrid (P : Problem) (q : Fraction) : Type 0 where
  pub above : whole (pos 0) <ℚ q
  pub grid : AllOnGrid q P.timed
  pub in_time : InTime P.timed

-- so many steps are done
abbrev pub IsAfter : Problem → ℕ → SteppedView → Type 0
IsAfter P n v = IsAt P.timed v.interval n v.place v.ticks

-- the plan may be played on in this problem
pub record Serves (P : Problem) (v : SteppedView) : Type 0 where
  pub has_grid : HasGrid P v.interval
  pub fit : StateFits P.atoms P.fluents v.state
  pub steps : ℕ
  pub after : IsAfter P steps v

-- a plan is begun: this is the state after the first cascade
pub record Begins (P : Problem) (q : Fraction) (v : SteppedView) : Type 0 where
  pub rests : Rests P [] (literals P (whole (pos 0)) P.initial) v.state
  pub interval : v.interval ≡ q
  pub after : IsAfter P 0 v

-- one step more is done
pub record Ticks (P : Problem) (n : ℕ) (old new : SteppedView) : Type 0 where
  pub ticked : Ticked P old.interval (suc n) old.state new.state
  pub interval : new.interval ≡ old.interval
  pub after : IsAfter P (suc n) new

-- an action is done, with its cascade
pub record ActsTo (P : Problem) (action : Action) (s last : State) : Type 0 where
  pub now : State
  pub does : Does action s now
  pub rests : Rests P [] now last

-- nothing else is changed by it
pub record Acts (P : Problem) (action : Action) (old new : SteppedView) : Type 0 where
  pub acts : ActsTo P action old.state new.state
  pub rest : new ≡ record old { state = new.state }

-- what was asked for can not be done
abbrev pub CannotTick : Problem → Fraction → ℕ → State → Type 0
CannotTick P q n s = (last : State) → Ticked P q n s last → ⊥

abbrev pub CannotAct : Problem → Action → State → Type 0
CannotAct P action s = (last : State) → ActsTo P action s last → ⊥
