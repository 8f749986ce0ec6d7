-- What `advance` tells along a running set.
use Rattle.std.proofs.Common.{◌≡◌, ℕ, Bool, false, List, ap, sym, subst, ◌∙◌}
use Rattle.std.specs.Prelude.{Some, Err}
use Rattle.plus_fraction.specs.Fraction.{Fraction}
use Rattle.plus_model.specs.Terms.{Problem}
use Rattle.plus_model.specs.History.{View}
use Rattle.plus_model.specs.Trajectory.{literals, EnterMayFollow}
use Rattle.plus_model.specs.Breach.{IsMomentless}
use Rattle.plus_state.specs.Changes.{patched}
use Rattle.plus_stretch.specs.declared.arrival.Arrival.{Arrival}
use Rattle.plus_stretch.specs.declared.halt.Halt.{Halt}
use Rattle.plus_stretch.specs.declared.halt.Halt.TheVariants as halts
use Rattle.plus_stretch.specs.Tests.{Test, AllPass, FirstFailing}
use Rattle.plus_stretch.specs.StretchTests.{stretch_tests}
use Rattle.plus_stretch.specs.Told.{HaltTold}
use Rattle.plus_stretch.specs.Arrives.{stretch_view, Arrives}
use Rattle.plus_timeline.specs.Asked.{advance_by, advance_tests}
use Rattle.plus_timeline.specs.Advance.{BreaksOff}
use Rattle.plus_timeline.specs.Stopping.{of_halt}
use Rattle.plus_timeline.specs.Told.{Told}

module _ {Q : Type 0} (value : Q → Fraction) (fits : Fraction → Type 0) (P : Problem) (most entries : ℕ) (u : Fraction) (v : View) (R : List ℕ) (runs : v.running ≡ Some R) where
  -- what is asked depends on the time, the state and the set alone
  along : stretch_tests P u (stretch_view v.time v.state R) R ≡ advance_tests P most entries u v
  unfolding stretch_tests advance_tests
  along = sym (ap (advance_by P most entries u v) runs)

  pub stretch_passes : AllPass fits (stretch_tests P u (stretch_view v.time v.state R) R) → AllPass fits (advance_tests P most entries u v)
  stretch_passes a = subst (AllPass fits) along a

  -- ---- the next entry
  pub stretch_enters : (rs : List Fraction) (a : Arrival Q) → Arrives value P u v.time v.state R rs a → EnterMayFollow P u v R (value a.time) (patched v.state a.changes) (literals P (value a.time) (patched v.state a.changes))
  stretch_enters rs a h = let m = h.may in record {
    rate = m.rate;
    rate_is = m.rate_is;
    later = m.later;
    within = m.within;
    stretch = m.stretch;
    arrival_is = m.arrival_is;
    after_is = m.after_is;
    cause = m.cause;
  }

  -- ---- none
  first_stop : (m : Test) → FirstFailing fits (stretch_tests P u (stretch_view v.time v.state R) R) m → FirstFailing fits (advance_tests P most entries u v) m
  first_stop m h = subst (λ (ts : List Test). FirstFailing fits ts m) along h

  momentless : (e : ℕ) (t : Fraction) → IsMomentless P u (stretch_view v.time v.state R) e t → IsMomentless P u v e t
  momentless e t m = record {
    running = m.running;
    runs = runs ∙ m.runs;
    rate = m.rate;
    rate_is = m.rate_is;
    from = m.from;
    before = m.before;
    quiet = m.quiet;
    first = m.first;
  }

  pub halt_stops : {A : Type 0} (acted : ℕ) (ended : Bool) (Does : A → Type 0) (h : Halt Q) → ended ≡ false → HaltTold value fits (stretch_tests P u (stretch_view v.time v.state R) R) (IsMomentless P u (stretch_view v.time v.state R)) h → Told value fits acted ended (advance_tests P most entries u v) Does (BreaksOff value P u v) (Err (of_halt h))
  halt_stops acted ended Does (halts.NoFirstMoment e t) g m = record { going = g; first = first_stop _ m.0; means = momentless e.0 (value t) m.1 }
  halt_stops acted ended Does (halts.Limit l) g m = record { going = g; first = first_stop _ m }
  halt_stops acted ended Does halts.Memory g m = g
