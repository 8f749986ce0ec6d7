-- What `advance` tells where no event holds at a moment: the time asked for is reached, or the entry is to be closed.
use Rattle.std.proofs.Common.{◌≡◌, ℕ, ◌<◌, Bool, true, false, List, [], ◌∷◌, ◌++◌, ap, sym, subst, ◌∙◌, inr, arith}
use Rattle.std.proofs.lemmas.Bool.{eqb-true, eq-eqb}
use Rattle.std.specs.Prelude.{None, Ok, Err, nat_eq, if◌then◌else◌}
use Rattle.plus_fraction.specs.Fraction.{Fraction, ◌<ℚ◌}
use Rattle.plus_model.specs.Terms.{Problem}
use Rattle.plus_model.specs.Firing.{firing}
use Rattle.plus_model.specs.History.{View}
use Rattle.plus_model.specs.Trajectory.{is_below, RunMayFollow}
use Rattle.plus_model.specs.Breach.{IsOpen}
use Rattle.plus_state.specs.declared.outcome.Limit.TheVariants.{Happenings}
use Rattle.plus_state.proofs.Testing.{pass_none, pass_append, fail_here, fail_left, fail_right, carry_pass, carry_fail}
use Rattle.plus_settle.specs.declared.settling.Running.{Running}
use Rattle.plus_settle.specs.declared.stops.SettleStop.{SettleStop}
use Rattle.plus_settle.specs.declared.stops.SettleStop.TheVariants.{Unsettled, Coupled, NoValue, Number, Nonlinear, Memory}
use Rattle.plus_settle.specs.Steps as settle
use Rattle.plus_settle.specs.Steps.{SettleStep}
use Rattle.plus_settle.specs.Settles.{settle_steps, IsRunning, SettleAnswers}
use Rattle.plus_stretch.specs.Tests.{Test, full, Passes, AllPass, FirstFailing, of_settle}
use Rattle.plus_stretch.specs.StretchTests.{if_empty}
use Rattle.plus_stretch.proofs.Rising.{to_below}
use Rattle.plus_stretch.proofs.HereLemmas.{settle_carry}
use Rattle.plus_timeline.specs.declared.stop.Stop.TheVariants.{Limit}
use Rattle.plus_timeline.specs.Asked.{round_tests, count_tests, closing_tests, advance_tests}
use Rattle.plus_timeline.specs.Advance.{BreaksOff}
use Rattle.plus_timeline.specs.Stopping.{of_settle_stop}
use Rattle.plus_timeline.specs.Told.{Told}
use Rattle.plus_timeline.proofs.Rounds.{at_moment}
use Rattle.plus_timeline.proofs.Stays.{by_bool}

not_equal : (m n : ℕ) → m < n → nat_eq m n ≡ false
not_equal m n l = by_bool (nat_eq m n) (λ e. let q : m ≡ n = eqb-true m n e in omega (arith, l, q))

-- the set that settling gives may come next
abbrev pub run_may : (P : Problem) (u : Fraction) (v : View) (R : List ℕ) (rs : List Fraction) → firing P v.state ≡ [] → v.time <ℚ u → IsRunning P v.state R rs → RunMayFollow P u v R
run_may P u v R rs still later h = record { still = still; later = later; rate = rs; settled = h.settled; uncoupled = h.uncoupled }

module _ {Q : Type 0} (value : Q → Fraction) (fits : Fraction → Type 0) (P : Problem) (most entries : ℕ) (u : Fraction) (v : View) (moment : v.running ≡ None) (pass : AllPass fits (round_tests P v.fired v.state)) (still : firing P v.state ≡ []) where
  at_rest : (b : Bool) → is_below v.time u ≡ b → advance_tests P most entries u v ≡ round_tests P v.fired v.state ++ (if b then closing_tests P most entries v.state else [])
  at_rest b e =
      at_moment P most entries u v moment
      ∙ ap (λ (es : List ℕ). round_tests P v.fired v.state ++ if_empty es (if is_below v.time u then closing_tests P most entries v.state else [])) still
      ∙ ap (λ (c : Bool). round_tests P v.fired v.state ++ (if c then closing_tests P most entries v.state else [])) e

  -- ---- the time asked for is reached
  pub there_passes : is_below v.time u ≡ false → AllPass fits (advance_tests P most entries u v)
  there_passes e = subst (AllPass fits) (sym (at_rest false e)) (pass_append (Passes fits) _ _ pass (pass_none (Passes fits)))

  module _ (later : v.time <ℚ u) where
    closing_pass : AllPass fits (closing_tests P most entries v.state) → AllPass fits (advance_tests P most entries u v)
    closing_pass a = subst (AllPass fits) (sym (at_rest true (to_below v.time u later))) (pass_append (Passes fits) _ _ pass a)

    closing_fail : (m : Test) → FirstFailing fits (closing_tests P most entries v.state) m → FirstFailing fits (advance_tests P most entries u v) m
    closing_fail m h =
        subst (λ (ts : List Test). FirstFailing fits ts m) (sym (at_rest true (to_below v.time u later))) (fail_right (Passes fits) _ _ _ pass h)

    count_is : (b : Bool) → nat_eq entries most ≡ b → count_tests most entries ≡ (if b then full most ∷ [] else [])
    count_is b e = ap (λ (c : Bool). if c then full most ∷ [] else []) e

    -- ---- all entries that are allowed are done
    full_first : entries ≡ most → FirstFailing fits (closing_tests P most entries v.state) (full most)
    unfolding closing_tests Passes
    full_first e =
        fail_left (Passes fits) _ _ _
        (subst (λ (ts : List Test). FirstFailing fits ts (full most)) (sym (count_is true (eq-eqb entries most e))) (fail_here (Passes fits) (full most) [] (λ z. z)))

    pub full_stops : {A : Type 0} (acted : ℕ) (ended : Bool) (Does : A → Type 0) → ended ≡ false → entries ≡ most → Told {Q = Q} value fits acted ended (advance_tests P most entries u v) Does (BreaksOff value P u v) (Err (Limit (Happenings most)))
    full_stops acted ended Does g e = record { going = g; first = closing_fail (full most) (full_first e) }

    module _ (room : entries < most) where
      counted : AllPass fits (count_tests most entries)
      counted = subst (AllPass fits) (sym (count_is false (not_equal entries most room))) (pass_none (Passes fits))

      -- ---- the running set
      settled_pass : settle.AllPass fits (settle_steps P v.state) → AllPass fits (closing_tests P most entries v.state)
      unfolding closing_tests
      settled_pass a = pass_append (Passes fits) _ _ counted (carry_pass (settle_carry fits) _ a)

      settled_fail : (m : SettleStep) → settle.FirstStop fits (settle_steps P v.state) m → FirstFailing fits (closing_tests P most entries v.state) (of_settle m)
      unfolding closing_tests
      settled_fail m h = fail_right (Passes fits) _ _ _ counted (carry_fail (settle_carry fits) _ m h)

      pub close_passes : (r : Running Q) → SettleAnswers value fits P v.state (Ok r) → AllPass fits (advance_tests P most entries u v)
      close_passes r h = closing_pass (settled_pass h.0)

      -- ---- there is none
      first_stop : (m : SettleStep) → settle.FirstStop fits (settle_steps P v.state) m → FirstFailing fits (advance_tests P most entries u v) (of_settle m)
      first_stop m h = closing_fail (of_settle m) (settled_fail m h)

      is_open : IsOpen P u v
      is_open = record { present = record { moment = moment; still = still }; later = later }

      pub settle_stops : {A : Type 0} (acted : ℕ) (ended : Bool) (Does : A → Type 0) (e : SettleStop Q) → ended ≡ false → SettleAnswers value fits P v.state (Err e) → Told value fits acted ended (advance_tests P most entries u v) Does (BreaksOff value P u v) (Err (of_settle_stop e))
      settle_stops acted ended Does (Unsettled p) g h = record {
        going = g;
        first = first_stop (settle.unsettled p.0) h.0;
        means = record { «open» = is_open; running = h.1.running; chosen = h.1.chosen; own = h.1.own; own_is = h.1.own_is; first = h.1.first };
      }
      settle_stops acted ended Does (Coupled p f) g h = record {
        going = g;
        first = first_stop (settle.coupled p.0 f.0) h.0;
        means = record { «open» = is_open; running = h.1.running; own = h.1.own; settled = h.1.settled; first = h.1.first };
      }
      settle_stops acted ended Does (NoValue f) g h = record { going = g; first = first_stop (settle.no_value f.0) h.0; means = inr (record { «open» = is_open; fail = h.1 }) }
      settle_stops acted ended Does (Number o) g h = record { going = g; first = first_stop (settle.asks _) h.0 }
      settle_stops acted ended Does (Nonlinear p k) g h = record { going = g; first = first_stop (settle.straight p.0 k false) h.0 }
      settle_stops acted ended Does Memory g h = g
