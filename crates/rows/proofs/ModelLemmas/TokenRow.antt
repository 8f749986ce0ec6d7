-- The rows of cascades in a history.
use Rattle.std.proofs.Common.{ℕ, Bool, true, false, List, [], ◌∷◌, refl, inr, pos, arith}
use Rattle.std.proofs.lemmas.Int.{ints}
use Rattle.std.specs.Prelude.{Some, None}
use Rattle.plus_fraction.specs.Gcd.{gcd, gcd_within}
use Rattle.plus_fraction.specs.Fraction.{over, whole, ◌-ℚ◌, ◌<ℚ◌, compared}
use Rattle.plus_model.specs.Terms.{State}
use Rattle.plus_model.specs.Joint.{joint}
use Rattle.plus_model.specs.Firing.{firing, first_shared, effects_of}
use Rattle.plus_model.specs.Running.{rates, moved, first_coupled}
use Rattle.plus_model.specs.History.{View}
use Rattle.plus_model.specs.Trajectory.{until, at_until, literals, Trajectory, RunMayFollow, EnterMayFollow}
use Rattle.plus_model.specs.Breach.{Repeats, Breaks}
use Rattle.rows.specs.Model.Token.{token_state, loop_world, loop_plan, loop_history, set_world, set, set_plan, set_history, timed_world, token_plan, token_history}
use Rattle.rows.proofs.ModelLemmas.Runs.{settles, no_change, begins, enters}

pub loop_row : Breaks loop_world loop_plan loop_history (Repeats 0)
unfolding firing literals first_shared effects_of joint over gcd gcd_within
loop_row = record {
  prefix = record {
    ordered = tt;
    rest = _;
    begins = refl;
    follow = (
      inr refl,
      record { all = refl; some = λ e. cc e; fresh = refl; effect = refl },
      (
        inr refl,
        record { all = refl; some = λ e. cc e; fresh = refl; effect = refl },
        tt,
      ),
    );
  };
  breach = record { begun = inr refl; stands = (refl, refl) };
}

pub set_row : Trajectory set_world set_plan set_history
unfolding firing literals first_shared effects_of joint over gcd gcd_within compared
set_row = record {
  prefix = record {
    ordered = (record { cross = omega (arith, ints) }, tt);
    rest = _;
    begins = refl;
    follow = (
      inr refl,
      record { all = refl; some = λ e. cc e; fresh = refl; effect = refl },
      (
        inr refl,
        record { action = set; line = refl; due = refl; acts = record { still = refl; may = refl; effect = refl } },
        (
          inr refl,
          record { all = refl; some = λ e. cc e; fresh = refl; effect = refl },
          (
            inr refl,
            record { action = set; line = refl; due = refl; acts = record { still = refl; may = refl; effect = refl } },
            (
              inr refl,
              record { all = refl; some = λ e. cc e; fresh = refl; effect = refl },
              tt,
            ),
          ),
        ),
      ),
    );
  };
  closed = refl;
  worked = record { acted = tt; still = refl; moment = refl; over = refl };
  goal = refl;
}

-- ---- with literals
abbrev present : ℕ → State → List ℕ → View
present t s fired = record { time = whole (pos t); state = s; fired = fired; running = None; acted = 0 }

abbrev waiting : ℕ → State → List ℕ → View
waiting t s fired = record { time = whole (pos t); state = s; fired = fired; running = Some []; acted = 0 }

token_run : (t : ℕ) (b : Bool) → whole (pos t) <ℚ until timed_world token_plan (present t (token_state false b) (0 ∷ [])) → RunMayFollow timed_world (until timed_world token_plan (present t (token_state false b) (0 ∷ []))) (present t (token_state false b) (0 ∷ [])) []
unfolding firing rates first_coupled
token_run t b h = record {
  still = refl;
  later = h;
  rate = [];
  settled = settles timed_world (token_state false b) [] [] [] tt tt refl refl refl refl;
  uncoupled = refl;
}

enter_one : EnterMayFollow timed_world (until timed_world token_plan (waiting 0 (token_state false true) (0 ∷ []))) (waiting 0 (token_state false true) (0 ∷ [])) [] (whole (pos 1)) (token_state false true) (token_state true false)
unfolding literals rates moved over gcd gcd_within compared
enter_one = enters timed_world token_plan (waiting 0 (token_state false true) (0 ∷ [])) [] [] (whole (pos 0)) (whole (pos 1)) (token_state false true)
    refl (record { cross = omega (arith, ints) }) (record { cross = omega (arith, ints) })
    (begins timed_world (token_state false true) [] [] tt refl (tt, tt) refl)
    (no_change timed_world (token_state false true) [] (whole (pos 0)) (whole (pos 1) -ℚ whole (pos 0)) (tt, tt) tt)
    refl
    (at_until refl)

enter_three : EnterMayFollow timed_world (until timed_world token_plan (waiting 1 (token_state false false) (0 ∷ []))) (waiting 1 (token_state false false) (0 ∷ [])) [] (whole (pos 3)) (token_state false false) (token_state false false)
unfolding literals rates moved over gcd gcd_within compared
enter_three = enters timed_world token_plan (waiting 1 (token_state false false) (0 ∷ [])) [] [] (whole (pos 0)) (whole (pos 3)) (token_state false false)
    refl (record { cross = omega (arith, ints) }) (record { cross = omega (arith, ints) })
    (begins timed_world (token_state false false) [] [] tt refl (tt, tt) refl)
    (no_change timed_world (token_state false false) [] (whole (pos 0)) (whole (pos 3) -ℚ whole (pos 1)) (tt, tt) tt)
    refl
    (at_until refl)

pub token_row : Trajectory timed_world token_plan token_history
unfolding firing literals first_shared effects_of joint over gcd gcd_within compared
token_row = record {
  prefix = record {
    ordered = tt;
    rest = _;
    begins = refl;
    follow = (
      inr refl,
      record { all = refl; some = λ e. cc e; fresh = refl; effect = refl },
      (
        inr refl,
        token_run 0 true (record { cross = omega (arith, ints) }),
        (
          inr refl,
          enter_one,
          (
            inr refl,
            record { all = refl; some = λ e. cc e; fresh = refl; effect = refl },
            (
              inr refl,
              token_run 1 false (record { cross = omega (arith, ints) }),
              (
                inr refl,
                enter_three,
                tt,
              ),
            ),
          ),
        ),
      ),
    );
  };
  closed = refl;
  worked = record { acted = tt; still = refl; moment = refl; over = refl };
  goal = refl;
}
