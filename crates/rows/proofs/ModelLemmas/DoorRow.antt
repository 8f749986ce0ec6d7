-- The rows of the door.
use Rattle.std.proofs.Common.{◌≡◌, ℕ, Bool, true, false, [], refl, inl, inr, pos, arith}
use Rattle.std.proofs.lemmas.Int.{ints}
use Rattle.std.specs.Prelude.{Some, None}
use Rattle.plus_fraction.specs.Gcd.{gcd, gcd_within}
use Rattle.plus_fraction.specs.Fraction.{over, whole, ◌-ℚ◌, ◌<ℚ◌, ◌≤ℚ◌, compared}
use Rattle.plus_model.specs.Terms.{State}
use Rattle.plus_model.specs.Joint.{joint}
use Rattle.plus_model.specs.Firing.{firing}
use Rattle.plus_model.specs.Running.{rates, moved, first_coupled}
use Rattle.plus_model.specs.Plan.{Instance, Plan}
use Rattle.plus_model.specs.History.{View}
use Rattle.plus_model.specs.Trajectory.{until, at_until, literals, Trajectory, RunMayFollow, EnterMayFollow}
use Rattle.plus_model.specs.Breach.{UnknownAction, WrongArguments, Precondition, Goal, TimeGoesBack, AfterEnd, Breaks, BreaksBy}
use Rattle.rows.specs.Model.Door.{door_state, unlock, open_door, door, shut, end_at, door_plan, door_history, locked_plan, locked_history, closed_plan, closed_history, empty_plan, start_history, unknown_plan, wrong_plan, lines_to_one, ended_at_one, ended_history}
use Rattle.rows.proofs.ModelLemmas.Runs.{settles, no_change, begins, enters}

abbrev moment : ℕ → State → ℕ → View
moment t s acted = record { time = whole (pos t); state = s; fired = []; running = None; acted = acted }

abbrev stretch : ℕ → State → ℕ → View
stretch t s acted = record { time = whole (pos t); state = s; fired = []; running = Some []; acted = acted }

-- nothing runs and nothing holds, whatever the state
door_run : (L : Plan) (t : ℕ) (closed locked : Bool) (acted : ℕ) → whole (pos t) <ℚ until door L (moment t (door_state closed locked) acted) → RunMayFollow door (until door L (moment t (door_state closed locked) acted)) (moment t (door_state closed locked) acted) []
unfolding firing rates first_coupled
door_run L t closed locked acted h = record {
  still = refl;
  later = h;
  rate = [];
  settled = settles door (door_state closed locked) [] [] [] tt tt refl refl refl refl;
  uncoupled = refl;
}

door_enter : (L : Plan) (t u : ℕ) (closed locked : Bool) (acted : ℕ) → whole (pos t) <ℚ whole (pos u) → whole (pos u) ≤ℚ until door L (stretch t (door_state closed locked) acted) → whole (pos u) ≡ until door L (stretch t (door_state closed locked) acted)
    → EnterMayFollow door (until door L (stretch t (door_state closed locked) acted)) (stretch t (door_state closed locked) acted) [] (whole (pos u)) (door_state closed locked) (literals door (whole (pos u)) (door_state closed locked))
unfolding rates moved
door_enter L t u closed locked acted h k e = enters door L (stretch t (door_state closed locked) acted) [] [] (whole (pos 0)) (whole (pos u)) (door_state closed locked)
    refl h k
    (begins door (door_state closed locked) [] [] tt refl tt refl)
    (no_change door (door_state closed locked) [] (whole (pos 0)) (whole (pos u) -ℚ whole (pos t)) tt tt)
    refl
    (at_until e)

pub door_row : Trajectory door door_plan door_history
unfolding firing literals joint over gcd gcd_within compared
door_row = record {
  prefix = record {
    ordered = (record { cross = omega (arith, ints) }, tt);
    rest = _;
    begins = refl;
    follow = (
      inr refl,
      door_run door_plan 0 true true 0 (record { cross = omega (arith, ints) }),
      (
        inr refl,
        door_enter door_plan 0 1 true true 0 (record { cross = omega (arith, ints) }) (record { cross = omega (arith, ints) }) refl,
        (
          inr refl,
          record { action = unlock; line = refl; due = refl; acts = record { still = refl; may = refl; effect = refl } },
          (
            inr refl,
            door_run door_plan 1 true false 1 (record { cross = omega (arith, ints) }),
            (
              inr refl,
              door_enter door_plan 1 3 true false 1 (record { cross = omega (arith, ints) }) (record { cross = omega (arith, ints) }) refl,
              (
                inr refl,
                record { action = open_door; line = refl; due = refl; acts = record { still = refl; may = refl; effect = refl } },
                tt,
              ),
            ),
          ),
        ),
      ),
    );
  };
  closed = refl;
  worked = record { acted = tt; still = refl; moment = refl; over = refl };
  goal = refl;
}

pub locked_row : Breaks door locked_plan locked_history (Precondition 0)
unfolding firing literals over gcd gcd_within compared
locked_row = record {
  prefix = record {
    ordered = tt;
    rest = _;
    begins = refl;
    follow = (
      inr refl,
      door_run locked_plan 0 true true 0 (record { cross = omega (arith, ints) }),
      (
        inr refl,
        door_enter locked_plan 0 3 true true 0 (record { cross = omega (arith, ints) }) (record { cross = omega (arith, ints) }) refl,
        tt,
      ),
    );
  };
  breach = record {
    begun = inr refl;
    stands = (refl, open_door, record { present = record { moment = refl; still = refl }; due = refl }, refl);
  };
}

pub closed_row : Breaks door closed_plan closed_history Goal
unfolding firing literals joint over gcd gcd_within compared
closed_row = record {
  prefix = record {
    ordered = tt;
    rest = _;
    begins = refl;
    follow = (
      inr refl,
      door_run closed_plan 0 true true 0 (record { cross = omega (arith, ints) }),
      (
        inr refl,
        door_enter closed_plan 0 1 true true 0 (record { cross = omega (arith, ints) }) (record { cross = omega (arith, ints) }) refl,
        (
          inr refl,
          record { action = unlock; line = refl; due = refl; acts = record { still = refl; may = refl; effect = refl } },
          tt,
        ),
      ),
    );
  };
  breach = record {
    begun = inr refl;
    stands = (refl, record { acted = tt; still = refl; moment = refl; over = refl }, refl);
  };
}

pub empty_row : Breaks door empty_plan start_history Goal
unfolding firing literals over gcd gcd_within compared
empty_row = record {
  prefix = record { ordered = tt; rest = []; begins = refl; follow = tt };
  breach = record {
    begun = inr refl;
    stands = (refl, record { acted = tt; still = refl; moment = refl; over = refl }, refl);
  };
}

pub unknown_row : Breaks door unknown_plan start_history (UnknownAction 0 shut)
unfolding firing literals over gcd gcd_within
unknown_row = record {
  prefix = record { ordered = tt; rest = []; begins = refl; follow = tt };
  breach = record {
    begun = inr refl;
    stands = (refl, record { present = record { moment = refl; still = refl }; due = refl });
  };
}

pub wrong_row : Breaks door wrong_plan start_history (WrongArguments 0 shut)
unfolding firing literals over gcd gcd_within
wrong_row = record {
  prefix = record { ordered = tt; rest = []; begins = refl; follow = tt };
  breach = record {
    begun = inr refl;
    stands = (refl, record { present = record { moment = refl; still = refl }; due = refl });
  };
}

pub back_row : BreaksBy door lines_to_one closed_history (end_at 0) TimeGoesBack
unfolding firing literals joint over gcd gcd_within compared
back_row = record {
  prefix = record {
    ordered = tt;
    rest = _;
    begins = refl;
    follow = (
      inl (λ e. cc e),
      door_run lines_to_one 0 true true 0 (record { cross = omega (arith, ints) }),
      (
        inl (λ e. cc e),
        door_enter lines_to_one 0 1 true true 0 (record { cross = omega (arith, ints) }) (record { cross = omega (arith, ints) }) refl,
        (
          inl (λ e. cc e),
          record { action = unlock; line = refl; due = refl; acts = record { still = refl; may = refl; effect = refl } },
          tt,
        ),
      ),
    );
  };
  breach = ([], whole (pos 1), Instance unlock, record { worked = record { acted = tt; still = refl; moment = refl; over = refl }; open_yet = refl; lines = refl }, record { cross = omega (arith, ints) });
}

pub after_row : BreaksBy door ended_at_one ended_history (end_at 0) AfterEnd
unfolding firing literals over gcd gcd_within compared
after_row = record {
  prefix = record {
    ordered = tt;
    rest = _;
    begins = refl;
    follow = (
      inl (λ e. cc e),
      door_run ended_at_one 0 true true 0 (record { cross = omega (arith, ints) }),
      (
        inl (λ e. cc e),
        door_enter ended_at_one 0 1 true true 0 (record { cross = omega (arith, ints) }) (record { cross = omega (arith, ints) }) refl,
        tt,
      ),
    );
  };
  breach = ([], whole (pos 1), record { worked = record { acted = tt; still = refl; moment = refl; over = refl }; open_yet = refl; lines = refl });
}
