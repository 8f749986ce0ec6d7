-- The rows of numeric effects in a plan.
use Rattle.std.proofs.Common.{List, [], ◌∷◌, refl, ap₂, inl, inr, pos, arith}
use Rattle.std.proofs.lemmas.Int.{ints}
use Rattle.std.specs.Prelude.{Some, None, Ok}
use Rattle.plus_fraction.specs.Gcd.{gcd, gcd_within}
use Rattle.plus_fraction.specs.Fraction.{Fraction, over, whole, ◌+ℚ◌, ◌-ℚ◌, ◌*ℚ◌, ◌/ℚ◌, compared}
use Rattle.plus_fraction.proofs.FractionBase.{same_cross}
use Rattle.plus_model.specs.Joint.{joint}
use Rattle.plus_model.specs.Firing.{firing}
use Rattle.plus_model.specs.Running.{rates, moved, first_coupled}
use Rattle.plus_model.specs.History.{View}
use Rattle.plus_model.specs.Trajectory.{until, at_until, literals, first_view, Trajectory, ActMayFollow, RunMayFollow, EnterMayFollow}
use Rattle.plus_model.specs.Breach.{NoValue, Breaks}
use Rattle.rows.specs.Model.Mixed.{mixed_state, mix, copy, mixed, mixed_plan, mixed_history, missing, missing_plan, missing_history, copy_plan}
use Rattle.rows.proofs.ModelLemmas.Runs.{settles, no_change, begins, enters}

abbrev at_rest : List Fraction
at_rest = whole (pos 0) ∷ whole (pos 0) ∷ whole (pos 0) ∷ []

abbrev waiting : View
waiting = record { time = whole (pos 0); state = mixed.initial; fired = []; running = Some []; acted = 0 }

abbrev acting : View
acting = record { time = over (pos 5) 4; state = mixed.initial; fired = []; running = None; acted = 0 }

run_mixed : RunMayFollow mixed (until mixed mixed_plan (first_view mixed)) (first_view mixed) []
unfolding firing literals rates over gcd gcd_within first_coupled
run_mixed = record {
  still = refl;
  later = record { cross = omega (arith, ints) };
  rate = at_rest;
  settled = settles mixed mixed.initial [] at_rest at_rest tt tt refl refl refl refl;
  uncoupled = refl;
}

enter_mixed : EnterMayFollow mixed (until mixed mixed_plan waiting) waiting [] (over (pos 5) 4) mixed.initial mixed.initial
unfolding literals rates moved over gcd gcd_within ◌+ℚ◌ ◌-ℚ◌ ◌*ℚ◌
enter_mixed = enters mixed mixed_plan waiting [] at_rest (whole (pos 0)) (over (pos 5) 4) mixed.initial
    refl
    (record { cross = omega (arith, ints) })
    (record { cross = omega (arith, ints) })
    (begins mixed mixed.initial [] at_rest tt refl tt refl)
    (no_change mixed mixed.initial at_rest (whole (pos 0)) (over (pos 5) 4 -ℚ whole (pos 0)) tt tt)
    (ap₂ mixed_state (same_cross _ _ refl) (same_cross _ _ refl))
    (at_until refl)

act_mixed : ActMayFollow mixed mixed_plan acting 0 (mixed_state (over (pos 3) 4) (over (pos 3) 2))
unfolding firing joint over gcd gcd_within compared ◌*ℚ◌ ◌/ℚ◌
act_mixed = record {
  action = mix;
  line = refl;
  due = refl;
  acts = record { still = refl; may = refl; effect = ap₂ (λ x y. Ok (mixed_state x y)) (same_cross _ _ refl) (same_cross _ _ refl) };
}

pub mixed_row : Trajectory mixed mixed_plan mixed_history
unfolding firing literals over gcd gcd_within compared
mixed_row = record {
  prefix = record {
    ordered = tt;
    rest = _;
    begins = refl;
    follow = (inr refl, run_mixed, (inr refl, enter_mixed, (inr refl, act_mixed, tt)));
  };
  closed = refl;
  worked = record { acted = tt; still = refl; moment = refl; over = refl };
  goal = refl;
}

pub missing_row : Trajectory missing missing_plan missing_history
unfolding firing literals over gcd gcd_within compared
missing_row = record {
  prefix = record { ordered = tt; rest = []; begins = refl; follow = tt };
  closed = refl;
  worked = record { acted = tt; still = refl; moment = refl; over = refl };
  goal = refl;
}

pub copy_row : Breaks missing copy_plan missing_history (NoValue 1)
unfolding firing literals joint over gcd gcd_within
copy_row = record {
  prefix = record { ordered = tt; rest = []; begins = refl; follow = tt };
  breach = record {
    begun = inr refl;
    stands = inl (record {
      effects = copy.effects;
      due = inr (record { action = copy; due = record { present = record { moment = refl; still = refl }; due = refl }; may = refl; effects_is = refl });
      fails = refl;
    });
  };
}
