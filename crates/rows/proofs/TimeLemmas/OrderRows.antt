-- The rows of an event that holds at one value, and of the order at one time.
use Rattle.std.proofs.Common.{◌≡◌, List, [], ◌∷◌, false, true, refl, ap, ap₂, inr, arith}
use Rattle.std.proofs.lemmas.Int.{ints}
use Rattle.std.specs.Prelude.{Some, None, Ok}
use Rattle.plus_fraction.specs.Gcd.{gcd, gcd_within}
use Rattle.plus_fraction.specs.Fraction.{Fraction, over, ◌+ℚ◌, ◌-ℚ◌, ◌*ℚ◌, ◌<ℚ◌, compared}
use Rattle.plus_fraction.proofs.FractionOrder.{<ℚ_trans}
use Rattle.plus_fraction.proofs.FractionBase.{same_cross}
use Rattle.plus_model.specs.Terms.{State}
use Rattle.plus_model.specs.Joint.{joint}
use Rattle.plus_model.specs.Firing.{firing, first_shared, effects_of, IsRound}
use Rattle.plus_model.specs.Running.{rates, moved, first_coupled}
use Rattle.plus_model.specs.History.{View}
use Rattle.plus_model.specs.Trajectory.{until, at_until, event_holds, literals, first_view, Trajectory, IsWorked, RunMayFollow, EnterMayFollow}
use Rattle.rows.specs.Model.Rises.{n, values, stretch, moment, to_eight}
use Rattle.rows.specs.Model.Token.{token_state}
use Rattle.rows.proofs.ModelLemmas.Runs.{settles, no_change, begins, enters, not_before, not_after}
use Rattle.rows.specs.Time.Histories.{touching_world, touching_history, order_world, take, order_plan, order_history}

abbrev x_up : List Fraction
x_up = n 1 ∷ n 0 ∷ []

abbrev valued : Fraction → Fraction → State
valued x y = record { atoms = []; fluents = Some x ∷ Some y ∷ [] }

-- ---- an event that holds at one value
run_up : RunMayFollow touching_world (until touching_world to_eight (first_view touching_world)) (first_view touching_world) (0 ∷ [])
unfolding firing literals rates over gcd gcd_within first_coupled compared ◌+ℚ◌
run_up = record {
  still = refl;
  later = record { cross = omega (arith, ints) };
  rate = x_up;
  settled = settles touching_world (values 0 0) (0 ∷ []) x_up x_up (tt, tt) (tt, tt)
      (ap (λ x. Ok (x ∷ n 0 ∷ [])) (same_cross _ _ refl)) refl
      (ap (λ x. Ok (x ∷ n 0 ∷ [])) (same_cross _ _ refl)) refl;
  uncoupled = refl;
}

enter_five : EnterMayFollow touching_world (until touching_world to_eight (stretch 0 (values 0 0) (0 ∷ []) 0)) (stretch 0 (values 0 0) (0 ∷ []) 0) (0 ∷ []) (n 5) (values 5 0) (values 5 0)
unfolding firing literals rates moved over gcd gcd_within compared ◌+ℚ◌ ◌-ℚ◌ ◌*ℚ◌
enter_five = enters touching_world to_eight (stretch 0 (values 0 0) (0 ∷ []) 0) (0 ∷ []) x_up (n 0) (n 5) (values 5 0)
    (ap (λ x. Ok (x ∷ n 0 ∷ [])) (same_cross _ _ refl))
    (record { cross = omega (arith, ints) })
    (record { cross = omega (arith, ints) })
    (begins touching_world (values 0 0) (0 ∷ []) x_up (tt, tt) refl (tt, tt) refl)
    (no_change touching_world (values 0 0) x_up (n 0) (n 5 -ℚ n 0) (λ r p l d h. not_before (n 0) (n 5) r (n 5 -ℚ n 0) refl l h, tt) (tt, tt))
    (ap₂ valued (same_cross _ _ refl) (same_cross _ _ refl))
    (event_holds (λ e. cc e))

round_five : IsRound touching_world [] (values 5 0) (0 ∷ []) (values 6 0)
unfolding firing over gcd gcd_within compared first_shared effects_of joint
round_five = record { all = refl; some = λ e. cc e; fresh = refl; effect = refl }

abbrev fired_five : View
fired_five = record { time = n 5; state = values 6 0; fired = 0 ∷ []; running = None; acted = 0 }

abbrev running_five : View
running_five = record { time = n 5; state = values 6 0; fired = 0 ∷ []; running = Some (0 ∷ []); acted = 0 }

run_on : RunMayFollow touching_world (until touching_world to_eight fired_five) fired_five (0 ∷ [])
unfolding firing rates over gcd gcd_within first_coupled compared ◌+ℚ◌
run_on = record {
  still = refl;
  later = record { cross = omega (arith, ints) };
  rate = x_up;
  settled = settles touching_world (values 6 0) (0 ∷ []) x_up x_up (tt, tt) (tt, tt)
      (ap (λ x. Ok (x ∷ n 0 ∷ [])) (same_cross _ _ refl)) refl
      (ap (λ x. Ok (x ∷ n 0 ∷ [])) (same_cross _ _ refl)) refl;
  uncoupled = refl;
}

-- x was 5 one unit of time before
past_five : (r : Fraction) → n 0 <ℚ r → n 6 +ℚ n 1 *ℚ r ≡ n 5 +ℚ n 0 *ℚ r → ⊥
unfolding over gcd gcd_within ◌-ℚ◌
past_five r p h = not_after (n 6) (n 5) r (n 5 -ℚ n 6) refl (<ℚ_trans _ _ r (record { cross = omega (arith, ints) }) p) h

enter_eight : EnterMayFollow touching_world (until touching_world to_eight running_five) running_five (0 ∷ []) (n 8) (values 9 0) (values 9 0)
unfolding firing literals rates moved over gcd gcd_within compared ◌+ℚ◌ ◌-ℚ◌ ◌*ℚ◌
enter_eight = enters touching_world to_eight running_five (0 ∷ []) x_up (n 0) (n 8) (values 9 0)
    (ap (λ x. Ok (x ∷ n 0 ∷ [])) (same_cross _ _ refl))
    (record { cross = omega (arith, ints) })
    (record { cross = omega (arith, ints) })
    (begins touching_world (values 6 0) (0 ∷ []) x_up (tt, tt) refl (tt, tt) refl)
    (no_change touching_world (values 6 0) x_up (n 0) (n 8 -ℚ n 5) (λ r p l d h. past_five r p h, tt) (tt, tt))
    (ap₂ valued (same_cross _ _ refl) (same_cross _ _ refl))
    (at_until refl)

end_eight : IsWorked touching_world to_eight (moment 8 (values 9 0) 0)
unfolding firing over gcd gcd_within compared
end_eight = record { acted = tt; still = refl; moment = refl; over = refl }

pub touching_row : Trajectory touching_world to_eight touching_history
unfolding literals
touching_row = record {
  prefix = record {
    ordered = tt;
    rest = _;
    begins = refl;
    follow = (inr refl, run_up, (inr refl, enter_five, (inr refl, round_five, (inr refl, run_on, (inr refl, enter_eight, tt)))));
  };
  closed = refl;
  worked = end_eight;
  goal = refl;
}

-- ---- a literal, an event and an action at one time
run_none : RunMayFollow order_world (until order_world order_plan (first_view order_world)) (first_view order_world) []
unfolding firing literals rates first_coupled over gcd gcd_within compared
run_none = record {
  still = refl;
  later = record { cross = omega (arith, ints) };
  rate = [];
  settled = settles order_world (token_state false false) [] [] [] tt tt refl refl refl refl;
  uncoupled = refl;
}

enter_three : EnterMayFollow order_world (until order_world order_plan (stretch 0 (token_state false false) [] 0)) (stretch 0 (token_state false false) [] 0) [] (n 3) (token_state false false) (token_state true false)
unfolding literals rates moved over gcd gcd_within compared
enter_three = enters order_world order_plan (stretch 0 (token_state false false) [] 0) [] [] (n 0) (n 3) (token_state false false)
    refl (record { cross = omega (arith, ints) }) (record { cross = omega (arith, ints) })
    (begins order_world (token_state false false) [] [] tt refl (tt, tt) refl)
    (no_change order_world (token_state false false) [] (n 0) (n 3 -ℚ n 0) (tt, tt) tt)
    refl
    (at_until refl)

pub order_row : Trajectory order_world order_plan order_history
unfolding firing literals first_shared effects_of joint over gcd gcd_within compared
order_row = record {
  prefix = record {
    ordered = tt;
    rest = _;
    begins = refl;
    follow = (
      inr refl,
      run_none,
      (
        inr refl,
        enter_three,
        (
          inr refl,
          record { all = refl; some = λ e. cc e; fresh = refl; effect = refl },
          (
            inr refl,
            record { action = take; line = refl; due = refl; acts = record { still = refl; may = refl; effect = refl } },
            tt,
          ),
        ),
      ),
    );
  };
  closed = refl;
  worked = record { acted = tt; still = refl; moment = refl; over = refl };
  goal = refl;
}
