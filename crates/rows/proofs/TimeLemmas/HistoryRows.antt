-- The rows of two events at one moment, of an event that does not come to hold, and of a literal.
use Rattle.std.proofs.Common.{◌≡◌, ℕ, Bool, true, false, List, [], ◌∷◌, refl, ap, ap₂, inr, arith}
use Rattle.std.proofs.lemmas.Int.{ints}
use Rattle.std.specs.Prelude.{Some, None, Ok}
use Rattle.plus_fraction.specs.Gcd.{gcd, gcd_within}
use Rattle.plus_fraction.specs.Fraction.{Fraction, over, ◌+ℚ◌, ◌-ℚ◌, ◌*ℚ◌, ◌<ℚ◌, ◌≤ℚ◌, compared}
use Rattle.plus_fraction.proofs.FractionOrder.{<ℚ_trans}
use Rattle.plus_fraction.proofs.FractionBase.{same_cross}
use Rattle.plus_model.specs.Terms.{State}
use Rattle.plus_model.specs.Joint.{joint}
use Rattle.plus_model.specs.Firing.{firing, first_shared, effects_of, IsRound}
use Rattle.plus_model.specs.Running.{rates, moved, first_coupled}
use Rattle.plus_model.specs.History.{View}
use Rattle.plus_model.specs.Plan.{Plan}
use Rattle.plus_model.specs.Trajectory.{until, at_until, event_holds, literals, first_view, Trajectory, IsWorked, RunMayFollow, EnterMayFollow}
use Rattle.rows.specs.Model.Rises.{n, values, stretch, moment, to_eight, over_world}
use Rattle.rows.proofs.ModelLemmas.Runs.{settles, no_change, begins, enters, not_before}
use Rattle.rows.specs.Time.Histories.{pair_world, pair_history, to_five, over_history, bell_state, bell_world, bell_history, answer, answer_plan, answer_history}

abbrev x_up : List Fraction
x_up = n 1 ∷ n 0 ∷ []

abbrev valued : Fraction → Fraction → State
valued x y = record { atoms = []; fluents = Some x ∷ Some y ∷ [] }

-- ---- two events
run_pair : RunMayFollow pair_world (until pair_world to_eight (first_view pair_world)) (first_view pair_world) (0 ∷ [])
unfolding firing literals rates over gcd gcd_within first_coupled compared ◌+ℚ◌
run_pair = record {
  still = refl;
  later = record { cross = omega (arith, ints) };
  rate = x_up;
  settled = settles pair_world (values 0 0) (0 ∷ []) x_up x_up (tt, tt) (tt, tt)
      (ap (λ x. Ok (x ∷ n 0 ∷ [])) (same_cross _ _ refl)) refl
      (ap (λ x. Ok (x ∷ n 0 ∷ [])) (same_cross _ _ refl)) refl;
  uncoupled = refl;
}

enter_pair : EnterMayFollow pair_world (until pair_world to_eight (stretch 0 (values 0 0) (0 ∷ []) 0)) (stretch 0 (values 0 0) (0 ∷ []) 0) (0 ∷ []) (n 5) (values 5 0) (values 5 0)
unfolding firing literals rates moved over gcd gcd_within compared ◌+ℚ◌ ◌-ℚ◌ ◌*ℚ◌
enter_pair = enters pair_world to_eight (stretch 0 (values 0 0) (0 ∷ []) 0) (0 ∷ []) x_up (n 0) (n 5) (values 5 0)
    (ap (λ x. Ok (x ∷ n 0 ∷ [])) (same_cross _ _ refl))
    (record { cross = omega (arith, ints) })
    (record { cross = omega (arith, ints) })
    (begins pair_world (values 0 0) (0 ∷ []) x_up (tt, tt) refl (tt, (tt, tt)) refl)
    (no_change pair_world (values 0 0) x_up (n 0) (n 5 -ℚ n 0)
    (λ r p l d h. not_before (n 0) (n 5) r (n 5 -ℚ n 0) refl l h, (λ r p l d h. not_before (n 0) (n 5) r (n 5 -ℚ n 0) refl l h, tt)) (tt, tt))
    (ap₂ valued (same_cross _ _ refl) (same_cross _ _ refl))
    (event_holds (λ e. cc e))

round_pair : IsRound pair_world [] (values 5 0) (0 ∷ 1 ∷ []) (values 0 1)
unfolding firing over gcd gcd_within compared first_shared effects_of joint ◌+ℚ◌
round_pair = record { all = refl; some = λ e. cc e; fresh = refl; effect = ap (λ y. Ok (valued (n 0) y)) (same_cross _ _ refl) }

abbrev fired_five : View
fired_five = record { time = n 5; state = values 0 1; fired = 0 ∷ 1 ∷ []; running = None; acted = 0 }

abbrev running_five : View
running_five = record { time = n 5; state = values 0 1; fired = 0 ∷ 1 ∷ []; running = Some (0 ∷ []); acted = 0 }

run_again : RunMayFollow pair_world (until pair_world to_eight fired_five) fired_five (0 ∷ [])
unfolding firing rates over gcd gcd_within first_coupled compared ◌+ℚ◌
run_again = record {
  still = refl;
  later = record { cross = omega (arith, ints) };
  rate = x_up;
  settled = settles pair_world (values 0 1) (0 ∷ []) x_up x_up (tt, tt) (tt, tt)
      (ap (λ x. Ok (x ∷ n 0 ∷ [])) (same_cross _ _ refl)) refl
      (ap (λ x. Ok (x ∷ n 0 ∷ [])) (same_cross _ _ refl)) refl;
  uncoupled = refl;
}

before_five : (r : Fraction) → r <ℚ n 8 -ℚ n 5 → n 0 +ℚ n 1 *ℚ r ≡ n 5 +ℚ n 0 *ℚ r → ⊥
unfolding over gcd gcd_within ◌-ℚ◌
before_five r l h = not_before (n 0) (n 5) r (n 5 -ℚ n 0) refl (<ℚ_trans r _ _ l (record { cross = omega (arith, ints) })) h

enter_again : EnterMayFollow pair_world (until pair_world to_eight running_five) running_five (0 ∷ []) (n 8) (values 3 1) (values 3 1)
unfolding firing literals rates moved over gcd gcd_within compared ◌+ℚ◌ ◌-ℚ◌ ◌*ℚ◌
enter_again = enters pair_world to_eight running_five (0 ∷ []) x_up (n 0) (n 8) (values 3 1)
    (ap (λ x. Ok (x ∷ n 0 ∷ [])) (same_cross _ _ refl))
    (record { cross = omega (arith, ints) })
    (record { cross = omega (arith, ints) })
    (begins pair_world (values 0 1) (0 ∷ []) x_up (tt, tt) refl (tt, (tt, tt)) refl)
    (no_change pair_world (values 0 1) x_up (n 0) (n 8 -ℚ n 5) (λ r p l d h. before_five r l h, (λ r p l d h. before_five r l h, tt)) (tt, tt))
    (ap₂ valued (same_cross _ _ refl) (same_cross _ _ refl))
    (at_until refl)

end_pair : IsWorked pair_world to_eight (moment 8 (values 3 1) 0)
unfolding firing over gcd gcd_within compared
end_pair = record { acted = tt; still = refl; moment = refl; over = refl }

pub pair_row : Trajectory pair_world to_eight pair_history
unfolding literals
pair_row = record {
  prefix = record {
    ordered = tt;
    rest = _;
    begins = refl;
    follow = (inr refl, run_pair, (inr refl, enter_pair, (inr refl, round_pair, (inr refl, run_again, (inr refl, enter_again, tt)))));
  };
  closed = refl;
  worked = end_pair;
  goal = refl;
}

-- ---- an event that does not come to hold
run_over : RunMayFollow over_world (until over_world to_five (first_view over_world)) (first_view over_world) (0 ∷ [])
unfolding firing literals rates over gcd gcd_within first_coupled compared ◌+ℚ◌
run_over = record {
  still = refl;
  later = record { cross = omega (arith, ints) };
  rate = x_up;
  settled = settles over_world (values 0 0) (0 ∷ []) x_up x_up (tt, tt) (tt, tt)
      (ap (λ x. Ok (x ∷ n 0 ∷ [])) (same_cross _ _ refl)) refl
      (ap (λ x. Ok (x ∷ n 0 ∷ [])) (same_cross _ _ refl)) refl;
  uncoupled = refl;
}

enter_over : EnterMayFollow over_world (until over_world to_five (stretch 0 (values 0 0) (0 ∷ []) 0)) (stretch 0 (values 0 0) (0 ∷ []) 0) (0 ∷ []) (n 5) (values 5 0) (values 5 0)
unfolding firing literals rates moved over gcd gcd_within compared ◌+ℚ◌ ◌-ℚ◌ ◌*ℚ◌
enter_over = enters over_world to_five (stretch 0 (values 0 0) (0 ∷ []) 0) (0 ∷ []) x_up (n 0) (n 5) (values 5 0)
    (ap (λ x. Ok (x ∷ n 0 ∷ [])) (same_cross _ _ refl))
    (record { cross = omega (arith, ints) })
    (record { cross = omega (arith, ints) })
    (begins over_world (values 0 0) (0 ∷ []) x_up (tt, tt) refl (tt, tt) refl)
    (no_change over_world (values 0 0) x_up (n 0) (n 5 -ℚ n 0) (λ r p l d h. not_before (n 0) (n 5) r (n 5 -ℚ n 0) refl l h, tt) (tt, tt))
    (ap₂ valued (same_cross _ _ refl) (same_cross _ _ refl))
    (at_until refl)

end_over : IsWorked over_world to_five (moment 5 (values 5 0) 0)
unfolding firing over gcd gcd_within compared
end_over = record { acted = tt; still = refl; moment = refl; over = refl }

pub over_row : Trajectory over_world to_five over_history
unfolding literals
over_row = record {
  prefix = record { ordered = tt; rest = _; begins = refl; follow = (inr refl, run_over, (inr refl, enter_over, tt)) };
  closed = refl;
  worked = end_over;
  goal = refl;
}

-- ---- a literal
abbrev one_up : List Fraction
one_up = n 1 ∷ []

abbrev with_x : Bool → Fraction → State
with_x rings x = record { atoms = rings ∷ []; fluents = Some x ∷ [] }

run_bell : (L : Plan) (t : ℕ) (rings : Bool) (x : ℕ) → n t <ℚ until bell_world L (moment t (bell_state rings x) 0) → RunMayFollow bell_world (until bell_world L (moment t (bell_state rings x) 0)) (moment t (bell_state rings x) 0) (0 ∷ [])
unfolding firing rates over gcd gcd_within first_coupled compared ◌+ℚ◌
run_bell L t rings x h = record {
  still = refl;
  later = h;
  rate = one_up;
  settled = settles bell_world (bell_state rings x) (0 ∷ []) one_up one_up (tt, tt) (tt, tt)
      (ap (λ z. Ok (z ∷ [])) (same_cross _ _ refl)) refl
      (ap (λ z. Ok (z ∷ [])) (same_cross _ _ refl)) refl;
  uncoupled = refl;
}

enter_bell : (L : Plan) (t u : ℕ) (rings : Bool) (x y : ℕ) → n t <ℚ n u → n u ≤ℚ until bell_world L (stretch t (bell_state rings x) (0 ∷ []) 0) → n u ≡ until bell_world L (stretch t (bell_state rings x) (0 ∷ []) 0) → n x +ℚ n 1 *ℚ (n u -ℚ n t) ≡ n y
    → EnterMayFollow bell_world (until bell_world L (stretch t (bell_state rings x) (0 ∷ []) 0)) (stretch t (bell_state rings x) (0 ∷ []) 0) (0 ∷ []) (n u) (bell_state rings y) (literals bell_world (n u) (bell_state rings y))
unfolding rates moved over gcd gcd_within ◌+ℚ◌
enter_bell L t u rings x y h k e m = enters bell_world L (stretch t (bell_state rings x) (0 ∷ []) 0) (0 ∷ []) one_up (n 0) (n u) (bell_state rings y)
    (ap (λ z. Ok (z ∷ [])) (same_cross _ _ refl))
    h k
    (begins bell_world (bell_state rings x) (0 ∷ []) one_up (tt, tt) refl tt refl)
    (no_change bell_world (bell_state rings x) one_up (n 0) (n u -ℚ n t) tt (tt, tt))
    (ap (with_x rings) m)
    (at_until e)

pub bell_row : Trajectory bell_world to_eight bell_history
unfolding firing literals over gcd gcd_within compared ◌+ℚ◌ ◌-ℚ◌ ◌*ℚ◌
bell_row = record {
  prefix = record {
    ordered = tt;
    rest = _;
    begins = refl;
    follow = (
      inr refl,
      run_bell to_eight 0 false 0 (record { cross = omega (arith, ints) }),
      (
        inr refl,
        enter_bell to_eight 0 3 false 0 3 (record { cross = omega (arith, ints) }) (record { cross = omega (arith, ints) }) refl (same_cross _ _ refl),
        (
          inr refl,
          run_bell to_eight 3 true 3 (record { cross = omega (arith, ints) }),
          (
            inr refl,
            enter_bell to_eight 3 8 true 3 8 (record { cross = omega (arith, ints) }) (record { cross = omega (arith, ints) }) refl (same_cross _ _ refl),
            tt,
          ),
        ),
      ),
    );
  };
  closed = refl;
  worked = record { acted = tt; still = refl; moment = refl; over = refl };
  goal = refl;
}

pub answer_row : Trajectory bell_world answer_plan answer_history
unfolding firing literals joint over gcd gcd_within compared ◌+ℚ◌ ◌-ℚ◌ ◌*ℚ◌
answer_row = record {
  prefix = record {
    ordered = tt;
    rest = _;
    begins = refl;
    follow = (
      inr refl,
      run_bell answer_plan 0 false 0 (record { cross = omega (arith, ints) }),
      (
        inr refl,
        enter_bell answer_plan 0 3 false 0 3 (record { cross = omega (arith, ints) }) (record { cross = omega (arith, ints) }) refl (same_cross _ _ refl),
        (
          inr refl,
          record { action = answer; line = refl; due = refl; acts = record { still = refl; may = refl; effect = refl } },
          tt,
        ),
      ),
    );
  };
  closed = refl;
  worked = record { acted = tt; still = refl; moment = refl; over = refl };
  goal = refl;
}
