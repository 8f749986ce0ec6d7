-- The rows of running sets.
use Rattle.std.proofs.Common.{◌≡◌, ℕ, zero, suc, ◌<◌, List, [], ◌∷◌, refl, ap, ap₂, inr, arith}
use Rattle.std.proofs.lemmas.Int.{ints}
use Rattle.std.specs.Prelude.{Some, Ok}
use Rattle.plus_fraction.specs.Gcd.{gcd, gcd_within}
use Rattle.plus_fraction.specs.Fraction.{Fraction, over, ◌+ℚ◌, ◌-ℚ◌, ◌*ℚ◌, neg_ℚ, compared}
use Rattle.plus_fraction.proofs.FractionBase.{same_cross}
use Rattle.plus_model.specs.Terms.{State}
use Rattle.plus_model.specs.Firing.{firing}
use Rattle.plus_model.specs.Running.{rates, moved, first_coupled}
use Rattle.plus_model.specs.Trajectory.{until, at_until, set_ends, literals, first_view, Trajectory, IsWorked, RunMayFollow, EnterMayFollow}
use Rattle.plus_model.specs.Breach.{Unsettled, Coupled, Breaks, Differs}
use Rattle.plus_model.proofs.Decide.{goes_on_only}
use Rattle.rows.specs.Model.Rises.{n, values, stretch, moment, enter, to_eight}
use Rattle.rows.proofs.ModelLemmas.Runs.{settles, all_straight, goes, no_change, begins, enters}
use Rattle.rows.specs.Time.Sets.{stopping_world, second_world, times_zero_world, self_world, cancelling_world, cancelling_history, falling_world, falling_history}
use Rattle.rows.proofs.TimeLemmas.Parts.{down, falls_not_before, differs, agrees}

abbrev two : Fraction → Fraction → List Fraction
two x y = x ∷ y ∷ []

abbrev valued : Fraction → Fraction → State
valued x y = record { atoms = []; fluents = Some x ∷ Some y ∷ [] }

pub stopping_row : Breaks stopping_world to_eight (enter 0 (values 5 0) ∷ []) (Unsettled 0)
unfolding firing literals rates over gcd gcd_within compared ◌+ℚ◌ neg_ℚ
stopping_row = record {
  prefix = record { ordered = tt; rest = []; begins = refl; follow = tt };
  breach = record {
    begun = inr refl;
    stands = record {
      «open» = record { present = record { moment = refl; still = refl }; later = record { cross = omega (arith, ints) } };
      running = 0 ∷ [];
      chosen = record {
        first = two (n 1) (n 0);
        first_is = ap (λ x. Ok (two x (n 0))) (same_cross _ _ refl);
        chosen = goes stopping_world (values 5 0) (two (n 1) (n 0)) (0 ∷ []) (tt, (tt, tt)) refl;
      };
      own = two down (n 0);
      own_is = ap (λ x. Ok (two x (n 0))) (same_cross _ _ refl);
      first = record {
        has = differs stopping_world (values 5 0) (0 ∷ []) (two down (n 0)) 0 (tt, (tt, tt)) (λ e. cc e);
        none_before = λ j h. absurd (omega arith);
      };
    };
  };
}

first_agrees : (j : ℕ) → j < 1 → Differs second_world (values 5 0) (0 ∷ []) (two (n 0) (n 1)) j → ⊥
unfolding over gcd gcd_within compared
first_agrees zero h = agrees second_world (values 5 0) (0 ∷ []) (two (n 0) (n 1)) 0 (tt, (tt, tt)) refl
first_agrees (suc j) h = absurd (omega arith)

pub second_row : Breaks second_world to_eight (enter 0 (values 5 0) ∷ []) (Unsettled 1)
unfolding firing literals rates over gcd gcd_within compared ◌+ℚ◌
second_row = record {
  prefix = record { ordered = tt; rest = []; begins = refl; follow = tt };
  breach = record {
    begun = inr refl;
    stands = record {
      «open» = record { present = record { moment = refl; still = refl }; later = record { cross = omega (arith, ints) } };
      running = 0 ∷ [];
      chosen = record {
        first = two (n 1) (n 1);
        first_is = ap₂ (λ x y. Ok (two x y)) (same_cross _ _ refl) (same_cross _ _ refl);
        chosen = goes second_world (values 5 0) (two (n 1) (n 1)) (0 ∷ []) (tt, (tt, tt)) refl;
      };
      own = two (n 0) (n 1);
      own_is = ap (λ y. Ok (two (n 0) y)) (same_cross _ _ refl);
      first = record {
        has = differs second_world (values 5 0) (0 ∷ []) (two (n 0) (n 1)) 1 (tt, (tt, tt)) (λ e. cc e);
        none_before = first_agrees;
      };
    };
  };
}

pub times_zero_row : Breaks times_zero_world to_eight (enter 0 (values 0 0) ∷ []) (Coupled 0 1)
unfolding firing literals rates over gcd gcd_within first_coupled compared ◌+ℚ◌ ◌*ℚ◌
times_zero_row = record {
  prefix = record { ordered = tt; rest = []; begins = refl; follow = tt };
  breach = record {
    begun = inr refl;
    stands = record {
      «open» = record { present = record { moment = refl; still = refl }; later = record { cross = omega (arith, ints) } };
      running = 0 ∷ 1 ∷ [];
      own = two (n 0) (n 1);
      settled = settles times_zero_world (values 0 0) (0 ∷ 1 ∷ []) (two (n 0) (n 1)) (two (n 0) (n 1)) (tt, (tt, tt)) (tt, (tt, tt))
          (ap₂ (λ x y. Ok (two x y)) (same_cross _ _ refl) (same_cross _ _ refl)) refl
          (ap₂ (λ x y. Ok (two x y)) (same_cross _ _ refl) (same_cross _ _ refl)) refl;
      first = refl;
    };
  };
}

pub self_row : Breaks self_world to_eight (enter 0 (values 1 0) ∷ []) (Coupled 0 0)
unfolding firing literals rates over gcd gcd_within first_coupled compared ◌+ℚ◌
self_row = record {
  prefix = record { ordered = tt; rest = []; begins = refl; follow = tt };
  breach = record {
    begun = inr refl;
    stands = record {
      «open» = record { present = record { moment = refl; still = refl }; later = record { cross = omega (arith, ints) } };
      running = 0 ∷ [];
      own = two (n 1) (n 0);
      settled = settles self_world (values 1 0) (0 ∷ []) (two (n 1) (n 0)) (two (n 1) (n 0)) (tt, tt) (tt, tt)
          (ap (λ x. Ok (two x (n 0))) (same_cross _ _ refl)) refl
          (ap (λ x. Ok (two x (n 0))) (same_cross _ _ refl)) refl;
      first = refl;
    };
  };
}

-- ---- rates that cancel
abbrev only_y : List Fraction
only_y = two (n 0) (n 3)

run_three : RunMayFollow cancelling_world (until cancelling_world to_eight (first_view cancelling_world)) (first_view cancelling_world) (0 ∷ 1 ∷ 2 ∷ [])
unfolding firing literals rates over gcd gcd_within first_coupled compared ◌+ℚ◌ neg_ℚ
run_three = record {
  still = refl;
  later = record { cross = omega (arith, ints) };
  rate = only_y;
  settled = settles cancelling_world (values 3 0) (0 ∷ 1 ∷ 2 ∷ []) only_y only_y (tt, (tt, (tt, tt))) (tt, (tt, (tt, tt)))
      (ap₂ (λ x y. Ok (two x y)) (same_cross _ _ refl) (same_cross _ _ refl)) refl
      (ap₂ (λ x y. Ok (two x y)) (same_cross _ _ refl) (same_cross _ _ refl)) refl;
  uncoupled = refl;
}

enter_cancelled : EnterMayFollow cancelling_world (until cancelling_world to_eight (stretch 0 (values 3 0) (0 ∷ 1 ∷ 2 ∷ []) 0)) (stretch 0 (values 3 0) (0 ∷ 1 ∷ 2 ∷ []) 0) (0 ∷ 1 ∷ 2 ∷ []) (n 8) (values 3 24) (values 3 24)
unfolding firing literals rates moved over gcd gcd_within compared ◌+ℚ◌ ◌-ℚ◌ ◌*ℚ◌ neg_ℚ
enter_cancelled = enters cancelling_world to_eight (stretch 0 (values 3 0) (0 ∷ 1 ∷ 2 ∷ []) 0) (0 ∷ 1 ∷ 2 ∷ []) only_y (n 0) (n 8) (values 3 24)
    (ap₂ (λ x y. Ok (two x y)) (same_cross _ _ refl) (same_cross _ _ refl))
    (record { cross = omega (arith, ints) })
    (record { cross = omega (arith, ints) })
    (begins cancelling_world (values 3 0) (0 ∷ 1 ∷ 2 ∷ []) only_y (tt, (tt, (tt, tt))) refl tt refl)
    (no_change cancelling_world (values 3 0) only_y (n 0) (n 8 -ℚ n 0) tt (tt, (tt, (tt, tt))))
    (ap₂ valued (same_cross _ _ refl) (same_cross _ _ refl))
    (at_until refl)

end_cancelled : IsWorked cancelling_world to_eight (moment 8 (values 3 24) 0)
unfolding firing literals over gcd gcd_within compared
end_cancelled = record { acted = tt; still = refl; moment = refl; over = refl }

pub cancelling_row : Trajectory cancelling_world to_eight cancelling_history
unfolding literals
cancelling_row = record {
  prefix = record { ordered = tt; rest = _; begins = refl; follow = (inr refl, run_three, (inr refl, enter_cancelled, tt)) };
  closed = refl;
  worked = end_cancelled;
  goal = refl;
}

-- ---- a fluent that falls
abbrev falls : List Fraction
falls = two down (n 0)

abbrev rests : List Fraction
rests = two (n 0) (n 0)

run_falling : RunMayFollow falling_world (until falling_world to_eight (first_view falling_world)) (first_view falling_world) (0 ∷ [])
unfolding firing literals rates over gcd gcd_within first_coupled compared ◌+ℚ◌ neg_ℚ
run_falling = record {
  still = refl;
  later = record { cross = omega (arith, ints) };
  rate = falls;
  settled = settles falling_world (values 8 0) (0 ∷ []) falls falls (tt, tt) (tt, tt)
      (ap (λ x. Ok (two x (n 0))) (same_cross _ _ refl)) refl
      (ap (λ x. Ok (two x (n 0))) (same_cross _ _ refl)) refl;
  uncoupled = refl;
}

enter_fallen : EnterMayFollow falling_world (until falling_world to_eight (stretch 0 (values 8 0) (0 ∷ []) 0)) (stretch 0 (values 8 0) (0 ∷ []) 0) (0 ∷ []) (n 5) (values 3 0) (values 3 0)
unfolding firing literals rates moved over gcd gcd_within compared ◌+ℚ◌ ◌-ℚ◌ ◌*ℚ◌ neg_ℚ
enter_fallen = enters falling_world to_eight (stretch 0 (values 8 0) (0 ∷ []) 0) (0 ∷ []) falls (n 0) (n 5) (values 3 0)
    (ap (λ x. Ok (two x (n 0))) (same_cross _ _ refl))
    (record { cross = omega (arith, ints) })
    (record { cross = omega (arith, ints) })
    (begins falling_world (values 8 0) (0 ∷ []) falls (tt, tt) refl tt refl)
    (no_change falling_world (values 8 0) falls (n 0) (n 5 -ℚ n 0) tt (λ r p l d h. falls_not_before (n 8) (n 3) r (n 5 -ℚ n 0) (same_cross _ _ refl) l h, tt))
    (ap₂ valued (same_cross _ _ refl) (same_cross _ _ refl))
    (set_ends (λ g. let e : (0 ∷ []) ≡ [] = goes_on_only falling_world (values 3 0) falls (0 ∷ []) (all_straight falling_world (values 3 0) falls (tt, tt)) g in cc e))

run_none : RunMayFollow falling_world (until falling_world to_eight (moment 5 (values 3 0) 0)) (moment 5 (values 3 0) 0) []
unfolding firing literals rates over gcd gcd_within first_coupled compared
run_none = record {
  still = refl;
  later = record { cross = omega (arith, ints) };
  rate = rests;
  settled = settles falling_world (values 3 0) [] rests rests (tt, tt) (tt, tt) refl refl refl refl;
  uncoupled = refl;
}

enter_rested : EnterMayFollow falling_world (until falling_world to_eight (stretch 5 (values 3 0) [] 0)) (stretch 5 (values 3 0) [] 0) [] (n 8) (values 3 0) (values 3 0)
unfolding firing literals rates moved over gcd gcd_within compared ◌+ℚ◌ ◌-ℚ◌ ◌*ℚ◌
enter_rested = enters falling_world to_eight (stretch 5 (values 3 0) [] 0) [] rests (n 0) (n 8) (values 3 0)
    refl
    (record { cross = omega (arith, ints) })
    (record { cross = omega (arith, ints) })
    (begins falling_world (values 3 0) [] rests (tt, tt) refl tt refl)
    (no_change falling_world (values 3 0) rests (n 0) (n 8 -ℚ n 5) tt (λ r p l d h. d refl, tt))
    (ap₂ valued (same_cross _ _ refl) (same_cross _ _ refl))
    (at_until refl)

end_rested : IsWorked falling_world to_eight (moment 8 (values 3 0) 0)
unfolding firing literals over gcd gcd_within compared
end_rested = record { acted = tt; still = refl; moment = refl; over = refl }

pub falling_row : Trajectory falling_world to_eight falling_history
unfolding literals
falling_row = record {
  prefix = record {
    ordered = tt;
    rest = _;
    begins = refl;
    follow = (inr refl, run_falling, (inr refl, enter_fallen, (inr refl, run_none, (inr refl, enter_rested, tt))));
  };
  closed = refl;
  worked = end_rested;
  goal = refl;
}
