-- The row in which the running set ends is a trajectory.
use Rattle.std.proofs.Common.{◌≡◌, List, [], ◌∷◌, refl, ap, ap₂, inr, arith}
use Rattle.std.proofs.lemmas.Int.{ints}
use Rattle.std.specs.Prelude.{Some, Ok}
use Rattle.plus_fraction.specs.Gcd.{gcd, gcd_within}
use Rattle.plus_fraction.specs.Fraction.{Fraction, over, ◌+ℚ◌, ◌-ℚ◌, ◌*ℚ◌, compared}
use Rattle.plus_fraction.proofs.FractionBase.{same_cross}
use Rattle.plus_model.specs.Terms.{State}
use Rattle.plus_model.specs.Firing.{firing}
use Rattle.plus_model.specs.Running.{rates, moved, first_coupled}
use Rattle.plus_model.specs.Trajectory.{until, at_until, set_ends, literals, first_view, Trajectory, IsWorked, RunMayFollow, EnterMayFollow}
use Rattle.plus_model.proofs.Decide.{goes_on_only}
use Rattle.rows.specs.Model.Rises.{n, values, stretch, moment, to_eight, side_world, side_history}
use Rattle.rows.proofs.ModelLemmas.Runs.{settles, all_straight, no_change, begins, enters, not_before, not_after}

abbrev both_up : List Fraction
both_up = n 1 ∷ n 1 ∷ []

abbrev valued : Fraction → Fraction → State
valued x y = record { atoms = []; fluents = Some x ∷ Some y ∷ [] }

abbrev one_up : List Fraction
one_up = n 1 ∷ n 0 ∷ []

run_both : RunMayFollow side_world (until side_world to_eight (first_view side_world)) (first_view side_world) (0 ∷ 1 ∷ [])
unfolding firing literals rates over gcd gcd_within first_coupled compared ◌+ℚ◌
run_both = record {
  still = refl;
  later = record { cross = omega (arith, ints) };
  rate = both_up;
  settled = settles side_world (values 0 0) (0 ∷ 1 ∷ []) both_up both_up (tt, (tt, tt)) (tt, (tt, tt))
      (ap₂ (λ x y. Ok (x ∷ y ∷ [])) (same_cross _ _ refl) (same_cross _ _ refl)) refl
      (ap₂ (λ x y. Ok (x ∷ y ∷ [])) (same_cross _ _ refl) (same_cross _ _ refl)) refl;
  uncoupled = refl;
}

enter_five : EnterMayFollow side_world (until side_world to_eight (stretch 0 (values 0 0) (0 ∷ 1 ∷ []) 0)) (stretch 0 (values 0 0) (0 ∷ 1 ∷ []) 0) (0 ∷ 1 ∷ []) (n 5) (values 5 5) (values 5 5)
unfolding firing literals rates moved over gcd gcd_within compared ◌+ℚ◌ ◌-ℚ◌ ◌*ℚ◌
enter_five = enters side_world to_eight (stretch 0 (values 0 0) (0 ∷ 1 ∷ []) 0) (0 ∷ 1 ∷ []) both_up (n 0) (n 5) (values 5 5)
    (ap₂ (λ x y. Ok (x ∷ y ∷ [])) (same_cross _ _ refl) (same_cross _ _ refl))
    (record { cross = omega (arith, ints) })
    (record { cross = omega (arith, ints) })
    (begins side_world (values 0 0) (0 ∷ 1 ∷ []) both_up (tt, (tt, tt)) refl tt refl)
    (no_change side_world (values 0 0) both_up (n 0) (n 5 -ℚ n 0) tt (tt, (λ r p l d h. not_before (n 0) (n 5) r (n 5 -ℚ n 0) refl l h, tt)))
    (ap₂ valued (same_cross _ _ refl) (same_cross _ _ refl))
    (set_ends (λ g. let e : (0 ∷ 1 ∷ []) ≡ 0 ∷ [] = goes_on_only side_world (values 5 5) both_up (0 ∷ 1 ∷ []) (all_straight side_world (values 5 5) both_up (tt, (tt, tt))) g in cc e))

run_one : RunMayFollow side_world (until side_world to_eight (moment 5 (values 5 5) 0)) (moment 5 (values 5 5) 0) (0 ∷ [])
unfolding firing literals rates over gcd gcd_within first_coupled compared ◌+ℚ◌
run_one = record {
  still = refl;
  later = record { cross = omega (arith, ints) };
  rate = one_up;
  settled = settles side_world (values 5 5) (0 ∷ []) both_up one_up (tt, (tt, tt)) (tt, (tt, tt))
      (ap₂ (λ x y. Ok (x ∷ y ∷ [])) (same_cross _ _ refl) (same_cross _ _ refl)) refl
      (ap (λ x. Ok (x ∷ n 0 ∷ [])) (same_cross _ _ refl)) refl;
  uncoupled = refl;
}

enter_eight : EnterMayFollow side_world (until side_world to_eight (stretch 5 (values 5 5) (0 ∷ []) 0)) (stretch 5 (values 5 5) (0 ∷ []) 0) (0 ∷ []) (n 8) (values 8 5) (values 8 5)
unfolding firing literals rates moved over gcd gcd_within compared ◌+ℚ◌ ◌-ℚ◌ ◌*ℚ◌
enter_eight = enters side_world to_eight (stretch 5 (values 5 5) (0 ∷ []) 0) (0 ∷ []) one_up (n 0) (n 8) (values 8 5)
    (ap (λ x. Ok (x ∷ n 0 ∷ [])) (same_cross _ _ refl))
    (record { cross = omega (arith, ints) })
    (record { cross = omega (arith, ints) })
    (begins side_world (values 5 5) (0 ∷ []) one_up (tt, (tt, tt)) refl tt refl)
    (no_change side_world (values 5 5) one_up (n 0) (n 8 -ℚ n 5) tt (tt, (λ r p l d h. not_after (n 5) (n 5) r (n 0) (same_cross _ _ refl) p h, tt)))
    (ap₂ valued (same_cross _ _ refl) (same_cross _ _ refl))
    (at_until refl)

at_end : IsWorked side_world to_eight (moment 8 (values 8 5) 0)
unfolding firing literals over gcd gcd_within compared
at_end = record { acted = tt; still = refl; moment = refl; over = refl }

pub side_row : Trajectory side_world to_eight side_history
unfolding literals
side_row = record {
  prefix = record {
    ordered = tt;
    rest = _;
    begins = refl;
    follow = (inr refl, run_both, (inr refl, enter_five, (inr refl, run_one, (inr refl, enter_eight, tt))));
  };
  closed = refl;
  worked = at_end;
  goal = refl;
}
