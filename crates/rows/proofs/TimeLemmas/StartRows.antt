-- The rows of a process that starts, by `>=` and by `>`.
use Rattle.std.proofs.Common.{◌≡◌, List, [], ◌∷◌, refl, ap, ap₂, ◌∙◌, inr, arith}
use Rattle.std.proofs.lemmas.Int.{ints}
use Rattle.std.specs.Prelude.{Some, Ok}
use Rattle.plus_fraction.specs.Gcd.{gcd, gcd_within}
use Rattle.plus_fraction.specs.Fraction.{Fraction, over, ◌+ℚ◌, ◌-ℚ◌, ◌*ℚ◌, compared}
use Rattle.plus_fraction.proofs.FractionBase.{same_cross}
use Rattle.plus_model.specs.Terms.{Test, AtLeast, Above, State}
use Rattle.plus_model.specs.Firing.{firing}
use Rattle.plus_model.specs.Running.{rates, moved, first_coupled, holding}
use Rattle.plus_model.specs.Trajectory.{until, at_until, set_ends, literals, first_view, Trajectory, IsWorked, RunMayFollow, EnterMayFollow}
use Rattle.plus_model.proofs.Decide.{running_after, goes_on_only}
use Rattle.rows.specs.Model.Rises.{n, values, stretch, moment, to_eight}
use Rattle.rows.proofs.ModelLemmas.Runs.{StraightProcesses, settles, all_straight, no_change, begins, enters, not_before, not_after}
use Rattle.rows.specs.Time.Histories.{starting_world, starting_history}

abbrev two : Fraction → Fraction → List Fraction
two x y = x ∷ y ∷ []

abbrev valued : Fraction → Fraction → State
valued x y = record { atoms = []; fluents = Some x ∷ Some y ∷ [] }

abbrev x_up : List Fraction
x_up = two (n 1) (n 0)

abbrev both_up : List Fraction
both_up = two (n 1) (n 1)

-- what the rows need to know of the test
record Starts (test : Test) : Type 0 where
  not_yet : holding (starting_world test) (values 0 0) ≡ 0 ∷ []
  alone : running_after (starting_world test) (values 0 0) x_up ≡ 0 ∷ []
  joined : running_after (starting_world test) (values 5 0) x_up ≡ 0 ∷ 1 ∷ []
  first : List Fraction
  first_is : rates (starting_world test) (values 5 0) (holding (starting_world test) (values 5 0)) ≡ Ok first
  straight : StraightProcesses (starting_world test).processes (values 5 0) first
  chosen : running_after (starting_world test) (values 5 0) first ≡ 0 ∷ 1 ∷ []
  confirmed : running_after (starting_world test) (values 5 0) both_up ≡ 0 ∷ 1 ∷ []

rates_x : (test : Test) → rates (starting_world test) (values 0 0) (0 ∷ []) ≡ Ok x_up
unfolding rates over gcd gcd_within ◌+ℚ◌
rates_x test = ap (λ x. Ok (two x (n 0))) (same_cross _ _ refl)

rates_both : (test : Test) → rates (starting_world test) (values 5 0) (0 ∷ 1 ∷ []) ≡ Ok both_up
unfolding rates over gcd gcd_within ◌+ℚ◌
rates_both test = ap₂ (λ x y. Ok (two x y)) (same_cross _ _ refl) (same_cross _ _ refl)

run_one : (test : Test) → Starts test → RunMayFollow (starting_world test) (until (starting_world test) to_eight (first_view (starting_world test))) (first_view (starting_world test)) (0 ∷ [])
unfolding firing literals over gcd gcd_within first_coupled compared
run_one test w = record {
  still = refl;
  later = record { cross = omega (arith, ints) };
  rate = x_up;
  settled = settles (starting_world test) (values 0 0) (0 ∷ []) x_up x_up (tt, (tt, tt)) (tt, (tt, tt))
      (ap (rates (starting_world test) (values 0 0)) w.not_yet ∙ rates_x test) w.alone (rates_x test) w.alone;
  uncoupled = refl;
}

enter_five : (test : Test) → Starts test → EnterMayFollow (starting_world test) (until (starting_world test) to_eight (stretch 0 (values 0 0) (0 ∷ []) 0)) (stretch 0 (values 0 0) (0 ∷ []) 0) (0 ∷ []) (n 5) (values 5 0) (values 5 0)
unfolding literals moved over gcd gcd_within ◌+ℚ◌ ◌-ℚ◌ ◌*ℚ◌
enter_five test w = enters (starting_world test) to_eight (stretch 0 (values 0 0) (0 ∷ []) 0) (0 ∷ []) x_up (n 0) (n 5) (values 5 0)
    (rates_x test)
    (record { cross = omega (arith, ints) })
    (record { cross = omega (arith, ints) })
    (begins (starting_world test) (values 0 0) (0 ∷ []) x_up (tt, (tt, tt)) w.alone tt refl)
    (no_change (starting_world test) (values 0 0) x_up (n 0) (n 5 -ℚ n 0) tt (tt, (λ r p l d h. not_before (n 0) (n 5) r (n 5 -ℚ n 0) refl l h, tt)))
    (ap₂ valued (same_cross _ _ refl) (same_cross _ _ refl))
    (set_ends (λ g. let e : (0 ∷ []) ≡ 0 ∷ 1 ∷ [] = goes_on_only (starting_world test) (values 5 0) x_up (0 ∷ []) (all_straight (starting_world test) (values 5 0) x_up (tt, (tt, tt))) g ∙ w.joined in cc e))

run_both : (test : Test) → Starts test → RunMayFollow (starting_world test) (until (starting_world test) to_eight (moment 5 (values 5 0) 0)) (moment 5 (values 5 0) 0) (0 ∷ 1 ∷ [])
unfolding firing over gcd gcd_within first_coupled compared
run_both test w = record {
  still = refl;
  later = record { cross = omega (arith, ints) };
  rate = both_up;
  settled = settles (starting_world test) (values 5 0) (0 ∷ 1 ∷ []) w.first both_up (w.straight) (tt, (tt, tt))
      w.first_is w.chosen (rates_both test) w.confirmed;
  uncoupled = refl;
}

enter_eight : (test : Test) → Starts test → EnterMayFollow (starting_world test) (until (starting_world test) to_eight (stretch 5 (values 5 0) (0 ∷ 1 ∷ []) 0)) (stretch 5 (values 5 0) (0 ∷ 1 ∷ []) 0) (0 ∷ 1 ∷ []) (n 8) (values 8 3) (values 8 3)
unfolding literals moved over gcd gcd_within ◌+ℚ◌ ◌-ℚ◌ ◌*ℚ◌
enter_eight test w = enters (starting_world test) to_eight (stretch 5 (values 5 0) (0 ∷ 1 ∷ []) 0) (0 ∷ 1 ∷ []) both_up (n 0) (n 8) (values 8 3)
    (rates_both test)
    (record { cross = omega (arith, ints) })
    (record { cross = omega (arith, ints) })
    (begins (starting_world test) (values 5 0) (0 ∷ 1 ∷ []) both_up (tt, (tt, tt)) w.confirmed tt refl)
    (no_change (starting_world test) (values 5 0) both_up (n 0) (n 8 -ℚ n 5) tt (tt, (λ r p l d h. not_after (n 5) (n 5) r (n 0) (same_cross _ _ refl) p h, tt)))
    (ap₂ valued (same_cross _ _ refl) (same_cross _ _ refl))
    (at_until refl)

end_eight : (test : Test) → IsWorked (starting_world test) to_eight (moment 8 (values 8 3) 0)
unfolding firing over gcd gcd_within compared
end_eight test = record { acted = tt; still = refl; moment = refl; over = refl }

by_start : (test : Test) → Starts test → Trajectory (starting_world test) to_eight starting_history
unfolding literals
by_start test w = record {
  prefix = record {
    ordered = tt;
    rest = _;
    begins = refl;
    follow = (inr refl, run_one test w, (inr refl, enter_five test w, (inr refl, run_both test w, (inr refl, enter_eight test w, tt))));
  };
  closed = refl;
  worked = end_eight test;
  goal = refl;
}

at_least : Starts AtLeast
unfolding rates over gcd gcd_within compared ◌+ℚ◌
at_least = record {
  not_yet = refl;
  alone = refl;
  joined = refl;
  first = both_up;
  first_is = ap₂ (λ x y. Ok (two x y)) (same_cross _ _ refl) (same_cross _ _ refl);
  straight = (tt, (tt, tt));
  chosen = refl;
  confirmed = refl;
}

above : Starts Above
unfolding rates over gcd gcd_within compared ◌+ℚ◌
above = record {
  not_yet = refl;
  alone = refl;
  joined = refl;
  first = x_up;
  first_is = ap (λ x. Ok (two x (n 0))) (same_cross _ _ refl);
  straight = (tt, (tt, tt));
  chosen = refl;
  confirmed = refl;
}

pub reaching_row : Trajectory (starting_world AtLeast) to_eight starting_history
reaching_row = by_start AtLeast at_least

pub passing_row : Trajectory (starting_world Above) to_eight starting_history
passing_row = by_start Above above
