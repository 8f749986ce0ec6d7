-- Rows that a running set breaks: it does not confirm itself, it reads what moves, or a rate lacks a value.
use Rattle.std.proofs.Common.{◌≡◌, true, false, List, [], ◌∷◌, refl, ap, ap₂, inl, inr, arith}
use Rattle.std.proofs.lemmas.Int.{ints}
use Rattle.std.specs.Prelude.{Some, Ok}
use Rattle.plus_fraction.specs.Gcd.{gcd, gcd_within}
use Rattle.plus_fraction.specs.Fraction.{Fraction, over, ◌+ℚ◌, ◌-ℚ◌, ◌*ℚ◌, compared}
use Rattle.plus_fraction.proofs.FractionBase.{same_cross}
use Rattle.plus_model.specs.Terms.{State}
use Rattle.plus_model.specs.Firing.{firing}
use Rattle.plus_model.specs.Running.{rates, moved, first_coupled}
use Rattle.plus_model.specs.Trajectory.{until, set_ends, literals, first_view, RunMayFollow, EnterMayFollow}
use Rattle.plus_model.specs.Breach.{Unsettled, Coupled, NoValue, Breaks, Stands}
use Rattle.plus_model.proofs.Decide.{goes_on_only}
use Rattle.rows.specs.Model.Rises.{n, values, stretch, moment, enter, to_eight, grow_world, grow_history, coupled_world, lacking_world, starting_world}
use Rattle.rows.proofs.ModelLemmas.Runs.{settles, all_straight, goes, no_change, begins, enters, not_before}

abbrev x_up : List Fraction
x_up = n 1 ∷ n 0 ∷ []

abbrev at_rest : List Fraction
at_rest = n 0 ∷ n 0 ∷ []

abbrev valued : Fraction → Fraction → State
valued x y = record { atoms = []; fluents = Some x ∷ Some y ∷ [] }

run_grow : RunMayFollow grow_world (until grow_world to_eight (first_view grow_world)) (first_view grow_world) (0 ∷ [])
unfolding firing literals rates over gcd gcd_within first_coupled compared ◌+ℚ◌
run_grow = record {
  still = refl;
  later = record { cross = omega (arith, ints) };
  rate = x_up;
  settled = settles grow_world (values 0 0) (0 ∷ []) x_up x_up (tt, tt) (tt, tt)
      (ap (λ x. Ok (x ∷ n 0 ∷ [])) (same_cross _ _ refl)) refl
      (ap (λ x. Ok (x ∷ n 0 ∷ [])) (same_cross _ _ refl)) refl;
  uncoupled = refl;
}

enter_grow : EnterMayFollow grow_world (until grow_world to_eight (stretch 0 (values 0 0) (0 ∷ []) 0)) (stretch 0 (values 0 0) (0 ∷ []) 0) (0 ∷ []) (n 5) (values 5 0) (values 5 0)
unfolding firing literals rates moved over gcd gcd_within compared ◌+ℚ◌ ◌-ℚ◌ ◌*ℚ◌
enter_grow = enters grow_world to_eight (stretch 0 (values 0 0) (0 ∷ []) 0) (0 ∷ []) x_up (n 0) (n 5) (values 5 0)
    (ap (λ x. Ok (x ∷ n 0 ∷ [])) (same_cross _ _ refl))
    (record { cross = omega (arith, ints) })
    (record { cross = omega (arith, ints) })
    (begins grow_world (values 0 0) (0 ∷ []) x_up (tt, tt) refl tt refl)
    (no_change grow_world (values 0 0) x_up (n 0) (n 5 -ℚ n 0) tt (λ r p l d h. not_before (n 0) (n 5) r (n 5 -ℚ n 0) refl l h, tt))
    (ap₂ valued (same_cross _ _ refl) (same_cross _ _ refl))
    (set_ends (λ g. let e : (0 ∷ []) ≡ [] = goes_on_only grow_world (values 5 0) x_up (0 ∷ []) (all_straight grow_world (values 5 0) x_up (tt, tt)) g in cc e))

-- at 5 the process holds; at its rate it does not hold just after, and without it it does
unsettled : Stands grow_world to_eight (moment 5 (values 5 0) 0) (Unsettled 0)
unfolding firing rates over gcd gcd_within compared ◌+ℚ◌
unsettled = record {
  «open» = record { present = record { moment = refl; still = refl }; later = record { cross = omega (arith, ints) } };
  running = [];
  chosen = record { first = x_up; first_is = ap (λ x. Ok (x ∷ n 0 ∷ [])) (same_cross _ _ refl); chosen = goes grow_world (values 5 0) x_up [] (tt, tt) refl };
  own = at_rest;
  own_is = refl;
  first = record {
    has = λ e. let g = (goes grow_world (values 5 0) at_rest (0 ∷ []) (tt, tt) refl).members 0 in
        let f : false ≡ true = e.1 (g.0 refl) in cc f;
    none_before = λ j h. absurd (omega arith);
  };
}

pub grow_row : Breaks grow_world to_eight grow_history (Unsettled 0)
unfolding literals
grow_row = record {
  prefix = record {
    ordered = tt;
    rest = _;
    begins = refl;
    follow = (inr refl, run_grow, (inr refl, enter_grow, tt));
  };
  breach = record { begun = inr refl; stands = unsettled };
}

pub coupled_row : Breaks coupled_world to_eight (enter 0 (values 0 0) ∷ []) (Coupled 0 1)
unfolding firing literals rates over gcd gcd_within first_coupled compared ◌+ℚ◌
coupled_row = record {
  prefix = record { ordered = tt; rest = []; begins = refl; follow = tt };
  breach = record {
    begun = inr refl;
    stands = record {
      «open» = record { present = record { moment = refl; still = refl }; later = record { cross = omega (arith, ints) } };
      running = 0 ∷ 1 ∷ [];
      own = n 0 ∷ n 1 ∷ [];
      settled = settles coupled_world (values 0 0) (0 ∷ 1 ∷ []) (n 0 ∷ n 1 ∷ []) (n 0 ∷ n 1 ∷ []) (tt, (tt, tt)) (tt, (tt, tt))
          (ap₂ (λ x y. Ok (x ∷ y ∷ [])) (same_cross _ _ refl) (same_cross _ _ refl)) refl
          (ap₂ (λ x y. Ok (x ∷ y ∷ [])) (same_cross _ _ refl) (same_cross _ _ refl)) refl;
      first = refl;
    };
  };
}

pub lacking_row : Breaks lacking_world to_eight (enter 0 lacking_world.initial ∷ []) (NoValue 1)
unfolding firing literals rates over gcd gcd_within
lacking_row = record {
  prefix = record { ordered = tt; rest = []; begins = refl; follow = tt };
  breach = record {
    begun = inr refl;
    stands = inr (record {
      «open» = record { present = record { moment = refl; still = refl }; later = record { cross = omega (arith, ints) } };
      fail = inl refl;
    });
  };
}

-- process 1 does not hold at 0, and it holds just after
pub starting_row : Breaks starting_world to_eight (enter 0 starting_world.initial ∷ []) (NoValue 1)
unfolding firing literals rates over gcd gcd_within compared ◌+ℚ◌
starting_row = record {
  prefix = record { ordered = tt; rest = []; begins = refl; follow = tt };
  breach = record {
    begun = inr refl;
    stands = inr (record {
      «open» = record { present = record { moment = refl; still = refl }; later = record { cross = omega (arith, ints) } };
      fail = inr (
        0 ∷ 1 ∷ [],
        record {
          first = x_up;
          first_is = ap (λ x. Ok (x ∷ n 0 ∷ [])) (same_cross _ _ refl);
          chosen = goes starting_world starting_world.initial x_up (0 ∷ 1 ∷ []) (tt, (tt, tt)) refl;
        },
        refl,
      );
    });
  };
}
