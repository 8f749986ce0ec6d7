-- Rows with a process that holds at x = 5 alone: the crossing is quiet, but not where an action makes a moment there.
use Rattle.std.proofs.Common.{◌≡◌, List, [], ◌∷◌, refl, ap, ap₂, sym, subst, inr, arith}
use Rattle.std.proofs.lemmas.Int.{ints}
use Rattle.std.specs.Prelude.{Some, Ok}
use Rattle.plus_fraction.specs.Gcd.{gcd, gcd_within}
use Rattle.plus_fraction.specs.Fraction.{Fraction, over, ◌+ℚ◌, ◌-ℚ◌, ◌*ℚ◌, ◌<ℚ◌, neg_ℚ, compared}
use Rattle.plus_fraction.proofs.FractionBase.{same_cross}
use Rattle.plus_model.specs.Terms.{State}
use Rattle.plus_model.specs.Joint.{joint}
use Rattle.plus_model.specs.Firing.{firing}
use Rattle.plus_model.specs.Running.{rates, moved, first_coupled, IsQuiet}
use Rattle.plus_model.specs.Trajectory.{until, at_until, literals, first_view, Trajectory, IsWorked, ActMayFollow, RunMayFollow, EnterMayFollow}
use Rattle.plus_model.proofs.Searched.{NoneAfter, SearchedTo, searched_next}
use Rattle.rows.specs.Model.Rises.{n, values, stretch, moment, to_eight, stick_world, stick_history, note, note_plan, note_history}
use Rattle.rows.proofs.ModelLemmas.Runs.{settles, goes, none_after, no_change, begins, enters, not_before, not_after}

abbrev x_up : List Fraction
x_up = n 1 ∷ n 0 ∷ []

abbrev at_rest : List Fraction
at_rest = n 0 ∷ n 0 ∷ []

abbrev valued : Fraction → Fraction → State
valued x y = record { atoms = []; fluents = Some x ∷ Some y ∷ [] }

run_up : RunMayFollow stick_world (until stick_world to_eight (first_view stick_world)) (first_view stick_world) (0 ∷ [])
unfolding firing literals rates over gcd gcd_within first_coupled compared ◌+ℚ◌
run_up = record {
  still = refl;
  later = record { cross = omega (arith, ints) };
  rate = x_up;
  settled = settles stick_world (values 0 0) (0 ∷ []) x_up x_up (tt, (tt, tt)) (tt, (tt, tt))
      (ap (λ x. Ok (x ∷ n 0 ∷ [])) (same_cross _ _ refl)) refl
      (ap (λ x. Ok (x ∷ n 0 ∷ [])) (same_cross _ _ refl)) refl;
  uncoupled = refl;
}

searched_zero : SearchedTo stick_world (values 0 0) (0 ∷ []) x_up (n 0)
unfolding over gcd gcd_within compared
searched_zero = begins stick_world (values 0 0) (0 ∷ []) x_up (tt, (tt, tt)) refl tt refl

at_five : moved (values 0 0) x_up (n 5) ≡ values 5 0
unfolding moved over gcd gcd_within ◌+ℚ◌ ◌*ℚ◌
at_five = ap₂ valued (same_cross _ _ refl) (same_cross _ _ refl)

quiet_five : IsQuiet stick_world (values 5 0) (0 ∷ []) x_up
unfolding firing over gcd gcd_within compared
quiet_five = record { still = refl; on = goes stick_world (values 5 0) x_up (0 ∷ []) (tt, (tt, tt)) refl }

none_five : NoneAfter stick_world (values 5 0) x_up
none_five = none_after stick_world (values 5 0) x_up tt refl

above_zero : n 0 <ℚ n 5
unfolding over gcd gcd_within
above_zero = record { cross = omega (arith, ints) }

five_is : n 5 ≡ n 5 -ℚ n 0
unfolding over gcd gcd_within ◌-ℚ◌
five_is = same_cross _ _ refl

searched_five : SearchedTo stick_world (values 0 0) (0 ∷ []) x_up (n 5)
searched_five = searched_next stick_world (values 0 0) (0 ∷ []) x_up (n 0) (n 5) searched_zero above_zero
    (no_change stick_world (values 0 0) x_up (n 0) (n 5) tt (tt, (λ r p l d h. not_before (n 0) (n 5) r (n 5) five_is l h, tt)))
    (subst (λ s. IsQuiet stick_world s (0 ∷ []) x_up) (sym at_five) quiet_five)
    (subst (λ s. NoneAfter stick_world s x_up) (sym at_five) none_five)

enter_eight : EnterMayFollow stick_world (until stick_world to_eight (stretch 0 (values 0 0) (0 ∷ []) 0)) (stretch 0 (values 0 0) (0 ∷ []) 0) (0 ∷ []) (n 8) (values 8 0) (values 8 0)
unfolding literals rates moved over gcd gcd_within ◌+ℚ◌ ◌-ℚ◌ ◌*ℚ◌
enter_eight = enters stick_world to_eight (stretch 0 (values 0 0) (0 ∷ []) 0) (0 ∷ []) x_up (n 5) (n 8) (values 8 0)
    (ap (λ x. Ok (x ∷ n 0 ∷ [])) (same_cross _ _ refl))
    (record { cross = omega (arith, ints) })
    (record { cross = omega (arith, ints) })
    searched_five
    (no_change stick_world (values 0 0) x_up (n 5) (n 8 -ℚ n 0) tt (tt, (λ r p l d h. not_after (n 0) (n 5) r (n 5) five_is p h, tt)))
    (ap₂ valued (same_cross _ _ refl) (same_cross _ _ refl))
    (at_until refl)

end_eight : IsWorked stick_world to_eight (moment 8 (values 8 0) 0)
unfolding firing over gcd gcd_within compared
end_eight = record { acted = tt; still = refl; moment = refl; over = refl }

pub stick_row : Trajectory stick_world to_eight stick_history
unfolding literals
stick_row = record {
  prefix = record {
    ordered = tt;
    rest = _;
    begins = refl;
    follow = (inr refl, run_up, (inr refl, enter_eight, tt));
  };
  closed = refl;
  worked = end_eight;
  goal = refl;
}

-- ---- with an action at 5
run_to_note : RunMayFollow stick_world (until stick_world note_plan (first_view stick_world)) (first_view stick_world) (0 ∷ [])
unfolding literals over gcd gcd_within
run_to_note = record { still = run_up.still; later = record { cross = omega (arith, ints) }; rate = run_up.rate; settled = run_up.settled; uncoupled = run_up.uncoupled }

enter_note : EnterMayFollow stick_world (until stick_world note_plan (stretch 0 (values 0 0) (0 ∷ []) 0)) (stretch 0 (values 0 0) (0 ∷ []) 0) (0 ∷ []) (n 5) (values 5 0) (values 5 0)
unfolding literals rates moved over gcd gcd_within ◌+ℚ◌ ◌-ℚ◌ ◌*ℚ◌
enter_note = enters stick_world note_plan (stretch 0 (values 0 0) (0 ∷ []) 0) (0 ∷ []) x_up (n 0) (n 5) (values 5 0)
    (ap (λ x. Ok (x ∷ n 0 ∷ [])) (same_cross _ _ refl))
    (record { cross = omega (arith, ints) })
    (record { cross = omega (arith, ints) })
    searched_zero
    (no_change stick_world (values 0 0) x_up (n 0) (n 5 -ℚ n 0) tt (tt, (λ r p l d h. not_before (n 0) (n 5) r (n 5 -ℚ n 0) refl l h, tt)))
    (ap₂ valued (same_cross _ _ refl) (same_cross _ _ refl))
    (at_until refl)

act_note : ActMayFollow stick_world note_plan (moment 5 (values 5 0) 0) 0 (values 5 0)
unfolding firing joint over gcd gcd_within
act_note = record { action = note; line = refl; due = refl; acts = record { still = refl; may = refl; effect = refl } }

-- 1 up and 1 down
run_both : RunMayFollow stick_world (until stick_world note_plan (moment 5 (values 5 0) 1)) (moment 5 (values 5 0) 1) (0 ∷ 1 ∷ [])
unfolding firing rates over gcd gcd_within first_coupled compared ◌+ℚ◌ neg_ℚ
run_both = record {
  still = refl;
  later = record { cross = omega (arith, ints) };
  rate = at_rest;
  settled = settles stick_world (values 5 0) (0 ∷ 1 ∷ []) at_rest at_rest (tt, (tt, tt)) (tt, (tt, tt))
      (ap (λ x. Ok (x ∷ n 0 ∷ [])) (same_cross _ _ refl)) refl
      (ap (λ x. Ok (x ∷ n 0 ∷ [])) (same_cross _ _ refl)) refl;
  uncoupled = refl;
}

enter_last : EnterMayFollow stick_world (until stick_world note_plan (stretch 5 (values 5 0) (0 ∷ 1 ∷ []) 1)) (stretch 5 (values 5 0) (0 ∷ 1 ∷ []) 1) (0 ∷ 1 ∷ []) (n 8) (values 5 0) (values 5 0)
unfolding literals rates moved over gcd gcd_within compared ◌+ℚ◌ ◌-ℚ◌ ◌*ℚ◌ neg_ℚ
enter_last = enters stick_world note_plan (stretch 5 (values 5 0) (0 ∷ 1 ∷ []) 1) (0 ∷ 1 ∷ []) at_rest (n 0) (n 8) (values 5 0)
    (ap (λ x. Ok (x ∷ n 0 ∷ [])) (same_cross _ _ refl))
    (record { cross = omega (arith, ints) })
    (record { cross = omega (arith, ints) })
    (begins stick_world (values 5 0) (0 ∷ 1 ∷ []) at_rest (tt, (tt, tt)) refl tt refl)
    (no_change stick_world (values 5 0) at_rest (n 0) (n 8 -ℚ n 5) tt (tt, (λ r p l d h. d refl, tt)))
    (ap₂ valued (same_cross _ _ refl) (same_cross _ _ refl))
    (at_until refl)

end_note : IsWorked stick_world note_plan (moment 8 (values 5 0) 1)
unfolding firing over gcd gcd_within compared
end_note = record { acted = tt; still = refl; moment = refl; over = refl }

pub note_row : Trajectory stick_world note_plan note_history
unfolding literals over gcd gcd_within
note_row = record {
  prefix = record {
    ordered = (record { cross = omega (arith, ints) }, tt);
    rest = _;
    begins = refl;
    follow = (inr refl, run_to_note, (inr refl, enter_note, (inr refl, act_note, (inr refl, run_both, (inr refl, enter_last, tt)))));
  };
  closed = refl;
  worked = end_note;
  goal = refl;
}
