-- Rows in which x rises by 1 and an event waits for 5: no first moment, a repeated event, a conflict.
use Rattle.std.proofs.Common.{◌≡◌, ◌≢◌, true, List, [], ◌∷◌, refl, ap, ap₂, sym, subst, inl, inr, arith}
use Rattle.std.proofs.lemmas.Int.{ints}
use Rattle.std.specs.Prelude.{Some, Ok}
use Rattle.plus_fraction.specs.Gcd.{gcd, gcd_within}
use Rattle.plus_fraction.specs.Fraction.{Fraction, over, ◌+ℚ◌, ◌-ℚ◌, ◌*ℚ◌, ◌<ℚ◌, ◌≤ℚ◌, compared}
use Rattle.plus_fraction.proofs.FractionBase.{same_cross}
use Rattle.plus_model.specs.Terms.{Above, Event, State}
use Rattle.plus_model.specs.Joint.{joint}
use Rattle.plus_model.specs.Firing.{firing, first_shared, effects_of, IsRound}
use Rattle.plus_model.specs.Running.{rates, moved, first_coupled, IsQuiet}
use Rattle.plus_model.specs.Trajectory.{until, event_holds, literals, first_view, RunMayFollow, EnterMayFollow}
use Rattle.plus_model.specs.Breach.{NoFirstMoment, Repeats, Conflict, Breaks, Stands, HoldsAfter, IsFirst}
use Rattle.plus_fraction.proofs.FractionOrder.{<ℚ_irrefl, <ℚ_trans}
use Rattle.plus_model.proofs.Moments.{≤ℚ_refl}
use Rattle.plus_model.proofs.Searched.{NoChange, SearchedTo, stretch_to, momentless_by}
use Rattle.plus_model.proofs.Truth.{TruthAfter, after_is, to_just_after}
use Rattle.rows.specs.Model.Rises.{n, values, up, world, if_x, stretch, to_eight, over_world, over_history, again_world, again_history, clash_world, clash_history, at_once_world}
use Rattle.rows.proofs.ModelLemmas.Runs.{StraightEvents, RootlessEvents, events_after, settles, goes, no_change, begins, enters, not_before}

abbrev pub one_up : List Fraction
one_up = n 1 ∷ n 0 ∷ []

up_run : (es : List Event) → firing (world (up ∷ []) es) (values 0 0) ≡ [] → RunMayFollow (world (up ∷ []) es) (until (world (up ∷ []) es) to_eight (first_view (world (up ∷ []) es))) (first_view (world (up ∷ []) es)) (0 ∷ [])
unfolding literals rates over gcd gcd_within first_coupled compared ◌+ℚ◌
up_run es f = record {
  still = f;
  later = record { cross = omega (arith, ints) };
  rate = one_up;
  settled = settles (world (up ∷ []) es) (values 0 0) (0 ∷ []) one_up one_up (tt, tt) (tt, tt)
      (ap (λ x. Ok (x ∷ n 0 ∷ [])) (same_cross _ _ refl)) refl
      (ap (λ x. Ok (x ∷ n 0 ∷ [])) (same_cross _ _ refl)) refl;
  uncoupled = refl;
}

abbrev valued : Fraction → Fraction → State
valued x y = record { atoms = []; fluents = Some x ∷ Some y ∷ [] }

up_enter : (es : List Event) → StraightEvents es (values 0 0) one_up → events_after (world (up ∷ []) es) (values 0 0) one_up ≡ [] → RootlessEvents es (values 0 0) one_up (n 0) (n 5 -ℚ n 0) → firing (world (up ∷ []) es) (values 5 0) ≢ []
    → EnterMayFollow (world (up ∷ []) es) (until (world (up ∷ []) es) to_eight (stretch 0 (values 0 0) (0 ∷ []) 0)) (stretch 0 (values 0 0) (0 ∷ []) 0) (0 ∷ []) (n 5) (values 5 0) (values 5 0)
unfolding literals rates moved over gcd gcd_within compared ◌+ℚ◌ ◌-ℚ◌ ◌*ℚ◌
up_enter es s a r f = enters (world (up ∷ []) es) to_eight (stretch 0 (values 0 0) (0 ∷ []) 0) (0 ∷ []) one_up (n 0) (n 5) (values 5 0)
    (ap (λ x. Ok (x ∷ n 0 ∷ [])) (same_cross _ _ refl))
    (record { cross = omega (arith, ints) })
    (record { cross = omega (arith, ints) })
    (begins (world (up ∷ []) es) (values 0 0) (0 ∷ []) one_up (tt, tt) refl s a)
    (no_change (world (up ∷ []) es) (values 0 0) one_up (n 0) (n 5 -ℚ n 0) r (tt, tt))
    (ap₂ valued (same_cross _ _ refl) (same_cross _ _ refl))
    (event_holds f)

-- ---- an event that holds again
run_again : RunMayFollow again_world (until again_world to_eight (first_view again_world)) (first_view again_world) (0 ∷ [])
unfolding firing over gcd gcd_within compared
run_again = up_run again_world.events refl

enter_again : EnterMayFollow again_world (until again_world to_eight (stretch 0 (values 0 0) (0 ∷ []) 0)) (stretch 0 (values 0 0) (0 ∷ []) 0) (0 ∷ []) (n 5) (values 5 0) (values 5 0)
unfolding firing over gcd gcd_within compared
enter_again = up_enter again_world.events (tt, tt) refl (λ r p l d h. not_before (n 0) (n 5) r (n 5 -ℚ n 0) refl l h, tt) (λ e. cc e)

round_again : IsRound again_world [] (values 5 0) (0 ∷ []) (values 6 0)
unfolding firing over gcd gcd_within compared first_shared effects_of joint ◌+ℚ◌
round_again = record { all = refl; some = λ e. cc e; fresh = refl; effect = ap (λ x. Ok (valued x (n 0))) (same_cross _ _ refl) }

pub again_row : Breaks again_world to_eight again_history (Repeats 0)
unfolding firing literals over gcd gcd_within compared first_shared
again_row = record {
  prefix = record {
    ordered = tt;
    rest = _;
    begins = refl;
    follow = (inr refl, run_again, (inr refl, enter_again, (inr refl, round_again, tt)));
  };
  breach = record { begun = inr refl; stands = (refl, refl) };
}

-- ---- two events that give one fluent two values
run_clash : RunMayFollow clash_world (until clash_world to_eight (first_view clash_world)) (first_view clash_world) (0 ∷ [])
unfolding firing over gcd gcd_within compared
run_clash = up_run clash_world.events refl

enter_clash : EnterMayFollow clash_world (until clash_world to_eight (stretch 0 (values 0 0) (0 ∷ []) 0)) (stretch 0 (values 0 0) (0 ∷ []) 0) (0 ∷ []) (n 5) (values 5 0) (values 5 0)
unfolding firing over gcd gcd_within compared
enter_clash = up_enter clash_world.events (tt, (tt, tt)) refl (
  λ r p l d h. not_before (n 0) (n 5) r (n 5 -ℚ n 0) refl l h,
  (λ r p l d h. not_before (n 0) (n 5) r (n 5 -ℚ n 0) refl l h, tt),
) (λ e. cc e)

pub clash_row : Breaks clash_world to_eight clash_history (Conflict 1)
unfolding firing literals over gcd gcd_within compared first_shared effects_of joint
clash_row = record {
  prefix = record {
    ordered = tt;
    rest = _;
    begins = refl;
    follow = (inr refl, run_clash, (inr refl, enter_clash, tt));
  };
  breach = record {
    begun = inr refl;
    stands = record {
      effects = effects_of clash_world (0 ∷ 1 ∷ []);
      due = inl (record { moment = refl; some = λ e. cc e; fresh = refl; effects_is = refl });
      fails = refl;
    };
  };
}

-- ---- an event with no first moment
run_over : RunMayFollow over_world (until over_world to_eight (first_view over_world)) (first_view over_world) (0 ∷ [])
unfolding firing over gcd gcd_within compared
run_over = up_run over_world.events refl

change_over : NoChange over_world (values 0 0) one_up (n 0) (n 5 -ℚ n 0)
change_over = no_change over_world (values 0 0) one_up (n 0) (n 5 -ℚ n 0) (λ r p l d h. not_before (n 0) (n 5) r (n 5 -ℚ n 0) refl l h, tt) (tt, tt)

begins_over : SearchedTo over_world (values 0 0) (0 ∷ []) one_up (n 0)
unfolding over gcd gcd_within compared
begins_over = begins over_world (values 0 0) (0 ∷ []) one_up (tt, tt) refl (tt, tt) refl

at_five : moved (values 0 0) one_up (n 5 -ℚ n 0) ≡ values 5 0
unfolding moved over gcd gcd_within ◌+ℚ◌ ◌-ℚ◌ ◌*ℚ◌
at_five = ap₂ valued (same_cross _ _ refl) (same_cross _ _ refl)

above_five : TruthAfter (values 5 0) one_up (if_x Above 5) true
unfolding over gcd gcd_within compared
above_five = after_is (if_x Above 5) (values 5 0) one_up tt

first_over : IsFirst (HoldsAfter over_world (values 5 0) one_up) 0
first_over = record { has = to_just_after (values 5 0) one_up (if_x Above 5) above_five; none_before = λ j h. absurd (omega arith) }

still_over : firing over_world (values 5 0) ≡ []
unfolding firing over gcd gcd_within compared
still_over = refl

rates_over : rates over_world (values 0 0) (0 ∷ []) ≡ Ok one_up
unfolding rates over gcd gcd_within ◌+ℚ◌
rates_over = ap (λ x. Ok (x ∷ n 0 ∷ [])) (same_cross _ _ refl)

before_eight : n 5 <ℚ until over_world to_eight (stretch 0 (values 0 0) (0 ∷ []) 0)
unfolding over gcd gcd_within
before_eight = record { cross = omega (arith, ints) }

from_zero_on : n 0 ≤ℚ n 5
unfolding over gcd gcd_within
from_zero_on = record { cross = omega (arith, ints) }

stands_over : Stands over_world to_eight (stretch 0 (values 0 0) (0 ∷ []) 0) (NoFirstMoment 0 (n 5))
unfolding over gcd gcd_within compared
stands_over = momentless_by over_world to_eight (stretch 0 (values 0 0) (0 ∷ []) 0) (0 ∷ []) one_up (n 5) 0 refl rates_over from_zero_on before_eight
    (stretch_to over_world (values 0 0) (0 ∷ []) one_up (n 0) (n 5 -ℚ n 0) begins_over change_over)
    (λ p. subst (λ s. IsQuiet over_world s (0 ∷ []) one_up) (sym at_five) (record { still = still_over; on = goes over_world (values 5 0) one_up (0 ∷ []) (tt, tt) refl }))
    (subst (λ s. IsFirst (HoldsAfter over_world s one_up) 0) (sym at_five) first_over)

pub over_row : Breaks over_world to_eight over_history (NoFirstMoment 0 (n 5))
unfolding literals
over_row = record {
  prefix = record { ordered = tt; rest = _; begins = refl; follow = (inr refl, run_over, tt) };
  breach = record { begun = inr refl; stands = stands_over };
}

-- ---- the same at the beginning of a stretch
run_at_once : RunMayFollow at_once_world (until at_once_world to_eight (first_view at_once_world)) (first_view at_once_world) (0 ∷ [])
unfolding firing over gcd gcd_within compared
run_at_once = up_run at_once_world.events refl

rates_at_once : rates at_once_world (values 0 0) (0 ∷ []) ≡ Ok one_up
unfolding rates over gcd gcd_within ◌+ℚ◌
rates_at_once = ap (λ x. Ok (x ∷ n 0 ∷ [])) (same_cross _ _ refl)

no_time : n 0 -ℚ n 0 ≡ n 0
unfolding over gcd gcd_within ◌-ℚ◌
no_time = same_cross _ _ refl

at_zero : moved (values 0 0) one_up (n 0 -ℚ n 0) ≡ values 0 0
unfolding moved over gcd gcd_within ◌+ℚ◌ ◌-ℚ◌ ◌*ℚ◌
at_zero = ap₂ valued (same_cross _ _ refl) (same_cross _ _ refl)

above_zero : TruthAfter (values 0 0) one_up (if_x Above 0) true
unfolding over gcd gcd_within compared
above_zero = after_is (if_x Above 0) (values 0 0) one_up tt

first_at_once : IsFirst (HoldsAfter at_once_world (values 0 0) one_up) 0
first_at_once = record { has = to_just_after (values 0 0) one_up (if_x Above 0) above_zero; none_before = λ j h. absurd (omega arith) }

zero_before_eight : n 0 <ℚ until at_once_world to_eight (stretch 0 (values 0 0) (0 ∷ []) 0)
unfolding over gcd gcd_within
zero_before_eight = record { cross = omega (arith, ints) }

stands_at_once : Stands at_once_world to_eight (stretch 0 (values 0 0) (0 ∷ []) 0) (NoFirstMoment 0 (n 0))
stands_at_once = momentless_by at_once_world to_eight (stretch 0 (values 0 0) (0 ∷ []) 0) (0 ∷ []) one_up (n 0) 0 refl rates_at_once (≤ℚ_refl (n 0)) zero_before_eight
    (λ x p q. absurd (<ℚ_irrefl (n 0) (<ℚ_trans (n 0) x (n 0) p (subst (λ z. x <ℚ z) no_time q))))
    (λ p. absurd (<ℚ_irrefl (n 0) (subst (λ z. n 0 <ℚ z) no_time p)))
    (subst (λ s. IsFirst (HoldsAfter at_once_world s one_up) 0) (sym at_zero) first_at_once)

pub at_once_row : Breaks at_once_world to_eight over_history (NoFirstMoment 0 (n 0))
unfolding literals
at_once_row = record {
  prefix = record { ordered = tt; rest = _; begins = refl; follow = (inr refl, run_at_once, tt) };
  breach = record { begun = inr refl; stands = stands_at_once };
}
