-- The rows of events without a first moment.
use Rattle.std.proofs.Common.{◌≡◌, ℕ, zero, suc, ◌<◌, true, false, List, [], ◌∷◌, refl, ap, ap₂, sym, subst, inr, arith}
use Rattle.std.proofs.lemmas.Int.{ints}
use Rattle.std.specs.Prelude.{Some, Ok}
use Rattle.plus_fraction.specs.Gcd.{gcd, gcd_within}
use Rattle.plus_fraction.specs.Fraction.{Fraction, over, ◌+ℚ◌, ◌-ℚ◌, ◌*ℚ◌, ◌<ℚ◌, ◌≤ℚ◌, neg_ℚ, compared}
use Rattle.plus_fraction.proofs.FractionBase.{same_cross}
use Rattle.plus_fraction.proofs.FractionOrder.{<ℚ_irrefl, <ℚ_trans}
use Rattle.plus_model.specs.Terms.{Condition, Compare, Fluent, Number, AtLeast, Above, State}
use Rattle.plus_model.specs.Firing.{firing}
use Rattle.plus_model.specs.Running.{rates, moved, first_coupled, IsQuiet}
use Rattle.plus_model.specs.History.{View}
use Rattle.plus_model.specs.Trajectory.{until, at_until, literals, first_view, RunMayFollow, EnterMayFollow}
use Rattle.plus_model.specs.Breach.{NoFirstMoment, Breaks, Stands, HoldsAfter, IsFirst}
use Rattle.plus_model.proofs.Moments.{≤ℚ_refl}
use Rattle.plus_model.proofs.Searched.{NoChange, NoneAfter, SearchedTo, searched_next, stretch_to, momentless_by}
use Rattle.plus_model.proofs.Truth.{after_tells}
use Rattle.rows.specs.Model.Rises.{n, values, if_x, stretch, moment, to_eight}
use Rattle.rows.proofs.ModelLemmas.Runs.{settles, goes, none_after, no_change, begins, enters, not_before, not_after}
use Rattle.rows.specs.Time.Moments.{negated_world, negated_history, bell_state, bell_world, bell_history, bell_at_five_history}
use Rattle.rows.proofs.TimeLemmas.Parts.{down, falls_not_before, falls_not_after}

-- ---- a negated comparison
abbrev falls : List Fraction
falls = down ∷ n 0 ∷ []

abbrev valued : Fraction → Fraction → State
valued x y = record { atoms = []; fluents = Some x ∷ Some y ∷ [] }

abbrev not_five : Condition
not_five = Compare AtLeast (Fluent 0) (Number (n 5)) false

abbrev falling_view : View
falling_view = stretch 0 (values 6 0) (0 ∷ []) 0

run_falling : RunMayFollow negated_world (until negated_world to_eight (first_view negated_world)) (first_view negated_world) (0 ∷ [])
unfolding firing literals rates over gcd gcd_within first_coupled compared ◌+ℚ◌ neg_ℚ
run_falling = record {
  still = refl;
  later = record { cross = omega (arith, ints) };
  rate = falls;
  settled = settles negated_world (values 6 0) (0 ∷ []) falls falls (tt, tt) (tt, tt)
      (ap (λ x. Ok (x ∷ n 0 ∷ [])) (same_cross _ _ refl)) refl
      (ap (λ x. Ok (x ∷ n 0 ∷ [])) (same_cross _ _ refl)) refl;
  uncoupled = refl;
}

change_falling : NoChange negated_world (values 6 0) falls (n 0) (n 1 -ℚ n 0)
unfolding over gcd gcd_within ◌-ℚ◌
change_falling = no_change negated_world (values 6 0) falls (n 0) (n 1 -ℚ n 0) (
  λ r p l d h. falls_not_after (n 6) (n 6) r (n 0) (same_cross _ _ refl) p h,
  (λ r p l d h. falls_not_before (n 6) (n 5) r (n 1 -ℚ n 0) (same_cross _ _ refl) l h, tt),
) (tt, tt)

begins_falling : SearchedTo negated_world (values 6 0) (0 ∷ []) falls (n 0)
unfolding over gcd gcd_within compared
begins_falling = begins negated_world (values 6 0) (0 ∷ []) falls (tt, tt) refl (tt, (tt, tt)) refl

fallen : moved (values 6 0) falls (n 1 -ℚ n 0) ≡ values 5 0
unfolding moved over gcd gcd_within ◌+ℚ◌ ◌-ℚ◌ ◌*ℚ◌
fallen = ap₂ valued (same_cross _ _ refl) (same_cross _ _ refl)

none_before_one : (j : ℕ) → j < 1 → HoldsAfter negated_world (values 5 0) falls j → ⊥
unfolding over gcd gcd_within compared
none_before_one zero h a = let t : false ≡ true = (after_tells (if_x Above 6) (values 5 0) falls tt).0 a in cc t
none_before_one (suc j) h a = absurd (omega arith)

first_falling : IsFirst (HoldsAfter negated_world (values 5 0) falls) 1
unfolding over gcd gcd_within compared
first_falling = record { has = (after_tells not_five (values 5 0) falls tt).1 refl; none_before = none_before_one }

quiet_falling : IsQuiet negated_world (values 5 0) (0 ∷ []) falls
unfolding firing over gcd gcd_within compared
quiet_falling = record { still = refl; on = goes negated_world (values 5 0) falls (0 ∷ []) (tt, tt) refl }

rates_falling : rates negated_world (values 6 0) (0 ∷ []) ≡ Ok falls
unfolding rates over gcd gcd_within ◌+ℚ◌ neg_ℚ
rates_falling = ap (λ x. Ok (x ∷ n 0 ∷ [])) (same_cross _ _ refl)

after_zero : n 0 ≤ℚ n 1
unfolding over gcd gcd_within
after_zero = record { cross = omega (arith, ints) }

before_eight : n 1 <ℚ until negated_world to_eight falling_view
unfolding over gcd gcd_within
before_eight = record { cross = omega (arith, ints) }

stands_falling : Stands negated_world to_eight falling_view (NoFirstMoment 1 (n 1))
stands_falling = momentless_by negated_world to_eight falling_view (0 ∷ []) falls (n 1) 1 refl rates_falling after_zero before_eight
    (stretch_to negated_world (values 6 0) (0 ∷ []) falls (n 0) (n 1 -ℚ n 0) begins_falling change_falling)
    (λ p. subst (λ s. IsQuiet negated_world s (0 ∷ []) falls) (sym fallen) quiet_falling)
    (subst (λ s. IsFirst (HoldsAfter negated_world s falls) 1) (sym fallen) first_falling)

pub negated_row : Breaks negated_world to_eight negated_history (NoFirstMoment 1 (n 1))
unfolding literals
negated_row = record {
  prefix = record { ordered = tt; rest = _; begins = refl; follow = (inr refl, run_falling, tt) };
  breach = record { begun = inr refl; stands = stands_falling };
}

-- ---- a quiet root, and a literal
abbrev rises : List Fraction
rises = n 1 ∷ []

abbrev with_x : Fraction → State
with_x x = record { atoms = false ∷ []; fluents = Some x ∷ [] }

abbrev bell_view : View
bell_view = stretch 0 (bell_state false 0) (0 ∷ []) 0

rates_bell : (time : ℕ) → rates (bell_world time) (bell_state false 0) (0 ∷ []) ≡ Ok rises
unfolding rates over gcd gcd_within ◌+ℚ◌
rates_bell time = ap (λ x. Ok (x ∷ [])) (same_cross _ _ refl)

run_bell : (time : ℕ) → n 0 <ℚ until (bell_world time) to_eight (moment 0 (bell_state false 0) 0) → RunMayFollow (bell_world time) (until (bell_world time) to_eight (moment 0 (bell_state false 0) 0)) (moment 0 (bell_state false 0) 0) (0 ∷ [])
unfolding firing rates over gcd gcd_within first_coupled compared ◌+ℚ◌
run_bell time h = record {
  still = refl;
  later = h;
  rate = rises;
  settled = settles (bell_world time) (bell_state false 0) (0 ∷ []) rises rises (tt, (tt, tt)) (tt, (tt, tt))
      (ap (λ x. Ok (x ∷ [])) (same_cross _ _ refl)) refl
      (ap (λ x. Ok (x ∷ [])) (same_cross _ _ refl)) refl;
  uncoupled = refl;
}

-- at x = 2 nothing begins
searched_zero : (time : ℕ) → SearchedTo (bell_world time) (bell_state false 0) (0 ∷ []) rises (n 0)
unfolding over gcd gcd_within compared
searched_zero time = begins (bell_world time) (bell_state false 0) (0 ∷ []) rises (tt, (tt, tt)) refl (tt, tt) refl

two_is : n 2 ≡ n 2 -ℚ n 0
unfolding over gcd gcd_within ◌-ℚ◌
two_is = same_cross _ _ refl

above_two : n 2 <ℚ n 5 -ℚ n 0
unfolding over gcd gcd_within ◌-ℚ◌
above_two = record { cross = omega (arith, ints) }

above_zero : n 0 <ℚ n 2
unfolding over gcd gcd_within
above_zero = record { cross = omega (arith, ints) }

change_to_two : (time : ℕ) → NoChange (bell_world time) (bell_state false 0) rises (n 0) (n 2)
change_to_two time = no_change (bell_world time) (bell_state false 0) rises (n 0) (n 2)
    (λ r p l d h. not_before (n 0) (n 5) r (n 5 -ℚ n 0) refl (<ℚ_trans r _ _ l above_two) h, tt)
    (tt, (λ r p l d h. not_before (n 0) (n 2) r (n 2) two_is l h, tt))

at_two : moved (bell_state false 0) rises (n 2) ≡ bell_state false 2
unfolding moved over gcd gcd_within ◌+ℚ◌ ◌*ℚ◌
at_two = ap with_x (same_cross _ _ refl)

quiet_two : (time : ℕ) → IsQuiet (bell_world time) (bell_state false 2) (0 ∷ []) rises
unfolding firing over gcd gcd_within compared
quiet_two time = record { still = refl; on = goes (bell_world time) (bell_state false 2) rises (0 ∷ []) (tt, (tt, tt)) refl }

none_two : (time : ℕ) → NoneAfter (bell_world time) (bell_state false 2) rises
unfolding over gcd gcd_within compared
none_two time = none_after (bell_world time) (bell_state false 2) rises (tt, tt) refl

searched_two : (time : ℕ) → SearchedTo (bell_world time) (bell_state false 0) (0 ∷ []) rises (n 2)
searched_two time = searched_next (bell_world time) (bell_state false 0) (0 ∷ []) rises (n 0) (n 2) (searched_zero time) above_zero
    (change_to_two time)
    (subst (λ s. IsQuiet (bell_world time) s (0 ∷ []) rises) (sym at_two) (quiet_two time))
    (subst (λ s. NoneAfter (bell_world time) s rises) (sym at_two) (none_two time))

-- at x = 5 the event does not hold, and just after it does
change_to_five : (time : ℕ) → NoChange (bell_world time) (bell_state false 0) rises (n 2) (n 5 -ℚ n 0)
change_to_five time = no_change (bell_world time) (bell_state false 0) rises (n 2) (n 5 -ℚ n 0)
    (λ r p l d h. not_before (n 0) (n 5) r (n 5 -ℚ n 0) refl l h, tt)
    (tt, (λ r p l d h. not_after (n 0) (n 2) r (n 2) two_is p h, tt))

at_five : moved (bell_state false 0) rises (n 5 -ℚ n 0) ≡ bell_state false 5
unfolding moved over gcd gcd_within ◌+ℚ◌ ◌-ℚ◌ ◌*ℚ◌
at_five = ap with_x (same_cross _ _ refl)

quiet_five : (time : ℕ) → IsQuiet (bell_world time) (bell_state false 5) (0 ∷ []) rises
unfolding firing over gcd gcd_within compared
quiet_five time = record { still = refl; on = goes (bell_world time) (bell_state false 5) rises (0 ∷ []) (tt, (tt, tt)) refl }

first_five : (time : ℕ) (rings : _) → IsFirst (HoldsAfter (bell_world time) (bell_state rings 5) rises) 0
unfolding over gcd gcd_within compared
first_five time rings = record { has = (after_tells (if_x Above 5) (bell_state rings 5) rises tt).1 refl; none_before = λ j h. absurd (omega arith) }

zero_five : n 0 ≤ℚ n 5
unfolding over gcd gcd_within
zero_five = record { cross = omega (arith, ints) }

five_six : n 5 <ℚ until (bell_world 6) to_eight bell_view
unfolding over gcd gcd_within compared
five_six = record { cross = omega (arith, ints) }

stands_bell : Stands (bell_world 6) to_eight bell_view (NoFirstMoment 0 (n 5))
stands_bell = momentless_by (bell_world 6) to_eight bell_view (0 ∷ []) rises (n 5) 0 refl (rates_bell 6) zero_five five_six
    (stretch_to (bell_world 6) (bell_state false 0) (0 ∷ []) rises (n 2) (n 5 -ℚ n 0) (searched_two 6) (change_to_five 6))
    (λ p. subst (λ s. IsQuiet (bell_world 6) s (0 ∷ []) rises) (sym at_five) (quiet_five 6))
    (subst (λ s. IsFirst (HoldsAfter (bell_world 6) s rises) 0) (sym at_five) (first_five 6 false))

pub later_bell_row : Breaks (bell_world 6) to_eight bell_history (NoFirstMoment 0 (n 5))
unfolding literals over gcd gcd_within compared
later_bell_row = record {
  prefix = record {
    ordered = tt;
    rest = _;
    begins = refl;
    follow = (inr refl, run_bell 6 (record { cross = omega (arith, ints) }), tt);
  };
  breach = record { begun = inr refl; stands = stands_bell };
}

-- ---- the literal at 5
enter_bell : EnterMayFollow (bell_world 5) (until (bell_world 5) to_eight bell_view) bell_view (0 ∷ []) (n 5) (bell_state false 5) (bell_state true 5)
unfolding literals over gcd gcd_within compared
enter_bell = enters (bell_world 5) to_eight bell_view (0 ∷ []) rises (n 2) (n 5) (bell_state false 5)
    (rates_bell 5)
    (record { cross = omega (arith, ints) })
    (record { cross = omega (arith, ints) })
    (searched_two 5) (change_to_five 5) at_five (at_until refl)

run_five : RunMayFollow (bell_world 5) (until (bell_world 5) to_eight (moment 5 (bell_state true 5) 0)) (moment 5 (bell_state true 5) 0) (0 ∷ [])
unfolding firing rates over gcd gcd_within first_coupled compared ◌+ℚ◌
run_five = record {
  still = refl;
  later = record { cross = omega (arith, ints) };
  rate = rises;
  settled = settles (bell_world 5) (bell_state true 5) (0 ∷ []) rises rises (tt, (tt, tt)) (tt, (tt, tt))
      (ap (λ x. Ok (x ∷ [])) (same_cross _ _ refl)) refl
      (ap (λ x. Ok (x ∷ [])) (same_cross _ _ refl)) refl;
  uncoupled = refl;
}

abbrev rung_view : View
rung_view = stretch 5 (bell_state true 5) (0 ∷ []) 0

rates_rung : rates (bell_world 5) (bell_state true 5) (0 ∷ []) ≡ Ok rises
unfolding rates over gcd gcd_within ◌+ℚ◌
rates_rung = ap (λ x. Ok (x ∷ [])) (same_cross _ _ refl)

no_time : n 5 -ℚ n 5 ≡ n 0
unfolding over gcd gcd_within ◌-ℚ◌
no_time = same_cross _ _ refl

still_five : moved (bell_state true 5) rises (n 5 -ℚ n 5) ≡ bell_state true 5
unfolding moved over gcd gcd_within ◌+ℚ◌ ◌-ℚ◌ ◌*ℚ◌
still_five = ap (λ x. record { atoms = true ∷ []; fluents = Some x ∷ [] }) (same_cross _ _ refl)

five_eight : n 5 <ℚ until (bell_world 5) to_eight rung_view
unfolding over gcd gcd_within compared
five_eight = record { cross = omega (arith, ints) }

stands_rung : Stands (bell_world 5) to_eight rung_view (NoFirstMoment 0 (n 5))
stands_rung = momentless_by (bell_world 5) to_eight rung_view (0 ∷ []) rises (n 5) 0 refl rates_rung (≤ℚ_refl (n 5)) five_eight
    (λ x p q. absurd (<ℚ_irrefl (n 0) (<ℚ_trans (n 0) x (n 0) p (subst (λ z. x <ℚ z) no_time q))))
    (λ p. absurd (<ℚ_irrefl (n 0) (subst (λ z. n 0 <ℚ z) no_time p)))
    (subst (λ s. IsFirst (HoldsAfter (bell_world 5) s rises) 0) (sym still_five) (first_five 5 true))

pub bell_at_five_row : Breaks (bell_world 5) to_eight bell_at_five_history (NoFirstMoment 0 (n 5))
unfolding literals over gcd gcd_within compared
bell_at_five_row = record {
  prefix = record {
    ordered = tt;
    rest = _;
    begins = refl;
    follow = (inr refl, run_bell 5 (record { cross = omega (arith, ints) }), (inr refl, enter_bell, (inr refl, run_five, tt)));
  };
  breach = record { begun = inr refl; stands = stands_rung };
}
