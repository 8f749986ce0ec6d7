-- The rows of the tank are trajectories.
use Rattle.std.proofs.Common.{◌≡◌, ℕ, zero, suc, true, false, Bool, List, [], ◌∷◌, refl, ap, sym, subst, ◌∙◌, inr, pos, arith}
use Rattle.std.proofs.lemmas.Int.{ints}
use Rattle.std.specs.Prelude.{Some, None, Ok, slice_get, IsSomeAnd, if◌then◌else◌}
use Rattle.plus_fraction.specs.Gcd.{gcd, gcd_within}
use Rattle.plus_fraction.specs.Fraction.{Fraction, over, whole, ◌+ℚ◌, ◌-ℚ◌, ◌*ℚ◌, ◌<ℚ◌, ◌≤ℚ◌, compared}
use Rattle.plus_fraction.proofs.FractionBase.{same_cross}
use Rattle.plus_fraction.proofs.FractionOrder.{<ℚ_irrefl, *ℚ-lt}
use Rattle.plus_fraction.proofs.Ring.{var, num, ◌⊕◌, ◌⊗◌}
use Rattle.plus_fraction.proofs.FractionRing.{ringℚ}
use Rattle.plus_model.specs.Terms.{Timed, Process, Event, State, Condition, Always, Never, Atom, Both}
use Rattle.plus_model.specs.Value.{atom_of, holds}
use Rattle.plus_model.specs.Joint.{joint}
use Rattle.plus_model.specs.Firing.{firing, first_shared, effects_of, IsRound}
use Rattle.plus_model.specs.Running.{rates, moved, GoesOn, JustAfter, holding, Settled, first_coupled}
use Rattle.plus_model.specs.Piece.{IsStraight, NoRoot, after}
use Rattle.plus_model.specs.Live.{live}
use Rattle.plus_model.specs.Trajectory.{until, at_until, event_holds, literals, first_view, Trajectory, IsWorked, ActMayFollow, RunMayFollow, EnterMayFollow}
use Rattle.plus_model.specs.History.{View}
use Rattle.rows.specs.Model.Tank.{tank_of, timed_tank, timed_plan, timed_history, begun, brimming, shut, rested, at_five, tank, tank_plan, tank_history, no_rates, fill_rates, started, waited, opened, filled, stopped, ended, open_valve}
use Rattle.plus_model.proofs.Decide.{AllStraight, running_after, goes_on_is}
use Rattle.plus_model.proofs.Truth.{after_is, from_just_after}
use Rattle.plus_model.proofs.Search.{OneTruth, live_truth, IsCalm, stretch_begins, moved-zero}

-- the one process has no comparison
straight : (ts : List Timed) (i : State) (g : Condition) → (s : State) (rs : List Fraction) → AllStraight (tank_of ts i g) s rs
straight ts i g s rs zero p e = subst (λ o. IsSomeAnd o (λ (q : Process). IsStraight q.condition s rs)) e tt
straight ts i g s rs (suc k) p e = cc

-- at these rates exactly the processes run that the test finds
settles : (ts : List Timed) (i : State) (g : Condition) → (s : State) (R : List ℕ) (first own : List Fraction) → rates (tank_of ts i g) s (holding (tank_of ts i g) s) ≡ Ok first → running_after (tank_of ts i g) s first ≡ R → rates (tank_of ts i g) s R ≡ Ok own → running_after (tank_of ts i g) s own ≡ R → Settled (tank_of ts i g) s R own
settles ts i g s R first own a b c d = record {
  choice = record { first = first; first_is = a; chosen = subst (GoesOn (tank_of ts i g) s first) b (goes_on_is (tank_of ts i g) s first (straight ts i g s first)) };
  own_is = c;
  confirmed = subst (GoesOn (tank_of ts i g) s own) d (goes_on_is (tank_of ts i g) s own (straight ts i g s own));
}

-- one truth of the process, which has no comparison
process_truth : (ts : List Timed) (i : State) (g : Condition) → (s : State) (rs : List Fraction) (a b : Fraction) (k : ℕ) (p : Process) → slice_get (tank_of ts i g).processes k ≡ Some p → OneTruth p.condition s rs a b
process_truth ts i g s rs a b zero p e = subst (λ o. IsSomeAnd o (λ (q : Process). OneTruth q.condition s rs a b)) e (live_truth (Atom 0 true) s rs a b alive)
  where
    decided : (b' : Bool) → NoRoot (if b' then Always else Never) s rs a b
    decided true = tt
    decided false = tt

    alive : NoRoot (live (Atom 0 true) s) s rs a b
    alive = decided (atom_of s 0)
process_truth ts i g s rs a b (suc k) p e = cc

-- the event, where its comparison is decided away or has no root
event_truth : (ts : List Timed) (i : State) (g : Condition) → (s : State) (rs : List Fraction) (a b : Fraction) → NoRoot (live (Both (Atom 0 true) (Both at_five Always)) s) s rs a b → (k : ℕ) (e : Event) → slice_get (tank_of ts i g).events k ≡ Some e → OneTruth e.condition s rs a b
event_truth ts i g s rs a b n zero e d = subst (λ o. IsSomeAnd o (λ (q : Event). OneTruth q.condition s rs a b)) d (live_truth (Both (Atom 0 true) (Both at_five Always)) s rs a b n)
event_truth ts i g s rs a b n (suc k) e d = cc

-- the event does not hold just after
event_none : (ts : List Timed) (i : State) (g : Condition) → (s : State) (rs : List Fraction) → IsStraight (Both (Atom 0 true) (Both at_five Always)) s rs → after (Both (Atom 0 true) (Both at_five Always)) s rs ≡ false → (k : ℕ) (e : Event) → slice_get (tank_of ts i g).events k ≡ Some e → JustAfter s rs e.condition → ⊥
event_none ts i g s rs n f zero e d = subst (λ o. IsSomeAnd o (λ (q : Event). JustAfter s rs q.condition → ⊥)) d
    (λ j. let t = from_just_after s rs (Both (Atom 0 true) (Both at_five Always)) _ (after_is (Both (Atom 0 true) (Both at_five Always)) s rs n) j in cc (t, f))
event_none ts i g s rs n f (suc k) e d = cc

calm_at : (ts : List Timed) (i : State) (g : Condition) → (s : State) (R : List ℕ) (rs : List Fraction) (b : Fraction) → NoRoot (live (Both (Atom 0 true) (Both at_five Always)) s) s rs (whole (pos 0)) b → IsStraight (Both (Atom 0 true) (Both at_five Always)) s rs → after (Both (Atom 0 true) (Both at_five Always)) s rs ≡ false → running_after (tank_of ts i g) s rs ≡ R → IsCalm (tank_of ts i g) s R rs (whole (pos 0)) b
calm_at ts i g s R rs b n w f r = record {
  events = event_truth ts i g s rs (whole (pos 0)) b n;
  processes = process_truth ts i g s rs (whole (pos 0)) b;
  none = λ k e d j. event_none ts i g s rs w f k e d (subst (λ t. JustAfter t rs e.condition) (moved-zero s rs) j);
  on = subst (λ t. GoesOn (tank_of ts i g) t rs R) (sym (moved-zero s rs)) (subst (GoesOn (tank_of ts i g) s rs) r (goes_on_is (tank_of ts i g) s rs (straight ts i g s rs)));
}

-- ---- the parts, one after the other
run_first : RunMayFollow tank (until tank tank_plan (first_view tank)) (first_view tank) []
unfolding firing literals rates over gcd gcd_within first_coupled compared
run_first = record {
  still = refl;
  later = record { cross = omega (arith, ints) };
  rate = no_rates;
  settled = settles _ _ _ started [] no_rates no_rates refl refl refl refl;
  uncoupled = refl;
}

abbrev after_first : View
after_first = record { time = whole (pos 0); state = started; fired = []; running = Some []; acted = 0 }

enter_one : EnterMayFollow tank (until tank tank_plan after_first) after_first [] (whole (pos 1)) waited (literals tank (whole (pos 1)) waited)
unfolding firing literals rates over gcd gcd_within compared
enter_one = record {
  rate = no_rates;
  rate_is = refl;
  later = record { cross = omega (arith, ints) };
  within = record { cross = omega (arith, ints) };
  stretch = stretch_begins tank started [] no_rates _ (calm_at _ _ _ started [] no_rates _ tt (tt, (tt, tt)) refl refl);
  arrival_is = refl;
  after_is = refl;
  cause = at_until refl;
}

abbrev entered : State
entered = literals tank (whole (pos 1)) waited

abbrev at_one : View
at_one = record { time = whole (pos 1); state = entered; fired = []; running = None; acted = 0 }

act_one : ActMayFollow tank tank_plan at_one 0 opened
unfolding firing literals over gcd gcd_within compared moved joint
act_one = record { action = open_valve; line = refl; due = refl; acts = record { still = refl; may = refl; effect = refl } }

abbrev acted_one : View
acted_one = record { time = whole (pos 1); state = opened; fired = []; running = None; acted = 1 }

run_second : RunMayFollow tank (until tank tank_plan acted_one) acted_one (0 ∷ [])
unfolding firing literals rates moved over gcd gcd_within first_coupled compared ◌+ℚ◌ ◌-ℚ◌ ◌*ℚ◌
run_second = record {
  still = refl;
  later = record { cross = omega (arith, ints) };
  rate = fill_rates;
  settled = settles _ _ _ opened (0 ∷ []) fill_rates fill_rates refl refl refl refl;
  uncoupled = refl;
}

abbrev after_second : View
after_second = record { time = whole (pos 1); state = opened; fired = []; running = Some (0 ∷ []); acted = 1 }

-- the level is below 5 up to 7/2
two_above : whole (pos 0) <ℚ whole (pos 2)
unfolding over gcd gcd_within
two_above = record { cross = omega (arith, ints) }

not_yet : (v m r q : Fraction) → v ≡ whole (pos 0) → m ≡ whole (pos 2) → q *ℚ whole (pos 2) ≡ whole (pos 5) → r <ℚ q → v +ℚ m *ℚ r ≡ whole (pos 5) +ℚ whole (pos 0) *ℚ r → ⊥
not_yet v m r q e f g l h =
    let k = *ℚ-lt r q (whole (pos 2)) l two_above in
    let d : r *ℚ whole (pos 2) ≡ whole (pos 5) = ringℚ (r ∷ []) (var 0 ⊗ num (pos 2)) (num (pos 0) ⊕ num (pos 2) ⊗ var 0) refl ∙ sym (ap (λ z. z +ℚ whole (pos 2) *ℚ r) e) ∙ sym (ap (λ z. v +ℚ z *ℚ r) f) ∙ h ∙ ringℚ (r ∷ []) (num (pos 5) ⊕ num (pos 0) ⊗ var 0) (num (pos 5)) refl in
    <ℚ_irrefl (whole (pos 5)) (subst (λ z. z <ℚ whole (pos 5)) d (subst (λ z. r *ℚ whole (pos 2) <ℚ z) g k))

enter_full : EnterMayFollow tank (until tank tank_plan after_second) after_second (0 ∷ []) (over (pos 7) 2) filled (literals tank (over (pos 7) 2) filled)
unfolding firing literals rates moved over gcd gcd_within compared ◌+ℚ◌ ◌-ℚ◌ ◌*ℚ◌
enter_full = record {
  rate = fill_rates;
  rate_is = refl;
  later = record { cross = omega (arith, ints) };
  within = record { cross = omega (arith, ints) };
  stretch = stretch_begins tank opened (0 ∷ []) fill_rates _ (calm_at _ _ _ opened (0 ∷ []) fill_rates _
      (λ r p l d h. not_yet (whole (pos 0) +ℚ whole (pos 0) *ℚ (whole (pos 1) -ℚ whole (pos 0))) (whole (pos 0) +ℚ whole (pos 2)) r (over (pos 7) 2 -ℚ whole (pos 1)) (same_cross _ _ refl) (same_cross _ _ refl) (same_cross _ _ refl) l h) (tt, (tt, tt)) refl refl);
  arrival_is = refl;
  after_is = refl;
  cause = event_holds (λ e. cc e);
}

abbrev full : State
full = literals tank (over (pos 7) 2) filled

round_full : IsRound tank [] full (0 ∷ []) stopped
unfolding firing literals rates moved over gcd gcd_within compared ◌+ℚ◌ ◌-ℚ◌ ◌*ℚ◌ first_shared effects_of joint
round_full = record { all = refl; some = λ e. cc e; fresh = refl; effect = refl }

abbrev emptied : View
emptied = record { time = over (pos 7) 2; state = stopped; fired = 0 ∷ []; running = None; acted = 1 }

run_third : RunMayFollow tank (until tank tank_plan emptied) emptied []
unfolding firing literals rates moved over gcd gcd_within first_coupled compared ◌+ℚ◌ ◌-ℚ◌ ◌*ℚ◌
run_third = record {
  still = refl;
  later = record { cross = omega (arith, ints) };
  rate = no_rates;
  settled = settles _ _ _ stopped [] no_rates no_rates refl refl refl refl;
  uncoupled = refl;
}

abbrev after_third : View
after_third = record { time = over (pos 7) 2; state = stopped; fired = 0 ∷ []; running = Some []; acted = 1 }

enter_last : EnterMayFollow tank (until tank tank_plan after_third) after_third [] (whole (pos 10)) ended (literals tank (whole (pos 10)) ended)
unfolding firing literals rates moved over gcd gcd_within compared ◌+ℚ◌ ◌-ℚ◌ ◌*ℚ◌
enter_last = record {
  rate = no_rates;
  rate_is = refl;
  later = record { cross = omega (arith, ints) };
  within = record { cross = omega (arith, ints) };
  stretch = stretch_begins tank stopped [] no_rates _ (calm_at _ _ _ stopped [] no_rates _ tt (tt, (tt, tt)) refl refl);
  arrival_is = refl;
  after_is = refl;
  cause = at_until refl;
}

at_end : IsWorked tank tank_plan (record { time = whole (pos 10); state = literals tank (whole (pos 10)) ended; fired = []; running = None; acted = 1 })
unfolding firing literals rates moved over gcd gcd_within compared ◌+ℚ◌ ◌-ℚ◌ ◌*ℚ◌
at_end = record { acted = tt; still = refl; moment = refl; over = refl }

goal_holds : holds tank.goal (literals tank (whole (pos 10)) ended) ≡ true
unfolding literals moved over gcd gcd_within compared ◌+ℚ◌ ◌-ℚ◌ ◌*ℚ◌
goal_holds = refl

one_ten : whole (pos 1) ≤ℚ whole (pos 10)
unfolding over gcd gcd_within
one_ten = record { cross = omega (arith, ints) }

pub tank_trajectory : Trajectory tank tank_plan tank_history
tank_trajectory = record {
  prefix = record {
    ordered = (one_ten, tt);
    rest = _;
    begins = refl;
    follow = (inr refl, run_first, (inr refl, enter_one, (inr refl, act_one, (inr refl, run_second, (inr refl, enter_full, (inr refl, round_full, (inr refl, run_third, (inr refl, enter_last, tt))))))));
  };
  closed = refl;
  worked = at_end;
  goal = goal_holds;
}

-- ---- the tank that a literal closes
run_begun : RunMayFollow timed_tank (until timed_tank timed_plan (first_view timed_tank)) (first_view timed_tank) (0 ∷ [])
unfolding firing literals rates moved over gcd gcd_within first_coupled compared ◌+ℚ◌ ◌-ℚ◌ ◌*ℚ◌
run_begun = record {
  still = refl;
  later = record { cross = omega (arith, ints) };
  rate = fill_rates;
  settled = settles _ _ _ begun (0 ∷ []) fill_rates fill_rates refl refl refl refl;
  uncoupled = refl;
}

abbrev filling : View
filling = record { time = whole (pos 0); state = begun; fired = []; running = Some (0 ∷ []); acted = 0 }

enter_brim : EnterMayFollow timed_tank (until timed_tank timed_plan filling) filling (0 ∷ []) (over (pos 5) 2) brimming shut
unfolding firing literals rates moved over gcd gcd_within compared ◌+ℚ◌ ◌-ℚ◌ ◌*ℚ◌
enter_brim = record {
  rate = fill_rates;
  rate_is = refl;
  later = record { cross = omega (arith, ints) };
  within = record { cross = omega (arith, ints) };
  stretch = stretch_begins timed_tank begun (0 ∷ []) fill_rates _ (calm_at _ _ _ begun (0 ∷ []) fill_rates _
      (λ r p l d h. not_yet (whole (pos 0)) (whole (pos 0) +ℚ whole (pos 2)) r (over (pos 5) 2 -ℚ whole (pos 0)) refl (same_cross _ _ refl) (same_cross _ _ refl) l h) (tt, (tt, tt)) refl refl);
  arrival_is = refl;
  after_is = refl;
  cause = at_until refl;
}

abbrev shut_view : View
shut_view = record { time = over (pos 5) 2; state = shut; fired = []; running = None; acted = 0 }

run_shut : RunMayFollow timed_tank (until timed_tank timed_plan shut_view) shut_view []
unfolding firing literals rates moved over gcd gcd_within first_coupled compared ◌+ℚ◌ ◌-ℚ◌ ◌*ℚ◌
run_shut = record {
  still = refl;
  later = record { cross = omega (arith, ints) };
  rate = no_rates;
  settled = settles _ _ _ shut [] no_rates no_rates refl refl refl refl;
  uncoupled = refl;
}

abbrev resting : View
resting = record { time = over (pos 5) 2; state = shut; fired = []; running = Some []; acted = 0 }

enter_three : EnterMayFollow timed_tank (until timed_tank timed_plan resting) resting [] (whole (pos 3)) rested (literals timed_tank (whole (pos 3)) rested)
unfolding firing literals rates moved over gcd gcd_within compared ◌+ℚ◌ ◌-ℚ◌ ◌*ℚ◌
enter_three = record {
  rate = no_rates;
  rate_is = refl;
  later = record { cross = omega (arith, ints) };
  within = record { cross = omega (arith, ints) };
  stretch = stretch_begins timed_tank shut [] no_rates _ (calm_at _ _ _ shut [] no_rates _ tt (tt, (tt, tt)) refl refl);
  arrival_is = refl;
  after_is = refl;
  cause = at_until refl;
}

timed_end : IsWorked timed_tank timed_plan (record { time = whole (pos 3); state = literals timed_tank (whole (pos 3)) rested; fired = []; running = None; acted = 0 })
unfolding firing literals rates moved over gcd gcd_within compared ◌+ℚ◌ ◌-ℚ◌ ◌*ℚ◌
timed_end = record { acted = tt; still = refl; moment = refl; over = refl }

timed_goal : holds timed_tank.goal (literals timed_tank (whole (pos 3)) rested) ≡ true
unfolding literals moved over gcd gcd_within compared ◌+ℚ◌ ◌-ℚ◌ ◌*ℚ◌
timed_goal = refl

pub timed_trajectory : Trajectory timed_tank timed_plan timed_history
timed_trajectory = record {
  prefix = record {
    ordered = tt;
    rest = _;
    begins = refl;
    follow = (inr refl, run_begun, (inr refl, enter_brim, (inr refl, run_shut, (inr refl, enter_three, tt))));
  };
  closed = refl;
  worked = timed_end;
  goal = timed_goal;
}
