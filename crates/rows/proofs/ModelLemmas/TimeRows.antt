-- The rows of rates, rounds, literals and lines are computed.
use Rattle.std.proofs.Common.{refl, ap₂, pos, arith}
use Rattle.std.proofs.lemmas.Int.{ints}
use Rattle.std.specs.Prelude.{Ok}
use Rattle.plus_fraction.specs.Gcd.{gcd, gcd_within}
use Rattle.plus_fraction.specs.Fraction.{over, whole, ◌+ℚ◌, ◌-ℚ◌, ◌*ℚ◌, ◌/ℚ◌, neg_ℚ, compared}
use Rattle.plus_fraction.proofs.FractionBase.{same_cross}
use Rattle.plus_model.specs.Joint.{joint}
use Rattle.plus_model.specs.Firing.{firing, first_shared, effects_of}
use Rattle.plus_model.specs.Running.{rates, moved, first_coupled}
use Rattle.plus_model.specs.Trajectory.{literals}
use Rattle.plus_model.proofs.Moments.{not_below}
use Rattle.rows.specs.Model.Times.{RateRows, RoundRows, TimeRows, three_rates, valued}

pub rate_rows : RateRows
unfolding rates moved first_coupled over gcd gcd_within ◌+ℚ◌ ◌-ℚ◌ ◌*ℚ◌ ◌/ℚ◌ neg_ℚ compared
rate_rows = record {
  hold = refl;
  none = refl;
  one = ap₂ (λ p q. Ok (three_rates p q (whole (pos 0)))) (same_cross _ _ refl) (same_cross _ _ refl);
  both = ap₂ (λ p q. Ok (three_rates p q (whole (pos 0)))) (same_cross _ _ refl) (same_cross _ _ refl);
  no_amount = refl;
  no_value = refl;
  first = refl;
  later = ap₂ valued (same_cross _ _ refl) (same_cross _ _ refl);
  uncoupled = refl;
  coupled = refl;
  first_named = refl;
  second_named = refl;
}

pub round_rows : RoundRows
unfolding firing first_shared effects_of joint
round_rows = record {
  none = refl;
  together = refl;
  next = refl;
  fresh = refl;
  repeats = refl;
  effects = refl;
  empty = (refl, refl);
  cascade = (
    record { all = refl; some = λ e. cc e; fresh = refl; effect = refl },
    (record { all = refl; some = λ e. cc e; fresh = refl; effect = refl }, (refl, refl)),
  );
  endless = refl;
}

pub time_rows : TimeRows
unfolding literals over gcd gcd_within compared
time_rows = record {
  set = refl;
  untouched = refl;
  cleared = refl;
  to_line = refl;
  to_literal = refl;
  past_literal = refl;
  now = refl;
  before_end = refl;
  to_end = refl;
  no_line = refl;
  last = refl;
  in_order = (record { cross = omega (arith, ints) }, (record { cross = omega (arith, ints) }, (record { cross = omega (arith, ints) }, tt)));
  goes_back = λ o. not_below (whole (pos 3)) (whole (pos 4)) (record { cross = omega (arith, ints) }) o.0;
  after_end = λ o. o;
}
