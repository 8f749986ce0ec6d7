-- The rows of names, live comparisons, lines in order and cascades are computed.
use Rattle.std.proofs.Common.{◌≡◌, [], ◌∷◌, refl, pos, arith}
use Rattle.std.proofs.lemmas.Int.{ints}
use Rattle.std.specs.Prelude.{Some, None}
use Rattle.plus_fraction.specs.Gcd.{gcd, gcd_within}
use Rattle.plus_fraction.specs.Fraction.{over, whole}
use Rattle.plus_model.specs.Joint.{joint}
use Rattle.plus_model.specs.Firing.{firing, first_shared, effects_of}
use Rattle.plus_model.proofs.Moments.{not_below}
use Rattle.rows.specs.Time.Lists.{NameRows, LiveRows, OrderRows, CascadeRows}

pub name_rows : NameRows
name_rows = record {
  number = refl;
  fluent = refl;
  sum = refl;
  difference = refl;
  product = refl;
  quotient = refl;
  cancelled = refl;
  nested = refl;
  rates = refl;
}

pub live_rows : LiveRows
live_rows = record {
  atom = refl;
  not_atom = refl;
  comparison = refl;
  beside_true = refl;
  beside_false = refl;
  or_true = refl;
  or_false = refl;
  both = refl;
  either = refl;
}

pub order_rows : OrderRows
unfolding over gcd gcd_within
order_rows = record {
  at_once = (record { cross = omega (arith, ints) }, (record { cross = omega (arith, ints) }, tt));
  goes_back = λ o. not_below (whole (pos 3)) (whole (pos 4)) (record { cross = omega (arith, ints) }) o.1.0;
  ends_before = λ o. not_below (whole (pos 3)) (whole (pos 4)) (record { cross = omega (arith, ints) }) o.1.0;
  after_end = λ o. o.1;
  two_ends = λ o. o.1;
}

pub cascade_rows : CascadeRows
unfolding firing first_shared effects_of joint
cascade_rows = record {
  whole = (
    record { all = refl; some = λ e. cc e; fresh = refl; effect = refl },
    (record { all = refl; some = λ e. cc e; fresh = refl; effect = refl }, (refl, refl)),
  );
  not_over = λ c. let e : 0 ∷ 1 ∷ [] ≡ [] = c.0 in cc e;
  cut_off = λ c. let e : 2 ∷ [] ≡ [] = c.1.0 in cc e;
  one_alone = λ c. let e : 0 ∷ [] ≡ 0 ∷ 1 ∷ [] = c.0.all in cc e;
  again = λ c. let e : Some 2 ≡ None = c.0.fresh in cc e;
  endless = λ c. let e : Some 3 ≡ None = c.1.0.fresh in cc e;
}
