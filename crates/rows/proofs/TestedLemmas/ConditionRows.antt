-- What is asked along rates is computed.
use Rattle.std.proofs.Common.{refl, inl, inr, arith}
use Rattle.std.proofs.lemmas.Int.{ints}
use Rattle.plus_fraction.specs.Gcd.{gcd, gcd_within}
use Rattle.plus_fraction.specs.Fraction.{over, ◌+ℚ◌, ◌-ℚ◌, ◌*ℚ◌, ◌/ℚ◌, ◌<ℚ◌, compared}
use Rattle.plus_model.proofs.Moments.{not_below}
use Rattle.rows.specs.Model.Rises.{n}
use Rattle.plus_state.specs.Tested.{AllPass, FirstFailing}
use Rattle.plus_state.specs.Asked.{NodeFits}
use Rattle.plus_state.specs.Tests.{decided}
use Rattle.plus_crossing.specs.Asked.{Passes, numbered}
use Rattle.plus_crossing.specs.Pieces.{op_asks, asks_both}
use Rattle.plus_crossing.specs.Roots.{meets_later, root_asks}
use Rattle.plus_crossing.specs.Conds.{asks_open, asks_sides}
use Rattle.plus_crossing.specs.Next.{cross_sides}
use Rattle.plus_crossing.specs.Moves.{fluent_nodes}
use Rattle.rows.specs.Tested.Conditions.{SoonRows, SoonStops, RootRows, RootStops, MoveRows}

pub soon_rows : SoonRows
unfolding AllPass Passes NodeFits decided numbered op_asks asks_both asks_open asks_sides over gcd gcd_within compared ◌+ℚ◌ ◌*ℚ◌ ◌/ℚ◌
soon_rows = record {
  bare = refl;
  sum = refl;
  product = refl;
  quotient = refl;
  undefined = refl;
  in_order = refl;
  decided = refl;
  sum_passes = (record { cross = omega (arith, ints) }, (record { cross = omega (arith, ints) }, tt));
  product_passes = (refl, (record { cross = omega (arith, ints) }, (record { cross = omega (arith, ints) }, tt)));
}

nine_ten : n 9 <ℚ n 10
unfolding over gcd gcd_within
nine_ten = record { cross = omega (arith, ints) }

nine_twelve : n 9 <ℚ n 12
unfolding over gcd gcd_within
nine_twelve = record { cross = omega (arith, ints) }

pub soon_stops : SoonStops
unfolding FirstFailing Passes NodeFits decided numbered op_asks asks_both asks_open asks_sides over gcd gcd_within compared ◌+ℚ◌ ◌*ℚ◌ ◌/ℚ◌
soon_stops = record {
  factor = inr (record { cross = omega (arith, ints) }, inr (record { cross = omega (arith, ints) }, inl (λ e. cc e, refl)));
  divisor = inl (λ e. cc e, refl);
  value = inr (refl, inl (not_below (n 9) (n 12) nine_twelve, refl));
  slope = inr (record { cross = omega (arith, ints) }, inr (record { cross = omega (arith, ints) }, inr (refl, inr (record { cross = omega (arith, ints) }, inl (not_below (n 9) (n 10) nine_ten, refl)))));
}

pub root_rows : RootRows
unfolding AllPass Passes NodeFits decided numbered op_asks asks_both asks_open cross_sides meets_later root_asks over gcd gcd_within compared ◌+ℚ◌ ◌-ℚ◌ ◌*ℚ◌ ◌/ℚ◌
root_rows = record {
  later = refl;
  before = refl;
  still = refl;
  passes = (record { cross = omega (arith, ints) }, (record { cross = omega (arith, ints) }, (record { cross = omega (arith, ints) }, tt)));
  roots = refl;
  no_root = refl;
  dead = refl;
}

pub root_stops : RootStops
unfolding FirstFailing Passes NodeFits decided numbered op_asks asks_both asks_open cross_sides meets_later root_asks over gcd gcd_within compared ◌+ℚ◌ ◌-ℚ◌ ◌*ℚ◌ ◌/ℚ◌
root_stops = record {
  far = inl (not_below (n 9) (n 10) nine_ten, refl);
  factor = inl (λ e. cc e, refl);
}

pub move_rows : MoveRows
unfolding AllPass FirstFailing NodeFits fluent_nodes over gcd gcd_within compared ◌+ℚ◌ ◌*ℚ◌
move_rows = record {
  nodes = refl;
  fit = (record { cross = omega (arith, ints) }, (record { cross = omega (arith, ints) }, tt));
  delay = inl (not_below (n 9) (n 10) nine_ten, refl);
  value = inr (record { cross = omega (arith, ints) }, inl (not_below (n 9) (n 10) nine_ten, refl));
}
