-- What settling asks is computed.
use Rattle.std.proofs.Common.{refl, inl, inr, arith}
use Rattle.std.proofs.lemmas.Int.{ints}
use Rattle.plus_fraction.specs.Gcd.{gcd, gcd_within}
use Rattle.plus_fraction.specs.Fraction.{over, ◌+ℚ◌, ◌-ℚ◌, ◌*ℚ◌, neg_ℚ, ◌<ℚ◌, compared}
use Rattle.plus_model.specs.Running.{rates, first_coupled}
use Rattle.plus_model.proofs.Moments.{not_below}
use Rattle.rows.specs.Model.Rises.{n}
use Rattle.plus_state.specs.Tested.{AllPass, FirstFailing}
use Rattle.plus_state.specs.Asked as state
use Rattle.plus_state.specs.Asked.{node_of, operation, NodeFits}
use Rattle.plus_state.specs.Tests.{tests_of, decided}
use Rattle.plus_crossing.specs.Asked.{numbered}
use Rattle.plus_crossing.specs.Pieces.{op_asks, asks_both}
use Rattle.plus_crossing.specs.Conds.{asks_open, asks_sides}
use Rattle.plus_settle.specs.Steps.{Passes, owned}
use Rattle.plus_settle.specs.Members.{soon}
use Rattle.plus_settle.specs.Rates.{rate_steps, rates_steps}
use Rattle.plus_settle.specs.Confirms.{soon_steps, go_steps}
use Rattle.plus_settle.specs.Settles.{running_soon, own_then, members_then, first_then, settle_steps}
use Rattle.rows.specs.Tested.Settling.{SettleRows, SettleStops, GoRows}

nine_ten : n 9 <ℚ n 10
unfolding over gcd gcd_within
nine_ten = record { cross = omega (arith, ints) }

pub settle_rows : SettleRows
unfolding settle_steps first_then members_then own_then running_soon rates_steps rate_steps soon_steps go_steps soon owned rates first_coupled tests_of decided node_of operation state.sides numbered op_asks asks_both asks_open asks_sides AllPass Passes NodeFits over gcd gcd_within compared ◌+ℚ◌ ◌-ℚ◌ ◌*ℚ◌ neg_ℚ
settle_rows = record {
  runs = refl;
  runs_passes = (record { cross = omega (arith, ints) }, (record { cross = omega (arith, ints) }, (record { cross = omega (arith, ints) }, (record { cross = omega (arith, ints) }, (record { cross = omega (arith, ints) }, (record { cross = omega (arith, ints) }, (record { cross = omega (arith, ints) }, (record { cross = omega (arith, ints) }, (record { cross = omega (arith, ints) }, tt)))))))));
  rests = refl;
  falls = refl;
  nothing = refl;
}

pub settle_stops : SettleStops
unfolding settle_steps first_then members_then own_then running_soon rates_steps rate_steps soon_steps go_steps soon owned rates first_coupled tests_of decided node_of operation state.sides numbered op_asks asks_both asks_open asks_sides FirstFailing Passes NodeFits over gcd gcd_within compared ◌+ℚ◌ ◌-ℚ◌ ◌*ℚ◌ neg_ℚ
settle_stops = record {
  condition = inl (not_below (n 9) (n 10) nine_ten, refl);
  amount = inr (record { cross = omega (arith, ints) }, inl (not_below (n 9) (n 10) nine_ten, refl));
  not_linear = inr (record { cross = omega (arith, ints) }, inr (record { cross = omega (arith, ints) }, inl (λ e. cc e, refl)));
  lacks = inl (λ e. e, refl);
  stops = inr (record { cross = omega (arith, ints) }, inr (record { cross = omega (arith, ints) }, inl (λ e. e, refl)));
  starts = inr (record { cross = omega (arith, ints) }, inr (record { cross = omega (arith, ints) }, inr (record { cross = omega (arith, ints) }, inl (λ e. e, refl))));
  reads = inr (record { cross = omega (arith, ints) }, inr (record { cross = omega (arith, ints) }, inr (record { cross = omega (arith, ints) }, inr (record { cross = omega (arith, ints) }, inl (λ e. e, refl)))));
}

pub go_rows : GoRows
unfolding soon_steps go_steps soon owned decided numbered op_asks asks_both asks_open asks_sides FirstFailing Passes NodeFits over gcd gcd_within compared ◌+ℚ◌ ◌-ℚ◌ ◌*ℚ◌
go_rows = record {
  goes_on = refl;
  sums = refl;
  differs = refl;
  not_linear = inl (λ e. cc e, refl);
}
