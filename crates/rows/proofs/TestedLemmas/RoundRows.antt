-- What a round asks is computed.
use Rattle.std.proofs.Common.{refl, inl, inr, arith}
use Rattle.std.proofs.lemmas.Int.{ints}
use Rattle.plus_fraction.specs.Gcd.{gcd, gcd_within}
use Rattle.plus_fraction.specs.Fraction.{over, ◌+ℚ◌, ◌*ℚ◌, compared}
use Rattle.plus_model.specs.Firing.{firing, effects_of}
use Rattle.plus_model.proofs.Moments.{not_below}
use Rattle.rows.specs.Model.Rises.{n}
use Rattle.plus_state.specs.Tested.{AllPass, FirstFailing}
use Rattle.plus_state.specs.Asked as state
use Rattle.plus_state.specs.Asked.{node_of, operation, NodeFits}
use Rattle.plus_state.specs.Tests.{tests_of}
use Rattle.plus_state.specs.Steps.{need, need_divisor, amount_steps, effect_steps, end_steps, joint_steps}
use Rattle.plus_cascade.specs.Fired.{first_repeated}
use Rattle.plus_cascade.specs.Steps.{Passes, fire_steps, round_steps}
use Rattle.rows.specs.Tested.Rounds.{RoundRows, RoundStops}

pub round_rows : RoundRows
unfolding round_steps fire_steps joint_steps effect_steps amount_steps end_steps need need_divisor tests_of node_of operation state.sides first_repeated firing effects_of AllPass Passes NodeFits over gcd gcd_within compared ◌+ℚ◌ ◌*ℚ◌
round_rows = record {
  over = refl;
  over_passes = (record { cross = omega (arith, ints) }, tt);
  fires = refl;
  fires_passes = (record { cross = omega (arith, ints) }, (record { cross = omega (arith, ints) }, (record { cross = omega (arith, ints) }, tt)));
}

pub round_stops : RoundStops
unfolding round_steps fire_steps joint_steps effect_steps amount_steps end_steps need need_divisor tests_of node_of operation state.sides first_repeated firing effects_of FirstFailing Passes NodeFits over gcd gcd_within compared ◌+ℚ◌ ◌*ℚ◌
round_stops = record {
  condition = inl (not_below (n 9) (n 10) (record { cross = omega (arith, ints) }), refl);
  effect = inr (record { cross = omega (arith, ints) }, inr (record { cross = omega (arith, ints) }, inl (not_below (n 9) (n 10) (record { cross = omega (arith, ints) }), refl)));
  repeated = inl (λ p. p, refl);
  no_value = inl (λ p. p, refl);
  clash = inl (λ p. p, refl);
}
