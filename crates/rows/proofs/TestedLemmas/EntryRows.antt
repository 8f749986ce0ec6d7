-- The rows, by computation.
use Rattle.std.proofs.Common.{refl}
use Rattle.plus_fraction.specs.Fraction.{compared, over, ◌+ℚ◌, ◌-ℚ◌, ◌*ℚ◌, ◌/ℚ◌}
use Rattle.plus_fraction.specs.Gcd.{gcd, gcd_within}
use Rattle.plus_model.specs.Firing.{firing, first_shared, effects_of}
use Rattle.plus_model.specs.Running.{rates, moved, first_coupled}
use Rattle.plus_state.specs.Asked as state
use Rattle.plus_state.specs.Tests.{tests_of, decided}
use Rattle.plus_state.specs.Steps.{need as state_need, need_divisor, amount_steps, effect_steps, end_steps as joint_end_steps, joint_steps}
use Rattle.plus_cascade.specs.Fired.{first_repeated}
use Rattle.plus_cascade.specs.Steps.{fire_steps, round_steps}
use Rattle.plus_crossing.specs.Asked.{numbered}
use Rattle.plus_crossing.specs.Conds.{asks_open, asks_sides}
use Rattle.plus_crossing.specs.Moves.{fluent_nodes}
use Rattle.plus_crossing.specs.Next.{cross_sides}
use Rattle.plus_crossing.specs.Pieces.{op_asks, op_piece, asks_both}
use Rattle.plus_crossing.specs.Roots.{meets_later, root_asks}
use Rattle.plus_settle.specs.Confirms.{soon_steps, go_steps}
use Rattle.plus_settle.specs.Members.{soon}
use Rattle.plus_settle.specs.Rates.{rate_steps, rates_steps}
use Rattle.plus_settle.specs.Settles.{running_soon, own_then, members_then, first_then, settle_steps}
use Rattle.plus_settle.specs.Steps.{owned}
use Rattle.plus_stretch.specs.Crossings.{all_roots}
use Rattle.plus_stretch.specs.StretchTests.{root_tests, here_tests, crossing_tests, stretch_tests}
use Rattle.plus_timeline.specs.Asked.{fire_tests, round_tests, act_tests, goal_tests, closing_tests, advance_tests, asked}
use Rattle.rows.specs.Tested.Entries.{ClosingRows, RoundRows, LineRows, StretchRows}

pub closing_rows : ClosingRows
unfolding first_repeated fire_steps round_steps numbered asks_open asks_sides fluent_nodes cross_sides op_asks op_piece asks_both meets_later root_asks soon_steps go_steps soon rate_steps rates_steps running_soon own_then members_then first_then settle_steps owned all_roots root_tests here_tests crossing_tests stretch_tests fire_tests round_tests act_tests goal_tests closing_tests advance_tests asked firing first_shared effects_of rates moved first_coupled tests_of decided state_need need_divisor amount_steps effect_steps joint_end_steps joint_steps state.sides state.operation state.node_of compared over gcd gcd_within ◌+ℚ◌ ◌-ℚ◌ ◌/ℚ◌ ◌*ℚ◌
closing_rows = record {
  closes = refl;
  counts = refl;
  waits = refl;
  waits_behind_an_end = refl;
}

pub round_rows : RoundRows
unfolding first_repeated fire_steps round_steps numbered asks_open asks_sides fluent_nodes cross_sides op_asks op_piece asks_both meets_later root_asks soon_steps go_steps soon rate_steps rates_steps running_soon own_then members_then first_then settle_steps owned all_roots root_tests here_tests crossing_tests stretch_tests fire_tests round_tests act_tests goal_tests closing_tests advance_tests asked firing first_shared effects_of rates moved first_coupled tests_of decided state_need need_divisor amount_steps effect_steps joint_end_steps joint_steps state.sides state.operation state.node_of compared over gcd gcd_within ◌+ℚ◌ ◌-ℚ◌ ◌/ℚ◌ ◌*ℚ◌
round_rows = record {
  fires_both = refl;
  repeats = refl;
  before_the_line = refl;
}

pub line_rows : LineRows
unfolding first_repeated fire_steps round_steps numbered asks_open asks_sides fluent_nodes cross_sides op_asks op_piece asks_both meets_later root_asks soon_steps go_steps soon rate_steps rates_steps running_soon own_then members_then first_then settle_steps owned all_roots root_tests here_tests crossing_tests stretch_tests fire_tests round_tests act_tests goal_tests closing_tests advance_tests asked firing first_shared effects_of rates moved first_coupled tests_of decided state_need need_divisor amount_steps effect_steps joint_end_steps joint_steps state.sides state.operation state.node_of compared over gcd gcd_within ◌+ℚ◌ ◌-ℚ◌ ◌/ℚ◌ ◌*ℚ◌
line_rows = record {
  acts = refl;
  precondition = refl;
  unknown = refl;
  wrong = refl;
  goal = refl;
  no_goal = refl;
}

pub stretch_rows : StretchRows
unfolding first_repeated fire_steps round_steps numbered asks_open asks_sides fluent_nodes cross_sides op_asks op_piece asks_both meets_later root_asks soon_steps go_steps soon rate_steps rates_steps running_soon own_then members_then first_then settle_steps owned all_roots root_tests here_tests crossing_tests stretch_tests fire_tests round_tests act_tests goal_tests closing_tests advance_tests asked firing first_shared effects_of rates moved first_coupled tests_of decided state_need need_divisor amount_steps effect_steps joint_end_steps joint_steps state.sides state.operation state.node_of compared over gcd gcd_within ◌+ℚ◌ ◌-ℚ◌ ◌/ℚ◌ ◌*ℚ◌
stretch_rows = record {
  quiet = refl;
  momentless = refl;
  at_once = refl;
  to_a_literal = refl;
  at_a_literal = refl;
  set_ends = refl;
  all_events = refl;
  not_linear = refl;
}
