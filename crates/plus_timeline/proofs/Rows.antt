-- The worked row, by computation.
use Rattle.std.proofs.Common.{refl}
use Rattle.plus_fraction.specs.Fraction.{compared, over, ◌+ℚ◌, ◌-ℚ◌, ◌*ℚ◌, ◌/ℚ◌}
use Rattle.plus_fraction.specs.Gcd.{gcd, gcd_within}
use Rattle.plus_model.specs.Firing.{firing}
use Rattle.plus_model.specs.Running.{rates, moved}
use Rattle.plus_state.specs.Asked as state
use Rattle.plus_state.specs.Tests.{tests_of, decided}
use Rattle.plus_crossing.specs.Asked.{numbered}
use Rattle.plus_crossing.specs.Pieces.{op_asks, asks_both}
use Rattle.plus_crossing.specs.Roots.{meets_later, root_asks}
use Rattle.plus_crossing.specs.Conds.{asks_open, asks_sides}
use Rattle.plus_crossing.specs.Next.{cross_sides}
use Rattle.plus_crossing.specs.Moves.{fluent_nodes}
use Rattle.plus_settle.specs.Confirms.{soon_steps, go_steps}
use Rattle.plus_settle.specs.Members.{soon}
use Rattle.plus_settle.specs.Steps.{owned as settle_owned}
use Rattle.plus_stretch.specs.Crossings.{all_roots}
use Rattle.plus_stretch.specs.StretchTests.{root_tests, stretch_tests, here_tests, crossing_tests}
use Rattle.plus_timeline.specs.Asked.{advance_tests, asked}
use Rattle.plus_timeline.specs.Rows.{RampRow}

pub ramp_row : RampRow
unfolding asked advance_tests stretch_tests root_tests here_tests crossing_tests all_roots firing rates moved tests_of decided numbered op_asks asks_both meets_later root_asks asks_open asks_sides cross_sides fluent_nodes soon_steps go_steps soon settle_owned state.sides compared over gcd gcd_within ◌+ℚ◌ ◌-ℚ◌ ◌/ℚ◌ ◌*ℚ◌
ramp_row = refl
