use Rattle.std.proofs.Common.{refl}
use Rattle.plus_fraction.specs.Fraction.{over, compared}
use Rattle.plus_fraction.specs.Gcd.{gcd, gcd_within}
use Rattle.plus_state.specs.Asked.{node_of, sides, operation}
use Rattle.plus_state.specs.Tests.{tests_of}
use Rattle.plus_state.proofs.laws.condition_rows.Goals as goal

pub returns : goal.returns
unfolding tests_of sides operation node_of over gcd gcd_within compared
returns c = record { all_asked = refl; none_asked = refl; inner_dropped = refl; no_value = refl; no_divisor = refl }
