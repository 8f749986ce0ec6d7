use Rattle.std.proofs.Common.{refl}
use Rattle.plus_fraction.specs.Fraction.{over, compared}
use Rattle.plus_fraction.specs.Gcd.{gcd, gcd_within}
use Rattle.plus_state.specs.Asked.{node_of, sides, operation}
use Rattle.plus_state.specs.Tests.{tests_of}
use Rattle.plus_state.specs.Steps.{need, need_divisor, amount_steps, effect_steps, end_steps, joint_steps}
use Rattle.plus_state.proofs.laws.joint_rows.Goals as goal

pub returns : goal.returns
unfolding tests_of sides operation node_of need need_divisor amount_steps effect_steps end_steps joint_steps over gcd gcd_within compared
returns c = record { moves = refl; amount = refl; guarded = refl; conflict = refl; missing = refl; by_zero = refl; added = refl }
