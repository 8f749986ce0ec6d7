use Rattle.std.proofs.Common.{◌*ℤ◌, pos, subst, refl, ◌≡◌}
use Rattle.plus_fraction.specs.GcdLemmas.{gcd_is}
use Rattle.plus_fraction.proofs.FractionBase.{same_cross}
use Rattle.plus_fraction.proofs.FractionLaws.{Is-over}
use Rattle.plus_fraction.proofs.laws.fractions_are_canonical.Goals as goal

pub returns-clause-gcd : goal.returns-clause-gcd
returns-clause-gcd c = gcd_is

pub returns-clause-equal : goal.returns-clause-equal
returns-clause-equal c = λ x y. (λ e. subst (λ z. x.top *ℤ pos z.bottom ≡ z.top *ℤ pos x.bottom) e refl, same_cross x y)

pub returns-clause-over : goal.returns-clause-over
returns-clause-over c = λ n d h. (Is-over n d h).cross
