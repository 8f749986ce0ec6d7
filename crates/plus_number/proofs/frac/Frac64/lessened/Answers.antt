use Rattle.std.proofs.Common.{arith, ap₂, subst}
use Rattle.std.proofs.lemmas.Int.{ints}
use Rattle.plus_number.specs.Frac.{fraction_of, IsFrac64}
use Rattle.plus_fraction.specs.Fraction.{Fraction, over, ◌-ℚ◌}
use Rattle.plus_number.specs.Exact.{Answers}
use Rattle.plus_number.proofs.FracLemmas.{same_bottom-sub}
use Rattle.plus_number.proofs.frac.Frac64.lessened.Goals as goal

pub returns-then-self-other : goal.returns-then-self-other
returns-then-self-other c =
    subst (λ (q : Fraction). Answers fraction_of IsFrac64 q c.over_bottom.result)
    (same_bottom-sub c.args.self c.args.other _ (omega arith) (omega (arith, ints))) c.over_bottom.ensures

pub returns-else-self-other : goal.returns-else-self-other
unfolding ◌-ℚ◌
returns-else-self-other c = subst (λ (q : Fraction). Answers fraction_of IsFrac64 q c.reduced.result) (ap₂ over (omega (arith, ints)) c.bottoms.ensures.value) c.reduced.ensures
