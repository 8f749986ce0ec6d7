use Rattle.std.proofs.Common.{arith, sym, ◌∙◌, subst, ℕ, ◌<◌}
use Rattle.plus_fraction.specs.GcdLemmas.{gcd-mod, gcd-zero, gcd_pos}
use Rattle.plus_number.proofs.divisor.common_divisor.Goals as goal

pub loop-y-preserved : goal.loop-y-preserved
loop-y-preserved c = gcd-mod c.loop-y.x c.loop-y.y ∙ c.loop-y.invariant

pub returns-then-y-eq0-clause-is_gcd : goal.returns-then-y-eq0-clause-is_gcd
returns-then-y-eq0-clause-is_gcd c = sym (gcd-zero c.loop-y.x c.loop-y.y (omega arith)) ∙ c.loop-y.invariant

pub returns-then-y-eq0-clause-above : goal.returns-then-y-eq0-clause-above
returns-then-y-eq0-clause-above c h = subst (λ (k : ℕ). 0 < k) (sym (sym (gcd-zero c.loop-y.x c.loop-y.y (omega arith)) ∙ c.loop-y.invariant)) (gcd_pos _ _ h)

pub returns-else-y-eq0-clause-is_gcd : goal.returns-else-y-eq0-clause-is_gcd
returns-else-y-eq0-clause-is_gcd c = c.narrow_divisor.ensures.is_gcd ∙ gcd-mod c.loop-y.x c.loop-y.y ∙ c.loop-y.invariant

pub returns-else-y-eq0-clause-above : goal.returns-else-y-eq0-clause-above
returns-else-y-eq0-clause-above c h = subst (λ (k : ℕ). 0 < k) (sym (c.narrow_divisor.ensures.is_gcd ∙ gcd-mod c.loop-y.x c.loop-y.y ∙ c.loop-y.invariant)) (gcd_pos _ _ h)
