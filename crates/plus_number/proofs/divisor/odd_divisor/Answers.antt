use Rattle.std.proofs.Common.{ℕ, arith, sym, ◌∙◌, ap}
use Rattle.plus_fraction.specs.Gcd.{gcd}
use Rattle.plus_number.proofs.DivisorLemmas.{gcd_same}
use Rattle.plus_number.proofs.divisor.odd_divisor.Goals as goal

pub returns : goal.returns
returns c =
    sym (gcd_same c.loop-x.y) ∙ ap (λ (n : ℕ). gcd n c.loop-x.y) (omega arith) ∙ c.loop-x.invariant.same_divisor
