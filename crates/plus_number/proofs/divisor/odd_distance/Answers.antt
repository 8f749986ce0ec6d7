use Rattle.std.proofs.Common.{◌≡◌, ℕ, ◌/◌, ◌-◌, ◌%◌, ◌^◌, min, max, arith, ◌∙◌, ap₂}
use Rattle.plus_fraction.specs.Gcd.{gcd}
use Rattle.plus_number.proofs.DivisorLemmas.{odd_above, trailing-difference, gcd-step}
use Rattle.plus_number.proofs.divisor.odd_distance.Goals as goal

pub returns-clause-is_odd : goal.returns-clause-is_odd
returns-clause-is_odd c =
    let x = c.args.x in
    let y = c.args.y in
    let size : c.max.result - c.min.result ≡ max x y - min x y = omega (arith, c.max.ensures, c.min.ensures) in
    ap₂ (λ (n : ℕ) (k : ℕ). n / 2 ^ k % 2) size (trailing-difference x y c.requires.apart c.ranges.x.fits c.ranges.y.fits)
    ∙ odd_above (max x y - min x y) (omega (arith, c.requires.apart)) (omega (arith, c.ranges.x.fits, c.ranges.y.fits))

pub returns-clause-same_divisor : goal.returns-clause-same_divisor
returns-clause-same_divisor c =
    let x = c.args.x in
    let y = c.args.y in
    let size : c.max.result - c.min.result ≡ max x y - min x y = omega (arith, c.max.ensures, c.min.ensures) in
    ap₂ (λ (n : ℕ) (k : ℕ). gcd (n / 2 ^ k) (min x y)) size (trailing-difference x y c.requires.apart c.ranges.x.fits c.ranges.y.fits)
    ∙ gcd-step x y (omega (arith, c.requires.first, c.requires.second))
