use Rattle.std.proofs.Common.{◌≡◌, ℕ, ◌*◌, ◌%◌, ◌^◌, ◌<◌, arith, sym, ◌∙◌, ap, ap₂, subst}
use Rattle.std.proofs.Math.Nat.{mod-eq_of_lt}
use Rattle.plus_fraction.specs.Gcd.{gcd}
use Rattle.plus_fraction.specs.GcdLemmas.{gcd-mod, gcd-zero, gcd_pos}
use Rattle.plus_number.proofs.DivisorLemmas.{odd_above, gcd_swap, gcd-set_aside, gcd_le}
use Rattle.plus_number.proofs.divisor.narrow_divisor.Goals as goal

pub returns-then-b-eq0-clause-is_gcd : goal.returns-then-b-eq0-clause-is_gcd
returns-then-b-eq0-clause-is_gcd c = sym (gcd-zero c.args.a c.args.b (omega arith))

pub returns-then-rest-eq0-clause-is_gcd : goal.returns-then-rest-eq0-clause-is_gcd
returns-then-rest-eq0-clause-is_gcd c =
    sym (gcd-zero c.args.b (c.args.a % c.args.b) (omega arith)) ∙ gcd-mod c.args.a c.args.b

pub odd_divisor-requires : goal.odd_divisor-requires
odd_divisor-requires c = record {
  first = odd_above (c.args.a % c.args.b) (omega arith) (omega (arith, c.ranges.b.fits));
  second = odd_above c.args.b (omega arith) c.ranges.b.fits;
}

pub returns : goal.returns
returns c =
    let a = c.args.a in
    let b = c.args.b in
    let some : 0 < b = omega arith in
    let same : c.odd_divisor.result * 2 ^ c.min.result ≡ gcd a b =
    ap₂ (λ (g : ℕ) (n : ℕ). g * 2 ^ n) c.odd_divisor.ensures c.min.ensures
    ∙ gcd-set_aside (a % b) b (omega arith) some (omega (arith, c.ranges.b.fits)) c.ranges.b.fits
    ∙ gcd_swap (a % b) b ∙ gcd-mod a b in
    let e : c.odd_divisor.result * 2 ^ c.min.result % 2 ^ 64 ≡ gcd a b =
    ap (λ (n : ℕ). n % 2 ^ 64) same ∙ mod-eq_of_lt (omega (arith, gcd_le a b some, c.ranges.b.fits)) in
    record { is_gcd = e; above = λ h. subst (λ (k : ℕ). 0 < k) (sym e) (gcd_pos a b h) }
