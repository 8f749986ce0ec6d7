use Rattle.std.proofs.Common.{arith, ◌∙◌, sym, ap, SFits, w64, to_z, of_z, to_z-of_z, unsigned_abs, ℤ}
use Rattle.std.proofs.lemmas.Int.{ints}
use Rattle.plus_fraction.specs.GcdLemmas.{gcd-one}
use Rattle.plus_fraction.specs.Fraction.{whole}
use Rattle.plus_fraction.proofs.FractionBase.{same_parts}
use Rattle.plus_number.proofs.FracLemmas.{whole-top, whole-bottom, fits_small}
use Rattle.plus_number.proofs.frac.Frac64.whole.Goals as goal
use Rattle.plus_number.proofs.frac.Frac64.whole.Goals.{then-n-gt9223372036854775807-via-then-n-gt9223372036854775807, then-n-gt9223372036854775807-via-else-n-gt9223372036854775807+then-n-ltminus9223372036854775807}

pub returns-then-n-gt9223372036854775807 : goal.returns-then-n-gt9223372036854775807
returns-then-n-gt9223372036854775807 c h =
    let e = ap unsigned_abs (whole-top c.args.n) in
    elim c.then-n-gt9223372036854775807.branch [
      | then-n-gt9223372036854775807-via-then-n-gt9223372036854775807 w ↦ omega (arith, ints)
      | then-n-gt9223372036854775807-via-else-n-gt9223372036854775807+then-n-ltminus9223372036854775807 w ↦ omega (arith, ints)
    ]

pub invariant_of-result : goal.invariant_of-result
invariant_of-result c = record {
  top_fits = omega (arith, ints);
  bottom_fits = omega arith;
  positive = omega arith;
  reduced = gcd-one _;
}

pub returns : goal.returns
returns c =
    let f : SFits w64 c.args.n = fits_small c.args.n (omega (arith, ints)) in
    same_parts _ (whole c.args.n) (ap (λ (z : ℤ). to_z w64 (of_z w64 z)) (to_z-of_z c.ranges.n) ∙ to_z-of_z f ∙ sym (whole-top c.args.n)) (sym (whole-bottom c.args.n))
