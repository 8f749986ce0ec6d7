-- Counts are values.
use Rattle.std.specs.Prelude.{◌≡◌, ℕ, ◌<◌, ◌≤◌, ◌^◌, ◌/◌, pos, unsigned_abs}
use Rattle.std.proofs.Common.{ap, sym, ◌∙◌, refl, arith, subst}
use Rattle.std.proofs.Math.Nat.{div-one}
use Rattle.plus_fraction.specs.Fraction.{whole, over}
use Rattle.plus_fraction.specs.Gcd.{gcd}
use Rattle.plus_fraction.specs.GcdLemmas.{gcd-one}
use Rattle.plus_number.specs.Frac.{IsFrac64}

whole_top : (n : ℕ) → unsigned_abs (whole (pos n)).top ≡ n / gcd n 1
unfolding over
whole_top n = refl

whole_bottom : (n : ℕ) → (whole (pos n)).bottom ≡ 1 / gcd n 1
unfolding over
whole_bottom n = refl

pub counts_fit : (n : ℕ) → n < 2 ^ 63 → IsFrac64 (whole (pos n))
counts_fit n h =
    let t : unsigned_abs (whole (pos n)).top ≡ n = whole_top n ∙ ap (λ g. n / g) (gcd-one n) ∙ div-one n in
    let b : (whole (pos n)).bottom ≡ 1 = whole_bottom n ∙ ap (λ g. 1 / g) (gcd-one n) in
    (subst (λ m. m ≤ 9223372036854775807) (sym t) (omega (arith, h)), subst (λ m. m ≤ 9223372036854775807) (sym b) (omega arith))
