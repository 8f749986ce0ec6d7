-- Zero factors and zero dividends.
use Rattle.std.proofs.Common.{◌≡◌, ◌∙◌, sym, ap, true, false, pos}
use Rattle.plus_fraction.specs.Fraction.{Fraction, whole, ◌*ℚ◌, ◌/ℚ◌}
use Rattle.plus_fraction.proofs.Ring.{var, num, ◌⊗◌}
use Rattle.plus_fraction.proofs.FractionRing.{ringℚ}
use Rattle.plus_fraction.proofs.FractionSigns.{/ℚ-mul}
use Rattle.plus_model.specs.Value.{is_zero}
use Rattle.std.proofs.Common.{[], ◌∷◌, refl}
use Rattle.plus_model.proofs.Along.{from_zero, not_zero, mul_cancel}

pub times_zero : (v n z : Fraction) → is_zero n ≡ true → z ≡ whole (pos 0) → z ≡ v *ℚ n
times_zero v n z e d = d ∙ sym (ap (λ k. v *ℚ k) (from_zero n e) ∙ ringℚ (v ∷ []) (var 0 ⊗ num (pos 0)) (num (pos 0)) refl)

pub zero_over : (m w z : Fraction) → is_zero m ≡ true → is_zero w ≡ false → z ≡ whole (pos 0) → z ≡ m /ℚ w
zero_over m w z e f d = mul_cancel z (m /ℚ w) w (not_zero w f)
    (ap (λ k. k *ℚ w) d ∙ ringℚ (w ∷ []) (num (pos 0) ⊗ var 0) (num (pos 0)) refl ∙ sym (from_zero m e) ∙ sym (/ℚ-mul m w (not_zero w f)))

pub divisor : (w : Fraction) → is_zero w ≡ false → w ≡ whole (pos 0) → ⊥
divisor w e = not_zero w e

pub ruleset ops = (times_zero, zero_over, divisor)
