-- The times of a grid: each is one interval after the one before.
use Rattle.std.proofs.Common.{◌≡◌, ℕ, zero, suc, ◌+◌, [], ◌∷◌, refl, ap, sym, subst, ◌∙◌, arith}
use Rattle.std.specs.Prelude.{pos, ◌+ℤ◌}
use Rattle.plus_fraction.specs.Fraction.{Fraction, whole, ◌+ℚ◌, ◌*ℚ◌, ◌<ℚ◌, ◌≤ℚ◌}
use Rattle.plus_fraction.proofs.Ring.{var, num, ◌⊕◌, ◌⊗◌}
use Rattle.plus_fraction.proofs.FractionRing.{ringℚ, whole-add, zero-+ℚ}
use Rattle.plus_fraction.proofs.FractionOrder.{+ℚ-lt}
use Rattle.plus_fraction.proofs.FractionAtMost.{le_lt, ≤ℚ_refl, ≤ℚ_trans}

one_more : (n : ℕ) → pos (suc n) ≡ pos n +ℤ pos 1
one_more n = ap pos (let e : suc n ≡ n + 1 = omega arith in e)

pub ticks_next : (q : Fraction) (n : ℕ) → whole (pos (suc n)) *ℚ q ≡ whole (pos n) *ℚ q +ℚ q
ticks_next q n =
    ap (λ x. whole x *ℚ q) (one_more n)
    ∙ ap (λ x. x *ℚ q) (whole-add (pos n) (pos 1))
    ∙ ringℚ (whole (pos n) ∷ q ∷ []) ((var 0 ⊕ num (pos 1)) ⊗ var 1) ((var 0 ⊗ var 1) ⊕ var 1) refl

-- the next tick is later
pub tick_later : (q : Fraction) (n : ℕ) → whole (pos 0) <ℚ q → whole (pos n) *ℚ q ≤ℚ whole (pos (suc n)) *ℚ q
tick_later q n h =
    let x = whole (pos n) *ℚ q in
    subst (λ y. x ≤ℚ y) (sym (ticks_next q n ∙ ringℚ (x ∷ q ∷ []) (var 0 ⊕ var 1) (var 1 ⊕ var 0) refl))
    (subst (λ y. y ≤ℚ q +ℚ x) (zero-+ℚ x) (le_lt (whole (pos 0) +ℚ x) (q +ℚ x) (+ℚ-lt (whole (pos 0)) q x h)))

-- no tick is before an earlier one
pub ticks_ordered : (q : Fraction) (n k : ℕ) → whole (pos 0) <ℚ q → whole (pos n) *ℚ q ≤ℚ whole (pos (n + k)) *ℚ q
ticks_ordered q n zero h = subst (λ m. whole (pos n) *ℚ q ≤ℚ whole (pos m) *ℚ q) (let e : n ≡ n + 0 = omega arith in e) (≤ℚ_refl (whole (pos n) *ℚ q))
ticks_ordered q n (suc k) h =
    subst (λ m. whole (pos n) *ℚ q ≤ℚ whole (pos m) *ℚ q) (let e : suc (n + k) ≡ n + suc k = omega arith in e)
    (≤ℚ_trans _ _ _ (ticks_ordered q n k h) (tick_later q (n + k) h))
