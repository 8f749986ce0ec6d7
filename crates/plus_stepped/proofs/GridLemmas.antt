-- Steps of one length: their order, and which times are whole numbers of them.
use Rattle.std.proofs.Common.{◌≡◌, ℕ, zero, suc, ◌*◌, ◌/◌, ◌%◌, ◌<◌, ◌≤◌, ◌⊎◌, refl, ap, sym, subst, ◌∙◌, inl, inr, arith, ℤ, pos, ◌*ℤ◌, ◌<ℤ◌, ◌≤ℤ◌}
use Rattle.std.specs.Prelude.{◌^◌, true, false, negsuc, unsigned_abs, Option, Some, None, MatchOption}
use Rattle.std.proofs.lemmas.Int.{ints}
use lib.Signed.{lt_z}
use Rattle.std.proofs.Math.Nat.{mul-div_cancel, mul-mod_left, mul-pos}
use Rattle.std.proofs.lemmas.Nat.{div-add-mod'}
use Rattle.plus_fraction.specs.Fraction.{Fraction, whole, ◌<ℚ◌, ◌≤ℚ◌}
use Rattle.plus_fraction.proofs.FractionBase.{Is, Is-parts, same, of_Is}
use Rattle.plus_fraction.proofs.FractionLaws.{Is-mul}
use Rattle.plus_fraction.proofs.FractionOrder.{<ℚ_irrefl, <ℚ_trans, *ℚ-lt, lt_by, lt_of, le_of}
use Rattle.plus_fraction.proofs.FractionAtMost.{le_lt, le_equal}
use Rattle.plus_fraction.proofs.FractionRing.{Is-whole, zero-*ℚ}
use Rattle.plus_fraction.proofs.IntRing.{products, linear}
use Rattle.plus_steps.specs.Stepped.{time_of_step}
use Rattle.plus_stepped.specs.Grid.{OnGrid}

module _ (q : Fraction) (above : whole (pos 0) <ℚ q) where
  whole_lt : (m n : ℕ) → m < n → whole (pos m) <ℚ whole (pos n)
  whole_lt m n h = lt_by (Is-whole (pos m)) (Is-whole (pos n)) (let k : (pos m *ℤ pos 1) <ℤ (pos n *ℤ pos 1) = simp products (omega (arith, linear)) in k)

  pub step_lt : (m n : ℕ) → m < n → time_of_step q m <ℚ time_of_step q n
  step_lt m n h = *ℚ-lt (whole (pos m)) (whole (pos n)) q (whole_lt m n h) above

  pub lt_or : (m n : ℕ) → (m < n) ⊎ ((m ≡ n) ⊎ (n < m))
  lt_or zero zero = inr (inl refl)
  lt_or zero (suc n) = inl (omega arith)
  lt_or (suc m) zero = inr (inr (omega arith))
  lt_or (suc m) (suc n) = elim (lt_or m n) [ inl h ↦ inl (omega arith) | inr k ↦ elim k [ inl e ↦ inr (inl (ap suc e)) | inr h ↦ inr (inr (omega arith)) ] ]

  pub step_le : (m n : ℕ) → m ≤ n → time_of_step q m ≤ℚ time_of_step q n
  step_le m n h = elim (lt_or m n) [
    | inl l ↦ le_lt _ _ (step_lt m n l)
    | inr k ↦ elim k [ inl e ↦ le_equal _ _ (ap (time_of_step q) e) | inr l ↦ absurd (omega arith) ]
  ]

  pub lt_step : (m n : ℕ) → time_of_step q m <ℚ time_of_step q n → m < n
  lt_step m n h = elim (lt_or m n) [
    | inl l ↦ l
    | inr k ↦ elim k [
      | inl e ↦ absurd (<ℚ_irrefl _ (subst (λ (j : ℕ). time_of_step q j <ℚ time_of_step q n) e h))
      | inr l ↦ absurd (<ℚ_irrefl _ (<ℚ_trans _ _ _ h (step_lt n m l)))
    ]
  ]

  pub one_step : (m n : ℕ) → time_of_step q m ≡ time_of_step q n → m ≡ n
  one_step m n h = elim (lt_or m n) [
    | inl l ↦ absurd (<ℚ_irrefl _ (subst (λ (x : Fraction). x <ℚ time_of_step q n) h (step_lt m n l)))
    | inr k ↦ elim k [ inl e ↦ e | inr l ↦ absurd (<ℚ_irrefl _ (subst (λ (x : Fraction). time_of_step q n <ℚ x) h (step_lt n m l))) ]
  ]

pub no_step : (q : Fraction) → time_of_step q 0 ≡ whole (pos 0)
no_step q = zero-*ℚ q

-- ---- a time is so many steps exactly where its cross product is so many times that of a step
module _ (q time : Fraction) (k : ℕ) where
  step_is : Is (time_of_step q k) (pos k *ℤ q.top) (pos 1 *ℤ pos q.bottom)
  step_is = Is-mul (Is-whole (pos k)) (Is-parts q)

  pub crosses : time ≡ time_of_step q k → time.top *ℤ (pos 1 *ℤ pos q.bottom) ≡ (pos k *ℤ q.top) *ℤ pos time.bottom
  crosses e = of_Is (Is-parts time) (subst (λ (x : Fraction). Is x (pos k *ℤ q.top) (pos 1 *ℤ pos q.bottom)) (sym e) step_is)

  pub crossed : time.top *ℤ (pos 1 *ℤ pos q.bottom) ≡ (pos k *ℤ q.top) *ℤ pos time.bottom → time ≡ time_of_step q k
  crossed e = same (Is-parts time) step_is e

-- ---- division
pub so_many : (a d k : ℕ) → 0 < d → a ≡ k * d → (a / d ≡ k) × (a % d ≡ 0)
so_many a d k h e = (ap (λ (x : ℕ). x / d) e ∙ mul-div_cancel k h, ap (λ (x : ℕ). x % d) e ∙ mul-mod_left k d)

pub divides : (a d : ℕ) → a % d ≡ 0 → a ≡ (a / d) * d
divides a d e = let s = div-add-mod' a d in omega arith

-- ---- by the parts of a time and of a step
module _ (q time : Fraction) (a c : ℕ) (top_is : time.top ≡ pos a) (step_top_is : q.top ≡ pos c) where
  pub so_many_steps : (k : ℕ) → a * q.bottom ≡ k * (time.bottom * c) → time ≡ time_of_step q k
  so_many_steps k e = crossed q time k
      (ap (λ (x : ℤ). x *ℤ (pos 1 *ℤ pos q.bottom)) top_is ∙ natural ∙ sym (ap (λ (x : ℤ). (pos k *ℤ x) *ℤ pos time.bottom) step_top_is))
    where
      natural : pos a *ℤ (pos 1 *ℤ pos q.bottom) ≡ (pos k *ℤ pos c) *ℤ pos time.bottom
      natural = let h : a * (1 * q.bottom) ≡ (k * c) * time.bottom = omega (arith, e) in ap pos h

  pub steps_so_many : (k : ℕ) → time ≡ time_of_step q k → a * q.bottom ≡ k * (time.bottom * c)
  steps_so_many k e =
      let f : pos a *ℤ (pos 1 *ℤ pos q.bottom) ≡ (pos k *ℤ pos c) *ℤ pos time.bottom
      = sym (ap (λ (x : ℤ). x *ℤ (pos 1 *ℤ pos q.bottom)) top_is) ∙ crosses q time k e ∙ ap (λ (x : ℤ). (pos k *ℤ x) *ℤ pos time.bottom) step_top_is in
      let h : a * (1 * q.bottom) ≡ (k * c) * time.bottom = ap unsigned_abs f in
      omega (arith, h)

pub above_top : (x : Fraction) → whole (pos 0) <ℚ x → pos 0 <ℤ x.top
above_top x h = let k : (pos 0 *ℤ pos x.bottom) <ℤ (x.top *ℤ pos 1) = lt_of (Is-whole (pos 0)) (Is-parts x) h in simp products at k

pub from_zero_top : (x : Fraction) → whole (pos 0) ≤ℚ x → pos 0 ≤ℤ x.top
from_zero_top x h = let k : (pos 0 *ℤ pos x.bottom) ≤ℤ (x.top *ℤ pos 1) = le_of (Is-whole (pos 0)) (Is-parts x) h in simp products at k

-- no step ends before time 0
pub step_from_zero : (q : Fraction) → whole (pos 0) <ℚ q → (k : ℕ) → whole (pos 0) ≤ℚ time_of_step q k
step_from_zero q h k = let l : 0 ≤ k = omega arith in subst (λ (x : Fraction). x ≤ℚ time_of_step q k) (no_step q) (step_le q h 0 k l)

-- ---- what the quotient of the two products tells
below_zero_top : (z : ℤ) → lt_z z (pos 0) ≡ true → pos 0 ≤ℤ z → ⊥
below_zero_top z n h = grind (arith, ints)

pub below_zero : (q time : Fraction) → whole (pos 0) <ℚ q → lt_z time.top (pos 0) ≡ true → OnGrid q time → ⊥
below_zero q time above n h =
    below_zero_top time.top n (from_zero_top time (subst (λ (x : Fraction). whole (pos 0) ≤ℚ x) (sym h.at) (step_from_zero q above h.steps)))

from_zero_is : (z : ℤ) → lt_z z (pos 0) ≡ false → z ≡ pos (unsigned_abs z)
from_zero_is (pos n) h = refl
from_zero_is (negsuc n) h = cc

above_zero_is : (z : ℤ) → pos 0 <ℤ z → (z ≡ pos (unsigned_abs z)) × (0 < unsigned_abs z)
above_zero_is (pos n) h = (refl, omega (arith, ints))
above_zero_is (negsuc n) h = absurd (omega (arith, ints))

pub divisor_above : (q time : Fraction) → whole (pos 0) <ℚ q → 0 < unsigned_abs (pos time.bottom) * unsigned_abs q.top
divisor_above q time above =
    let c = above_zero_is q.top (above_top q above) in
    mul-pos time.positive c.1

pub quotient_tells : (q time : Fraction) (dividend divisor : ℕ) → whole (pos 0) <ℚ q → lt_z time.top (pos 0) ≡ false
    → dividend ≡ unsigned_abs time.top * unsigned_abs (pos q.bottom) → divisor ≡ unsigned_abs (pos time.bottom) * unsigned_abs q.top
    → (r : Option ℕ) → MatchOption r ((k : ℕ) → k < 2 ^ 63 → dividend ≡ k * divisor → ⊥) (λ k. (k < 2 ^ 63) × (dividend ≡ k * divisor))
    → MatchOption r (OnGrid q time → ⊥) (λ k. (k < 2 ^ 63) × (time ≡ time_of_step q k))
quotient_tells q time dividend divisor above n e f None h = λ g.
    h g.steps g.few (e ∙ steps_so_many q time (unsigned_abs time.top) (unsigned_abs q.top) (from_zero_is time.top n) (above_zero_is q.top (above_top q above)).0 g.steps g.at ∙ ap (λ (d : ℕ). g.steps * d) (sym f))
quotient_tells q time dividend divisor above n e f (Some k) h =
    (h.0, so_many_steps q time (unsigned_abs time.top) (unsigned_abs q.top) (from_zero_is time.top n) (above_zero_is q.top (above_top q above)).0 k (sym e ∙ h.1 ∙ ap (λ (d : ℕ). k * d) f))
