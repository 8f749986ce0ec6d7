-- The length of a step, written as a literal or as a quotient of two.
use Rattle.std.proofs.Common.{◌≡◌, ℕ, ◌<◌, Bool, true, false, refl, ap, sym, subst, ◌∙◌, arith, ℤ, pos, negsuc, ◌*ℤ◌, ◌<ℤ◌, unsigned_abs}
use Rattle.std.specs.Prelude.{Some, None, nat_eq, if◌then◌else◌}
use Rattle.std.proofs.lemmas.Bool.{eqb-true}
use Rattle.plus_fraction.specs.Fraction.{Fraction, whole, ◌/ℚ◌, ◌<ℚ◌, compared}
use Rattle.plus_fraction.proofs.FractionBase.{Is-parts, same}
use Rattle.plus_fraction.proofs.FractionLaws.{Is-mul}
use Rattle.plus_fraction.proofs.FractionRing.{Is-whole}
use Rattle.plus_fraction.proofs.FractionOrder.{lt_of, lt_by, <ℚ_irrefl}
use Rattle.plus_fraction.proofs.FractionSigns.{/ℚ_unique}
use Rattle.plus_fraction.proofs.Compared.{greater-compared}
use Rattle.plus_fraction.proofs.IntRing.{products, linear, by_one}
use Rattle.plus_model.specs.Terms.{State, Same}
use Rattle.plus_model.specs.Value.{value, passes}
use Rattle.plus_tree.specs.Expr.{x_number, x_quotient}
use Rattle.plus_types.specs.Faults.{Context}
use Rattle.plus_expansion.specs.Environments.{Environment}
use Rattle.plus_expansion.specs.Expansion.{expression_meant}
use Rattle.plus_translation.specs.Renamed.{nowhere}
use Rattle.plus_translation.specs.Translated.{natural, length_of_step}

-- above 0, the top is a natural number
top_is : (q : Fraction) → whole (pos 0) <ℚ q → q.top ≡ pos (unsigned_abs q.top)
top_is q h = by q.top (lt_of (Is-whole (pos 0)) (Is-parts q) h)
  where
    by : (n : ℤ) → (pos 0 *ℤ pos q.bottom) <ℤ (n *ℤ pos 1) → n ≡ pos (unsigned_abs n)
    by (pos n) l = refl
    by (negsuc n) l = absurd (below n q.bottom l)
      where
        below : (n d : ℕ) → (pos 0 *ℤ pos d) <ℤ (negsuc n *ℤ pos 1) → ⊥
        below n d l =
            let e : pos 0 *ℤ pos d ≡ pos 0 = simp products (omega (arith, linear)) in
            let f : pos 0 <ℤ negsuc n = subst (λ x. x <ℤ negsuc n) e (subst (λ y. (pos 0 *ℤ pos d) <ℤ y) (by_one (negsuc n)) l) in
            absurd (omega (arith, linear, f))

pub whole_above : (n : ℕ) → 0 < n → whole (pos 0) <ℚ whole (pos n)
whole_above n h = lt_by (Is-whole (pos 0)) (Is-whole (pos n)) (above n h)
  where
    above : (n : ℕ) → 0 < n → (pos 0 *ℤ pos 1) <ℤ (pos n *ℤ pos 1)
    above n h = simp products (omega (arith, linear, h))

not_zero : (n : ℕ) → 0 < n → whole (pos n) ≡ whole (pos 0) → ⊥
not_zero n h e = <ℚ_irrefl (whole (pos 0)) (subst (λ x. whole (pos 0) <ℚ x) e (whole_above n h))

whole_is : (q : Fraction) → q.bottom ≡ 1 → whole q.top ≡ q
whole_is q h = same (Is-whole q.top) (Is-parts q) (ap (λ (d : ℕ). q.top *ℤ pos d) h)

ratio_is : (q : Fraction) → whole q.top /ℚ whole (pos q.bottom) ≡ q
ratio_is q = sym (/ℚ_unique (whole q.top) (whole (pos q.bottom)) q (not_zero q.bottom q.positive) (same (Is-mul (Is-parts q) (Is-whole (pos q.bottom))) (Is-whole q.top) (ring q.top (pos q.bottom))))
  where
    ring : (n d : ℤ) → (n *ℤ d) *ℤ pos 1 ≡ n *ℤ (d *ℤ pos 1)
    ring n d = simp products (omega (arith, linear))

pub step_is : (q : Fraction) → whole (pos 0) <ℚ q → (c : Context) (env : Environment) (t : State) → value (expression_meant c env (length_of_step q)) t ≡ Some q
step_is q h c env t = by (nat_eq q.bottom 1) refl
  where
    natural_top : whole (pos (unsigned_abs q.top)) ≡ whole q.top
    natural_top = ap whole (sym (top_is q h))

    by : (b : Bool) → nat_eq q.bottom 1 ≡ b → value (expression_meant c env (length_of_step q)) t ≡ Some q
    by true e = ap (λ (b : Bool). value (expression_meant c env (if b then x_number (natural (unsigned_abs q.top)) nowhere else x_quotient (x_number (natural (unsigned_abs q.top)) nowhere) (x_number (natural q.bottom) nowhere) nowhere)) t) e
        ∙ ap Some (natural_top ∙ whole_is q (eqb-true q.bottom 1 e))
    by false e = ap (λ (b : Bool). value (expression_meant c env (if b then x_number (natural (unsigned_abs q.top)) nowhere else x_quotient (x_number (natural (unsigned_abs q.top)) nowhere) (x_number (natural q.bottom) nowhere) nowhere)) t) e
        ∙ ap (λ (b : Bool). if b then None else Some (whole (pos (unsigned_abs q.top)) /ℚ whole (pos q.bottom))) (zero_not (passes Same (compared (whole (pos q.bottom)) (whole (pos 0)))) (ap (passes Same) (greater-compared (whole (pos q.bottom)) (whole (pos 0)) (whole_above q.bottom q.positive))))
        ∙ ap (λ x. Some (x /ℚ whole (pos q.bottom))) natural_top ∙ ap Some (ratio_is q)
      where
        zero_not : (b : Bool) → b ≡ false → b ≡ false
        zero_not b e = e
