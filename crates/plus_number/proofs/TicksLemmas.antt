use Rattle.std.proofs.Common.{◌≡◌, ℕ, ◌%◌, arith, sym, ◌∙◌, ap, refl, ℤ, pos, negsuc, neg_ℤ, ◌*ℤ◌, ◌<ℤ◌, unsigned_abs, int_div, int_rem, SFits, of_z, Result, MatchResult, subst, subst₂, ◌≢◌}
use Rattle.std.proofs.lemmas.Int.{ints, quot-rem, unsigned_abs-mul}
use Rattle.std.proofs.Math.Nat.{mul-mod_left}
use mir.Syntax.{w64, w128}
use lib.Signed.{mag_rem}
use Rattle.std.proofs.lemmas.Result.{MatchResult-weaker}
use Rattle.plus_number.specs.declared.exact.Outside.{Outside}
use Rattle.plus_number.specs.Exact.{Answers}
use Rattle.plus_fraction.specs.Fraction.{Fraction, over}
use Rattle.plus_fraction.proofs.FractionRing.{Is-whole}
use Rattle.plus_fraction.proofs.FractionSigns.{Is-div, Is-div_below}
use Rattle.plus_fraction.proofs.FractionBase.{Is, same, of_Is}
use Rattle.plus_fraction.proofs.FractionLinear.{num-by}
use Rattle.plus_number.specs.declared.ticks.Ticks.{Ticks}
use Rattle.plus_number.specs.Ticks.{fraction_of, IsTicks, InRange}
use Rattle.plus_number.specs.TicksLaws.{Is-ticks}
use Rattle.plus_fraction.specs.Fraction.{◌*ℚ◌, ◌/ℚ◌, whole}
use Rattle.plus_fraction.proofs.FractionLaws.{Is-over, Is-mul, Is-rebase}
use Rattle.plus_fraction.proofs.IntRing.{neg-*ℤ, cancel_eq, *ℤ_left_comm, *ℤ_assoc, *ℤ-pos}
use Rattle.std.proofs.Math.IntN.{*ℤ_comm}

rem_of_abs : (n : ℤ) (d : ℕ) → unsigned_abs n % d ≡ 0 → int_rem n (pos d) ≡ pos 0
rem_of_abs (pos a) d h = ap pos h
rem_of_abs (negsuc a) d h = ap (λ (k : ℕ). neg_ℤ (pos k)) h

-- a multiple of d leaves no remainder
pub rem_none : (n d k : ℤ) → pos 0 <ℤ d → k *ℤ d ≡ n → int_rem n d ≡ pos 0
rem_none n (pos d) k h e = rem_of_abs n d (ap (λ (m : ℕ). m % d) (sym (sym (unsigned_abs-mul k (pos d)) ∙ ap unsigned_abs e)) ∙ mul-mod_left (unsigned_abs k) d)
rem_none n (negsuc d) k h e = absurd (omega (arith, ints))

-- no remainder, so a multiple
quotient_by : (n d : ℤ) → int_rem n d ≡ pos 0 → int_div n d *ℤ d ≡ n
quotient_by n d z = let q = quot-rem n d in omega (arith, ints)

pub wide_quotient_of : (n d : ℤ) → SFits w128 n → of_z w128 (int_rem n d) ≡ 0 → int_div n d *ℤ d ≡ n
wide_quotient_of n d f e =
    let g : SFits w128 (int_rem n d) = record { sfits = omega (arith, mag_rem n d, f.sfits) } in
    quotient_by n d (omega (arith, ints))

pub narrow_quotient_of : (n d : ℤ) → SFits w64 n → of_z w64 (int_rem n d) ≡ 0 → int_div n d *ℤ d ≡ n
narrow_quotient_of n d f e =
    let g : SFits w64 (int_rem n d) = record { sfits = omega (arith, mag_rem n d, f.sfits) } in
    quotient_by n d (omega (arith, ints))

-- ---- what a call answers
pub answers_checked : (q : Fraction) (n : ℤ) (r : Result Ticks Outside) → Is q n (pos 1000000) → MatchResult r (λ t. t.k ≡ n) (λ _. InRange n → ⊥) → Answers fraction_of IsTicks q r
answers_checked q n r h m = MatchResult-weaker r m
    (λ t e. ap (λ (k : ℤ). over k 1000000) e ∙ same (Is-ticks n) h refl)
    (λ _ f s. f (subst InRange (sym (num-by 1000000 q s.0 (subst (λ (x : Fraction). Is x s.0 (pos 1000000)) s.2 (Is-ticks s.0))) ∙ num-by 1000000 q n h) s.1))

quotient_cross : (k d n : ℤ) → k *ℤ d ≡ n → k *ℤ (pos 1000000 *ℤ d) ≡ n *ℤ pos 1000000
quotient_cross k d n e = *ℤ_left_comm k (pos 1000000) d ∙ *ℤ_comm (pos 1000000) (k *ℤ d) ∙ ap (λ x. x *ℤ pos 1000000) e

quotient_back : (k d n : ℤ) → k *ℤ (pos 1000000 *ℤ d) ≡ n *ℤ pos 1000000 → k *ℤ d ≡ n
quotient_back k d n e = cancel_eq (k *ℤ d) n (pos 1000000) (omega (arith, ints)) (*ℤ_comm (k *ℤ d) (pos 1000000) ∙ sym (*ℤ_left_comm k (pos 1000000) d) ∙ e)

pub answers_quotient : (q : Fraction) (n d : ℤ) (r : Result Ticks Outside) → MatchResult r (λ t. t.k *ℤ d ≡ n) (λ _. (k : ℤ) → k *ℤ d ≡ n → InRange k → ⊥) → Is q n (pos 1000000 *ℤ d) → Answers fraction_of IsTicks q r
answers_quotient q n d r m h = MatchResult-weaker r m
    (λ t e. same (Is-ticks t.k) h (quotient_cross t.k d n e))
    (λ _ f s. f s.0 (quotient_back s.0 d n (of_Is (subst (λ (x : Fraction). Is x s.0 (pos 1000000)) s.2 (Is-ticks s.0)) h)) s.1)

ratio_cross : (n d m e : ℤ) → pos 0 <ℤ d → m ≡ n *ℤ pos 1000000 → e ≡ d → n *ℤ (pos 1000000 *ℤ e) ≡ m *ℤ pos (unsigned_abs d)
ratio_cross n (pos d) m e h p q = ap (λ z. n *ℤ (pos 1000000 *ℤ z)) q ∙ sym (*ℤ_assoc n (pos 1000000) (pos d)) ∙ ap (λ z. z *ℤ pos d) (sym p)
ratio_cross n (negsuc d) m e h p q = absurd (omega (arith, ints))

pub Is-ratio : (n d m e : ℤ) → pos 0 <ℤ d → m ≡ n *ℤ pos 1000000 → e ≡ d → Is (over n (unsigned_abs d)) m (pos 1000000 *ℤ e)
Is-ratio n d m e h p q = Is-rebase m (pos 1000000 *ℤ e) (Is-over n (unsigned_abs d) (let k = h in omega (arith, ints))) (*ℤ-pos (pos 1000000) e (omega (arith, ints)) (subst (λ z. pos 0 <ℤ z) (sym q) h)) (ratio_cross n d m e h p q)

pub Is-product : (a b m : ℤ) → m ≡ a *ℤ b → Is (over a 1000000 *ℚ over b 1000000) m (pos 1000000 *ℤ pos 1000000)
Is-product a b m p = subst (λ (z : ℤ). Is (over a 1000000 *ℚ over b 1000000) z (pos 1000000000000)) (sym p) (Is-mul (Is-ticks a) (Is-ticks b))

-- ---- one lemma a call, whose numbers are told by what the call ensures
pub answers_ratio : (n d m e : ℤ) (r : Result Ticks Outside) → MatchResult r (λ t. t.k *ℤ e ≡ m) (λ _. (k : ℤ) → k *ℤ e ≡ m → InRange k → ⊥) → pos 0 <ℤ d → m ≡ n *ℤ pos 1000000 → e ≡ d → Answers fraction_of IsTicks (over n (unsigned_abs d)) r
answers_ratio n d m e r k h p q = answers_quotient _ m e r k (Is-ratio n d m e h p q)

pub answers_div : (a b m e : ℤ) (r : Result Ticks Outside) → MatchResult r (λ t. t.k *ℤ e ≡ m) (λ _. (k : ℤ) → k *ℤ e ≡ m → InRange k → ⊥) → pos 0 <ℤ b → m ≡ a *ℤ pos 1000000 → e ≡ b → Answers fraction_of IsTicks (over a 1000000 /ℚ over b 1000000) r
answers_div a b m e r k h p q =
    answers_quotient _ m e r k (subst₂ (λ (m e : ℤ). Is (over a 1000000 /ℚ over b 1000000) m (pos 1000000 *ℤ e)) (sym p) (sym q) (Is-div (Is-ticks a) (Is-ticks b) h))

pub answers_div_below : (a b m e : ℤ) (r : Result Ticks Outside) → MatchResult r (λ t. t.k *ℤ e ≡ m) (λ _. (k : ℤ) → k *ℤ e ≡ m → InRange k → ⊥) → b <ℤ pos 0 → m ≡ neg_ℤ (a *ℤ pos 1000000) → e ≡ neg_ℤ b → Answers fraction_of IsTicks (over a 1000000 /ℚ over b 1000000) r
answers_div_below a b m e r k h p q =
    answers_quotient _ m e r k (subst₂ (λ (m e : ℤ). Is (over a 1000000 /ℚ over b 1000000) m (pos 1000000 *ℤ e)) (neg-*ℤ a (pos 1000000) ∙ sym p) (sym q) (Is-div_below (Is-ticks a) (Is-ticks b) (omega (arith, ints))))

pub above_of : (b : ℤ) → (over b 1000000 ≡ whole (pos 0) → ⊥) → b ≢ pos 0
above_of b n e = n (ap (λ (z : ℤ). over z 1000000) e ∙ same (Is-ticks (pos 0)) (Is-whole (pos 0)) refl)
