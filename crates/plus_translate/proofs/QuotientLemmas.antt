-- When one quotient of reduced parts is a whole number of times another.
use Rattle.std.proofs.Common.{◌≡◌, ℕ, zero, suc, ◌*◌, ◌/◌, ◌%◌, ◌<◌, ◌≤◌, refl, ap, sym, subst, ◌∙◌, arith, pos}
use Rattle.std.specs.Prelude.{ℤ, negsuc, ◌<ℤ◌, ◌^◌, false, unsigned_abs, Option, Some, None, MatchOption}
use Prim.Native.Nat.{◌∣◌}
use Rattle.std.proofs.Math.Nat.{eq_of_mul-eq-mul_right, dvd-mul_left, mul-pos}
use Rattle.std.proofs.lemmas.Int.{ints}
use Rattle.std.proofs.lemmas.Nat.{div-add-mod'}
use Rattle.std.proofs.lemmas.Nat.Gcd.{mod-eq-zero_of_dvd, IsGcd-swap}
use Rattle.plus_fraction.specs.Fraction.{Fraction, over, whole, ◌<ℚ◌}
use Rattle.plus_fraction.specs.Gcd.{gcd}
use Rattle.plus_fraction.specs.GcdLemmas.{dvd_of_coprime, gcd_is, gcd_unique, IsPositive-quotient, IsReduced-quotient}
use Rattle.plus_tree.specs.declared.terms.Literal.{Literal}
use Rattle.plus_literal.specs.Value.{signed_whole, literal_value}
use Rattle.plus_steps.specs.Stepped.{time_of_step}
use Rattle.plus_stepped.proofs.GridLemmas.{so_many, so_many_steps, steps_so_many, above_top}
use Rattle.plus_translation.specs.Translated.{steps_to}
use Rattle.plus_translation.proofs.Clock.{steps_are}
use Rattle.plus_translate.specs.Grid.{StandsOnGrid}

divides : (a d : ℕ) → a % d ≡ 0 → a ≡ (a / d) * d
divides a d e = let s = div-add-mod' a d in omega arith

gcd-swap : (a b : ℕ) → gcd a b ≡ gcd b a
gcd-swap a b = gcd_unique b a (gcd a b) (IsGcd-swap a b (gcd a b) (gcd_is a b))

-- both parts divide, and there are so many
product_is : (t n s b : ℕ) → (t * n) * (s * b) ≡ (t * s) * (b * n)
product_is t n s b = omega arith

pub so_many_times : (top bottom n d : ℕ) → top % n ≡ 0 → d % bottom ≡ 0 → top * d ≡ (top / n * (d / bottom)) * (bottom * n)
so_many_times top bottom n d e f =
    ap (λ x. x * d) (divides top n e) ∙ ap (λ x. (top / n * n) * x) (divides d bottom f) ∙ product_is (top / n) n (d / bottom) bottom

-- no other number of times will do
pub no_other : (top bottom n d k : ℕ) → 0 < bottom → 0 < n → top % n ≡ 0 → d % bottom ≡ 0 → top * d ≡ k * (bottom * n) → k ≡ top / n * (d / bottom)
no_other top bottom n d k b c e f h =
    eq_of_mul-eq-mul_right (bottom * n) (mul-pos b c) k (top / n * (d / bottom)) (sym h ∙ so_many_times top bottom n d e f)

-- the top divides where it is some number of times
pub top_divides : (top bottom n d k : ℕ) → gcd n d ≡ 1 → 0 < top → top * d ≡ k * (bottom * n) → top % n ≡ 0
top_divides top bottom n d k g p h =
    let e : n ∣ d * top = subst (λ x. n ∣ x) (let r : k * bottom * n ≡ d * top = omega (arith, h) in r) (dvd-mul_left n (k * bottom)) in
    mod-eq-zero_of_dvd n (dvd_of_coprime d n top (gcd-swap d n ∙ g) p e)

pub bottom_divides : (top bottom n d k : ℕ) → gcd top bottom ≡ 1 → 0 < d → top * d ≡ k * (bottom * n) → d % bottom ≡ 0
bottom_divides top bottom n d k g p h =
    let e : bottom ∣ top * d = subst (λ x. bottom ∣ x) (let r : k * n * bottom ≡ top * d = omega (arith, h) in r) (dvd-mul_left bottom (k * n)) in
    mod-eq-zero_of_dvd bottom (dvd_of_coprime top bottom d g p e)

-- none will do where the top does not divide
pub no_top : (top bottom n d k : ℕ) → 0 < n → gcd n d ≡ 1 → (top % n ≡ 0 → ⊥) → top * d ≡ k * (bottom * n) → ⊥
no_top zero bottom n d k p g t e = t (so_many 0 n 0 p (omega arith)).1
no_top (suc m) bottom n d k p g t e = t (top_divides (suc m) bottom n d k g (omega arith) e)

times_below : (t s d bottom : ℕ) → 0 < d → d ≡ s * bottom → t ≤ t * s
times_below t zero d bottom p e = absurd (omega (arith, p, e))
times_below t (suc s) d bottom p e = omega arith

-- none of 63 bits will do where there are more
pub no_more : (top bottom n d k : ℕ) → 0 < bottom → 0 < n → 0 < d → top % n ≡ 0 → d % bottom ≡ 0 → 9223372036854775807 < top / n → k < 2 ^ 63 → top * d ≡ k * (bottom * n) → ⊥
no_more top bottom n d k b p q e f big few h =
    let is : k ≡ top / n * (d / bottom) = no_other top bottom n d k b p e f h in
    let low : top / n ≤ top / n * (d / bottom) = times_below (top / n) (d / bottom) d bottom q (divides d bottom f) in
    absurd (omega (arith, is, low, big, few))

pub no_more_steps : (top bottom n d k : ℕ) → 0 < bottom → 0 < n → top % n ≡ 0 → d % bottom ≡ 0 → 9223372036854775807 < top / n * (d / bottom) → k < 2 ^ 63 → top * d ≡ k * (bottom * n) → ⊥
no_more_steps top bottom n d k b p e f big few h =
    let is : k ≡ top / n * (d / bottom) = no_other top bottom n d k b p e f h in
    absurd (omega (arith, is, big, few))

-- ---- the parts of a literal

pub quotient_above : (a D : ℕ) → 0 < D → 0 < D / gcd a D
quotient_above a zero h = absurd (omega (arith, h))
quotient_above a (suc k) h = IsPositive-quotient (pos a) k

pub quotient_reduced : (a D : ℕ) → 0 < D → gcd (a / gcd a D) (D / gcd a D) ≡ 1
quotient_reduced a zero h = absurd (omega (arith, h))
quotient_reduced a (suc k) h = IsReduced-quotient (pos a) k

over_top : (n D : ℕ) → 0 < D → (over (pos n) D).top ≡ pos (n / gcd n D)
unfolding over
over_top n zero h = absurd (omega (arith, h))
over_top n (suc k) h = refl

over_bottom : (n D : ℕ) → 0 < D → (over (pos n) D).bottom ≡ D / gcd n D
unfolding over
over_bottom n zero h = absurd (omega (arith, h))
over_bottom n (suc k) h = refl

literal_is : (t : Literal) (power : ℕ) → t.negative ≡ false → power ≡ 10 ^ t.places → literal_value t ≡ over (pos t.digits) power
literal_is t power e f = ap (λ b. over (signed_whole b t.digits) (10 ^ t.places)) e ∙ ap (over (pos t.digits)) (sym f)

above_zero_is : (z : ℤ) → pos 0 <ℤ z → z ≡ pos (unsigned_abs z)
above_zero_is (pos n) h = refl
above_zero_is (negsuc n) h = absurd (omega (arith, ints))

step_above : (z : ℤ) → pos 0 <ℤ z → 0 < unsigned_abs z
step_above (pos n) h = omega (arith, ints)
step_above (negsuc n) h = absurd (omega (arith, ints))

pub step_top_above : (q : Fraction) → whole (pos 0) <ℚ q → 0 < unsigned_abs q.top
step_top_above q above = step_above q.top (above_top q above)

-- the quotient of the parts tells how many steps it is to a time
pub tells :
    (q : Fraction) (t : Literal) (power : ℕ) → whole (pos 0) <ℚ q → t.negative ≡ false → t.places ≤ 9 → power ≡ 10 ^ t.places → 0 < power → (r : Option ℕ)
    → MatchOption r ((k : ℕ) → k < 2 ^ 63 → t.digits / gcd t.digits power * q.bottom ≡ k * (power / gcd t.digits power * unsigned_abs q.top) → ⊥)
    (λ k. (k < 2 ^ 63) × (t.digits / gcd t.digits power * q.bottom ≡ k * (power / gcd t.digits power * unsigned_abs q.top)))
    → MatchOption r (StandsOnGrid q t → ⊥) (λ k. StandsOnGrid q t × (k ≡ steps_to q t))
tells q t power above e f g h None r = λ s.
    let x : Fraction = literal_value t in
    let top : x.top ≡ pos (t.digits / gcd t.digits power) = ap (λ (y : Fraction). y.top) (literal_is t power e g) ∙ over_top t.digits power h in
    let bottom : x.bottom ≡ power / gcd t.digits power = ap (λ (y : Fraction). y.bottom) (literal_is t power e g) ∙ over_bottom t.digits power h in
    r s.grid.steps s.grid.few
    (steps_so_many q x (t.digits / gcd t.digits power) (unsigned_abs q.top) top (above_zero_is q.top (above_top q above)) s.grid.steps s.grid.at
    ∙ ap (λ (b : ℕ). s.grid.steps * (b * unsigned_abs q.top)) bottom)
tells q t power above e f g h (Some k) r =
    let x : Fraction = literal_value t in
    let top : x.top ≡ pos (t.digits / gcd t.digits power) = ap (λ (y : Fraction). y.top) (literal_is t power e g) ∙ over_top t.digits power h in
    let bottom : x.bottom ≡ power / gcd t.digits power = ap (λ (y : Fraction). y.bottom) (literal_is t power e g) ∙ over_bottom t.digits power h in
    let at : literal_value t ≡ time_of_step q k =
    so_many_steps q x (t.digits / gcd t.digits power) (unsigned_abs q.top) top (above_zero_is q.top (above_top q above)) k
    (r.1 ∙ ap (λ (b : ℕ). k * (b * unsigned_abs q.top)) (sym bottom)) in
    (record { from_zero = e; places = f; grid = record { steps = k; few = r.0; at = at } }, sym (steps_are q above t k at))
