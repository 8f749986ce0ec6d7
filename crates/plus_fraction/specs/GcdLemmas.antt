-- The greatest common divisor: what it is, and that the parts over it are reduced.
use Rattle.std.proofs.Common.{◌≡◌, ℕ, zero, suc, ◌*◌, ◌/◌, ◌%◌, ◌-◌, ◌<◌, ◌≤◌, arith, sym, ◌∙◌, ap, ap₂, refl, subst, ℤ, pos, negsuc, neg_ℤ, unsigned_abs, int_div}
use Prim.Native.Nat.{◌∣◌}
use Rattle.std.specs.Int.{IsGcd}
use Rattle.std.proofs.Math.Nat.{mod_def, mul-div-mul_right, dvd-mul_right, div-mul_cancel, mul-sub, mul-one, div_self, mul-div_cancel, pos_of_dvd_of_pos, mul_comm, eq-one_of_dvd-one}
use Rattle.std.proofs.lemmas.Nat.Gcd.{IsGcd-from_zero, IsGcd-from_mod, same_from_IsGcd}
use Rattle.plus_fraction.specs.Gcd.{gcd, gcd_within}

-- a remainder of multiples
pub mod-mul_right : (a b k : ℕ) → 0 < k → (a * k) % (b * k) ≡ a % b * k
mod-mul_right a b k h =
    mod_def (a * k) (b * k) ∙ ap (λ (q : ℕ). a * k - b * k * q) (mul-div-mul_right a b h)
    ∙ sym (ap (λ (r : ℕ). r * k) (mod_def a b) ∙ mul_comm _ k ∙ mul-sub k a (b * (a / b)) ∙ multiplied a b k (a / b))
  where
    multiplied : (a b k q : ℕ) → k * a - k * (b * q) ≡ a * k - b * k * q
    multiplied a b k q = omega arith

gcd_within-mul : (f a b k : ℕ) → b ≤ f → 0 < k → IsGcd (a * k) (b * k) (gcd_within f a b * k)
unfolding gcd_within
gcd_within-mul zero a b k h p = IsGcd-from_zero _ _ (let e : b ≡ 0 = omega arith in rw e (omega arith))
gcd_within-mul (suc f) a zero k h p = IsGcd-from_zero _ _ (omega arith)
gcd_within-mul (suc f) a (suc b) k h p =
    IsGcd-from_mod (a * k) (suc b * k) _
    (subst (λ (r : ℕ). IsGcd (suc b * k) r (gcd_within f (suc b) (a % suc b) * k)) (sym (mod-mul_right a (suc b) k p))
    (gcd_within-mul f (suc b) (a % suc b) k (omega arith) p))

-- of multiples
pub gcd-mul_is : (a b k : ℕ) → 0 < k → IsGcd (a * k) (b * k) (gcd a b * k)
unfolding gcd
gcd-mul_is a b k p = gcd_within-mul b a b k (omega arith) p

pub gcd_is : (a b : ℕ) → IsGcd a b (gcd a b)
gcd_is a b = simp mul-one at (gcd-mul_is a b 1 (omega arith))

pub gcd_unique : (a b g : ℕ) → IsGcd a b g → g ≡ gcd a b
gcd_unique a b g h = same_from_IsGcd a b g _ h (gcd_is a b)

pub gcd-mul : (a b k : ℕ) → 0 < k → gcd (a * k) (b * k) ≡ gcd a b * k
gcd-mul a b k p = sym (gcd_unique _ _ _ (gcd-mul_is a b k p))

-- Euclid's lemma
pub dvd_of_coprime : (a b c : ℕ) → gcd a b ≡ 1 → 0 < c → b ∣ a * c → b ∣ c
dvd_of_coprime a b c h p d =
    let e : gcd a b * c ≡ c = rw h (omega arith) in
    subst (λ (n : ℕ). b ∣ n) e ((gcd-mul_is a b c p).2 b d (dvd-mul_right b c))

pub gcd_pos : (a b : ℕ) → 0 < b → 0 < gcd a b
gcd_pos a b h = pos_of_dvd_of_pos ((gcd_is a b).1) h

-- the parts over their gcd have no common divisor
reduced_of : (a b : ℕ) → 0 < b → gcd (a / gcd a b) (b / gcd a b) ≡ 1
reduced_of a b h =
    let g : ℕ = gcd a b in
    let p : 0 < gcd a b = gcd_pos a b h in
    let d = gcd_is a b in
    let e : gcd (a / gcd a b) (b / gcd a b) * gcd a b ≡ gcd a b =
    sym (gcd-mul (a / gcd a b) (b / gcd a b) (gcd a b) p)
    ∙ ap₂ gcd (div-mul_cancel (gcd a b) d.0) (div-mul_cancel (gcd a b) d.1) in
    one_of (gcd (a / gcd a b) (b / gcd a b)) (gcd a b) p e
  where
    one_of : (x g : ℕ) → 0 < g → x * g ≡ g → x ≡ 1
    one_of x g p e = sym (mul-div_cancel x p) ∙ ap (λ (n : ℕ). n / g) e ∙ div_self p

pub unsigned_abs-div : (n : ℤ) (g : ℕ) → unsigned_abs (int_div n (pos g)) ≡ unsigned_abs n / g
unsigned_abs-div (pos n) g = refl
unsigned_abs-div (negsuc n) g = negated (suc n / g)
  where
    negated : (m : ℕ) → unsigned_abs (neg_ℤ (pos m)) ≡ m
    negated zero = refl
    negated (suc m) = refl

pub IsPositive-quotient : (n : ℤ) (k : ℕ) → 0 < suc k / gcd (unsigned_abs n) (suc k)
IsPositive-quotient n k = div-pos (gcd (unsigned_abs n) (suc k)) (gcd_is (unsigned_abs n) (suc k)).1
  where
    div-pos : (g : ℕ) → g ∣ suc k → 0 < suc k / g
    div-pos g d = of_product (suc k / g) g (div-mul_cancel g d)
      where
        of_product : (q g : ℕ) → q * g ≡ suc k → 0 < q
        of_product zero g e = absurd (omega arith)
        of_product (suc q) g e = omega arith

pub IsReduced-quotient :
    (n : ℤ) (k : ℕ)
    → gcd (unsigned_abs (int_div n (pos (gcd (unsigned_abs n) (suc k))))) (suc k / gcd (unsigned_abs n) (suc k)) ≡ 1
IsReduced-quotient n k =
    ap (λ (a : ℕ). gcd a (suc k / gcd (unsigned_abs n) (suc k))) (unsigned_abs-div n (gcd (unsigned_abs n) (suc k)))
    ∙ reduced_of (unsigned_abs n) (suc k) (omega arith)

pub IsPositive-one : 0 < 1
IsPositive-one = omega arith

pub IsReduced-one : gcd 0 1 ≡ 1
unfolding gcd gcd_within
IsReduced-one = refl

pub gcd-zero : (a b : ℕ) → b ≡ 0 → gcd a b ≡ a
gcd-zero a b h = sym (gcd_unique a b a (IsGcd-from_zero a b h))

pub gcd-mod : (a b : ℕ) → gcd b (a % b) ≡ gcd a b
gcd-mod a b = gcd_unique a b _ (IsGcd-from_mod a b _ (gcd_is b (a % b)))

pub gcd-one : (a : ℕ) → gcd a 1 ≡ 1
gcd-one a = eq-one_of_dvd-one (gcd_is a 1).1
