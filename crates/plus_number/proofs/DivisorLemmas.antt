-- Greatest common divisors and factors of two, for Stein's binary algorithm.
use Rattle.std.proofs.Common.{◌≡◌, ◌≢◌, ℕ, zero, suc, ◌+◌, ◌-◌, ◌*◌, ◌/◌, ◌%◌, ◌^◌, ◌<◌, ◌≤◌, min, max, arith, sym, ◌∙◌, ap, ap₂, refl, subst, inl, inr}
use Prim.Native.Nat.{◌∣◌}
use Rattle.std.specs.Int.{w64, trailing_zeros}
use Rattle.std.specs.Int.Count.{count_trailing_zeros, under}
use Rattle.std.proofs.lemmas.Bool.{cases_lt}
use Rattle.std.proofs.lemmas.Nat.{shr-shr, pow-add}
use Rattle.std.proofs.lemmas.Nat.Bits.{bit_at-trailing_zeros}
use Rattle.std.proofs.lemmas.Nat.Gcd.{IsGcd-swap, IsGcd-from_sub, dvd_refl, le_of_dvd}
use Rattle.std.proofs.Math.Nat.{pow-suc, dvd-sub, dvd-mul_left_of_dvd, dvd-mul_right_of_dvd, mul_assoc}
use Rattle.plus_fraction.specs.GcdLemmas.{gcd_is, gcd_unique, gcd-mul}
use Rattle.plus_fraction.specs.Gcd.{gcd}

-- a number is what stands above its lowest zeros, and these zeros
shifted-back : (w x : ℕ) → x / 2 ^ count_trailing_zeros w x * 2 ^ count_trailing_zeros w x ≡ x
unfolding count_trailing_zeros
shifted-back zero x = omega arith
shifted-back (suc w) x = by_digit x (count_trailing_zeros w (x / 2)) (x % 2) refl (shifted-back w (x / 2))
  where
    by_digit : (x t d : ℕ) → x % 2 ≡ d → x / 2 / 2 ^ t * 2 ^ t ≡ x / 2 → x / 2 ^ under d t * 2 ^ under d t ≡ x
    by_digit x t zero e h =
        let one : x / 2 / 2 ^ t ≡ x / 2 ^ suc t = shr-shr x 1 t ∙ ap (λ (k : ℕ). x / 2 ^ k) (omega arith) in
        let two : x / 2 / 2 ^ t * 2 ^ suc t ≡ x / 2 * 2 =
        ap (λ (k : ℕ). x / 2 / 2 ^ t * k) (pow-suc 2 t) ∙ sym (mul_assoc (x / 2 / 2 ^ t) (2 ^ t) 2) ∙ ap (λ (k : ℕ). k * 2) h in
        ap (λ (k : ℕ). k * 2 ^ suc t) (sym one) ∙ two ∙ omega arith
    by_digit x t (suc d) e h = omega arith

-- what is left above the lowest zeros is odd
pub odd_above : (x : ℕ) → 0 < x → x < 2 ^ 64 → x / 2 ^ trailing_zeros w64 x % 2 ≡ 1
odd_above x h fits = (bit_at-trailing_zeros w64 x h fits).1

-- a difference that wraps ends in as many zeros
trailing-wrapped : (w d : ℕ) → 0 < d → d < 2 ^ w → count_trailing_zeros w (2 ^ w - d) ≡ count_trailing_zeros w d
unfolding count_trailing_zeros
trailing-wrapped zero d h fits = absurd (omega arith)
trailing-wrapped (suc w) d h fits =
    by_digit (d % 2) refl (λ e. trailing-wrapped w (d / 2) (omega arith) (omega (arith, pow-suc 2 w)))
  where
    by_digit :
        (k : ℕ) → d % 2 ≡ k → (d % 2 ≡ 0 → count_trailing_zeros w (2 ^ w - d / 2) ≡ count_trailing_zeros w (d / 2))
        → under ((2 ^ suc w - d) % 2) (count_trailing_zeros w ((2 ^ suc w - d) / 2)) ≡ under (d % 2) (count_trailing_zeros w (d / 2))
    by_digit zero e ih =
        let half : (2 ^ suc w - d) / 2 ≡ 2 ^ w - d / 2 = omega (arith, pow-suc 2 w) in
        let low : (2 ^ suc w - d) % 2 ≡ d % 2 = omega (arith, pow-suc 2 w) in
        ap₂ under low (ap (count_trailing_zeros w) half ∙ ih e)
    by_digit (suc k) e ih =
        let low : (2 ^ suc w - d) % 2 ≡ 1 = omega (arith, pow-suc 2 w) in
        let one : d % 2 ≡ 1 = omega arith in
        ap (λ (r : ℕ). under r (count_trailing_zeros w ((2 ^ suc w - d) / 2))) low
        ∙ sym (ap (λ (r : ℕ). under r (count_trailing_zeros w (d / 2))) one)

pub trailing-difference :
    (x y : ℕ) → x ≢ y → x < 2 ^ 64 → y < 2 ^ 64
    → trailing_zeros w64 ((x + (2 ^ 64 - y)) % 2 ^ 64) ≡ trailing_zeros w64 (max x y - min x y)
trailing-difference x y ne f g = elim (cases_lt x y) [
  | inl h ↦
      let wrapped : (x + (2 ^ 64 - y)) % 2 ^ 64 ≡ 2 ^ 64 - (y - x) = omega arith in
      let size : y - x ≡ max x y - min x y = omega arith in
      ap (trailing_zeros w64) wrapped ∙ trailing-wrapped 64 (y - x) (omega arith) (omega arith) ∙ ap (trailing_zeros w64) size
  | inr h ↦ ap (trailing_zeros w64) (omega arith)
]

pub gcd_swap : (a b : ℕ) → gcd a b ≡ gcd b a
gcd_swap a b = gcd_unique b a _ (IsGcd-swap a b _ (gcd_is a b))

pub gcd_same : (a : ℕ) → gcd a a ≡ a
gcd_same a = sym (gcd_unique a a a (dvd_refl a, dvd_refl a, λ d p q. p))

gcd-sub : (a b : ℕ) → b ≤ a → gcd (a - b) b ≡ gcd a b
gcd-sub a b h = gcd_unique a b _ (IsGcd-from_sub a b _ h (gcd_is (a - b) b))

-- the lesser of two numbers is taken from the greater
gcd-apart : (a b : ℕ) → gcd (max a b - min a b) (min a b) ≡ gcd a b
gcd-apart a b = elim (cases_lt a b) [
  | inl h ↦
      ap₂ gcd (let e : max a b - min a b ≡ b - a = omega arith in e) (let e : min a b ≡ a = omega arith in e)
      ∙ gcd-sub b a (omega arith) ∙ gcd_swap b a
  | inr h ↦
      ap₂ gcd (let e : max a b - min a b ≡ a - b = omega arith in e) (let e : min a b ≡ b = omega arith in e)
      ∙ gcd-sub a b h
]

-- two divides no odd number
gcd-double : (a b : ℕ) → b % 2 ≡ 1 → gcd (a * 2) b ≡ gcd a b
gcd-double a b h =
    let g = gcd_is a b in
    sym (gcd_unique (a * 2) b (gcd a b) (dvd-mul_right_of_dvd (gcd a b) g.0 2, g.1, λ d p q. g.2 d (halved d p q) q))
  where
    product : (a b m : ℕ) → b ≡ 1 + m * 2 → a * b - a * 2 * m ≡ a
    product a b m e = rw e (omega arith)

    halved : (d : ℕ) → d ∣ a * 2 → d ∣ b → d ∣ a
    halved d p q =
        subst (λ (n : ℕ). d ∣ n) (product a b (b / 2) (omega arith))
        (dvd-sub d (dvd-mul_left_of_dvd d q a) (dvd-mul_right_of_dvd d p (b / 2)))

gcd-shift : (k a b : ℕ) → b % 2 ≡ 1 → gcd (a * 2 ^ k) b ≡ gcd a b
gcd-shift zero a b h = ap (λ (n : ℕ). gcd n b) (omega arith)
gcd-shift (suc k) a b h =
    ap (λ (n : ℕ). gcd n b) (ap (λ (n : ℕ). a * n) (pow-suc 2 k) ∙ sym (mul_assoc a (2 ^ k) 2))
    ∙ gcd-double (a * 2 ^ k) b h ∙ gcd-shift k a b h

-- a step of the algorithm: the greater number gives way to the difference without its zeros
pub gcd-step :
    (x y : ℕ) → min x y % 2 ≡ 1
    → gcd ((max x y - min x y) / 2 ^ trailing_zeros w64 (max x y - min x y)) (min x y) ≡ gcd x y
gcd-step x y h =
    let d = max x y - min x y in
    let t = trailing_zeros w64 d in
    sym (gcd-shift t (d / 2 ^ t) (min x y) h) ∙ ap (λ (n : ℕ). gcd n (min x y)) (shifted-back 64 d) ∙ gcd-apart x y

-- the factors of two that both have
gcd-shared : (p o t u : ℕ) → p % 2 ≡ 1 → o % 2 ≡ 1 → gcd (p * 2 ^ u) (o * 2 ^ t) ≡ gcd p o * 2 ^ min t u
gcd-shared p o t u first second = elim (cases_lt u t) [
  | inl l ↦
      ap (λ (n : ℕ). gcd (p * 2 ^ u) n) (sym (parted o u t (omega arith)))
      ∙ gcd-mul p (o * 2 ^ (t - u)) (2 ^ u) (pow-pos u)
      ∙ ap₂ (λ (g : ℕ) (n : ℕ). g * 2 ^ n) (gcd_swap p (o * 2 ^ (t - u)) ∙ gcd-shift (t - u) o p first ∙ gcd_swap o p) (omega arith)
  | inr l ↦
      ap (λ (n : ℕ). gcd n (o * 2 ^ t)) (sym (parted p t u l))
      ∙ gcd-mul (p * 2 ^ (u - t)) o (2 ^ t) (pow-pos t)
      ∙ ap₂ (λ (g : ℕ) (n : ℕ). g * 2 ^ n) (gcd-shift (u - t) p o second) (omega arith)
]
  where
    pow-pos : (k : ℕ) → 0 < 2 ^ k
    pow-pos zero = omega arith
    pow-pos (suc k) = omega (arith, pow-suc 2 k, pow-pos k)

    parted : (n s t : ℕ) → s ≤ t → n * 2 ^ (t - s) * 2 ^ s ≡ n * 2 ^ t
    parted n s t l =
        mul_assoc n (2 ^ (t - s)) (2 ^ s)
        ∙ ap (λ (k : ℕ). n * k) (sym (pow-add 2 (t - s) s) ∙ ap (λ (k : ℕ). 2 ^ k) (let e : t - s + s ≡ t = omega arith in e))

-- of two numbers of 64 bits, by what stands above their lowest zeros
pub gcd-set_aside :
    (a b : ℕ) → 0 < a → 0 < b → a < 2 ^ 64 → b < 2 ^ 64
    → gcd (a / 2 ^ trailing_zeros w64 a) (b / 2 ^ trailing_zeros w64 b) * 2 ^ min (trailing_zeros w64 b) (trailing_zeros w64 a) ≡ gcd a b
gcd-set_aside a b p q f g =
    sym (gcd-shared _ _ (trailing_zeros w64 b) (trailing_zeros w64 a) (odd_above a p f) (odd_above b q g))
    ∙ ap₂ gcd (shifted-back 64 a) (shifted-back 64 b)

pub gcd_le : (a b : ℕ) → 0 < b → gcd a b ≤ b
gcd_le a b h = le_of_dvd h (gcd_is a b).1
