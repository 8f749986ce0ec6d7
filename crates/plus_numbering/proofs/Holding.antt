-- Sums and products of numbers of which no more is held than that they pass the limit.
use Rattle.std.proofs.Common.{◌≡◌, ℕ, zero, suc, ◌+◌, ◌*◌, ◌≤◌, inl, inr, arith, refl, ap, sym, ◌∙◌, nat_lt, leb, not}
use Rattle.std.proofs.lemmas.Bool.Decides.{nat_tests}
use Rattle.std.proofs.lemmas.Bool.{cases_lt, ltb_from_iff, ltb-true, lt-ltb}
use Rattle.std.proofs.Math.Nat.{mul_comm}
use Rattle.plus_numbering.specs.Sizes.{held}

pub held-sum : (a b : ℕ) → held (held a + held b) ≡ held (a + b)
unfolding held
held-sum a b = omega arith

pub held-sum_left : (a b : ℕ) → held (held a + b) ≡ held (a + b)
unfolding held
held-sum_left a b = omega arith

pub held-sum_right : (a b : ℕ) → held (a + held b) ≡ held (a + b)
unfolding held
held-sum_right a b = omega arith

pub held-one_more : (a b r : ℕ) → held (held (a + held b) + r) ≡ held (a + (b + r))
unfolding held
held-one_more a b r = omega arith

pub held-held : (a : ℕ) → held (held a) ≡ held a
unfolding held
held-held a = omega arith

pub held-small : (a : ℕ) → a ≤ 1000001 → held a ≡ a
unfolding held
held-small a h = omega arith

pub held-large : (a : ℕ) → 1000001 ≤ a → held a ≡ 1000001
unfolding held
held-large a h = omega arith

held-product_large : (a b : ℕ) → 1000001 ≤ b → held (a * held b) ≡ held (a * b)
held-product_large zero b h = ap held (omega arith)
held-product_large (suc a) b h =
    let e = held-large b h in
    held-large (suc a * held b) (omega (arith, e)) ∙ sym (held-large (suc a * b) (omega arith))

pub held-product_right : (a b : ℕ) → held (a * held b) ≡ held (a * b)
held-product_right a b = elim (cases_lt b 1000001) [
  | inl h ↦ ap (λ (n : ℕ). held (a * n)) (held-small b (omega arith))
  | inr h ↦ held-product_large a b h
]

pub held-product_left : (a b : ℕ) → held (held a * b) ≡ held (a * b)
held-product_left a b = ap held (mul_comm (held a) b) ∙ held-product_right b a ∙ ap held (mul_comm b a)

pub held-product : (a b : ℕ) → held (held a * held b) ≡ held (a * b)
held-product a b = ap held (mul_comm (held a) (held b)) ∙ held-product_right (held b) a ∙ ap held (mul_comm (held b) a) ∙ held-product_right a b

-- what is held passes a limit exactly where the number does
pub over-held : (most n : ℕ) → most ≤ 1000000 → nat_lt most (held n) ≡ nat_lt most n
unfolding held
over-held most n h =
    ltb_from_iff (λ e. let l = ltb-true most (held n) e in omega arith, λ l. lt-ltb most (held n) (omega arith))

pub held-one : held 1 ≡ 1
unfolding held
held-one = refl

pub held-none : held 0 ≡ 0
unfolding held
held-none = refl

-- the same test, the other way round
pub not_above : (n most : ℕ) → leb n most ≡ not (nat_lt most n)
not_above n most = grind (arith, nat_tests)

pub ruleset holding = (held-sum, held-sum_left, held-sum_right, held-product, held-product_left, held-product_right, held-held, held-one, held-none)
