-- The test `compared`: what each of its answers means.
use Rattle.std.proofs.Common.{◌≡◌, ℤ, pos, arith, subst, sym, ◌∙◌, ap, ◌⊎◌, inl, inr, IsTrue, Less, Equal, Greater, cond, int_cmp, int_lt, ◌<ℤ◌, ◌*ℤ◌}
use Rattle.std.proofs.lemmas.Int.{ints}
use Rattle.plus_fraction.specs.Fraction.{Fraction, whole, ◌-ℚ◌, ◌<ℚ◌, ◌==ℚ◌, compared}
use Rattle.plus_fraction.proofs.FractionBase.{same_cross}
use Rattle.plus_fraction.proofs.FractionOrder.{<ℚ_or, <ℚ_irrefl, <ℚ_trans}
use Rattle.std.specs.Cmp.{IsTotalOrder}
use Rattle.std.specs.Ordering.{int_eq, ordering_reverse}
use Rattle.plus_fraction.proofs.FractionSigns.{difference_below, difference_none, difference_above}

-- ---- from the answer to the order
pub compared-less : (x y : Fraction) → compared x y ≡ Less → x <ℚ y
unfolding compared
compared-less x y e = record { cross = less (x.top *ℤ pos y.bottom) (y.top *ℤ pos x.bottom) e }
  where
    less : (a b : ℤ) → cond (int_lt a b) Less (cond (int_lt b a) Greater Equal) ≡ Less → a <ℤ b
    less a b e = grind (arith, ints)

pub compared-equal : (x y : Fraction) → compared x y ≡ Equal → x ≡ y
unfolding compared
compared-equal x y e = same_cross x y (equal (x.top *ℤ pos y.bottom) (y.top *ℤ pos x.bottom) e)
  where
    equal : (a b : ℤ) → cond (int_lt a b) Less (cond (int_lt b a) Greater Equal) ≡ Equal → a ≡ b
    equal a b e = grind (arith, ints)

pub compared-greater : (x y : Fraction) → compared x y ≡ Greater → y <ℚ x
unfolding compared
compared-greater x y e = record { cross = greater (x.top *ℤ pos y.bottom) (y.top *ℤ pos x.bottom) e }
  where
    greater : (a b : ℤ) → cond (int_lt a b) Less (cond (int_lt b a) Greater Equal) ≡ Greater → b <ℤ a
    greater a b e = grind (arith, ints)

-- ---- and back
pub less-compared : (x y : Fraction) → x <ℚ y → compared x y ≡ Less
unfolding compared
less-compared x y h = less (x.top *ℤ pos y.bottom) (y.top *ℤ pos x.bottom) h.cross
  where
    less : (a b : ℤ) → a <ℤ b → int_cmp a b ≡ Less
    less a b h = grind (arith, ints)

pub greater-compared : (x y : Fraction) → y <ℚ x → compared x y ≡ Greater
unfolding compared
greater-compared x y h = greater (x.top *ℤ pos y.bottom) (y.top *ℤ pos x.bottom) h.cross
  where
    greater : (a b : ℤ) → b <ℤ a → int_cmp a b ≡ Greater
    greater a b h = grind (arith, ints)

pub compared_refl : (x : Fraction) → compared x x ≡ Equal
unfolding compared
compared_refl x = equal (x.top *ℤ pos x.bottom)
  where
    equal : (a : ℤ) → int_cmp a a ≡ Equal
    equal a = grind (arith, ints)

pub equal-compared : (x y : Fraction) → x ≡ y → compared x y ≡ Equal
equal-compared x y e = subst (λ z. compared x z ≡ Equal) e (compared_refl x)

pub same_compared : (x y u w : Fraction) → (x <ℚ y → u <ℚ w) → (x ≡ y → u ≡ w) → (y <ℚ x → w <ℚ u) → compared x y ≡ compared u w
same_compared x y u w f g h = elim (<ℚ_or x y) [
  | inl k ↦ less-compared x y k ∙ sym (less-compared u w (f k))
  | inr o ↦ elim o [
    | inl e ↦ equal-compared x y e ∙ sym (equal-compared u w (g e))
    | inr k ↦ greater-compared x y k ∙ sym (greater-compared u w (h k))
  ]
]

-- x and y compare as their difference does with 0
pub compared-sub : (x y : Fraction) → compared x y ≡ compared (x -ℚ y) (whole (pos 0))
compared-sub x y = same_compared x y _ _ (difference_below x y) (difference_none x y) (difference_above x y)

-- ---- the test of equality
pub same-equal : (x y : Fraction) → IsTrue (x ==ℚ y) → x ≡ y
unfolding ◌==ℚ◌
same-equal x y h = same_cross x y (equal (x.top *ℤ pos y.bottom) (y.top *ℤ pos x.bottom) h)
  where
    equal : (a b : ℤ) → IsTrue (int_eq a b) → a ≡ b
    equal a b h = grind (arith, ints)

pub equal-same : (x y : Fraction) → x ≡ y → IsTrue (x ==ℚ y)
unfolding ◌==ℚ◌
equal-same x y e = subst (λ z. IsTrue (int_eq (x.top *ℤ pos z.bottom) (z.top *ℤ pos x.bottom))) e (itself (x.top *ℤ pos x.bottom))
  where
    itself : (a : ℤ) → IsTrue (int_eq a a)
    itself a = grind (arith, ints)

-- equal or not
pub equal_or : (x y : Fraction) → (x ≡ y) ⊎ (x ≡ y → ⊥)
equal_or x y = elim (<ℚ_or x y) [
  | inl h ↦ inr (λ e. <ℚ_irrefl y (subst (λ z. z <ℚ y) e h))
  | inr o ↦ elim o [
    | inl e ↦ inl e
    | inr h ↦ inr (λ e. <ℚ_irrefl y (subst (λ z. y <ℚ z) e h))
  ]
]

-- ---- a total order, as sorted collections want it
pub compared_flip : (x y : Fraction) → compared x y ≡ ordering_reverse (compared y x)
compared_flip x y = elim (<ℚ_or x y) [
  | inl h ↦ less-compared x y h ∙ sym (ap ordering_reverse (greater-compared y x h))
  | inr o ↦ elim o [
    | inl e ↦ equal-compared x y e ∙ sym (ap ordering_reverse (equal-compared y x (sym e)))
    | inr h ↦ greater-compared x y h ∙ sym (ap ordering_reverse (less-compared y x h))
  ]
]

pub compared_total : IsTotalOrder compared
compared_total = record {
  antisymm = compared_flip;
  trans = λ x y z p q. less-compared x z (<ℚ_trans _ _ _ (compared-less x y p) (compared-less y z q));
  congr = λ x y z p. ap (λ w. compared w z) (compared-equal x y p);
}
