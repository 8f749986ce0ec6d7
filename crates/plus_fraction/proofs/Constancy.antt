-- A linear function with no root strictly between two places has one sign there, and two lines that do not meet have one order.
use Rattle.std.proofs.Common.{◌≡◌, [], ◌∷◌, refl, pos, arith, subst, sym, ◌∙◌, ap, ap₂, inl, inr}
use Rattle.plus_fraction.specs.Fraction.{Fraction, whole, ◌+ℚ◌, ◌-ℚ◌, ◌*ℚ◌, ◌/ℚ◌, neg_ℚ, ◌<ℚ◌, compared}
use Rattle.plus_fraction.specs.Lines.{line}
use Rattle.plus_fraction.proofs.IntRing.{linear}
use Rattle.plus_fraction.proofs.Ring.{var, num, ◌⊕◌, ◌⊖◌, ◌⊗◌, minus}
use Rattle.plus_fraction.proofs.FractionRing.{ringℚ}
use Rattle.plus_fraction.proofs.FractionOrder.{<ℚ_irrefl, <ℚ_trans, <ℚ_or}
use Rattle.plus_fraction.proofs.FractionLaws.{*ℚ_comm}
use Rattle.plus_fraction.proofs.FractionSigns.{/ℚ-mul, below_cancel, lt_sub, above_of_product, neg_above, neg_below, neg_neg, neg_zero, below_of_difference, difference_below, equal_of_difference}
use Rattle.plus_fraction.proofs.FractionLinear.{common2, common3, commons, nums, lt_num, num_lt}
use Rattle.plus_fraction.proofs.Compared.{less-compared, greater-compared, same_compared, compared-sub}

rises : (v m a b : Fraction) → line v m a <ℚ whole (pos 0) → whole (pos 0) <ℚ line v m b → m *ℚ a <ℚ m *ℚ b
rises v m a b h k =
    common3 (m *ℚ a <ℚ m *ℚ b) v (m *ℚ a) (m *ℚ b) (λ D d V A B.
    let h' = simp nums at (lt_num D _ _ (search commons) (search commons) h) in
    let k' = simp nums at (lt_num D _ _ (search commons) (search commons) k) in
    num_lt D _ _ (search commons) (search commons) (omega (arith, linear)))

-- the root of v + m x
abbrev root : Fraction → Fraction → Fraction
root v m = neg_ℚ v /ℚ m

root_is : (v m : Fraction) → (m ≡ whole (pos 0) → ⊥) → m *ℚ root v m ≡ neg_ℚ v
root_is v m n = *ℚ_comm m (root v m) ∙ /ℚ-mul (neg_ℚ v) m n

pub root_zero : (v m : Fraction) → (m ≡ whole (pos 0) → ⊥) → line v m (root v m) ≡ whole (pos 0)
root_zero v m n = ap (λ z. v +ℚ z) (root_is v m n) ∙ ringℚ (v ∷ []) (var 0 ⊕ minus (var 0)) (num (pos 0)) refl

slope_above : (m a b : Fraction) → a <ℚ b → m *ℚ a <ℚ m *ℚ b → whole (pos 0) <ℚ m
slope_above m a b l h =
    above_of_product m (b -ℚ a) (lt_sub a b l)
    (subst (λ z. whole (pos 0) <ℚ z) (ringℚ (m ∷ a ∷ b ∷ []) (var 0 ⊗ var 2 ⊖ var 0 ⊗ var 1) (var 0 ⊗ (var 2 ⊖ var 1)) refl) (lt_sub _ _ h))

-- strictly between, with a root
pub record RootBetween (v m a b : Fraction) : Type 0 where
  pub place : Fraction
  pub after : a <ℚ place
  pub before : place <ℚ b
  pub is_root : line v m place ≡ whole (pos 0)

pub root_between : (v m a b : Fraction) → a <ℚ b → line v m a <ℚ whole (pos 0) → whole (pos 0) <ℚ line v m b → RootBetween v m a b
root_between v m a b l h k =
    let s = slope_above m a b l (rises v m a b h k) in
    let n : m ≡ whole (pos 0) → ⊥ = λ e. <ℚ_irrefl m (subst (λ z. z <ℚ m) (sym e) s) in
    record {
      place = root v m;
      after = below_cancel m a (root v m) s (subst (λ z. m *ℚ a <ℚ z) (sym (root_is v m n)) (falls v (m *ℚ a) h));
      before = below_cancel m (root v m) b s (subst (λ z. z <ℚ m *ℚ b) (sym (root_is v m n)) (climbs v (m *ℚ b) k));
      is_root = root_zero v m n;
    }
  where
    falls : (v w : Fraction) → v +ℚ w <ℚ whole (pos 0) → w <ℚ neg_ℚ v
    falls v w h = common2 (w <ℚ neg_ℚ v) v w (λ D d V W.
        let h' = simp nums at (lt_num D _ _ (search commons) (search commons) h) in
        num_lt D _ _ (search commons) (search commons) (simp nums (omega (arith, linear))))

    climbs : (v w : Fraction) → whole (pos 0) <ℚ v +ℚ w → neg_ℚ v <ℚ w
    climbs v w h = common2 (neg_ℚ v <ℚ w) v w (λ D d V W.
        let h' = simp nums at (lt_num D _ _ (search commons) (search commons) h) in
        num_lt D _ _ (search commons) (search commons) (simp nums (omega (arith, linear))))

pub neg_line : (v m x : Fraction) → neg_ℚ (line v m x) ≡ line (neg_ℚ v) (neg_ℚ m) x
neg_line v m x = ringℚ (v ∷ m ∷ x ∷ []) (minus (var 0 ⊕ var 1 ⊗ var 2)) (minus (var 0) ⊕ minus (var 1) ⊗ var 2) refl

-- a function that falls
pub root_between_down : (v m a b : Fraction) → a <ℚ b → whole (pos 0) <ℚ line v m a → line v m b <ℚ whole (pos 0) → RootBetween v m a b
root_between_down v m a b l h k =
    let r = root_between (neg_ℚ v) (neg_ℚ m) a b l (subst (λ z. z <ℚ whole (pos 0)) (neg_line v m a) (neg_above _ h)) (subst (λ z. whole (pos 0) <ℚ z) (neg_line v m b) (neg_below _ k)) in
    record {
      place = r.place;
      after = r.after;
      before = r.before;
      is_root = sym (neg_neg (line v m r.place)) ∙ ap neg_ℚ (neg_line v m r.place ∙ r.is_root) ∙ neg_zero;
    }

-- what is below 0 at a is below 0 at each place between
pub stays_below_from : (v m a b x : Fraction) → ((r : Fraction) → a <ℚ r → r <ℚ b → line v m r ≡ whole (pos 0) → ⊥) → line v m a <ℚ whole (pos 0) → a <ℚ x → x <ℚ b → line v m x <ℚ whole (pos 0)
stays_below_from v m a b x n h p q = elim (<ℚ_or (line v m x) (whole (pos 0))) [
  | inl k ↦ k
  | inr o ↦ elim o [
    | inl e ↦ absurd (n x p q e)
    | inr k ↦ let r = root_between v m a x p h k in absurd (n r.place r.after (<ℚ_trans _ _ _ r.before q) r.is_root)
  ]
]

-- and so it is from any place between to any other
pub stays_below : (v m a b x y : Fraction) → ((r : Fraction) → a <ℚ r → r <ℚ b → line v m r ≡ whole (pos 0) → ⊥) → a <ℚ x → x <ℚ b → a <ℚ y → y <ℚ b → line v m x <ℚ whole (pos 0) → line v m y <ℚ whole (pos 0)
stays_below v m a b x y n ax xb ay yb h = elim (<ℚ_or (line v m y) (whole (pos 0))) [
  | inl k ↦ k
  | inr o ↦ absurd (elim o [
    | inl e ↦ n y ay yb e
    | inr k ↦ elim (<ℚ_or x y) [
      | inl l ↦ let r = root_between v m x y l h k in n r.place (<ℚ_trans _ _ _ ax r.after) (<ℚ_trans _ _ _ r.before yb) r.is_root
      | inr u ↦ elim u [
        | inl e ↦ <ℚ_irrefl _ (<ℚ_trans _ _ _ h (subst (λ z. whole (pos 0) <ℚ line v m z) (sym e) k))
        | inr l ↦ let r = root_between_down v m y x l k h in n r.place (<ℚ_trans _ _ _ ay r.after) (<ℚ_trans _ _ _ r.before xb) r.is_root
      ]
    ]
  ])
]

stays_above : (v m a b x y : Fraction) → ((r : Fraction) → a <ℚ r → r <ℚ b → line v m r ≡ whole (pos 0) → ⊥) → a <ℚ x → x <ℚ b → a <ℚ y → y <ℚ b → whole (pos 0) <ℚ line v m x → whole (pos 0) <ℚ line v m y
stays_above v m a b x y n ax xb ay yb h =
    subst (λ z. whole (pos 0) <ℚ z) (neg_neg (line v m y)) (neg_below _ (subst (λ z. z <ℚ whole (pos 0)) (sym (neg_line v m y))
    (stays_below (neg_ℚ v) (neg_ℚ m) a b x y
    (λ r p q e. n r p q (sym (neg_neg (line v m r)) ∙ ap neg_ℚ (neg_line v m r ∙ e) ∙ neg_zero))
    ax xb ay yb (subst (λ z. z <ℚ whole (pos 0)) (neg_line v m x) (neg_above _ h)))))

pub same_answer : (v m a b x y : Fraction) → ((r : Fraction) → a <ℚ r → r <ℚ b → line v m r ≡ whole (pos 0) → ⊥) → a <ℚ x → x <ℚ b → a <ℚ y → y <ℚ b → compared (line v m x) (whole (pos 0)) ≡ compared (line v m y) (whole (pos 0))
same_answer v m a b x y n ax xb ay yb = elim (<ℚ_or (line v m x) (whole (pos 0))) [
  | inl h ↦ less-compared _ _ h ∙ sym (less-compared _ _ (stays_below v m a b x y n ax xb ay yb h))
  | inr o ↦ elim o [
    | inl e ↦ absurd (n x ax xb e)
    | inr h ↦ greater-compared _ _ h ∙ sym (greater-compared _ _ (stays_above v m a b x y n ax xb ay yb h))
  ]
]

-- ---- two lines
pub difference : (v m w n x : Fraction) → line v m x -ℚ line w n x ≡ line (v -ℚ w) (m -ℚ n) x
difference v m w n x = ringℚ (v ∷ m ∷ w ∷ n ∷ x ∷ []) ((var 0 ⊕ var 1 ⊗ var 4) ⊖ (var 2 ⊕ var 3 ⊗ var 4)) ((var 0 ⊖ var 2) ⊕ (var 1 ⊖ var 3) ⊗ var 4) refl

-- what is below at a stays below where they do not meet
pub stays_below_other : (v₁ m₁ v₂ m₂ a b x : Fraction) → ((r : Fraction) → a <ℚ r → r <ℚ b → line v₁ m₁ r ≡ line v₂ m₂ r → ⊥) → line v₁ m₁ a <ℚ line v₂ m₂ a → a <ℚ x → x <ℚ b → line v₁ m₁ x <ℚ line v₂ m₂ x
stays_below_other v₁ m₁ v₂ m₂ a b x n h p q =
    below_of_difference _ _ (subst (λ z. z <ℚ whole (pos 0)) (sym (difference v₁ m₁ v₂ m₂ x))
    (stays_below_from (v₁ -ℚ v₂) (m₁ -ℚ m₂) a b x
    (λ r s t e. n r s t (equal_of_difference _ _ (difference v₁ m₁ v₂ m₂ r ∙ e)))
    (subst (λ z. z <ℚ whole (pos 0)) (difference v₁ m₁ v₂ m₂ a) (difference_below _ _ h)) p q))

-- two lines that do not meet strictly between a and b compare alike there
pub same_order : (v m w n a b x y : Fraction) → ((r : Fraction) → a <ℚ r → r <ℚ b → line v m r ≡ line w n r → ⊥) → a <ℚ x → x <ℚ b → a <ℚ y → y <ℚ b → compared (line v m x) (line w n x) ≡ compared (line v m y) (line w n y)
same_order v m w n a b x y none ax xb ay yb =
    at x ∙ same_answer (v -ℚ w) (m -ℚ n) a b x y (λ r p q e. none r p q (equal_of_difference _ _ (difference v m w n r ∙ e))) ax xb ay yb ∙ sym (at y)
  where
    at : (x : Fraction) → compared (line v m x) (line w n x) ≡ compared (line (v -ℚ w) (m -ℚ n) x) (whole (pos 0))
    at x = compared-sub _ _ ∙ ap (λ z. compared z (whole (pos 0))) (difference v m w n x)

-- two lines of one slope compare as their values do
pub same_slope : (v w m n x : Fraction) → m ≡ n → compared (line v m x) (line w n x) ≡ compared v w
same_slope v w m n x e = sym (same_compared v w _ _ (up v w m n e) (λ d. ap₂ (λ a b. line a b x) d e) (up w v n m (sym e)))
  where
    up : (v w m n : Fraction) → m ≡ n → v <ℚ w → line v m x <ℚ line w n x
    up v w m n e h = subst (λ k. line v m x <ℚ line w k x) e (common3 (line v m x <ℚ line w m x) v w (m *ℚ x) (λ D d V W X.
        let h' = lt_num D _ _ V W h in
        num_lt D _ _ (search commons) (search commons) (simp nums (omega (arith, linear)))))
