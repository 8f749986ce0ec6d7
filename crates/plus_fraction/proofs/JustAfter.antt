-- What holds just after 0: along one line, along two, and several facts at once.
use Rattle.std.proofs.Common.{◌≡◌, ◌∷◌, [], refl, pos, arith, subst, sym, ap, ap₂, ◌⊎◌, inl, inr, ◌∙◌, Less, Equal, Greater}
use Rattle.std.specs.Ordering.{ordering_then}
use Rattle.std.specs.declared.cmp.Ordering.{Ordering}
use Rattle.std.proofs.lemmas.Int.{ints}
use Rattle.plus_fraction.specs.Gcd.{gcd, gcd_within}
use Rattle.plus_fraction.specs.Fraction.{Fraction, over, whole, ◌+ℚ◌, ◌-ℚ◌, ◌*ℚ◌, ◌/ℚ◌, neg_ℚ, ◌<ℚ◌, ◌≤ℚ◌, compared}
use Rattle.plus_fraction.specs.Lines.{line, order_after}
use Rattle.plus_fraction.specs.JustAfter.{JustAfter}
use Rattle.plus_fraction.proofs.IntRing.{linear}
use Rattle.plus_fraction.proofs.Ring.{var, num, ◌⊕◌, ◌⊗◌}
use Rattle.plus_fraction.proofs.FractionRing.{ringℚ}
use Rattle.plus_fraction.proofs.FractionLaws.{*ℚ_comm}
use Rattle.plus_fraction.proofs.FractionOrder.{<ℚ_irrefl, <ℚ_trans, <ℚ_or, *ℚ-lt}
use Rattle.plus_fraction.proofs.FractionAtMost.{≤ℚ_or, <ℚ-≤ℚ_trans, le_lt, le_equal, le_by_not, le_not_above, le_cases, middle, middle_between}
use Rattle.plus_fraction.proofs.Compared.{compared-less, compared-equal, compared-greater, less-compared, equal-compared, greater-compared}
use Rattle.plus_fraction.proofs.FractionSigns.{/ℚ-mul, below_cancel, neg_above, neg_below, neg_neg, neg_zero, below_of_difference, difference_below, difference_none}
use Rattle.plus_fraction.proofs.FractionLinear.{common2, commons, nums, lt_num, le_num, num_lt}
use Rattle.plus_fraction.proofs.Constancy.{neg_line, difference}

pub one_above : whole (pos 0) <ℚ whole (pos 1)
unfolding over gcd gcd_within
one_above = record { cross = omega (arith, ints) }

pub just_after_map : (P Q : Fraction → Type 0) → ((x : Fraction) → P x → Q x) → JustAfter P → JustAfter Q
just_after_map P Q f a = record { until = a.until; above = a.above; holds = λ x p q. f x (a.holds x p q) }

-- both, up to the nearer of the two
pub just_after_both : (P Q : Fraction → Type 0) → JustAfter P → JustAfter Q → JustAfter (λ x. P x × Q x)
just_after_both P Q a b = elim (<ℚ_or a.until b.until) [
  | inl h ↦ record { until = a.until; above = a.above; holds = λ x p q. (a.holds x p q, b.holds x p (<ℚ_trans _ _ _ q h)) }
  | inr o ↦ elim o [
    | inl e ↦ record { until = a.until; above = a.above; holds = λ x p q. (a.holds x p q, b.holds x p (subst (λ z. x <ℚ z) e q)) }
    | inr h ↦ record { until = b.until; above = b.above; holds = λ x p q. (a.holds x p (<ℚ_trans _ _ _ q h), b.holds x p q) }
  ]
]

-- ---- one line
pub just_after_below : (v m : Fraction) → v <ℚ whole (pos 0) → JustAfter (λ x. line v m x <ℚ whole (pos 0))
just_after_below v m h = elim (≤ℚ_or m (whole (pos 0))) [
  | inl k ↦ record { until = whole (pos 1); above = one_above; holds = λ x p q. sum_below v (m *ℚ x) h (product m x k p) }
  | inr k ↦
      let n : m ≡ whole (pos 0) → ⊥ = λ e. <ℚ_irrefl m (subst (λ z. z <ℚ m) (sym e) k) in
      let r : Fraction = neg_ℚ v /ℚ m in
      let e : m *ℚ (neg_ℚ v /ℚ m) ≡ neg_ℚ v = *ℚ_comm m _ ∙ /ℚ-mul (neg_ℚ v) m n in
      record {
        until = r;
        above = below_cancel m (whole (pos 0)) r k (subst (λ z. m *ℚ whole (pos 0) <ℚ z) (sym e) (subst (λ z. z <ℚ neg_ℚ v) (ringℚ (m ∷ []) (num (pos 0)) (var 0 ⊗ num (pos 0)) refl) (neg_below v h)));
        holds = λ x p q. short v (m *ℚ x) (subst (λ z. m *ℚ x <ℚ z) e (subst (λ z. z <ℚ m *ℚ r) (*ℚ_comm x m) (subst (λ z. x *ℚ m <ℚ z) (*ℚ_comm r m) (*ℚ-lt x r m q k))));
      }
]
  where
    short : (v w : Fraction) → w <ℚ neg_ℚ v → v +ℚ w <ℚ whole (pos 0)
    short v w h = common2 (v +ℚ w <ℚ whole (pos 0)) v w (λ D d V W.
        let h' = simp nums at (lt_num D _ _ (search commons) (search commons) h) in
        num_lt D _ _ (search commons) (search commons) (simp nums (omega (arith, linear))))

    sum_below : (v w : Fraction) → v <ℚ whole (pos 0) → w ≤ℚ whole (pos 0) → v +ℚ w <ℚ whole (pos 0)
    sum_below v w h k = common2 (v +ℚ w <ℚ whole (pos 0)) v w (λ D d V W.
        let h' = simp nums at (lt_num D _ _ (search commons) (search commons) h) in
        let k' = simp nums at (le_num D _ _ (search commons) (search commons) k) in
        num_lt D _ _ (search commons) (search commons) (simp nums (omega (arith, linear))))

    product : (m x : Fraction) → m ≤ℚ whole (pos 0) → whole (pos 0) <ℚ x → m *ℚ x ≤ℚ whole (pos 0)
    product m x k p = elim (≤ℚ_or (m *ℚ x) (whole (pos 0))) [
      | inl l ↦ l
      | inr l ↦ elim (<ℚ_or m (whole (pos 0))) [
        | inl b ↦ absurd (<ℚ_irrefl _ (<ℚ_trans _ _ _ l (subst (λ z. m *ℚ x <ℚ z) (ringℚ (x ∷ []) (num (pos 0) ⊗ var 0) (num (pos 0)) refl) (*ℚ-lt m (whole (pos 0)) x b p))))
        | inr o ↦ elim o [
          | inl e ↦ subst (λ z. z *ℚ x ≤ℚ whole (pos 0)) (sym e) (subst (λ z. z ≤ℚ whole (pos 0)) (ringℚ (x ∷ []) (num (pos 0)) (num (pos 0) ⊗ var 0) refl) (record { cross = omega (arith, linear) }))
          | inr b ↦ absurd (<ℚ_irrefl _ (<ℚ-≤ℚ_trans _ _ _ b k))
        ]
      ]
    ]

pub just_after_falling : (v m : Fraction) → v ≡ whole (pos 0) → m <ℚ whole (pos 0) → JustAfter (λ x. line v m x <ℚ whole (pos 0))
just_after_falling v m e h = record {
  until = whole (pos 1);
  above = one_above;
  holds = λ x p q. subst (λ w. w +ℚ m *ℚ x <ℚ whole (pos 0)) (sym e)
      (subst (λ z. z <ℚ whole (pos 0)) (ringℚ (m ∷ x ∷ []) (var 0 ⊗ var 1) (num (pos 0) ⊕ var 0 ⊗ var 1) refl)
      (subst (λ z. m *ℚ x <ℚ z) (ringℚ (x ∷ []) (num (pos 0) ⊗ var 0) (num (pos 0)) refl) (*ℚ-lt m (whole (pos 0)) x h p)));
}

of_negated : (v m : Fraction) → JustAfter (λ x. line (neg_ℚ v) (neg_ℚ m) x <ℚ whole (pos 0)) → JustAfter (λ x. whole (pos 0) <ℚ line v m x)
of_negated v m = just_after_map _ _ (λ x h. subst (λ z. whole (pos 0) <ℚ z) (neg_neg (line v m x)) (neg_below _ (subst (λ z. z <ℚ whole (pos 0)) (sym (neg_line v m x)) h)))

-- one of three holds just after 0
pub data SignAfter (v m : Fraction) : Type 0 where
  below : JustAfter (λ x. line v m x <ℚ whole (pos 0)) → SignAfter v m
  above : JustAfter (λ x. whole (pos 0) <ℚ line v m x) → SignAfter v m
  none : v ≡ whole (pos 0) → m ≡ whole (pos 0) → SignAfter v m

pub sign_after : (v m : Fraction) → SignAfter v m
sign_after v m = elim (<ℚ_or v (whole (pos 0))) [
  | inl h ↦ below (just_after_below v m h)
  | inr o ↦ elim o [
    | inl e ↦ elim (<ℚ_or m (whole (pos 0))) [
      | inl h ↦ below (just_after_falling v m e h)
      | inr u ↦ elim u [
        | inl f ↦ none e f
        | inr h ↦ above (of_negated v m (just_after_falling (neg_ℚ v) (neg_ℚ m) (ap neg_ℚ e ∙ neg_zero) (neg_above m h)))
      ]
    ]
    | inr h ↦ above (of_negated v m (just_after_below (neg_ℚ v) (neg_ℚ m) (neg_above v h)))
  ]
]

-- ---- two lines
pub below_after : (v m w n : Fraction) → v <ℚ w → JustAfter (λ x. line v m x <ℚ line w n x)
below_after v m w n h = just_after_map _ _ (λ x k. below_of_difference _ _ (subst (λ z. z <ℚ whole (pos 0)) (sym (difference v m w n x)) k)) (just_after_below (v -ℚ w) (m -ℚ n) (difference_below v w h))

pub falls_after : (v m w n : Fraction) → v ≡ w → m <ℚ n → JustAfter (λ x. line v m x <ℚ line w n x)
falls_after v m w n e h = just_after_map _ _ (λ x k. below_of_difference _ _ (subst (λ z. z <ℚ whole (pos 0)) (sym (difference v m w n x)) k)) (just_after_falling (v -ℚ w) (m -ℚ n) (difference_none v w e) (difference_below m n h))

-- ---- how two lines compare
just_after_each : (P : Fraction → Type 0) → ((x : Fraction) → P x) → JustAfter P
just_after_each P f = record { until = whole (pos 1); above = one_above; holds = λ x p q. f x }

-- what holds just after holds somewhere
pub just_after_some : (P : Fraction → Type 0) → JustAfter P → (x : Fraction) × P x
just_after_some P a =
    let m = middle_between (whole (pos 0)) a.until a.above in
    (middle (whole (pos 0)) a.until, a.holds _ m.0 m.1)

pub just_after_order : (v m w n : Fraction) → JustAfter (λ x. compared (line v m x) (line w n x) ≡ order_after v m w n)
just_after_order v m w n = elim (<ℚ_or v w) [
  | inl h ↦ just_after_map _ _ (λ x k. less-compared _ _ k ∙ sym (ap (λ o. ordering_then o (compared m n)) (less-compared v w h))) (below_after v m w n h)
  | inr o ↦ elim o [
    | inl e ↦ just_after_map _ _ (λ x k. k ∙ sym (ap (λ o. ordering_then o (compared m n)) (equal-compared v w e))) (by_slopes v m w n e)
    | inr h ↦ just_after_map _ _ (λ x k. greater-compared _ _ k ∙ sym (ap (λ o. ordering_then o (compared m n)) (greater-compared v w h))) (below_after w n v m h)
  ]
]
  where
    by_slopes : (v m w n : Fraction) → v ≡ w → JustAfter (λ x. compared (line v m x) (line w n x) ≡ compared m n)
    by_slopes v m w n e = elim (<ℚ_or m n) [
      | inl h ↦ just_after_map _ _ (λ x k. less-compared _ _ k ∙ sym (less-compared m n h)) (falls_after v m w n e h)
      | inr o ↦ elim o [
        | inl f ↦ just_after_each _ (λ x. equal-compared _ _ (ap₂ (λ a b. line a b x) e f) ∙ sym (equal-compared m n f))
        | inr h ↦ just_after_map _ _ (λ x k. greater-compared _ _ k ∙ sym (greater-compared m n h)) (falls_after w n v m (sym e) h)
      ]
    ]

-- from any test of the order just after to the values and slopes
pub order_of_just_after : (P : Ordering → Type 0) (v m w n : Fraction) → JustAfter (λ x. P (compared (line v m x) (line w n x))) → P (order_after v m w n)
order_of_just_after P v m w n a =
    let s = just_after_some _ (just_after_both _ _ a (just_after_order v m w n)) in
    subst P s.1.1 s.1.0

-- and back
pub just_after_of_order : (P : Ordering → Type 0) (v m w n : Fraction) → P (order_after v m w n) → JustAfter (λ x. P (compared (line v m x) (line w n x)))
just_after_of_order P v m w n h = just_after_map _ _ (λ x e. subst P (sym e) h) (just_after_order v m w n)

pub less_just_after : (v m w n : Fraction) → JustAfter (λ x. line v m x <ℚ line w n x) → (v <ℚ w) ⊎ ((v ≡ w) × (m <ℚ n))
less_just_after v m w n a =
    cases (compared v w) (compared m n) (compared-less v w) (compared-equal v w) (compared-less m n)
    (order_of_just_after (λ o. o ≡ Less) v m w n (just_after_map _ _ (λ x k. less-compared _ _ k) a))
  where
    cases : (o p : Ordering) → (o ≡ Less → v <ℚ w) → (o ≡ Equal → v ≡ w) → (p ≡ Less → m <ℚ n) → ordering_then o p ≡ Less → (v <ℚ w) ⊎ ((v ≡ w) × (m <ℚ n))
    cases Less p f g h e = inl (f refl)
    cases Equal p f g h e = inr (g refl, h e)
    cases Greater p f g h e = absurd cc

pub just_after_less : (v m w n : Fraction) → (v <ℚ w) ⊎ ((v ≡ w) × (m <ℚ n)) → JustAfter (λ x. line v m x <ℚ line w n x)
just_after_less v m w n o = elim o [
  | inl h ↦ below_after v m w n h
  | inr p ↦ falls_after v m w n p.0 p.1
]

pub equal_just_after : (v m w n : Fraction) → JustAfter (λ x. line v m x ≡ line w n x) → (v ≡ w) × (m ≡ n)
equal_just_after v m w n a =
    cases (compared v w) (compared m n) (compared-equal v w) (compared-equal m n)
    (order_of_just_after (λ o. o ≡ Equal) v m w n (just_after_map _ _ (λ x k. equal-compared _ _ k) a))
  where
    cases : (o p : Ordering) → (o ≡ Equal → v ≡ w) → (p ≡ Equal → m ≡ n) → ordering_then o p ≡ Equal → (v ≡ w) × (m ≡ n)
    cases Less p f g e = absurd cc
    cases Equal p f g e = (f refl, g e)
    cases Greater p f g e = absurd cc

pub just_after_equal : (v m w n : Fraction) → (v ≡ w) × (m ≡ n) → JustAfter (λ x. line v m x ≡ line w n x)
just_after_equal v m w n p = just_after_each _ (λ x. ap₂ (λ a b. line a b x) p.0 p.1)

pub at_most_just_after : (v m w n : Fraction) → JustAfter (λ x. line v m x ≤ℚ line w n x) → (v <ℚ w) ⊎ ((v ≡ w) × (m ≤ℚ n))
at_most_just_after v m w n a =
    cases (compared v w) (compared m n) (compared-less v w) (compared-equal v w) (λ h. le_by_not m n (λ k. h (greater-compared m n k)))
    (order_of_just_after (λ o. o ≡ Greater → ⊥) v m w n (just_after_map _ _ (λ x k g. le_not_above _ _ k (compared-greater _ _ g)) a))
  where
    cases : (o p : Ordering) → (o ≡ Less → v <ℚ w) → (o ≡ Equal → v ≡ w) → ((p ≡ Greater → ⊥) → m ≤ℚ n) → (ordering_then o p ≡ Greater → ⊥) → (v <ℚ w) ⊎ ((v ≡ w) × (m ≤ℚ n))
    cases Less p f g h e = inl (f refl)
    cases Equal p f g h e = inr (g refl, h e)
    cases Greater p f g h e = absurd (e refl)

pub just_after_at_most : (v m w n : Fraction) → (v <ℚ w) ⊎ ((v ≡ w) × (m ≤ℚ n)) → JustAfter (λ x. line v m x ≤ℚ line w n x)
just_after_at_most v m w n o = elim o [
  | inl h ↦ just_after_map _ _ (λ x k. le_lt _ _ k) (below_after v m w n h)
  | inr p ↦ elim (le_cases m n p.1) [
    | inl h ↦ just_after_map _ _ (λ x k. le_lt _ _ k) (falls_after v m w n p.0 h)
    | inr e ↦ just_after_each _ (λ x. le_equal _ _ (ap₂ (λ a b. line a b x) p.0 e))
  ]
]
