-- The least root of marks, walked from one mark to the next.
use Rattle.std.proofs.Common.{◌≡◌, ◌⊎◌, true, false, List, [], ◌∷◌, refl, ap, sym, subst, ◌∙◌, inl, inr}
use Rattle.std.specs.declared.cmp.Ordering.{Ordering}
use Rattle.std.specs.declared.cmp.Ordering.TheVariants.{Less, Equal, Greater}
use Rattle.plus_fraction.specs.Fraction.{Fraction, ◌<ℚ◌, ◌≤ℚ◌, compared}
use Rattle.plus_fraction.proofs.Compared.{compared-less, compared-equal, compared-greater}
use Rattle.plus_fraction.proofs.FractionOrder.{<ℚ_irrefl}
use Rattle.plus_fraction.proofs.FractionAtMost.{le_lt, le_equal, ≤ℚ_refl, ≤ℚ_trans, <ℚ-≤ℚ_trans, le_not_above}
use Rattle.plus_model.specs.Trajectory.{is_below}
use Rattle.plus_model.proofs.Moments.{from_below}
use Rattle.plus_stretch.specs.Tests.{Whose}
use Rattle.plus_stretch.specs.Crossings.{rising_below, Among, RisesAbove}
use Rattle.plus_stretch.specs.Marked.{roots_of, IsMarked}
use Rattle.plus_stretch.specs.Least.{lesser, at_lesser, IsLeastBelow}
use Rattle.plus_stretch.proofs.Rising.{rising_are}
use Rattle.plus_stretch.proofs.Thinned.{rising_from}
use Rattle.plus_stretch.proofs.Left.{above_all}
use Rattle.plus_stretch.proofs.Marks.{at_most}
use Rattle.plus_stretch.proofs.Marking.{marked_left, marked_right, marked_either}

-- ---- marks and their roots
root_of : (x : Fraction) (w : Whose) (ms : List (Fraction × Whose)) → IsMarked x w ms → Among x (roots_of ms)
root_of x w [] i = elim i [ ]
root_of x w (m ∷ ms) i = elim i [ inl e ↦ inl e.0 | inr j ↦ inr (root_of x w ms j) ]

record OwnedAt (x : Fraction) (ms : List (Fraction × Whose)) : Type 0 where
  pub owner : Whose
  pub is : IsMarked x owner ms

owned_at : (x : Fraction) (ms : List (Fraction × Whose)) → Among x (roots_of ms) → OwnedAt x ms
owned_at x [] i = elim i [ ]
owned_at x (m ∷ ms) i = elim i [
  | inl e ↦ record { owner = m.1; is = inl (e, refl) }
  | inr j ↦ (let o = owned_at x ms j in record { owner = o.owner; is = inr o.is })
]

-- ---- the least so far
pub record LeastSoFar (bound least : Fraction) (here rest whole : List (Fraction × Whose)) : Type 0 where
  pub within : least ≤ℚ bound
  pub reached : (least ≡ bound) ⊎ Among least (roots_of whole)
  pub seen : (x : Fraction) (w : Whose) → IsMarked x w whole → IsMarked x w rest ⊎ ((least ≤ℚ x) × (x ≡ least → IsMarked x w here))
  pub of : (x : Fraction) (w : Whose) → IsMarked x w here → (x ≡ least) × IsMarked x w whole
  pub ahead : (x : Fraction) (w : Whose) → IsMarked x w rest → IsMarked x w whole

pub least_start : (bound : Fraction) (whole : List (Fraction × Whose)) → LeastSoFar bound bound [] whole whole
least_start bound whole = record {
  within = ≤ℚ_refl bound;
  reached = inl refl;
  seen = λ x w i. inl i;
  of = λ x w i. absurd i;
  ahead = λ x w i. i;
}

apart : (x y : Fraction) → x <ℚ y → y ≡ x → ⊥
apart x y l e = <ℚ_irrefl x (subst (λ (z : Fraction). x <ℚ z) e l)

module _ (bound least : Fraction) (m : Fraction × Whose) (here rest whole : List (Fraction × Whose)) (h : LeastSoFar bound least here (m ∷ rest) whole) where
  by : (o : Ordering) → compared m.0 least ≡ o → LeastSoFar bound (lesser o m.0 least) (at_lesser o m here) rest whole
  by Less c = (let l = compared-less m.0 least c in record {
    within = ≤ℚ_trans m.0 least bound (le_lt m.0 least l) h.within;
    reached = inr (root_of m.0 m.1 whole (h.ahead m.0 m.1 (inl (refl, refl))));
    seen = λ x w i. elim (h.seen x w i) [
      | inl j ↦ elim j [ inl e ↦ inr (le_equal m.0 x (sym e.0), λ d. inl e) | inr k ↦ inl k ]
      | inr p ↦ inr (le_lt m.0 x (<ℚ-≤ℚ_trans m.0 least x l p.0), λ d. absurd (apart m.0 x (<ℚ-≤ℚ_trans m.0 least x l p.0) d))
    ];
    of = λ x w i. elim i [ inl e ↦ (e.0, h.ahead x w (inl e)) | inr j ↦ absurd j ];
    ahead = λ x w i. h.ahead x w (inr i);
  })
  by Equal c = (let d = compared-equal m.0 least c in record {
    within = h.within;
    reached = h.reached;
    seen = λ x w i. elim (h.seen x w i) [
      | inl j ↦ elim j [ inl e ↦ inr (le_equal least x (sym (e.0 ∙ d)), λ q. marked_right x w here (m ∷ []) (inl e)) | inr k ↦ inl k ]
      | inr p ↦ inr (p.0, λ q. marked_left x w here (m ∷ []) (p.1 q))
    ];
    of = λ x w i. elim (marked_either x w here (m ∷ []) i) [
      | inl j ↦ h.of x w j
      | inr j ↦ elim j [ inl e ↦ (e.0 ∙ d, h.ahead x w (inl e)) | inr k ↦ absurd k ]
    ];
    ahead = λ x w i. h.ahead x w (inr i);
  })
  by Greater c = (let g = compared-greater m.0 least c in record {
    within = h.within;
    reached = h.reached;
    seen = λ x w i. elim (h.seen x w i) [
      | inl j ↦ elim j [ inl e ↦ inr (le_lt least x (subst (λ (z : Fraction). least <ℚ z) (sym e.0) g), λ q. absurd (apart least m.0 g (sym e.0 ∙ q))) | inr k ↦ inl k ]
      | inr p ↦ inr p
    ];
    of = h.of;
    ahead = λ x w i. h.ahead x w (inr i);
  })

  pub least_next : (new : Fraction) (now : List (Fraction × Whose)) → new ≡ lesser (compared m.0 least) m.0 least → now ≡ at_lesser (compared m.0 least) m here → LeastSoFar bound new now rest whole
  least_next new now e d =
      subst (λ (z : Fraction). LeastSoFar bound z now rest whole) (sym e)
      (subst (λ (ms : List (Fraction × Whose)). LeastSoFar bound (lesser (compared m.0 least) m.0 least) ms rest whole) (sym d) (by (compared m.0 least) refl))

module _ (bound least : Fraction) (here whole : List (Fraction × Whose)) (h : LeastSoFar bound least here [] whole) where
  at_least : (x : Fraction) → Among x (roots_of whole) → least ≤ℚ x
  at_least x i = (let o = owned_at x whole i in elim (h.seen x o.owner o.is) [ inl j ↦ absurd j | inr p ↦ p.0 ])

  pub least_found : is_below least bound ≡ true → IsLeastBelow bound least whole here
  least_found e = (let l = from_below least bound e in record {
    below = l;
    root = elim h.reached [ inl d ↦ absurd (apart least bound l (sym d)) | inr i ↦ i ];
    least = at_least;
    all = λ w i. elim (h.seen least w i) [ inl j ↦ absurd j | inr p ↦ p.1 refl ];
    of = h.of;
  })

  pub none_found : is_below least bound ≡ false → (x : Fraction) → Among x (roots_of whole) → bound ≤ℚ x
  none_found e x i = ≤ℚ_trans bound least x (at_most least bound e) (at_least x i)

-- ---- it is the first of those that rise
pub record FirstIs (b : Fraction) (roots : List Fraction) : Type 0 where
  pub left : List Fraction
  pub is : roots ≡ b ∷ left

first_of : (a b : Fraction) (roots : List Fraction) → RisesAbove a roots → Among b roots → ((x : Fraction) → Among x roots → b ≤ℚ x) → FirstIs b roots
first_of a b [] r i f = absurd i
first_of a b (y ∷ ys) r i f = elim i [
  | inl e ↦ record { left = ys; is = ap (λ (z : Fraction). z ∷ ys) (sym e) }
  | inr j ↦ absurd (le_not_above b y (f y (inl refl)) (above_all y b ys r.1 j))
]

pub first_is : (a bound b : Fraction) (marks here : List (Fraction × Whose)) → RisesAbove a (rising_below bound (roots_of marks)) → IsLeastBelow bound b marks here → FirstIs b (rising_below bound (roots_of marks))
first_is a bound b marks here r h =
    first_of a b (rising_below bound (roots_of marks)) r (rising_are.all bound b (roots_of marks) h.root h.below) (λ x i. h.least x (rising_from bound x (roots_of marks) i))

no_member : (roots : List Fraction) → ((x : Fraction) → Among x roots → ⊥) → roots ≡ []
no_member [] f = refl
no_member (x ∷ roots) f = absurd (f x (inl refl))

pub none_is : (bound : Fraction) (marks : List (Fraction × Whose)) → ((x : Fraction) → Among x (roots_of marks) → bound ≤ℚ x) → rising_below bound (roots_of marks) ≡ []
none_is bound marks f =
    no_member (rising_below bound (roots_of marks)) (λ x i. le_not_above bound x (f x (rising_from bound x (roots_of marks) i)) (rising_are.below bound x (roots_of marks) i))
