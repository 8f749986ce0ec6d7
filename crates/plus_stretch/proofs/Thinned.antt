-- Sorting and thinning gives the roots below a bound in order.
use Rattle.std.proofs.Common.{◌≡◌, ◌⊎◌, ℕ, ◌<◌, ◌≤◌, suc, Bool, true, false, List, [], ◌∷◌, ◌++◌, ◌&&◌, length, map, get_or, refl, ap, ap₂, sym, subst, ◌∙◌, inl, inr, pos, arith, append_assoc, if◌then◌else◌}
use Rattle.std.proofs.lemmas.List.Elements.{All-nil, All-cons, All-head, All-tail}
use Rattle.std.proofs.lemmas.List.Sorted.{IsPermutation-sym, IsPermutation-map, All-permutation, sorted_far, ranks_by}
use Rattle.std.specs.Prelude.{Option, Some, None}
use Rattle.std.specs.List.{All}
use Rattle.std.specs.List.Sorted.{IsPermutation, IsSortedBy}
use Rattle.std.specs.Ordering.{is_lt}
use Rattle.plus_fraction.specs.Fraction.{Fraction, whole, ◌-ℚ◌, ◌<ℚ◌, ◌≤ℚ◌, compared}
use Rattle.plus_fraction.proofs.Ring.{var, num, ◌⊖◌}
use Rattle.plus_fraction.proofs.FractionRing.{ringℚ}
use Rattle.plus_fraction.proofs.FractionSigns.{lt_of_sub}
use Rattle.plus_fraction.proofs.FractionOrder.{<ℚ_irrefl, <ℚ_trans, <ℚ_or}
use Rattle.plus_fraction.proofs.FractionAtMost.{le_lt, ≤ℚ_trans, ≤ℚ-<ℚ_trans, <ℚ-≤ℚ_trans, le_by_not, le_not_above, ≤ℚ_refl}
use Rattle.plus_fraction.proofs.Compared.{less-compared, compared_total}
use Rattle.plus_fraction.proofs.JustAfter.{one_above}
use Rattle.plus_model.specs.Trajectory.{is_below}
use Rattle.plus_model.proofs.Moments.{from_below}
use Rattle.plus_stretch.specs.Crossings.{insert, rising_below, Among, RisesAbove}
use Rattle.plus_stretch.specs.Marked.{AreAscending}
use Rattle.plus_stretch.specs.Thinned.{Ascends, is_kept, thinned}
use Rattle.plus_stretch.proofs.Rising.{to_below, insert_from, rising_are}
use Rattle.plus_stretch.proofs.Roots.{among_right}
use Rattle.plus_stretch.proofs.Left.{above_all}
use Rattle.plus_settle.proofs.StillLemmas.Simply.{and_both as both_given}

-- ---- two lists that rise and have the same members are one
same_rising : (a : Fraction) (xs ys : List Fraction) → RisesAbove a xs → RisesAbove a ys → ((z : Fraction) → Among z xs → Among z ys) → ((z : Fraction) → Among z ys → Among z xs) → xs ≡ ys
same_rising a [] [] r s f g = refl
same_rising a [] (y ∷ ys) r s f g = absurd (g y (inl refl))
same_rising a (x ∷ xs) [] r s f g = absurd (f x (inl refl))
same_rising a (x ∷ xs) (y ∷ ys) r s f g = ap₂ (λ (z : Fraction) (zs : List Fraction). z ∷ zs) first (same_rising x xs ys r.1 (subst (λ (z : Fraction). RisesAbove z ys) (sym first) s.1) there back)
  where
    first : x ≡ y
    first = elim (f x (inl refl)) [
      | inl e ↦ e
      | inr i ↦ elim (g y (inl refl)) [
        | inl e ↦ sym e
        | inr j ↦ absurd (<ℚ_irrefl x (<ℚ_trans x y x (above_all x y xs r.1 j) (above_all y x ys s.1 i)))
      ]
    ]

    there : (z : Fraction) → Among z xs → Among z ys
    there z i = elim (f z (inr i)) [
      | inl e ↦ absurd (<ℚ_irrefl x (subst (λ (w : Fraction). x <ℚ w) (e ∙ sym first) (above_all x z xs r.1 i)))
      | inr j ↦ j
    ]

    back : (z : Fraction) → Among z ys → Among z xs
    back z i = elim (g z (inr i)) [
      | inl e ↦ absurd (<ℚ_irrefl y (subst (λ (w : Fraction). y <ℚ w) (e ∙ first) (above_all y z ys s.1 i)))
      | inr j ↦ j
    ]

-- ---- a list that does not fall, thinned
lower : (a b : Fraction) (xs : List Fraction) → a ≤ℚ b → RisesAbove b xs → RisesAbove a xs
lower a b [] h r = tt
lower a b (x ∷ xs) h r = (≤ℚ-<ℚ_trans a b x h r.0, r.1)

both_hold : (b c : Bool) → b && c ≡ true → (b ≡ true) × (c ≡ true)
both_hold true c e = (refl, e)
both_hold false c e = cc

rises_if : (b : Bool) (a x : Fraction) (xs : List Fraction) → (b ≡ true → a <ℚ x) → a ≤ℚ x → RisesAbove x xs → RisesAbove a ((if b then x ∷ [] else []) ++ xs)
rises_if true a x xs f h r = (f refl, r)
rises_if false a x xs f h r = lower a x xs h r

thin_rises : (len y : Fraction) (xs : List Fraction) → Ascends y xs → RisesAbove y (thinned len (Some y) xs)
thin_rises len y [] h = tt
thin_rises len y (x ∷ xs) h = rises_if (is_kept len (Some y) x) y x (thinned len (Some x) xs) (λ e. from_below y x (both_hold _ _ e).0) h.0 (thin_rises len x xs h.1)

from_if : (b : Bool) (z x : Fraction) (xs : List Fraction) → Among z ((if b then x ∷ [] else []) ++ xs) → ((b ≡ true) × (z ≡ x)) ⊎ Among z xs
from_if true z x xs h = elim h [ inl e ↦ inl (refl, e) | inr i ↦ inr i ]
from_if false z x xs h = inr h

kept_below : (len x : Fraction) (before : Option Fraction) → is_kept len before x ≡ true → x <ℚ len
kept_below len x None e = from_below x len e
kept_below len x (Some y) e = from_below x len (both_hold _ _ e).1

thin_from : (len z : Fraction) (before : Option Fraction) (xs : List Fraction) → Among z (thinned len before xs) → Among z xs × (z <ℚ len)
thin_from len z before [] h = elim h [ ]
thin_from len z before (x ∷ xs) h = elim (from_if (is_kept len before x) z x (thinned len (Some x) xs) h) [
  | inl p ↦ (inl p.1, subst (λ (w : Fraction). w <ℚ len) (sym p.1) (kept_below len x before p.0))
  | inr i ↦ (let t = thin_from len z (Some x) xs i in (inr t.0, t.1))
]

kept_here : (b : Bool) (z x : Fraction) (xs : List Fraction) → b ≡ true → z ≡ x → Among z ((if b then x ∷ [] else []) ++ xs)
kept_here true z x xs e d = inl d
kept_here false z x xs e d = cc

from_least : (x z : Fraction) (xs : List Fraction) → Ascends x xs → Among z xs → x ≤ℚ z
from_least x z [] h i = elim i [ ]
from_least x z (w ∷ xs) h i = elim i [
  | inl e ↦ subst (λ (v : Fraction). x ≤ℚ v) (sym e) h.0
  | inr j ↦ ≤ℚ_trans x w z h.0 (from_least w z xs h.1 j)
]

-- a member that is the first, or one behind it
first_or : (x z : Fraction) (xs : List Fraction) → Ascends x xs → Among z (x ∷ xs) → (z ≡ x) ⊎ ((x <ℚ z) × Among z xs)
first_or x z xs h i = elim i [
  | inl e ↦ inl e
  | inr j ↦ elim (<ℚ_or x z) [
    | inl l ↦ inr (l, j)
    | inr o ↦ elim o [ inl e ↦ inl (sym e) | inr g ↦ absurd (le_not_above x z (from_least x z xs h j) g) ]
  ]
]

thin_all : (len z y : Fraction) (xs : List Fraction) → Ascends y xs → Among z xs → y <ℚ z → z <ℚ len → Among z (thinned len (Some y) xs)
thin_all len z y [] h i l b = elim i [ ]
thin_all len z y (x ∷ xs) h i l b = elim (first_or x z xs h.1 i) [
  | inl e ↦ kept_here (is_kept len (Some y) x) z x (thinned len (Some x) xs)
      (both_given _ _ (to_below y x (subst (λ (w : Fraction). y <ℚ w) e l)) (to_below x len (subst (λ (w : Fraction). w <ℚ len) e b))) e
  | inr p ↦ among_right z (if is_kept len (Some y) x then x ∷ [] else []) _ (thin_all len z x xs h.1 p.1 p.0 b)
]

first_thinned : (len z x : Fraction) (xs : List Fraction) → Ascends x xs → Among z (x ∷ xs) → z <ℚ len → Among z (thinned len None (x ∷ xs))
first_thinned len z x xs h i b = elim (first_or x z xs h i) [
  | inl e ↦ kept_here (is_kept len None x) z x (thinned len (Some x) xs) (to_below x len (subst (λ (w : Fraction). w <ℚ len) e b)) e
  | inr p ↦ among_right z (if is_kept len None x then x ∷ [] else []) _ (thin_all len z x xs h p.1 p.0 b)
]

-- ---- what is below a bound is one of the list
from_insert : (b : Bool) (z x : Fraction) (xs ys : List Fraction) → (Among z ys → Among z xs) → Among z (if b then insert x ys else ys) → Among z (x ∷ xs)
from_insert true z x xs ys f h = elim (insert_from z x ys h) [ inl e ↦ inl e | inr i ↦ inr (f i) ]
from_insert false z x xs ys f h = inr (f h)

pub rising_from : (len z : Fraction) (xs : List Fraction) → Among z (rising_below len xs) → Among z xs
rising_from len z [] h = h
rising_from len z (x ∷ xs) h = from_insert (is_below x len) z x xs (rising_below len xs) (rising_from len z xs) h

one_less : (x : Fraction) → x -ℚ whole (pos 1) <ℚ x
one_less x = lt_of_sub (x -ℚ whole (pos 1)) x (subst (λ (z : Fraction). whole (pos 0) <ℚ z) (ringℚ (x ∷ []) (num (pos 1)) (var 0 ⊖ (var 0 ⊖ num (pos 1))) refl) one_above)

-- ---- sorting
among_all : (P : Fraction → Type 0) (z : Fraction) (xs : List Fraction) → All P xs → Among z xs → P z
among_all P z [] h i = elim i [ ]
among_all P z (x ∷ xs) h i = elim i [ inl e ↦ subst P (sym e) (All-head P x xs h) | inr j ↦ among_all P z xs (All-tail P x xs h) j ]

all_among : (P : Fraction → Type 0) (xs : List Fraction) → ((z : Fraction) → Among z xs → P z) → All P xs
all_among P [] f = All-nil P
all_among P (x ∷ xs) f = All-cons P x xs (f x (inl refl)) (all_among P xs (λ z i. f z (inr i)))

-- a permutation has the same members
permuted : (xs ys : List Fraction) → IsPermutation xs ys → (z : Fraction) → Among z ys → Among z xs
permuted xs ys p z i = among_all (λ w. Among w xs) z ys (All-permutation (λ w. Among w xs) xs ys p (all_among (λ w. Among w xs) xs (λ w j. j))) i

not_less : (x y : Fraction) → is_lt (compared x y) ≡ false → y ≤ℚ x
not_less x y e = le_by_not y x (λ l. let c = less-compared x y l in cc)

module _ {Q : Type 0} (v : Q → Fraction) where
  ascends : (y : Q) (ys : List Q) → ((i j : ℕ) (d : Q) → i ≤ j → j < length (y ∷ ys) → is_lt (compared (v (get_or (y ∷ ys) j d)) (v (get_or (y ∷ ys) i d))) ≡ false) → Ascends (v y) (map v ys)
  ascends y [] h = tt
  ascends y (z ∷ ys) h = (not_less (v z) (v y) (h 0 1 y (omega arith) (omega arith)), ascends z ys (λ i j d a b. h (suc i) (suc j) d (omega arith) (omega arith)))

  -- a sorted list does not fall
  pub all_ascend : (ys : List Q) → IsSortedBy (λ x y. is_lt (compared (v x) (v y))) ys → AreAscending (map v ys)
  all_ascend [] h = tt
  all_ascend (y ∷ ys) h = ascends y ys (sorted_far (λ x y. is_lt (compared (v x) (v y))) (ranks_by compared_total v) (y ∷ ys) h)

  sorted_is : (len : Fraction) (xs ys : List Q) → IsPermutation xs ys → ((i j : ℕ) (d : Q) → i ≤ j → j < length ys → is_lt (compared (v (get_or ys j d)) (v (get_or ys i d))) ≡ false) → thinned len None (map v ys) ≡ rising_below len (map v xs)
  sorted_is len xs [] p h =
      let out : (z : Fraction) → Among z (rising_below len (map v xs)) → ⊥ = λ z i. permuted [] (map v xs) (IsPermutation-sym (map v xs) [] (IsPermutation-map v xs [] p)) z (rising_from len z (map v xs) i) in
      same_rising (whole (pos 0)) [] (rising_below len (map v xs)) tt
      (rising_are.rise (whole (pos 0)) len (map v xs) (λ x i. absurd (permuted [] (map v xs) (IsPermutation-sym (map v xs) [] (IsPermutation-map v xs [] p)) x i)))
      (λ z i. absurd i) (λ z i. absurd (out z i))
  sorted_is len xs (y ∷ ys) p h =
      let a : Fraction = v y -ℚ whole (pos 1) in
      let q : IsPermutation (map v xs) (map v (y ∷ ys)) = IsPermutation-map v xs (y ∷ ys) p in
      let up : Ascends (v y) (map v ys) = ascends y ys h in
      same_rising a (thinned len None (map v (y ∷ ys))) (rising_below len (map v xs))
      (rises_if (is_kept len None (v y)) a (v y) (thinned len (Some (v y)) (map v ys)) (λ e. one_less (v y)) (le_lt a (v y) (one_less (v y))) (thin_rises len (v y) (map v ys) up))
      (rising_are.rise a len (map v xs) (λ x i. <ℚ-≤ℚ_trans a (v y) x (one_less (v y)) (least x (permuted (map v (y ∷ ys)) (map v xs) (IsPermutation-sym (map v xs) (map v (y ∷ ys)) q) x i))))
      (λ z i. let t = thin_from len z None (map v (y ∷ ys)) i in rising_are.all len z (map v xs) (permuted (map v xs) (map v (y ∷ ys)) q z t.0) t.1)
      (λ z i. first_thinned len z (v y) (map v ys) up (permuted (map v (y ∷ ys)) (map v xs) (IsPermutation-sym (map v xs) (map v (y ∷ ys)) q) z (rising_from len z (map v xs) i)) (rising_are.below len z (map v xs) i))
    where
      least : (x : Fraction) → Among x (map v (y ∷ ys)) → v y ≤ℚ x
      least x i = elim i [
        | inl e ↦ subst (λ (w : Fraction). v y ≤ℚ w) (sym e) (≤ℚ_refl (v y))
        | inr j ↦ from_least (v y) x (map v ys) (ascends y ys h) j
      ]

  pub rising_is : (len : Fraction) (xs ys : List Q) → IsPermutation xs ys → IsSortedBy (λ x y. is_lt (compared (v x) (v y))) ys → thinned len None (map v ys) ≡ rising_below len (map v xs)
  rising_is len xs ys p h = sorted_is len xs ys p (sorted_far (λ x y. is_lt (compared (v x) (v y))) (ranks_by compared_total v) ys h)

-- ---- how far a list is thinned
pub record Thinning (len : Fraction) (before : Option Fraction) (found rest whole : List Fraction) : Type 0 where
  pub so_far : found ++ thinned len before rest ≡ thinned len None whole

pub thinning_next : (len : Fraction) (before : Option Fraction) (x : Fraction) (found new rest whole : List Fraction) (b : Bool) → Thinning len before found (x ∷ rest) whole → b ≡ is_kept len before x → new ≡ found ++ (if b then x ∷ [] else []) → Thinning len (Some x) new rest whole
thinning_next len before x found new rest whole b h e n = record {
  so_far = ap (λ (l : List Fraction). l ++ thinned len (Some x) rest) (n ∙ ap (λ (c : Bool). found ++ (if c then x ∷ [] else [])) e)
      ∙ append_assoc found (if is_kept len before x then x ∷ [] else []) (thinned len (Some x) rest) ∙ h.so_far;
}
