-- A stable sort gives the list that is ordered by insertion.
use Rattle.std.proofs.Common.{◌≡◌, ℕ, suc, ◌<◌, ◌≤◌, Bool, true, false, cond, not, ◌&&◌, List, [], ◌∷◌, ◌∙◌, refl, sym, ap, ap₂, length, get_or, map, arith, if◌then◌else◌}
use mathlib.Core.Bool.{true≢false}
use Rattle.std.proofs.lemmas.List.Sorted.{sorted_far, ranks_by}
use Rattle.std.specs.Prelude.{filter}
use Rattle.std.specs.Cmp.{IsStrictWeakOrder}
use Rattle.std.specs.List.Sorted.{ties, IsSortedBy, IsStableBy}
use Rattle.std.specs.Ordering.{is_lt}
use Rattle.std.specs.declared.cmp.Ordering.{Ordering}
use Rattle.std.specs.declared.cmp.Ordering.TheVariants.{Less, Equal, Greater}
use Rattle.plus_fraction.specs.Fraction.{compared}
use Rattle.plus_fraction.proofs.Compared.{compared_total}
use Rattle.plus_model.specs.Terms.{Below, Timed}
use Rattle.plus_model.specs.Value.{passes}
use Rattle.plus_model.specs.Trajectory.{is_below}
use Rattle.plus_expansion.specs.Expansion.{insert_timed, by_time}

no-cons : {X : Type 0} (x : X) (xs : List X) → x ∷ xs ≡ [] → ⊥
no-cons x xs e = let l : suc (length xs) ≡ 0 = ap length e in omega (arith, l)

module _ {X : Type 0} (lt : X → X → Bool) where
  -- none of these is less
  abbrev Above : X → List X → Type 0
  Above x [] = Unit {0}
  Above x (y ∷ ys) = (lt y x ≡ false) × Above x ys

  -- none is less than one before it
  abbrev Up : List X → Type 0
  Up [] = Unit {0}
  Up (x ∷ xs) = Above x xs × Up xs

  -- behind those that are less
  abbrev insert : X → List X → List X
  insert x [] = x ∷ []
  insert x (y ∷ ys) = if lt y x then y ∷ insert x ys else x ∷ y ∷ ys

  abbrev ordered : List X → List X
  ordered [] = []
  ordered (x ∷ xs) = insert x (ordered xs)

module _ {X : Type 0} (lt : X → X → Bool) (o : IsStrictWeakOrder lt) where
  -- ---- lists in order

  above_of : (x : X) (xs : List X) → ((k : ℕ) → k < length xs → lt (get_or xs k x) x ≡ false) → Above lt x xs
  above_of x [] h = tt
  above_of x (y ∷ ys) h = (h 0 (omega arith), above_of x ys (λ k p. h (suc k) (omega arith)))

  up_of : (xs : List X) → ((i j : ℕ) (d : X) → i ≤ j → j < length xs → lt (get_or xs j d) (get_or xs i d) ≡ false) → Up lt xs
  up_of [] h = tt
  up_of (x ∷ xs) h = (above_of x xs (λ k p. h 0 (suc k) x (omega arith) (omega arith)), up_of xs (λ i j d p q. h (suc i) (suc j) d (omega arith) (omega arith)))

  -- below one that is not above the others, none of them is above it either
  above_through : (x y : X) (ys : List X) → lt y x ≡ false → Above lt y ys → Above lt x ys
  above_through x y [] e a = tt
  above_through x y (z ∷ zs) e a = (o.chain z y x a.0 e, above_through x y zs e a.1)

  -- ---- those that tie

  tie_by : (x y : X) → lt x y ≡ false → lt y x ≡ false → ties lt x y ≡ true
  tie_by x y e f = ap₂ (λ a b. not a && not b) e f

  irrefl : (x : X) (b : Bool) → lt x x ≡ b → lt x x ≡ false
  irrefl x true e = o.one_way x x e
  irrefl x false e = e

  tie_self : (x : X) → ties lt x x ≡ true
  tie_self x = tie_by x x (irrefl x (lt x x) refl) (irrefl x (lt x x) refl)

  -- what is not below z is above y where z is
  above_both : (x y z : X) → lt y z ≡ true → lt x z ≡ false → lt y x ≡ true
  above_both x y z e f = by (lt y x) refl
    where
      by : (b : Bool) → lt y x ≡ b → lt y x ≡ true
      by true g = g
      by false g = absurd (true≢false (sym e ∙ o.chain y x z g f))

  no_tie : (x y : X) → lt y x ≡ true → ties lt y x ≡ false
  no_tie x y e = ap (λ b. not b && not (lt x y)) e

  none_ties : (y z : X) (zs : List X) → lt y z ≡ true → Above lt z zs → filter (ties lt y) zs ≡ []
  none_ties y z [] e a = refl
  none_ties y z (x ∷ xs) e a =
      ap (λ b. cond b (x ∷ filter (ties lt y) xs) (filter (ties lt y) xs)) (no_tie x y (above_both x y z e a.0)) ∙ none_ties y z xs e a.1

  -- the head of the one is not below that of the other
  head_not_below : (y z : X) (ys zs : List X) → Above lt z zs → filter (ties lt y) (y ∷ ys) ≡ filter (ties lt y) (z ∷ zs) → lt y z ≡ false
  head_not_below y z ys zs a h = by (lt y z) refl
    where
      here : filter (ties lt y) (y ∷ ys) ≡ y ∷ filter (ties lt y) ys
      here = ap (λ b. cond b (y ∷ filter (ties lt y) ys) (filter (ties lt y) ys)) (tie_self y)

      gone : lt y z ≡ true → filter (ties lt y) (z ∷ zs) ≡ []
      gone e = ap (λ b. cond b (z ∷ filter (ties lt y) zs) (filter (ties lt y) zs)) (no_tie z y e) ∙ none_ties y z zs e a

      by : (b : Bool) → lt y z ≡ b → lt y z ≡ false
      by true e = absurd (no-cons y (filter (ties lt y) ys) (sym here ∙ h ∙ gone e))
      by false e = e

  both_heads : (y z : X) (us vs : List X) (b c : Bool) → b ≡ true → c ≡ true → cond b (y ∷ us) us ≡ cond c (z ∷ vs) vs → y ≡ z
  both_heads y z us vs true true e f h = cc
  both_heads y z us vs true false e f h = absurd (true≢false (sym f))
  both_heads y z us vs false c e f h = absurd (true≢false (sym e))

  both_rests : (y z : X) (us vs : List X) (b c : Bool) → b ≡ c → cond b (y ∷ us) us ≡ cond c (z ∷ vs) vs → us ≡ vs
  both_rests y z us vs true true e h = cc
  both_rests y z us vs true false e h = absurd (true≢false e)
  both_rests y z us vs false true e h = absurd (true≢false (sym e))
  both_rests y z us vs false false e h = h

  -- two lists in order in which those that tie stand alike are one
  one_order : (ys zs : List X) → Up lt ys → Up lt zs → ((x : X) → filter (ties lt x) ys ≡ filter (ties lt x) zs) → ys ≡ zs
  one_order [] [] u w h = refl
  one_order [] (z ∷ zs) u w h =
      absurd (no-cons z (filter (ties lt z) zs) (sym (ap (λ b. cond b (z ∷ filter (ties lt z) zs) (filter (ties lt z) zs)) (tie_self z)) ∙ sym (h z)))
  one_order (y ∷ ys) [] u w h =
      absurd (no-cons y (filter (ties lt y) ys) (sym (ap (λ b. cond b (y ∷ filter (ties lt y) ys) (filter (ties lt y) ys)) (tie_self y)) ∙ h y))
  one_order (y ∷ ys) (z ∷ zs) u w h =
      let first = head_not_below y z ys zs w.0 (h y) in
      let second = head_not_below z y zs ys u.0 (sym (h z)) in
      let same : y ≡ z = both_heads y z _ _ (ties lt y y) (ties lt y z) (tie_self y) (tie_by y z first second) (h y) in
      ap₂ (λ x xs. x ∷ xs) same
      (one_order ys zs u.1 w.1 (λ x. both_rests y z _ _ (ties lt x y) (ties lt x z) (ap (ties lt x) same) (h x)))

  -- ---- insertion

  above_insert : (x y : X) (ys : List X) → lt y x ≡ false → Above lt x ys → Above lt x (insert lt y ys)
  above_insert x y [] e a = (e, tt)
  above_insert x y (z ∷ zs) e a = by (lt z y) (above_insert x y zs e a.1)
    where
      by : (b : Bool) → Above lt x (insert lt y zs) → Above lt x (if b then z ∷ insert lt y zs else y ∷ z ∷ zs)
      by true rest = (a.0, rest)
      by false rest = (e, a)

  up_insert : (x : X) (ys : List X) → Up lt ys → Up lt (insert lt x ys)
  up_insert x [] u = (tt, tt)
  up_insert x (y ∷ ys) u = by (lt y x) refl (up_insert x ys u.1)
    where
      by : (b : Bool) → lt y x ≡ b → Up lt (insert lt x ys) → Up lt (if b then y ∷ insert lt x ys else x ∷ y ∷ ys)
      by true e rest = (above_insert y x ys (o.one_way y x e) u.0, rest)
      by false e rest = ((e, above_through x y ys e u.0), u)

  up_ordered : (xs : List X) → Up lt (ordered lt xs)
  up_ordered [] = tt
  up_ordered (x ∷ xs) = up_insert x (ordered lt xs) (up_ordered xs)

  -- of two that do not tie one at most is kept, so their order does not tell
  swapped : (x y : X) (us : List X) (b c : Bool) → (b ≡ true → c ≡ true → ⊥) → cond b (x ∷ cond c (y ∷ us) us) (cond c (y ∷ us) us) ≡ cond c (y ∷ cond b (x ∷ us) us) (cond b (x ∷ us) us)
  swapped x y us true true n = absurd (n refl refl)
  swapped x y us true false n = refl
  swapped x y us false true n = refl
  swapped x y us false false n = refl

  not-true : (a b : Bool) → not a && not b ≡ true → (a ≡ false) × (b ≡ false)
  not-true true b e = absurd (true≢false (sym e))
  not-true false true e = absurd (true≢false (sym e))
  not-true false false e = (refl, refl)

  not_both : (x y z : X) → lt y x ≡ true → ties lt z y ≡ true → ties lt z x ≡ true → ⊥
  not_both x y z e f g =
      let a = not-true (lt z y) (lt y z) f in
      let b = not-true (lt z x) (lt x z) g in
      true≢false (sym e ∙ o.chain y z x a.1 b.0)

  kept_insert : (z x : X) (ys : List X) → filter (ties lt z) (insert lt x ys) ≡ filter (ties lt z) (x ∷ ys)
  kept_insert z x [] = refl
  kept_insert z x (y ∷ ys) = by (lt y x) refl (kept_insert z x ys)
    where
      by :
          (b : Bool) → lt y x ≡ b → filter (ties lt z) (insert lt x ys) ≡ filter (ties lt z) (x ∷ ys)
          → filter (ties lt z) (if b then y ∷ insert lt x ys else x ∷ y ∷ ys) ≡ filter (ties lt z) (x ∷ y ∷ ys)
      by true e rest =
          ap (λ us. cond (ties lt z y) (y ∷ us) us) rest
          ∙ swapped y x (filter (ties lt z) ys) (ties lt z y) (ties lt z x) (not_both x y z e)
      by false e rest = refl

  kept_ordered : (z : X) (xs : List X) → filter (ties lt z) (ordered lt xs) ≡ filter (ties lt z) xs
  kept_ordered z [] = refl
  kept_ordered z (x ∷ xs) =
      kept_insert z x (ordered lt xs) ∙ ap (λ us. cond (ties lt z x) (x ∷ us) us) (kept_ordered z xs)

  stable_is : (xs ys : List X) → IsSortedBy lt ys → IsStableBy lt xs ys → ys ≡ ordered lt xs
  stable_is xs ys s t =
      one_order ys (ordered lt xs) (up_of ys (sorted_far lt o ys s)) (up_ordered xs) (λ x. t x ∙ sym (kept_ordered x xs))

-- ---- by the times of what is viewed as timed literals

less_is_below : (r : Ordering) → is_lt r ≡ passes Below r
less_is_below Less = refl
less_is_below Equal = refl
less_is_below Greater = refl

module _ {X : Type 0} (view : X → Timed) where
  abbrev pub is_earlier : X → X → Bool
  is_earlier x y = is_lt (compared (view x).time (view y).time)

  viewed_insert : (x : X) (ys : List X) → map view (insert is_earlier x ys) ≡ insert_timed (view x) (map view ys)
  viewed_insert x [] = refl
  viewed_insert x (y ∷ ys) =
      by (is_earlier y x) (is_below (view y).time (view x).time) (less_is_below (compared (view y).time (view x).time)) (viewed_insert x ys)
    where
      by :
          (b c : Bool) → b ≡ c → map view (insert is_earlier x ys) ≡ insert_timed (view x) (map view ys)
          → map view (if b then y ∷ insert is_earlier x ys else x ∷ y ∷ ys) ≡ (if c then view y ∷ insert_timed (view x) (map view ys) else view x ∷ view y ∷ map view ys)
      by true true e rest = ap (λ us. view y ∷ us) rest
      by true false e rest = absurd (true≢false e)
      by false true e rest = absurd (true≢false (sym e))
      by false false e rest = refl

  viewed_ordered : (xs : List X) → map view (ordered is_earlier xs) ≡ by_time (map view xs)
  viewed_ordered [] = refl
  viewed_ordered (x ∷ xs) =
      viewed_insert x (ordered is_earlier xs) ∙ ap (insert_timed (view x)) (viewed_ordered xs)

  pub sorted_is : (xs ys : List X) → IsSortedBy is_earlier ys → IsStableBy is_earlier xs ys → map view ys ≡ by_time (map view xs)
  sorted_is xs ys s t = ap (map view) (stable_is is_earlier (ranks_by compared_total (λ y. (view y).time)) xs ys s t) ∙ viewed_ordered xs
