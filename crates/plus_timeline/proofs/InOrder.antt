-- Timed literals in the order of their times, and how far time may go between them.
use Rattle.std.proofs.Common.{◌≡◌, ℕ, ◌<◌, ◌≤◌, ◌-◌, zero, suc, Bool, true, false, List, [], ◌∷◌, length, map, get_or, drop, refl, ap, sym, ◌∙◌, arith, drop-cons}
use Rattle.std.proofs.lemmas.List.{drop_all}
use Rattle.std.specs.Prelude.{not, ◌&&◌, if◌then◌else◌}
use Rattle.std.specs.List.Sorted.{IsPartitionPoint, IsPartitionedBy}
use Rattle.plus_fraction.specs.Fraction.{Fraction, ◌<ℚ◌, ◌≤ℚ◌}
use Rattle.plus_fraction.proofs.FractionAtMost.{<ℚ-≤ℚ_trans}
use Rattle.plus_model.specs.Terms as model
use Rattle.plus_model.specs.Trajectory.{is_below, least}
use Rattle.plus_model.proofs.Moments.{not_below, ≤ℚ_refl, ≤ℚ_trans, ≤ℚ-<ℚ_trans, from_below}
use Rattle.plus_state.specs.declared.problem.Timed.{Timed}
use Rattle.plus_state.specs.View.{timed_of}
use Rattle.plus_state.specs.Fits.{AreInOrder}
use Rattle.plus_stretch.proofs.Rising.{to_below}
use Rattle.plus_timeline.specs.Literals.{is_before, is_by}
use Rattle.plus_stretch.proofs.Marks.{at_most as from_not_below}

pub known : (b : Bool) → ((b ≡ true) → ⊥) → b ≡ false
known true h = absurd (h refl)
known false h = refl

pub un_not : (b : Bool) → not b ≡ true → b ≡ false
un_not true h = cc
un_not false h = refl

pub un_not_false : (b : Bool) → not b ≡ false → b ≡ true
un_not_false true h = refl
un_not_false false h = cc

-- what is not below comes from there on
not_later : (x y : Fraction) → x ≤ℚ y → is_below y x ≡ false
not_later x y h = known (is_below y x) (λ e. not_below y x (from_below y x e) h)

-- ---- the least, where all are later than the bound
neither : (c : Bool) (p q : Fraction) → (if c && false then p else q) ≡ q
neither true p q = refl
neither false p q = refl

least_now : (t b a : Fraction) (ts : List model.Timed) → b ≤ℚ a → AreInOrder a ts → least t b ts ≡ b
least_now t b a [] k h = refl
least_now t b a (x ∷ ts) k h =
    let m : b ≤ℚ x.time = ≤ℚ_trans b a x.time k h.0 in
    ap (λ (c : Bool). if is_below t x.time && c then least t x.time ts else least t b ts) (not_later b x.time m)
    ∙ neither (is_below t x.time) (least t x.time ts) (least t b ts) ∙ least_now t b x.time ts m h.1

least_by : (t b : Fraction) (x : model.Timed) (ts : List model.Timed) (c : Bool) → is_below x.time b ≡ c → AreInOrder x.time ts → (if c then least t x.time ts else least t b ts) ≡ (if c then x.time else b)
least_by t b x ts true e h = least_now t x.time x.time ts (≤ℚ_refl x.time) h
least_by t b x ts false e h = least_now t b x.time ts (from_not_below x.time b e) h

least_first : (t b : Fraction) (x : model.Timed) (ts : List model.Timed) → is_below t x.time ≡ true → AreInOrder x.time ts → least t b (x ∷ ts) ≡ (if is_below x.time b then x.time else b)
least_first t b x ts e h =
    ap (λ (c : Bool). if c && is_below x.time b then least t x.time ts else least t b ts) e ∙ least_by t b x ts (is_below x.time b) refl h

module _ {Q : Type 0} (value : Q → Fraction) where
  -- ---- the order, by places
  from_first : (a : Fraction) (xs : List (Timed Q)) (k : ℕ) (d : Timed Q) → AreInOrder a (map (timed_of value) xs) → k < length xs → a ≤ℚ value (get_or xs k d).time
  from_first a [] k d h l = absurd (omega (arith, l))
  from_first a (x ∷ xs) zero d h l = h.0
  from_first a (x ∷ xs) (suc k) d h l = ≤ℚ_trans a (value x.time) _ h.0 (from_first (value x.time) xs k d h.1 (omega (arith, l)))

  rising : (a : Fraction) (xs : List (Timed Q)) (i j : ℕ) (d : Timed Q) → AreInOrder a (map (timed_of value) xs) → i ≤ j → j < length xs → value (get_or xs i d).time ≤ℚ value (get_or xs j d).time
  rising a [] i j d h l m = absurd (omega (arith, m))
  rising a (x ∷ xs) zero zero d h l m = ≤ℚ_refl (value x.time)
  rising a (x ∷ xs) zero (suc j) d h l m = from_first (value x.time) xs j d h.1 (omega (arith, m))
  rising a (x ∷ xs) (suc i) zero d h l m = absurd (omega (arith, l))
  rising a (x ∷ xs) (suc i) (suc j) d h l m = rising (value x.time) xs i j d h.1 (omega (arith, l)) (omega (arith, m))

  rest_order : (a : Fraction) (xs : List (Timed Q)) (n : ℕ) (d : Timed Q) → AreInOrder a (map (timed_of value) xs) → n < length xs → AreInOrder (value (get_or xs n d).time) (map (timed_of value) (drop (suc n) xs))
  rest_order a [] n d h l = absurd (omega (arith, l))
  rest_order a (x ∷ xs) zero d h l = h.1
  rest_order a (x ∷ xs) (suc n) d h l = rest_order (value x.time) xs n d h.1 (omega (arith, l))

  pub before_parted : (a t : Fraction) (xs : List (Timed Q)) → AreInOrder a (map (timed_of value) xs) → IsPartitionedBy (is_before value t) xs
  before_parted a t xs h i j d l m e = to_below _ t (≤ℚ-<ℚ_trans _ _ t (rising a xs i j d h l m) (from_below _ t e))

  pub by_parted : (a t : Fraction) (xs : List (Timed Q)) → AreInOrder a (map (timed_of value) xs) → IsPartitionedBy (is_by value t) xs
  by_parted a t xs h i j d l m e =
      let late : is_below t (value (get_or xs j d).time) ≡ false = un_not _ e in
      ap not (known (is_below t (value (get_or xs i d).time)) (λ q. not_at (value (get_or xs j d).time) late (<ℚ-≤ℚ_trans t _ _ (from_below t _ q) (rising a xs i j d h l m))))
    where
      not_at : (y : Fraction) → is_below t y ≡ false → t <ℚ y → ⊥
      not_at y e l = let k : is_below t y ≡ true = to_below t y l in cc (e, k)

  -- ---- the place before which the literals pass a test, told by its two neighbours
  pub point_at : (p : Timed Q → Bool) (xs : List (Timed Q)) (n : ℕ) → IsPartitionedBy p xs → n ≤ length xs → (0 < n → (d : Timed Q) → p (get_or xs (n - 1) d) ≡ true) → (n < length xs → (d : Timed Q) → p (get_or xs n d) ≡ false) → IsPartitionPoint (λ l. p l ≡ true) (λ l. p l ≡ false) xs n
  point_at p xs n h l a b = (
    λ k d i j. h k (n - 1) d (omega (arith, j)) (omega (arith, j, l)) (a (omega (arith, j)) d),
    λ k d i j. known (p (get_or xs k d)) (λ e. let f = b (omega (arith, i, j)) d in let g = h n k d i j e in cc (f, g)),
  )

  -- ---- the least of a moment and of the later times
  least_past : (t b : Fraction) (xs : List (Timed Q)) (n : ℕ) → ((k : ℕ) (d : Timed Q) → 0 ≤ k → k < n → is_by value t (get_or xs k d) ≡ true) → least t b (map (timed_of value) xs) ≡ least t b (map (timed_of value) (drop n xs))
  least_past t b xs zero h = refl
  least_past t b [] (suc n) h = refl
  least_past t b (x ∷ xs) (suc n) h =
      ap (λ (c : Bool). if c && is_below (value x.time) b then least t (value x.time) (map (timed_of value) xs) else least t b (map (timed_of value) xs)) (un_not _ (h 0 x (omega arith) (omega arith)))
      ∙ least_past t b xs n (λ k d l m. h (suc k) d (omega arith) (omega (arith, m)))

  pub least_next : (a t b : Fraction) (xs : List (Timed Q)) (n : ℕ) (d : Timed Q) → AreInOrder a (map (timed_of value) xs) → IsPartitionPoint (λ l. is_by value t l ≡ true) (λ l. is_by value t l ≡ false) xs n → n < length xs → least t b (map (timed_of value) xs) ≡ (if is_below (value (get_or xs n d).time) b then value (get_or xs n d).time else b)
  least_next a t b xs n d h p l =
      least_past t b xs n p.0 ∙ ap (λ (ys : List (Timed Q)). least t b (map (timed_of value) ys)) (drop-cons xs n d l)
      ∙ least_first t b (timed_of value (get_or xs n d)) (map (timed_of value) (drop (suc n) xs)) (un_not_false _ (p.1 n d (omega arith) l)) (rest_order a xs n d h l)

  pub least_none : (t b : Fraction) (xs : List (Timed Q)) (n : ℕ) → IsPartitionPoint (λ l. is_by value t l ≡ true) (λ l. is_by value t l ≡ false) xs n → length xs ≤ n → least t b (map (timed_of value) xs) ≡ b
  least_none t b xs n p l = least_past t b xs n p.0 ∙ ap (λ (ys : List (Timed Q)). least t b (map (timed_of value) ys)) (drop_all n xs l)

  -- the same of the literal that is read at that place
  pub least_at : (a t b r : Fraction) (xs : List (Timed Q)) (n : ℕ) (d : Timed Q) → AreInOrder a (map (timed_of value) xs) → IsPartitionPoint (λ l. is_by value t l ≡ true) (λ l. is_by value t l ≡ false) xs n → n < length xs → d ≡ get_or xs n d → r ≡ (if is_below (value d.time) b then value d.time else b) → r ≡ least t b (map (timed_of value) xs)
  least_at a t b r xs n d h p l e k = k ∙ ap (λ (x : Timed Q). if is_below (value x.time) b then value x.time else b) e ∙ sym (least_next a t b xs n d h p l)
