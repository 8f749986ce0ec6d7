-- The timelines of a walk, found by their places.
use Rattle.std.proofs.Common.{◌≡◌, ℕ, zero, suc, ◌+◌, ◌-◌, ◌<◌, ◌≤◌, Bool, true, false, List, [], ◌∷◌, length, drop, drop-cons, ap, sym, ◌∙◌, arith, if◌then◌else◌}
use Rattle.std.specs.Prelude.{Some, slice_get, slice_index_or, nat_lt}
use Rattle.plus_timeline.specs.Timeline.{TimelineView}
use Rattle.plus_planner.specs.declared.places.Taken.{Taken}
use Rattle.plus_planner.specs.Places.{now_in, base_in}

last_at : {Q : Type 0} (start : TimelineView) (xs : List (Taken Q)) (x : Taken Q) (k : ℕ) → suc k ≡ length xs → Some x ≡ slice_get xs k → x.timeline ≡ now_in start xs
last_at start [] x k h e = absurd (omega arith)
last_at {Q} start (y ∷ []) x zero h e = ap (λ (z : Taken Q). z.timeline) (let f : x ≡ y = cc e in f)
last_at start (y ∷ []) x (suc k) h e = absurd (omega arith)
last_at start (y ∷ z ∷ zs) x zero h e = absurd (never (length zs) h)
  where
    never : (n : ℕ) → 1 ≡ suc (suc n) → ⊥
    never n h = omega arith
last_at start (y ∷ z ∷ zs) x (suc k) h e = last_at y.timeline (z ∷ zs) x k (less k (length zs) h) e
  where
    less : (k n : ℕ) → suc (suc k) ≡ suc (suc n) → suc k ≡ suc n
    less k n h = omega arith

pub last_now : {Q : Type 0} (start : TimelineView) (xs : List (Taken Q)) (x : Taken Q) → Some x ≡ slice_get xs (length xs - 1) → x.timeline ≡ now_in start xs
last_now start [] x e = cc e
last_now start (y ∷ ys) x e = last_at start (y ∷ ys) x (length (y ∷ ys) - 1) (more (length ys)) e
  where
    more : (n : ℕ) → suc (suc n - 1) ≡ suc n
    more n = omega arith

-- ---- one decision more on the way to the last action

pub drop_at : {Q : Type 0} (xs : List (Taken Q)) (i : ℕ) (x : Taken Q) → i < length xs → x ≡ slice_index_or xs i x → drop i xs ≡ x ∷ drop (i + 1) xs
drop_at xs i x h e =
    drop-cons xs i x h ∙ ap (λ z. z ∷ drop (suc i) xs) (sym e) ∙ ap (λ k. x ∷ drop k xs) (let f : suc i ≡ i + 1 = omega arith in f)

base_step : {Q : Type 0} (n : ℕ) (base base' r : TimelineView) (xs : List (Taken Q)) (i : ℕ) (x : Taken Q) (b : Bool) → i < length xs → x ≡ slice_index_or xs i x → nat_lt x.decision n ≡ b → base' ≡ (if b then x.timeline else base) → base_in n base (drop i xs) ≡ r → base_in n base' (drop (i + 1) xs) ≡ r
base_step n base base' r xs i x b h e k f g =
    ap (λ z. base_in n z (drop (i + 1) xs)) (f ∙ sym (ap (λ (c : Bool). if c then x.timeline else base) k))
    ∙ sym (ap (base_in n base) (drop_at xs i x h e))
    ∙ g

pub base_act : {Q : Type 0} (n : ℕ) (base base' r : TimelineView) (xs : List (Taken Q)) (i : ℕ) (x : Taken Q) → i < length xs → x ≡ slice_index_or xs i x → x.decision < n → base' ≡ x.timeline → base_in n base (drop i xs) ≡ r → base_in n base' (drop (i + 1) xs) ≡ r
base_act n base base' r xs i x h e k f g = base_step n base base' r xs i x true h e (below x.decision n k) f g
  where
    below : (m n : ℕ) → m < n → nat_lt m n ≡ true
    below m n h = grind (arith, h)

pub base_wait : {Q : Type 0} (n : ℕ) (base base' r : TimelineView) (xs : List (Taken Q)) (i : ℕ) (x : Taken Q) → i < length xs → x ≡ slice_index_or xs i x → n ≤ x.decision → base' ≡ base → base_in n base (drop i xs) ≡ r → base_in n base' (drop (i + 1) xs) ≡ r
base_wait n base base' r xs i x h e k f g = base_step n base base' r xs i x false h e (above x.decision n k) f g
  where
    above : (m n : ℕ) → n ≤ m → nat_lt m n ≡ false
    above m n h = grind (arith, h)
