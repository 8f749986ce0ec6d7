-- A walk over the numbers of a list that rises, where of each number that is not listed it is known what a look at it would give.
use Rattle.std.proofs.Common.{◌≡◌, ℕ, ◌<◌, ◌≤◌, ◌+◌, ◌-◌, zero, suc, false, List, [], ◌∷◌, length, map, drop, refl, ap, sym, subst, ◌∙◌, arith}
use Rattle.std.proofs.lemmas.List.{drop_all}
use Rattle.std.proofs.lemmas.List.Elements.{All-head, All-tail}
use Rattle.std.specs.List.{All}
use Rattle.std.specs.Prelude.{Some, slice_get}
use Rattle.plus_model.specs.Firing.{is_in}
use Rattle.plus_model.specs.Running.{IsRising}
use Rattle.plus_state.specs.Numbers.{AreMembers}
use Rattle.plus_reads.proofs.Sets.{none_below, not_first}

-- where a walk over all numbers has come to a number that is not listed, it comes to the next one
abbrev pub PassesOver : (ℕ → Type 0) → ℕ → List ℕ → Type 0
PassesOver Here n whole = (k : ℕ) → k < n → is_in whole k ≡ false → Here k → Here (k + 1)

-- a walk over the listed numbers has come as far as one over all of them, up to the number `at`; these are left. `Here` says
-- what the walk over all knows where it has come to a number
pub record Walked (Here : ℕ → Type 0) (n : ℕ) (rest whole : List ℕ) : Type 0 where
  pub at : ℕ
  pub within : at ≤ n
  pub here : Here at
  pub inside : All (λ k. k < n) rest
  pub rising : IsRising at rest
  pub same : (k : ℕ) → at ≤ k → is_in rest k ≡ is_in whole k

pub walked_start : (Here : ℕ → Type 0) (n : ℕ) (whole : List ℕ) → AreMembers n whole → Here 0 → Walked Here n whole whole
walked_start Here n whole m h = record { at = 0; within = omega arith; here = h; inside = m.inside; rising = m.rising; same = λ k l. refl }

-- over d numbers that are not listed
over : (Here : ℕ → Type 0) (n : ℕ) (whole : List ℕ) (a d : ℕ) → PassesOver Here n whole → ((k : ℕ) → a ≤ k → k < a + d → is_in whole k ≡ false) → a + d ≤ n → Here a → Here (a + d)
over Here n whole a zero p f l h = (let e : a ≡ a + 0 = omega arith in subst Here e h)
over Here n whole a (suc d) p f l h =
    let one : (a + d) + 1 ≡ a + suc d = omega arith in
    subst Here one (p (a + d) (omega arith) (f (a + d) (omega arith) (omega arith)) (over Here n whole a d p (λ k i j. f k i (omega arith)) (omega arith) h))

up_to : (Here : ℕ → Type 0) (n : ℕ) (whole : List ℕ) (a b : ℕ) → PassesOver Here n whole → a ≤ b → b ≤ n → ((k : ℕ) → a ≤ k → k < b → is_in whole k ≡ false) → Here a → Here b
up_to Here n whole a b p l m f h =
    let e : a + (b - a) ≡ b = omega arith in
    subst Here e (over Here n whole a (b - a) p (λ k i j. f k i (omega arith)) (omega arith) h)

module _ (Here : ℕ → Type 0) (n k : ℕ) (rest whole : List ℕ) (w : Walked Here n (k ∷ rest) whole) where
  pub walked_inside : k < n
  walked_inside = All-head (λ k. k < n) k rest w.inside

  rises_from : IsRising k (k ∷ rest)
  rises_from = (omega arith, w.rising.1)

  -- the walk over all numbers has come to this one
  pub walked_here : PassesOver Here n whole → Here k
  walked_here p =
      let below : k < n = walked_inside in
      let later : w.at ≤ k = w.rising.0 in
      up_to Here n whole w.at k p later (omega arith) (λ i a b. sym (w.same i a) ∙ none_below k i (k ∷ rest) rises_from b) w.here

  -- the walk goes on behind it, with whatever is known there
  pub walked_on : (There : ℕ → Type 0) → There (k + 1) → Walked There n rest whole
  walked_on There h =
      let below : k < n = walked_inside in
      let later : w.at ≤ k = w.rising.0 in
      let one : suc k ≡ k + 1 = omega arith in record {
        at = k + 1;
        within = omega arith;
        here = h;
        inside = All-tail (λ k. k < n) k rest w.inside;
        rising = subst (λ (i : ℕ). IsRising i rest) one w.rising.1;
        same = λ i l. sym (not_first i k rest (λ e. omega arith)) ∙ w.same i (omega arith);
      }

  pub walked_next : Here (k + 1) → Walked Here n rest whole
  walked_next h = walked_on Here h

pub walked_end : (Here : ℕ → Type 0) (n : ℕ) (whole : List ℕ) → Walked Here n [] whole → PassesOver Here n whole → Here n
walked_end Here n whole w p = up_to Here n whole w.at n p w.within (omega arith) (λ i a b. sym (w.same i a)) w.here

-- ---- a list from one of its places on
pub record Item {A : Type 0} (xs : List A) (k : ℕ) : Type 0 where
  pub item : A
  pub is : slice_get xs k ≡ Some item

pub item_at : {A : Type 0} (xs : List A) (k : ℕ) → k < length xs → Item xs k
item_at [] k h = absurd (omega arith)
item_at (x ∷ xs) zero h = record { item = x; is = refl }
item_at (x ∷ xs) (suc k) h = (let r = item_at xs k (omega arith) in record { item = r.item; is = r.is })

dropped : {A : Type 0} (xs : List A) (k : ℕ) (x : A) → slice_get xs k ≡ Some x → drop k xs ≡ x ∷ drop (suc k) xs
dropped [] k x g = cc
dropped (y ∷ xs) zero x g = (let e : y ≡ x = cc in ap (λ z. z ∷ xs) e)
dropped (y ∷ xs) (suc k) x g = dropped xs k x g

pub from_item : {A : Type 0} (xs : List A) (k : ℕ) (x : A) → slice_get xs k ≡ Some x → drop k xs ≡ x ∷ drop (k + 1) xs
from_item xs k x g =
    let one : suc k ≡ k + 1 = omega arith in
    dropped xs k x g ∙ ap (λ (i : ℕ). x ∷ drop i xs) one

pub mapped : {A B : Type 0} (f : A → B) (xs : List A) (k : ℕ) (x : A) → slice_get xs k ≡ Some x → slice_get (map f xs) k ≡ Some (f x)
mapped f [] k x g = cc
mapped f (y ∷ xs) zero x g = (let e : y ≡ x = cc in ap (λ z. Some (f z)) e)
mapped f (y ∷ xs) (suc k) x g = mapped f xs k x g

pub none_left : {A : Type 0} (xs : List A) → drop (length xs) xs ≡ []
none_left xs = drop_all (length xs) xs (omega arith)
