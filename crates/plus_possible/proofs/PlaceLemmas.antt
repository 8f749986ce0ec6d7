-- Where the members of a list that are kept stand among all.
use Rattle.std.proofs.Common.{◌≡◌, ◌⊎◌, inl, inr, ℕ, zero, suc, ◌+◌, ◌*◌, ◌^◌, ◌<◌, ◌≤◌, Bool, true, false, cond, List, [], ◌∷◌, ◌++◌, length, map, filter, refl, ap, ap₂, sym, arith}
use Rattle.std.specs.Prelude.{Some, slice_get}
use Rattle.std.proofs.Math.Nat.{le_trans, mul-le-mul_left, pow-le-pow_left}

abbrev pub place_by : Bool → (ℕ → ℕ) → ℕ → ℕ
place_by true f zero = zero
place_by true f (suc d) = suc (f d)
place_by false f d = suc (f d)

-- the place among all of the member at this place among those that are kept; behind the last both count on
abbrev pub place : {A : Type 0} → (A → Bool) → List A → ℕ → ℕ
place p [] d = d
place p (x ∷ xs) d = place_by (p x) (place p xs) d

none_before : (n : ℕ) → 0 ≡ suc n → ⊥
none_before n h = omega arith

one_less : (m n : ℕ) → suc m ≡ suc n → m ≡ n
one_less m n h = omega arith

module _ {A : Type 0} (p : A → Bool) where
  pub same_member : (xs : List A) (d : ℕ) → slice_get xs (place p xs d) ≡ slice_get (filter p xs) d
  same_member [] d = refl
  same_member (x ∷ xs) d = go (p x) d (λ e. same_member xs e)
    where
      go : (b : Bool) (d : ℕ) → ((e : ℕ) → slice_get xs (place p xs e) ≡ slice_get (filter p xs) e) → slice_get (x ∷ xs) (place_by b (place p xs) d) ≡ slice_get (cond b (x ∷ filter p xs) (filter p xs)) d
      go true zero rest = refl
      go true (suc d) rest = rest d
      go false d rest = rest d

  pub one_place : (xs : List A) (d e : ℕ) → place p xs d ≡ place p xs e → d ≡ e
  one_place [] d e h = h
  one_place (x ∷ xs) d e h = go (p x) d e (λ i j. one_place xs i j) h
    where
      go : (b : Bool) (d e : ℕ) → ((i j : ℕ) → place p xs i ≡ place p xs j → i ≡ j) → place_by b (place p xs) d ≡ place_by b (place p xs) e → d ≡ e
      go true zero zero rest h = refl
      go true zero (suc e) rest h = absurd (none_before (place p xs e) h)
      go true (suc d) zero rest h = absurd (none_before (place p xs d) (sym h))
      go true (suc d) (suc e) rest h = ap suc (rest d e (one_less (place p xs d) (place p xs e) h))
      go false d e rest h = rest d e (one_less (place p xs d) (place p xs e) h)

  -- what is no further than the end of those that are kept is no further than the end of all
  pub inside_all : (xs : List A) (d : ℕ) → d < suc (length (filter p xs)) → place p xs d < suc (length xs)
  inside_all [] d h = h
  inside_all (x ∷ xs) d h = go (p x) d (λ e. inside_all xs e) h
    where
      go : (b : Bool) (d : ℕ) → ((e : ℕ) → e < suc (length (filter p xs)) → place p xs e < suc (length xs)) → d < suc (length (cond b (x ∷ filter p xs) (filter p xs))) → place_by b (place p xs) d < suc (length (x ∷ xs))
      go true zero rest h = omega arith
      go true (suc d) rest h = (let r = rest d (omega arith) in omega arith)
      go false d rest h = (let r = rest d h in omega arith)

  pub inside_kept : (xs : List A) (d : ℕ) → place p xs d < suc (length xs) → d < suc (length (filter p xs))
  inside_kept [] d h = h
  inside_kept (x ∷ xs) d h = go (p x) d (λ e. inside_kept xs e) h
    where
      go : (b : Bool) (d : ℕ) → ((e : ℕ) → place p xs e < suc (length xs) → e < suc (length (filter p xs))) → place_by b (place p xs) d < suc (length (x ∷ xs)) → d < suc (length (cond b (x ∷ filter p xs) (filter p xs)))
      go true zero rest h = omega arith
      go true (suc d) rest h = (let r = rest d (omega arith) in omega arith)
      go false d rest h = rest d (omega arith)

  -- a member is one of those that are kept, or one that is not
  pub record IsLeftOut (xs : List A) (e : ℕ) : Type 0 where
    pub member : A
    pub stands : slice_get xs e ≡ Some member
    pub not_kept : p member ≡ false

  pub kept_or_not : (xs : List A) (e : ℕ) → ((d : ℕ) × (e ≡ place p xs d)) ⊎ IsLeftOut xs e
  kept_or_not [] e = inl (e, refl)
  kept_or_not (x ∷ xs) zero = at_first (p x) refl
    where
      at_first : (b : Bool) → p x ≡ b → ((d : ℕ) × (zero ≡ place_by b (place p xs) d)) ⊎ IsLeftOut (x ∷ xs) zero
      at_first true i = inl (0, refl)
      at_first false i = inr record { member = x; stands = refl; not_kept = i }
  kept_or_not (x ∷ xs) (suc e) = at_later (p x) (kept_or_not xs e)
    where
      at_later : (b : Bool) → ((d : ℕ) × (e ≡ place p xs d)) ⊎ IsLeftOut xs e → ((d : ℕ) × (suc e ≡ place_by b (place p xs) d)) ⊎ IsLeftOut (x ∷ xs) (suc e)
      at_later true (inl (d, i)) = inl (suc d, ap suc i)
      at_later false (inl (d, i)) = inl (d, ap suc i)
      at_later b (inr r) = inr record { member = r.member; stands = r.stands; not_kept = r.not_kept }

  pub fewer : (xs : List A) → length (filter p xs) ≤ length xs
  fewer [] = omega arith
  fewer (x ∷ xs) = go (p x) (fewer xs)
    where
      go : (b : Bool) → length (filter p xs) ≤ length xs → length (cond b (x ∷ filter p xs) (filter p xs)) ≤ length (x ∷ xs)
      go true h = omega arith
      go false h = omega arith

-- ---- maps

-- a list that is mapped, in the two parts in which the outcome comes
pub record Parts {A B : Type 0} (f : A → B) (ds : List A) (ps qs : List B) : Type 0 where
  pub first : List A
  pub second : List A
  pub is : ds ≡ first ++ second
  pub front : ps ≡ map f first
  pub back : qs ≡ map f second

pub map_split : {A B : Type 0} (f : A → B) (ds : List A) (ps qs : List B) → map f ds ≡ ps ++ qs → Parts f ds ps qs
map_split f ds [] qs e = record { first = []; second = ds; is = refl; front = refl; back = sym e }
map_split f [] (p ∷ ps) qs e = absurd (cc e)
map_split {A} {B} f (d ∷ ds) (p ∷ ps) qs e =
    let head : f d ≡ p = cc e in
    let rest : map f ds ≡ ps ++ qs = cc e in
    let r = map_split f ds ps qs rest in
    record {
      first = d ∷ r.first;
      second = r.second;
      is = ap (λ (zs : List A). d ∷ zs) r.is;
      front = ap₂ (λ (z : B) (zs : List B). z ∷ zs) (sym head) r.front;
      back = r.back;
    }

pub one_map : {A B : Type 0} (f : A → B) → ((x y : A) → f x ≡ f y → x ≡ y) → (xs ys : List A) → map f xs ≡ map f ys → xs ≡ ys
one_map f one [] [] e = refl
one_map f one [] (y ∷ ys) e = absurd (cc e)
one_map f one (x ∷ xs) [] e = absurd (cc e)
one_map {A} f one (x ∷ xs) (y ∷ ys) e =
    let head : f x ≡ f y = cc e in
    let rest : map f xs ≡ map f ys = cc e in
    ap₂ (λ (z : A) (zs : List A). z ∷ zs) (one x y head) (one_map f one xs ys rest)

-- ---- tries that suffice for all suffice for fewer

pub enough_for_fewer : (m n k tries : ℕ) → m ≤ n → (k + 1) * (n + 2) ^ k ≤ tries → (k + 1) * (m + 2) ^ k ≤ tries
enough_for_fewer m n k tries h e =
    let less : m + 2 ≤ n + 2 = omega arith in
    le_trans (mul-le-mul_left (k + 1) (pow-le-pow_left less k)) e
