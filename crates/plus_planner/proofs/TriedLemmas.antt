-- What was tried on the way stays true as the walk goes on and back.
use Rattle.std.proofs.Common.{◌≡◌, inl, inr, ℕ, zero, suc, ◌+◌, ◌<◌, ◌≤◌, List, [], ◌∷◌, ◌++◌, length, take, drop, refl, ap, sym, subst, ◌∙◌, arith}
use Rattle.std.specs.Prelude.{Some, slice_get, slice_index_or}
use Rattle.plus_fraction.specs.Fraction.{Fraction}
use Rattle.plus_search.specs.declared.spaces.Fate.{Fate}
use Rattle.plus_search.specs.declared.spaces.Fate.TheVariants.{Alive, Broken, Beyond}
use Rattle.plus_search.specs.Told.{path_after}
use Rattle.plus_planner.specs.declared.places.Taken.{Taken}
use Rattle.plus_planner.specs.declared.places.Tried.{Tried}
use Rattle.plus_planner.specs.Grid.{Task}
use Rattle.plus_planner.specs.Places.{StandsAt, path_of}
use Rattle.plus_planner.specs.Tried.{CanReturn, AllReturn, AllBehind, Keeps}

-- ---- lists

take_front : {A : Type 0} (n : ℕ) (xs ys : List A) → n ≤ length xs → take n (xs ++ ys) ≡ take n xs
take_front zero xs ys h = refl
take_front (suc n) [] ys h = absurd (omega arith)
take_front (suc n) (x ∷ xs) ys h = ap (λ z. x ∷ z) (take_front n xs ys (omega arith))

take_all : {A : Type 0} (xs : List A) → take (length xs) xs ≡ xs
take_all [] = refl
take_all (x ∷ xs) = ap (λ z. x ∷ z) (take_all xs)

pub stands_there : {A : Type 0} (xs : List A) (i : ℕ) (x : A) → i < length xs → x ≡ slice_index_or xs i x → slice_get xs i ≡ Some x
stands_there [] i x h e = absurd (omega arith)
stands_there (y ∷ ys) zero x h e = ap Some (sym e)
stands_there (y ∷ ys) (suc i) x h e = stands_there ys i x (omega arith) e

path_length : {Q : Type 0} (taken : List (Taken Q)) → length taken ≡ length (path_of taken)
path_length [] = refl
path_length (x ∷ xs) = ap suc (path_length xs)

pub whole_path : {Q : Type 0} (taken : List (Taken Q)) → take (length taken) (path_of taken) ≡ path_of taken
whole_path taken = ap (λ n. take n (path_of taken)) (path_length taken) ∙ take_all (path_of taken)

-- ---- behind some decisions

behind_suc : {Q : Type 0} (n i : ℕ) (ts : List (Tried Q)) (t : Tried Q) → i < length ts → t ≡ slice_index_or ts i t → t.before ≤ n → AllBehind n (take i ts) → AllBehind n (take (suc i) ts)
behind_suc n i [] t h e b a = absurd (omega arith)
behind_suc {Q} n zero (x ∷ ts) t h e b a = (subst (λ (z : Tried Q). z.before ≤ n) e b, tt)
behind_suc n (suc i) (x ∷ ts) t h e b a = (a.0, behind_suc n i ts t (omega arith) e b a.1)

pub behind_next : {Q : Type 0} (n i : ℕ) (ts : List (Tried Q)) (t : Tried Q) → i < length ts → t ≡ slice_index_or ts i t → t.before ≤ n → AllBehind n (take i ts) → AllBehind n (take (i + 1) ts)
behind_next n i ts t h e b a = subst (λ k. AllBehind n (take k ts)) (next i) (behind_suc n i ts t h e b a)
  where
    next : (k : ℕ) → suc k ≡ k + 1
    next k = omega arith

-- where it stands there are so many
pub there : {A : Type 0} (xs : List A) (i : ℕ) (x : A) → slice_get xs i ≡ Some x → i < length xs
there [] i x e = absurd (cc e)
there (y ∷ ys) zero x e = omega arith
there (y ∷ ys) (suc i) x e = (let k = there ys i x e in omega (arith, k))

-- ---- what can be taken again

module _ {Q : Type 0} (fits : Fraction → Type 0) (task : Task) where
  pub return_at : (ds : List ℕ) (ts : List (Tried Q)) (i : ℕ) (t : Tried Q) → AllReturn fits task ds ts → slice_get ts i ≡ Some t → CanReturn fits task ds t
  return_at ds [] i t a e = absurd (cc e)
  return_at ds (x ∷ ts) zero t a e = (let f : x ≡ t = cc e in subst (CanReturn fits task ds) f a.0)
  return_at ds (x ∷ ts) (suc i) t a e = return_at ds ts i t a.1 e

  return_drop : (ds : List ℕ) (n : ℕ) (ts : List (Tried Q)) → AllReturn fits task ds ts → AllReturn fits task ds (drop n ts)
  return_drop ds zero ts a = a
  return_drop ds (suc n) [] a = tt
  return_drop ds (suc n) (t ∷ ts) a = return_drop ds n ts a.1

  pub return_take : (ds : List ℕ) (n : ℕ) (ts : List (Tried Q)) → AllReturn fits task ds ts → AllReturn fits task ds (take n ts)
  return_take ds zero ts a = tt
  return_take ds (suc n) [] a = tt
  return_take ds (suc n) (t ∷ ts) a = (a.0, return_take ds n ts a.1)

  return_both : (ds : List ℕ) (ts us : List (Tried Q)) → AllReturn fits task ds ts → AllReturn fits task ds us → AllReturn fits task ds (ts ++ us)
  return_both ds [] us a b = b
  return_both ds (t ∷ ts) us a b = (a.0, return_both ds ts us a.1 b)

  -- all but one
  pub return_others : (ds : List ℕ) (i : ℕ) (ts : List (Tried Q)) → AllReturn fits task ds ts → AllReturn fits task ds (take i ts ++ drop (i + 1) ts)
  return_others ds i ts a = return_both ds (take i ts) (drop (i + 1) ts) (return_take ds i ts a) (return_drop ds (i + 1) ts a)

  -- as the walk goes on
  return_more : (ds es : List ℕ) (ts : List (Tried Q)) → AllReturn fits task ds ts → AllReturn fits task (ds ++ es) ts
  return_more ds es [] a = tt
  return_more ds es (t ∷ ts) a = (
    record {
      within = longer ds es t.before a.0.within;
      stands = subst (λ z. StandsAt fits task (z ++ t.taken.decision ∷ []) t.taken.timeline) (sym (take_front t.before ds es a.0.within)) a.0.stands;
    },
    return_more ds es ts a.1,
  )
    where
      longer : (xs ys : List ℕ) (n : ℕ) → n ≤ length xs → n ≤ length (xs ++ ys)
      longer [] ys n h = omega arith
      longer (x ∷ xs) ys zero h = omega arith
      longer (x ∷ xs) ys (suc n) h = (let k = longer xs ys n (omega arith) in omega (arith, k))

  pub return_after : (ds : List ℕ) (d : ℕ) (fate : Fate) (ts : List (Tried Q)) → AllReturn fits task ds ts → AllReturn fits task (path_after fate ds d) ts
  return_after ds d Alive ts a = return_more ds (d ∷ []) ts a
  return_after ds d Broken ts a = a
  return_after ds d Beyond ts a = a

  -- as it goes back
  return_less : (ds es : List ℕ) (ts : List (Tried Q)) → AllReturn fits task (ds ++ es) ts → AllBehind (length ds) ts → AllReturn fits task ds ts
  return_less ds es [] a b = tt
  return_less ds es (t ∷ ts) a b = (
    record {
      within = b.0;
      stands = subst (λ z. StandsAt fits task (z ++ t.taken.decision ∷ []) t.taken.timeline) (take_front t.before ds es b.0) a.0.stands;
    },
    return_less ds es ts a.1 b.1,
  )

  -- what was taken last is taken back, and kept or not
  pub return_back : (taken : List (Taken Q)) (x : Taken Q) (ts ts' : List (Tried Q)) → StandsAt fits task (path_of taken ++ x.decision ∷ []) x.timeline → AllReturn fits task (path_of taken ++ x.decision ∷ []) ts → Keeps (length taken) x ts ts' → AllReturn fits task (path_of taken) ts'
  return_back taken x ts ts' s a k =
      let ds = path_of taken in
      let old : AllReturn fits task ds (take k.count ts) =
      return_less ds (x.decision ∷ []) (take k.count ts) (return_take (ds ++ x.decision ∷ []) k.count ts a) (subst (λ n. AllBehind n (take k.count ts)) (path_length taken) k.behind) in
      elim k.is [
        | inl e ↦ subst (AllReturn fits task ds) (sym e) old
        | inr e ↦ subst (AllReturn fits task ds) (sym e) (return_both ds (take k.count ts) (record { before = length taken; taken = x } ∷ []) old (
          record {
            within = least (length taken) (length ds) (path_length taken);
            stands = subst (λ z. StandsAt fits task (z ++ x.decision ∷ []) x.timeline) (sym (whole_path taken)) s;
          },
          tt,
        ))
      ]
    where
      least : (m n : ℕ) → m ≡ n → m ≤ n
      least m n e = omega arith
