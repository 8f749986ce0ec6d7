-- Lists: what holds of all members of joined lists, and lists in which no two members are the same.
use Rattle.std.proofs.Common.{◌≡◌, ℕ, Bool, true, false, ◌||◌, ◌&&◌, List, [], ◌∷◌, ◌++◌, refl, ap, sym, subst, ◌∙◌, append_assoc, append-nil, flat_map}
use Rattle.std.specs.Bool.{Decides}
use Rattle.std.specs.List.{list_any, AllByRecursion, IsDistinct}
use Rattle.std.specs.Str.{bytes_eq}
use Rattle.std.specs.Cmp.Lexicographic.{pointwise}
use Rattle.std.proofs.lemmas.List.{map-append}
use Rattle.std.proofs.lemmas.List.Folds.{list_any-append}
use Rattle.std.proofs.lemmas.Map.Made.{AllPairs-from_IsDistinct, IsDistinct-from_AllPairs}
use Rattle.std.proofs.lemmas.Slice.Eq.{bytes_eq-Decides, slice_eq-Decides}
use Rattle.plus_tree.specs.declared.terms.TypedName.{TypedName}
use Rattle.plus_types.specs.Types.{bindings_of, bound_names, names_of}
use Rattle.plus_types.specs.Faults.{same_names}
use Rattle.plus_types.proofs.TypesLemmas.{bool-both}
use Rattle.plus_typing.specs.WellTyped.{AllDiffer}

-- ---- all members

module _ {X : Type 0} (P : X → Type 0) where
  pub all_both : (xs ys : List X) → AllByRecursion P xs → AllByRecursion P ys → AllByRecursion P (xs ++ ys)
  all_both [] ys a b = b
  all_both (x ∷ xs) ys a b = (a.0, all_both xs ys a.1 b)

  pub all_left : (xs ys : List X) → AllByRecursion P (xs ++ ys) → AllByRecursion P xs
  all_left [] ys a = tt
  all_left (x ∷ xs) ys a = (a.0, all_left xs ys a.1)

  pub all_right : (xs ys : List X) → AllByRecursion P (xs ++ ys) → AllByRecursion P ys
  all_right [] ys a = a
  all_right (x ∷ xs) ys a = all_right xs ys a.1

  pub all_inner : {Y : Type 0} (f : Y → List X) (ys : List Y) → AllByRecursion P (flat_map f ys) → AllByRecursion (λ y. AllByRecursion P (f y)) ys
  all_inner f [] a = tt
  all_inner f (y ∷ ys) a = (all_left (f y) (flat_map f ys) a, all_inner f ys (all_right (f y) (flat_map f ys) a))

  pub all_outer : {Y : Type 0} (f : Y → List X) (ys : List Y) → AllByRecursion (λ y. AllByRecursion P (f y)) ys → AllByRecursion P (flat_map f ys)
  all_outer f [] a = tt
  all_outer f (y ∷ ys) a = all_both (f y) (flat_map f ys) a.0 (all_outer f ys a.1)

pub all_more : {X : Type 0} (P Q : X → Type 0) → ((x : X) → P x → Q x) → (xs : List X) → AllByRecursion P xs → AllByRecursion Q xs
all_more P Q h [] a = tt
all_more P Q h (x ∷ xs) a = (h x a.0, all_more P Q h xs a.1)

-- ---- no two the same

pub or_false : (a b : Bool) → a ≡ false → b ≡ false → (a || b) ≡ false
or_false a b e f = ap (λ x. x || b) e ∙ f

pub or_first : (a b : Bool) → (a || b) ≡ false → a ≡ false
or_first true b e = e
or_first false b e = refl

pub or_second : (a b : Bool) → (a || b) ≡ false → b ≡ false
or_second true b e = absurd cc
or_second false b e = e

module _ {K : Type 0} (eq : K → K → Bool) (same : (a b : K) → Decides (eq a b) (a ≡ b)) where
  -- each is none of the earlier ones, nor of those of the list before it
  abbrev pub Fresh : List K → List K → Type 0
  Fresh earlier [] = Unit {0}
  Fresh earlier (x ∷ xs) = (list_any (eq x) earlier ≡ false) × Fresh (earlier ++ x ∷ []) xs

  abbrev None : List K → List K → Type 0
  None earlier xs = AllByRecursion (λ x. list_any (eq x) earlier ≡ false) xs

  swapped : (a b : K) → eq a b ≡ eq b a
  swapped a b = bool-both (eq a b) (eq b a) (λ t. (same b a).1 (sym ((same a b).0 t))) (λ t. (same a b).1 (sym ((same b a).0 t)))

  none_first : (earlier : List K) (x : K) (xs : List K) → None (earlier ++ x ∷ []) xs → None earlier xs
  none_first earlier x [] n = tt
  none_first earlier x (y ∷ ys) n =
      (or_first (list_any (eq y) earlier) (list_any (eq y) (x ∷ [])) (sym (list_any-append (eq y) earlier (x ∷ [])) ∙ n.0), none_first earlier x ys n.1)

  none_last : (earlier : List K) (x : K) (xs : List K) → None (earlier ++ x ∷ []) xs → AllByRecursion (λ y. eq x y ≡ false) xs
  none_last earlier x [] n = tt
  none_last earlier x (y ∷ ys) n = (
    swapped x y ∙ or_first (eq y x) false (or_second (list_any (eq y) earlier) (list_any (eq y) (x ∷ [])) (sym (list_any-append (eq y) earlier (x ∷ [])) ∙ n.0)),
    none_last earlier x ys n.1,
  )

  none_more : (earlier : List K) (x : K) (xs : List K) → None earlier xs → AllByRecursion (λ y. eq x y ≡ false) xs → None (earlier ++ x ∷ []) xs
  none_more earlier x [] n a = tt
  none_more earlier x (y ∷ ys) n a = (
    list_any-append (eq y) earlier (x ∷ []) ∙ or_false (list_any (eq y) earlier) (eq y x || false) n.0 (or_false (eq y x) false (swapped y x ∙ a.0) refl),
    none_more earlier x ys n.1 a.1,
  )

  none_nothing : (xs : List K) → None [] xs
  none_nothing [] = tt
  none_nothing (x ∷ xs) = (refl, none_nothing xs)

  fresh_distinct : (earlier xs : List K) → Fresh earlier xs → IsDistinct eq xs × None earlier xs
  unfolding IsDistinct
  fresh_distinct earlier [] f = (tt, tt)
  fresh_distinct earlier (x ∷ xs) f =
      let rest = fresh_distinct (earlier ++ x ∷ []) xs f.1 in
      ((none_last earlier x xs rest.1, rest.0), (f.0, none_first earlier x xs rest.1))

  distinct_fresh : (earlier xs : List K) → IsDistinct eq xs → None earlier xs → Fresh earlier xs
  unfolding IsDistinct
  distinct_fresh earlier [] d n = tt
  distinct_fresh earlier (x ∷ xs) d n = (n.0, distinct_fresh (earlier ++ x ∷ []) xs d.1 (none_more earlier x xs n.1 d.0))

  pub fresh_differ : (xs : List K) → Fresh [] xs → AllDiffer xs
  fresh_differ xs f = AllPairs-from_IsDistinct same xs (fresh_distinct [] xs f).0

  pub differ_fresh : (xs : List K) → AllDiffer xs → Fresh [] xs
  differ_fresh xs d = distinct_fresh [] xs (IsDistinct-from_AllPairs same xs d) (none_nothing xs)

  pub fresh_both : (earlier xs ys : List K) → Fresh earlier xs → Fresh (earlier ++ xs) ys → Fresh earlier (xs ++ ys)
  fresh_both earlier [] ys f g = subst (λ zs. Fresh zs ys) (append-nil earlier) g
  fresh_both earlier (x ∷ xs) ys f g = (f.0, fresh_both (earlier ++ x ∷ []) xs ys f.1 (subst (λ zs. Fresh zs ys) (sym (append_assoc earlier (x ∷ []) xs)) g))

  pub fresh_left : (earlier xs ys : List K) → Fresh earlier (xs ++ ys) → Fresh earlier xs
  fresh_left earlier [] ys f = tt
  fresh_left earlier (x ∷ xs) ys f = (f.0, fresh_left (earlier ++ x ∷ []) xs ys f.1)

  pub fresh_right : (earlier xs ys : List K) → Fresh earlier (xs ++ ys) → Fresh (earlier ++ xs) ys
  fresh_right earlier [] ys f = subst (λ zs. Fresh zs ys) (sym (append-nil earlier)) f
  fresh_right earlier (x ∷ xs) ys f = subst (λ zs. Fresh zs ys) (append_assoc earlier (x ∷ []) xs) (fresh_right (earlier ++ x ∷ []) xs ys f.1)

-- ---- names

same_pointwise : (xs ys : List (List ℕ)) → same_names xs ys ≡ pointwise bytes_eq xs ys
same_pointwise [] [] = refl
same_pointwise [] (y ∷ ys) = refl
same_pointwise (x ∷ xs) [] = refl
same_pointwise (x ∷ xs) (y ∷ ys) = ap (λ b. bytes_eq x y && b) (same_pointwise xs ys)

pub names_decide : (xs ys : List (List ℕ)) → Decides (same_names xs ys) (xs ≡ ys)
names_decide xs ys = slice_eq-Decides bytes_eq-Decides xs ys (same_names xs ys) (same_pointwise xs ys)

pub names_bound : (vs : List TypedName) → bound_names (bindings_of vs) ≡ names_of vs
names_bound [] = refl
names_bound (v ∷ vs) = ap (λ xs. v.name.name ∷ xs) (names_bound vs)

pub names_append : (xs ys : List TypedName) → names_of (xs ++ ys) ≡ names_of xs ++ names_of ys
names_append xs ys = map-append (λ (t : TypedName). t.name.name) xs ys
