-- An instance that is kept is that of its call.
use Rattle.std.proofs.Common.{◌≡◌, ◌≤◌, ◌<◌, ◌-◌, true, take, drop, get_or, arith, ℕ, List, [], ◌∷◌, ◌++◌, length, refl, ap, sym, subst, ◌∙◌}
use Rattle.std.specs.Prelude.{Option, Some, All, option_map, slice_get}
use Rattle.std.proofs.Math.ListN.{set, length-set}
use Rattle.std.proofs.lemmas.List.{get_or-set_same}
use Rattle.std.proofs.lemmas.List.Elements.{All-append, All-cons, All-set}
use Rattle.std.proofs.lemmas.Option.{slice_get-get_or}
use Rattle.std.specs.Str.{bytes_eq}
use Rattle.plus_types.proofs.TypesLemmas.{same-bytes}
use Rattle.plus_ground.proofs.CallsLemmas.{rest_all}
use Rattle.plus_model.specs.Terms as model
use Rattle.plus_number.specs.Frac.{fraction_of}
use Rattle.plus_state.specs.View.{action_of}
use Rattle.plus_types.specs.declared.typed.Typed.{Typed}
use Rattle.plus_instances.specs.declared.instances.Kept.{Kept}
use Rattle.plus_instances.specs.declared.instances.Place.{Place}
use Rattle.plus_instances.specs.declared.instances.Place.TheVariants.{Large, Small}
use Rattle.plus_instances.specs.declared.instances.Instances.{Instances}
use Rattle.plus_instances.specs.Made.{IsMade, IsKept, made_at, HasMade}

same_some : {A : Type 0} (x y : A) (o : Option A) → o ≡ Some x → o ≡ Some y → x ≡ y
same_some x y o e d = cc

-- what stands at the place of a call is its instance
pub made_here : (t : Typed) (i : Instances) (name : List ℕ) (args : List (List ℕ)) (place : Place) (a : model.Action)
    → HasMade t i name args place → made_at i place ≡ Some a → IsMade t name args a
made_here t i name args place a h e = subst (IsMade t name args) (same_some h.action a (made_at i place) h.is e) h.made

slice_get_end : {A : Type 0} (xs : List A) (x : A) → slice_get (xs ++ x ∷ []) (length xs) ≡ Some x
slice_get_end [] x = refl
slice_get_end (y ∷ ys) x = slice_get_end ys x

-- an instance that is kept is kept of the same pair
pub kept_too : (t u : Typed) (k : Kept) → u ≡ t → IsKept t k → IsKept u k
kept_too t u k e h = subst (λ v. IsKept v k) (sym e) h

-- another one stands at a place
pub all_set : (t : Typed) (k : Kept) (xs : List Kept) (i : ℕ) → All (IsKept t) xs → IsKept t k → All (IsKept t) (set xs i k)
all_set t k xs i a h = All-set (IsKept t) xs i k h a

pub slice_get_set : {A : Type 0} (xs : List A) (i : ℕ) (x : A) → i < length xs → slice_get (set xs i x) i ≡ Some x
slice_get_set xs i x l = slice_get-get_or (set xs i x) i x (omega (arith, length-set xs i x, l)) ∙ ap Some (get_or-set_same xs i x x l)

-- one more is kept
pub all_kept : (t : Typed) (k : Kept) (xs ys : List Kept) → All (IsKept t) xs → IsKept t k → ys ≡ xs ++ k ∷ []
    → All (IsKept t) ys
all_kept t k xs ys a h e =
    let none : All (IsKept t) [] = λ i d l. absurd (omega (arith, l)) in
    subst (All (IsKept t)) (sym e) (All-append (IsKept t) xs (k ∷ []) a (All-cons (IsKept t) k [] h none))

pub last_kept : (k : Kept) (xs ys : List Kept) (place : ℕ) → ys ≡ xs ++ k ∷ [] → place ≡ length xs
    → slice_get ys place ≡ Some k
last_kept k xs ys place e p = ap (λ zs. slice_get zs place) e ∙ ap (slice_get (xs ++ k ∷ [])) p ∙ slice_get_end xs k

-- lists of names whose first ones are the same, and the rest too
pub same_names : (xs ys : List (List ℕ)) (x y : List ℕ) → 1 ≤ length xs → x ≡ get_or xs 0 x → 1 ≤ length ys
    → y ≡ get_or ys 0 y → bytes_eq x y ≡ true → take (length xs - 1) (drop 1 xs) ≡ take (length ys - 1) (drop 1 ys)
    → xs ≡ ys
same_names [] ys x y a m b n q t = absurd (omega arith)
same_names (v ∷ vs) [] x y a m b n q t = absurd (omega arith)
same_names (v ∷ vs) (w ∷ ws) x y a m b n q t =
    let heads : v ≡ w = sym m ∙ same-bytes x y q ∙ n in
    let tails : vs ≡ ws = sym (rest_all (v ∷ vs)) ∙ t ∙ rest_all (w ∷ ws) in
    λ j. heads j ∷ tails j
