-- In a well-typed pair no two objects have one name, nor two actions: each is found by its name.
use Rattle.std.proofs.Common.{◌≡◌, ◌⊎◌, inl, inr, ℕ, zero, suc, ◌<◌, Bool, true, false, List, ◌∷◌, [], length, map, Some, slice_get, get_or, IsTrue, arith, refl, ap, sym, subst}
use Rattle.std.specs.Prelude.{◌≢◌}
use Rattle.std.specs.List.{position_or_len, AllPairs}
use Rattle.std.specs.Str.{bytes_eq}
use Rattle.std.proofs.lemmas.List.{length-map}
use Rattle.std.proofs.lemmas.List.Sums.{position_or_len_is}
use Rattle.std.proofs.lemmas.Option.{slice_get_within, get_or_from_slice_get}
use Rattle.plus_tree.specs.declared.trees.Schema.{Schema}
use Rattle.plus_tree.specs.declared.trees.Domain.{Domain}
use Rattle.plus_tree.specs.declared.trees.Problem.{Problem}
use Rattle.plus_types.specs.Types.{bound_names, names_of, objects_of}
use Rattle.plus_types.specs.Faults.{problem_context, action_names, is_well_typed}
use Rattle.plus_types.proofs.TypesLemmas.{same-bytes, bytes-self}
use Rattle.plus_typing.specs.WellTyped.{NothingTwice}
use Rattle.plus_typing.proofs.Lists.{names_bound}
use Rattle.plus_typing.proofs.Typed.{well_typed_is_decided}

-- no two of the names are the same
abbrev pub IsDistinct : List (List ℕ) → Type 0
IsDistinct ns = (i j : ℕ) → i < length ns → j < length ns → get_or ns i [] ≡ get_or ns j [] → i ≡ j

-- no two objects have one name, nor two actions
pub record NamesDiffer (d : Domain) (p : Problem) : Type 0 where
  pub objects : IsDistinct (bound_names (problem_context d p).objects)
  pub actions : IsDistinct (action_names d)

-- ---- names that differ pair by pair

which : (i j : ℕ) → (i < j) ⊎ ((i ≡ j) ⊎ (j < i))
which zero zero = inr (inl (omega arith))
which zero (suc j) = inl (omega arith)
which (suc i) zero = inr (inr (omega arith))
which (suc i) (suc j) = by (which i j)
  where
    by : (i < j) ⊎ ((i ≡ j) ⊎ (j < i)) → (suc i < suc j) ⊎ ((suc i ≡ suc j) ⊎ (suc j < suc i))
    by (inl h) = inl (omega (arith, h))
    by (inr (inl h)) = inr (inl (ap (λ (x : ℕ). suc x) h))
    by (inr (inr h)) = inr (inr (omega (arith, h)))

is_distinct : (ns : List (List ℕ)) → AllPairs (λ x y. x ≢ y) ns → IsDistinct ns
is_distinct ns h i j a b e = by (which i j)
  where
    by : (i < j) ⊎ ((i ≡ j) ⊎ (j < i)) → i ≡ j
    by (inl l) = absurd (h i j [] l b e)
    by (inr (inl s)) = s
    by (inr (inr l)) = absurd (h j i [] l a (sym e))

pub names_differ : (d : Domain) (p : Problem) → NothingTwice d p → NamesDiffer d p
names_differ d p n = record {
  objects = subst IsDistinct (sym (names_bound (objects_of d p))) (is_distinct (names_of (objects_of d p)) n.objects);
  actions = is_distinct (action_names d) n.actions;
}

pub typed_differ : (d : Domain) (p : Problem) → IsTrue (is_well_typed d p) → NamesDiffer d p
typed_differ d p typed = names_differ d p ((well_typed_is_decided d p).0 typed).nothing_twice

-- ---- places of names

pub place_of : (ns : List (List ℕ)) → IsDistinct ns → (i : ℕ) → i < length ns → position_or_len (bytes_eq (get_or ns i [])) ns ≡ i
place_of ns d i l = position_or_len_is (bytes_eq (get_or ns i [])) ns i [] (omega (arith, l)) (λ k h. by k h (bytes_eq (get_or ns i []) (get_or ns k [])) refl) (λ h. bytes-self (get_or ns i []))
  where
    by : (k : ℕ) → k < i → (b : Bool) → bytes_eq (get_or ns i []) (get_or ns k []) ≡ b → bytes_eq (get_or ns i []) (get_or ns k []) ≡ false
    by k h true e = let m : k < length ns = omega (arith, h, l) in let s = d i k l m (same-bytes (get_or ns i []) (get_or ns k []) e) in absurd (omega (arith, s, h))
    by k h false e = e

-- the name of an action stands at the action's place
pub names_at : (d : Domain) (i : ℕ) (a : Schema) → slice_get d.actions i ≡ Some a → (i < length (action_names d)) × (get_or (action_names d) i [] ≡ a.name.name)
names_at d i a e =
    let l = slice_get_within d.actions i a e in
    let n = length-map d.actions (λ (x : Schema). x.name.name) in
    (omega (arith, l, n), get_or_from_slice_get (action_names d) i a.name.name [] (at d.actions i e))
  where
    at : (xs : List Schema) (k : ℕ) → slice_get xs k ≡ Some a → slice_get (map (λ (x : Schema). x.name.name) xs) k ≡ Some a.name.name
    at [] k f = cc f
    at (x ∷ xs) zero f = ap (λ (w : Schema). Some w.name.name) (let s : x ≡ a = cc f in s)
    at (x ∷ xs) (suc k) f = at xs k f

pub action_place : (d : Domain) → IsDistinct (action_names d) → (i : ℕ) (a : Schema) → slice_get d.actions i ≡ Some a → position_or_len (bytes_eq a.name.name) (action_names d) ≡ i
action_place d differ i a e =
    let n = names_at d i a e in
    subst (λ (w : List ℕ). position_or_len (bytes_eq w) (action_names d) ≡ i) n.1 (place_of (action_names d) differ i n.0)
