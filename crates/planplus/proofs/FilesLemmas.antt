-- Finding a name among the names that a shelf of files is made for.
use Rattle.std.proofs.Common.{◌≡◌, ℕ, zero, suc, List, [], ◌∷◌, ap, subst, map, Some, None, slice_get, slice_index_or, position, string_bytes, String, Global}
use Rattle.std.specs.Prelude.{Contains}
use Rattle.std.specs.Str.{bytes_eq}
use Rattle.plus_types.proofs.NamesLemmas.{position-map}
use Rattle.plus_io.specs.Stored.{place_of, name_at}
use Rattle.plus_io.proofs.StoredLemmas.{found, absent}

-- the place of a text is that of its bytes
pub place_of_text : (names : List (String Global)) (name : List ℕ) → position (λ n. bytes_eq (string_bytes n) name) names ≡ place_of (map string_bytes names) name
place_of_text names name = position-map (λ n. bytes_eq n name) string_bytes names

get_is : (xs : List (List ℕ)) (i : ℕ) (x : List ℕ) → slice_get xs i ≡ Some x → slice_index_or xs i [] ≡ x
get_is [] i x e = cc
get_is (y ∷ ys) zero x e = cc
get_is (y ∷ ys) (suc i) x e = get_is ys i x e

-- the name at the place of a name is that name
pub picked_is : (names : List (List ℕ)) (name : List ℕ) (i : ℕ) → place_of names name ≡ Some i → Contains names name → Some (slice_index_or names i []) ≡ Some name
picked_is names name i e c = ap Some (get_is names i name (subst (λ p. name_at names p ≡ Some name) e (found names name c)))

-- a name that is not listed has no place
pub unlisted : (names : List (List ℕ)) (name : List ℕ) (i : ℕ) → place_of names name ≡ Some i → ¬ Contains names name → ⊥
unlisted names name i e c = let n = absent names name c in cc

-- a name that is listed has one
pub unplaced : (names : List (List ℕ)) (name : List ℕ) → place_of names name ≡ None → Contains names name → ⊥
unplaced names name e c = let n = subst (λ p. name_at names p ≡ Some name) e (found names name c) in cc

pub ruleset picking = (picked_is, unlisted, unplaced)
