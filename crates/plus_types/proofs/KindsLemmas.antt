-- Searching a table of names with types is searching the list of these pairs.
use Rattle.std.proofs.Common.{◌≡◌, ℕ, Bool, true, false, List, [], ◌∷◌, ◌++◌, ap, sym, refl, ◌∙◌, map, cond, ◌||◌, true≢false, Vec, Global, Some, is_some, zero, suc, get_or, slice_get}
use Rattle.std.specs.List.{list_any}
use Rattle.std.specs.Str.{bytes_eq}
use Rattle.std.specs.Map.{lookup, keys_of}
use Rattle.std.specs.Option.{option_map}
use Rattle.indexmap.specs.IndexMap.{insert_entry}
use Rattle.smallvec.specs.SmallVec.{SmallVec}
use Rattle.plus_types.specs.Types.{Binding, bound_names, kind_of}

abbrev pub Entry : Type 0
Entry = Vec ℕ Global × SmallVec ℕ

abbrev pub shown : Entry → Binding
shown e = (e.0.items, e.1.items)

pub names-shown : (es : List Entry) → bound_names (map shown es) ≡ map (λ k. k.items) (keys_of es)
names-shown [] = refl
names-shown (e ∷ es) = ap (λ xs. e.0.items ∷ xs) (names-shown es)

pub any-shown : (p : List ℕ → Bool) (es : List Entry) → list_any p (bound_names (map shown es)) ≡ list_any (λ e. p e.0.items) es
any-shown p [] = refl
any-shown p (e ∷ es) = ap (λ b. p e.0.items || b) (any-shown p es)

pub insert-new :
    {K X : Type 0} (eq : K → K → Bool) (es : List (K × X)) (k : K) (v : X)
    → list_any (λ e. eq k e.0) es ≡ false → insert_entry eq es k v ≡ es ++ (k, v) ∷ []
insert-new eq [] k v h = refl
insert-new {K} {X} eq (e ∷ es) k v h = by (eq k e.0) refl (insert-new eq es k v)
  where
    by :
        (b : Bool) → eq k e.0 ≡ b → (list_any (λ x. eq k x.0) es ≡ false → insert_entry eq es k v ≡ es ++ (k, v) ∷ [])
        → insert_entry eq (e ∷ es) k v ≡ (e ∷ es) ++ (k, v) ∷ []
    by true p more = absurd (true≢false (sym (ap (λ b. b || list_any (λ x. eq k x.0) es) p) ∙ h))
    by false p more =
        let rest : list_any (λ x. eq k x.0) es ≡ false = sym (ap (λ b. b || list_any (λ x. eq k x.0) es) p) ∙ h in
        ap (λ b. cond b ((e.0, v) ∷ es) (e ∷ insert_entry eq es k v)) p ∙ ap (λ xs. e ∷ xs) (more rest)

pub map-append : {X Y : Type 0} (f : X → Y) (xs ys : List X) → map f (xs ++ ys) ≡ map f xs ++ map f ys
map-append f [] ys = refl
map-append f (x ∷ xs) ys = ap (λ zs. f x ∷ zs) (map-append f xs ys)

pub kind-shown : (name : List ℕ) (es : List Entry) → kind_of (map shown es) name ≡ option_map (λ k. k.items) (lookup (λ k. bytes_eq name k.items) es)
kind-shown name [] = refl
kind-shown name (e ∷ es) = by (bytes_eq name e.0.items) (kind-shown name es)
  where
    by :
        (b : Bool) → kind_of (map shown es) name ≡ option_map (λ k. k.items) (lookup (λ k. bytes_eq name k.items) es)
        → cond b (Some e.1.items) (kind_of (map shown es) name) ≡ option_map (λ k. k.items) (cond b (Some e.1) (lookup (λ k. bytes_eq name k.items) es))
    by true more = refl
    by false more = more

pub some-shown : (p : List ℕ → Bool) (es : List Entry) → is_some (lookup (λ k. p k.items) es) ≡ list_any p (bound_names (map shown es))
some-shown p [] = refl
some-shown p (e ∷ es) = by (p e.0.items) (some-shown p es)
  where
    by :
        (b : Bool) → is_some (lookup (λ k. p k.items) es) ≡ list_any p (bound_names (map shown es))
        → is_some (cond b (Some e.1) (lookup (λ k. p k.items) es)) ≡ (b || list_any p (bound_names (map shown es)))
    by true more = refl
    by false more = more

pub name-shown : (es : List Entry) (i : ℕ) (e : Entry) → slice_get es i ≡ Some e → get_or (bound_names (map shown es)) i [] ≡ e.0.items
name-shown [] i e q = cc
name-shown (x ∷ xs) zero e q = let w : x ≡ e = cc in ap (λ (y : Entry). y.0.items) w
name-shown (x ∷ xs) (suc i) e q = name-shown xs i e q

-- the entry at a place holds what is found by its name
pub kind-shown-at :
    (es : List Entry) (i : ℕ) (k : Vec ℕ Global) (v : SmallVec ℕ) → slice_get es i ≡ Some (k, v) → lookup (λ key. bytes_eq k.items key.items) es ≡ Some v
    → kind_of (map shown es) (get_or (bound_names (map shown es)) i []) ≡ Some v.items
kind-shown-at es i k v q e =
    ap (kind_of (map shown es)) (name-shown es i (k, v) q) ∙ kind-shown k.items es ∙ ap (option_map (λ (x : SmallVec ℕ). x.items)) e
