-- Names, bindings and heads without their places.
use Rattle.std.proofs.Common.{◌≡◌, ℕ, suc, List, [], ◌∷◌, ◌++◌, map, length, refl, ap, ap₂, flat_map, Option, Some, None, cond, Bool, true, false}
use Rattle.std.specs.Str.{bytes_eq}
use Rattle.plus_tree.specs.declared.terms.Term.{Term}
use Rattle.plus_tree.specs.declared.terms.Term.TheVariants.{Object, Variable}
use Rattle.plus_tree.specs.declared.terms.TypedName.{TypedName}
use Rattle.plus_tree.specs.declared.terms.Use.{Use}
use Rattle.plus_tree.specs.declared.trees.Head.{Head}
use Rattle.plus_types.specs.Types.{bindings_of}
use Rattle.plus_types.specs.Faults.{Context, params_of, term_name, ground_name}
use Rattle.plus_canonical.specs.Same.{bare_typed, bare_term, bare_use, bare_head}

pub map_map : {X Y Z : Type 0} (f : Y → Z) (g : X → Y) (h : X → Z) → ((x : X) → f (g x) ≡ h x) → (xs : List X) → map f (map g xs) ≡ map h xs
map_map f g h e [] = refl
map_map f g h e (x ∷ xs) = ap₂ (λ y ys. y ∷ ys) (e x) (map_map f g h e xs)

pub map_same : {X Y : Type 0} (f g : X → Y) → ((x : X) → f x ≡ g x) → (xs : List X) → map f xs ≡ map g xs
map_same f g e [] = refl
map_same f g e (x ∷ xs) = ap₂ (λ y ys. y ∷ ys) (e x) (map_same f g e xs)

pub flat_same : {X Y : Type 0} (f g : X → List Y) → ((x : X) → f x ≡ g x) → (xs : List X) → flat_map f xs ≡ flat_map g xs
flat_same f g e [] = refl
flat_same f g e (x ∷ xs) = ap₂ (λ y ys. y ++ ys) (e x) (flat_same f g e xs)

pub flat_bare : {X Y : Type 0} (f : X → List Y) (g : X → X) (h : X → List Y) → ((x : X) → f (g x) ≡ h x) → (xs : List X) → flat_map f (map g xs) ≡ flat_map h xs
flat_bare f g h e [] = refl
flat_bare f g h e (x ∷ xs) = ap₂ (λ y ys. y ++ ys) (e x) (flat_bare f g h e xs)

pub length_bare : {X : Type 0} (g : X → X) (xs : List X) → length (map g xs) ≡ length xs
length_bare g [] = refl
length_bare g (x ∷ xs) = ap suc (length_bare g xs)

pub bindings_bare : (vs : List TypedName) → bindings_of (map bare_typed vs) ≡ bindings_of vs
bindings_bare vs = map_map _ bare_typed _ (λ v. refl) vs

pub term_names_bare : (ts : List Term) → map term_name (map bare_term ts) ≡ map term_name ts
term_names_bare ts = map_map term_name bare_term term_name one ts
  where
    one : (t : Term) → term_name (bare_term t) ≡ term_name t
    one (Object x) = refl
    one (Variable x) = refl

pub ground_name_bare : (u : Use) → ground_name (bare_use u) ≡ ground_name u
ground_name_bare u = ap (λ xs. u.head.name ∷ xs) (term_names_bare u.args)

-- the parameters of a declared head
abbrev pub bare_params : Option (List TypedName) → Option (List TypedName)
bare_params None = None
bare_params (Some ps) = Some (map bare_typed ps)

pub params_bare : (hs : List Head) (name : List ℕ) → params_of (map bare_head hs) name ≡ bare_params (params_of hs name)
params_bare [] name = refl
params_bare (h ∷ hs) name = by (bytes_eq name h.name.name) (params_bare hs name)
  where
    by : (b : Bool) → params_of (map bare_head hs) name ≡ bare_params (params_of hs name) → cond b (Some (map bare_typed h.params)) (params_of (map bare_head hs) name) ≡ bare_params (cond b (Some h.params) (params_of hs name))
    by true e = refl
    by false e = e
