-- Atoms looked up in a table of their names.
use Rattle.std.proofs.Common.{◌≡◌, ℕ, Bool, true, false, List, [], ◌∷◌, ◌++◌, ap, sym, refl, subst, ◌∙◌, map, ◌||◌, ◌&&◌, Vec, Global, Bor, if◌then◌else◌}
use Rattle.std.specs.Str.{bytes_eq}
use Rattle.std.specs.List.{list_any}
use Rattle.std.specs.Cmp.Lexicographic.{pointwise}
use Rattle.std.proofs.lemmas.List.{map-append}
use Rattle.std.proofs.lemmas.List.Folds.{list_any-append}
use Rattle.std.proofs.lemmas.Slice.Eq.{bytes_eq-Decides}
use Rattle.plus_tree.specs.declared.terms.Use.{Use}
use Rattle.plus_types.specs.Faults.{ground_name, same_names}
use Rattle.plus_translation.specs.Translated.{same_atom}
use Rattle.plus_translate.specs.Atoms.{names_of, IsTableOf}

abbrev pub Key : Type 0
Key = Vec (Bor (List ℕ)) Global

-- a key is one of the table
abbrev pub same_key : Key → Key → Bool
same_key k y = pointwise (λ x z. bytes_eq x.now z.now) k.items y.items

first_true : (a b : Bool) → (a && b) ≡ true → a ≡ true
first_true true b e = refl
first_true false b e = absurd (cc e)

second_true : (a b : Bool) → (a && b) ≡ true → b ≡ true
second_true true b e = e
second_true false b e = absurd (cc e)

-- the same names are one list
names_are : (xs ys : List (List ℕ)) → same_names xs ys ≡ true → xs ≡ ys
names_are [] [] e = refl
names_are [] (y ∷ ys) e = absurd (cc e)
names_are (x ∷ xs) [] e = absurd (cc e)
names_are (x ∷ xs) (y ∷ ys) e =
    let head : x ≡ y = (bytes_eq-Decides x y).0 (first_true (bytes_eq x y) (same_names xs ys) e) in
    let tail : xs ≡ ys = names_are xs ys (second_true (bytes_eq x y) (same_names xs ys) e) in
    ap (λ z. z ∷ xs) head ∙ ap (λ zs. y ∷ zs) tail

-- names that are lent are compared as the lists of their bytes
same-shown : (xs ys : List (Bor (List ℕ))) → pointwise (λ x z. bytes_eq x.now z.now) xs ys ≡ same_names (map (λ n. n.now) xs) (map (λ n. n.now) ys)
same-shown [] [] = refl
same-shown [] (y ∷ ys) = refl
same-shown (x ∷ xs) [] = refl
same-shown (x ∷ xs) (y ∷ ys) = ap (λ b. bytes_eq x.now y.now && b) (same-shown xs ys)

any-same-shown : (k : List (Bor (List ℕ))) (keys : List Key)
    → list_any (λ y. pointwise (λ x z. bytes_eq x.now z.now) k y.items) keys ≡ list_any (same_names (map (λ n. n.now) k)) (names_of keys)
any-same-shown k [] = refl
any-same-shown k (y ∷ ys) =
    ap (λ b. b || list_any (λ z. pointwise (λ x w. bytes_eq x.now w.now) k z.items) ys) (same-shown k y.items)
    ∙ ap (λ b. same_names (map (λ n. n.now) k) (map (λ n. n.now) y.items) || b) (any-same-shown k ys)

-- whether an atom is found, by its key
pub found : (key : Key) (keys : List Key) (atoms : List Use) (atom : Use) → map (λ n. n.now) key.items ≡ ground_name atom → IsTableOf keys atoms
    → list_any (same_key key) keys ≡ list_any (same_atom atom) atoms
found key keys atoms atom e t =
    any-same-shown key.items keys ∙ ap (λ k. list_any (same_names k) (names_of keys)) e ∙ t atom

-- ---- one atom more
or-false : (a b : Bool) → b ≡ false → (a || b) ≡ a
or-false true b e = refl
or-false false b e = e

or-true : (a b : Bool) → a ≡ true → (a || b) ≡ true
or-true true b e = refl
or-true false b e = absurd (cc e)

one_more : (u atom : Use) (atoms : List Use) → list_any (same_atom u) (atoms ++ atom ∷ []) ≡ (list_any (same_atom u) atoms || (same_atom u atom || false))
one_more u atom atoms = list_any-append (same_atom u) atoms (atom ∷ [])

or-nothing : (a : Bool) → (a || false) ≡ a
or-nothing true = refl
or-nothing false = refl

-- an atom that is there already
there : (u atom : Use) (atoms : List Use) (b : Bool) → same_atom u atom ≡ b → list_any (same_atom atom) atoms ≡ true
    → list_any (same_atom u) atoms ≡ list_any (same_atom u) (atoms ++ atom ∷ [])
there u atom atoms true e h =
    let same : list_any (same_atom u) atoms ≡ true = ap (λ n. list_any (λ v. same_names n (ground_name v)) atoms) (names_are (ground_name u) (ground_name atom) e) ∙ h in
    sym (one_more u atom atoms ∙ or-true (list_any (same_atom u) atoms) (same_atom u atom || false) same ∙ sym same)
there u atom atoms false e h =
    sym (one_more u atom atoms ∙ or-false (list_any (same_atom u) atoms) (same_atom u atom || false) (or-nothing (same_atom u atom) ∙ e))

put_in : (keys : List Key) (key : Key) (atoms : List Use) (atom : Use) (b : Bool) → list_any (same_key key) keys ≡ b → map (λ n. n.now) key.items ≡ ground_name atom
    → IsTableOf keys atoms → IsTableOf (if b then keys else keys ++ key ∷ []) (atoms ++ atom ∷ [])
put_in keys key atoms atom true i e t = λ u. t u ∙ there u atom atoms (same_atom u atom) refl (sym (found key keys atoms atom e t) ∙ i)
put_in keys key atoms atom false i e t = λ u.
    let names : names_of (keys ++ key ∷ []) ≡ names_of keys ++ ground_name atom ∷ [] =
    map-append (λ (k : Key). map (λ n. n.now) k.items) keys (key ∷ []) ∙ ap (λ n. names_of keys ++ n ∷ []) e in
    ap (list_any (same_names (ground_name u))) names ∙ list_any-append (same_names (ground_name u)) (names_of keys) (ground_name atom ∷ [])
    ∙ ap (λ b. b || (same_atom u atom || false)) (t u) ∙ sym (one_more u atom atoms)

pub table_grows : (keys new : List Key) (key : Key) (atoms more : List Use) (atom : Use) → map (λ n. n.now) key.items ≡ ground_name atom
    → new ≡ (if list_any (same_key key) keys then keys else keys ++ key ∷ []) → more ≡ atoms ++ atom ∷ [] → IsTableOf keys atoms → IsTableOf new more
table_grows keys new key atoms more atom e i m t =
    subst (λ x. IsTableOf x more) (sym i) (subst (IsTableOf (if list_any (same_key key) keys then keys else keys ++ key ∷ [])) (sym m)
    (put_in keys key atoms atom (list_any (same_key key) keys) refl e t))
