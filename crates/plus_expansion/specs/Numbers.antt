-- The numbers of ground atoms and ground fluents: head by head in the order of the domain, and inside one by the
-- argument lists in lexicographic order of the objects (this project's profile).
use Rattle.std.specs.Prelude.{ℕ, suc, Bool, List, [], ◌∷◌, ◌++◌, map, ◌&&◌, nat_eq}
use Rattle.std.specs.List.{position_or_len}
use Rattle.std.specs.Str.{bytes_eq}
use Rattle.plus_tree.specs.declared.trees.Head.{Head}
use Rattle.plus_types.specs.Faults.{Context}
use Rattle.plus_expansion.specs.Objects.{extents_of, tuples, object_names}

-- a ground atom or fluent: the number of its predicate or function, and its objects
abbrev pub GroundName : Type 0
GroundName = ℕ × List ℕ

-- those of a list of predicates or functions, the first of which has number n
abbrev pub ground_names_from : Context → ℕ → List Head → List GroundName
ground_names_from c n [] = []
ground_names_from c n (h ∷ hs) = map (λ t. (n, t)) (tuples (extents_of c h.params)) ++ ground_names_from c (suc n) hs

abbrev pub ground_names : Context → List Head → List GroundName
ground_names c heads = ground_names_from c 0 heads

abbrev pub is_same : GroundName → GroundName → Bool
is_same x y = nat_eq x.0 y.0 && bytes_eq x.1 y.1

-- the names of a list of predicates or functions
abbrev pub head_names : List Head → List (List ℕ)
head_names heads = map (λ h. h.name.name) heads

-- The number of a ground atom or fluent, whose predicate or function has this name: its place among all. Where it is
-- none, as with an argument of a wrong type, how many there are.
abbrev pub number_of : Context → List Head → List ℕ → List ℕ → ℕ
number_of c heads name objects =
    position_or_len (is_same (position_or_len (bytes_eq name) (head_names heads), objects)) (ground_names c heads)

-- words, each after a space
abbrev pub spaced : List (List ℕ) → List ℕ
spaced [] = []
spaced (w ∷ ws) = 32 ∷ (w ++ spaced ws)

-- how a ground form is shown: `(name argument argument)`
abbrev pub label_of : List ℕ → List (List ℕ) → List ℕ
label_of name arguments = 40 ∷ (name ++ (spaced arguments ++ 41 ∷ []))

-- the labels of the ground atoms or fluents of a list of predicates or functions
abbrev pub ground_labels : Context → List Head → List (List ℕ)
ground_labels c [] = []
ground_labels c (h ∷ hs) =
    map (λ t. label_of h.name.name (object_names c t)) (tuples (extents_of c h.params)) ++ ground_labels c hs
