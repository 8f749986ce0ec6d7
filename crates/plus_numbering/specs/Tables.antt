-- What the tables of a numbering hold.
use Rattle.std.specs.Prelude.{◌≡◌, ◌<◌, ℕ, ◌+◌, Bool, true, false, nat_eq, List, [], ◌∷◌, ◌++◌, map, length, get_or, if◌then◌else◌}
use Rattle.std.specs.List.{position_or_len}
use Rattle.std.specs.Str.{bytes_eq}
use Rattle.plus_tree.specs.declared.terms.TypedName.{TypedName}
use Rattle.plus_tree.specs.declared.trees.Head.{Head}
use Rattle.plus_types.specs.declared.typed.Typed.{Typed}
use Rattle.plus_types.specs.Faults.{Context, problem_context}
use Rattle.plus_expansion.specs.Objects.{extents_of, tuples}

-- what a well-typed pair declares
abbrev pub context : Typed → Context
context t = problem_context t.domain t.problem

-- the list that stands at the place of a name; where there is none, no object
abbrev pub places_of : List (List ℕ) → List (List ℕ) → List ℕ → List ℕ
places_of [] lists name = []
places_of (n ∷ ns) [] name = []
places_of (n ∷ ns) (l ∷ ls) name = if bytes_eq name n then l else places_of ns ls name

-- a name stands at a place first
pub record IsPlace (names : List (List ℕ)) (name : List ℕ) (i : ℕ) : Type 0 where
  pub within : i < length names
  pub here : bytes_eq name (get_or names i []) ≡ true
  pub first : (j : ℕ) → j < i → bytes_eq name (get_or names j []) ≡ false

-- all numbers of a list are less than n
abbrev pub AreBelow : ℕ → List ℕ → Type 0
AreBelow n [] = Unit {0}
AreBelow n (x ∷ xs) = (x < n) × AreBelow n xs

-- whether a list ends with a number
abbrev pub ends_with : ℕ → List ℕ → Bool
ends_with p [] = false
ends_with p (x ∷ xs) = nat_eq (get_or (x ∷ xs) (length xs) 0) p

-- a list with a number at its end, which may stand there already
abbrev pub once : ℕ → List ℕ → List ℕ
once p xs = if ends_with p xs then xs else xs ++ p ∷ []

-- the numbers of the lists of the types of parameters, by the names of the types with a list; that of a type without
-- one is how many there are
abbrev pub list_numbers : List (List ℕ) → List TypedName → List ℕ
list_numbers names params = map (λ p. position_or_len (bytes_eq p.kind.name) names) params

-- Where the ground atoms or fluents of each predicate or function begin among all, counted on from n; at the end, how
-- many there are.
abbrev pub starts_from : Context → ℕ → List Head → List ℕ
starts_from c n [] = n ∷ []
starts_from c n (h ∷ hs) = n ∷ starts_from c (n + length (tuples (extents_of c h.params))) hs
