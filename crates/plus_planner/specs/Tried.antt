-- What was tried on the way to where a walk stands, and is kept for when it is taken again.
use Rattle.std.specs.Prelude.{◌≡◌, ◌⊎◌, ℕ, ◌+◌, ◌≤◌, List, [], ◌∷◌, ◌++◌, length, take, drop, Some, slice_get}
use Rattle.plus_fraction.specs.Fraction.{Fraction}
use Rattle.plus_planner.specs.Grid.{Task}
use Rattle.plus_planner.specs.Places.{StandsAt}
use Rattle.plus_planner.specs.declared.places.Taken.{Taken}
use Rattle.plus_planner.specs.declared.places.Tried.{Tried}

-- it was tried behind the first of these decisions, and its timeline stands after it
pub record CanReturn {Q : Type 0} (fits : Fraction → Type 0) (task : Task) (ds : List ℕ) (t : Tried Q) : Type 0 where
  pub within : t.before ≤ length ds
  pub stands : StandsAt fits task (take t.before ds ++ t.taken.decision ∷ []) t.taken.timeline

abbrev pub AllReturn : {Q : Type 0} → (Fraction → Type 0) → Task → List ℕ → List (Tried Q) → Type 0
AllReturn fits task ds [] = Unit {0}
AllReturn fits task ds (t ∷ ts) = CanReturn fits task ds t × AllReturn fits task ds ts

-- each was tried behind at most so many decisions
abbrev pub AllBehind : {Q : Type 0} → ℕ → List (Tried Q) → Type 0
AllBehind n [] = Unit {0}
AllBehind n (t ∷ ts) = (t.before ≤ n) × AllBehind n ts

-- there stands this decision, which was tried behind so many
pub record IsFoundAt {Q : Type 0} (n d : ℕ) (ts : List (Tried Q)) (i : ℕ) : Type 0 where
  pub tried : Tried Q
  pub stands : slice_get ts i ≡ Some tried
  pub before : tried.before ≡ n
  pub decision : tried.taken.decision ≡ d

-- what stood there was taken again
pub record Returns {Q : Type 0} (i : ℕ) (taken : List (Taken Q)) (ts : List (Tried Q)) (taken' : List (Taken Q)) (ts' : List (Tried Q)) : Type 0 where
  pub tried : Tried Q
  pub stands : slice_get ts i ≡ Some tried
  pub taken_is : taken' ≡ taken ++ tried.taken ∷ []
  pub others : ts' ≡ take i ts ++ drop (i + 1) ts

-- only what was tried behind at most n decisions is left, and this one beside, or not
pub record Keeps {Q : Type 0} (n : ℕ) (x : Taken Q) (ts ts' : List (Tried Q)) : Type 0 where
  pub count : ℕ
  pub behind : AllBehind n (take count ts)
  pub is : (ts' ≡ take count ts) ⊎ (ts' ≡ take count ts ++ record { before = n; taken = x } ∷ [])
