-- Ways up from a type in few steps. A listed type goes by its number.
use Rattle.std.specs.Prelude.{◌≡◌, ◌<◌, ◌≤◌, ℕ, List, Option, Some, None, get_or, length}
use Rattle.plus_types.specs.declared.jumps.Jumps.{Jumps}
use Rattle.plus_types.specs.declared.jumps.Steps.{Steps}
use Rattle.plus_types.specs.Types.{Binding, bound_kinds, bound_names, kind_of, is_under}
use Rattle.plus_types.specs.Ranks.{rank_of}
use Rattle.plus_types.specs.Listed.{IsListed, name_at}

-- how deep a type stands; 0 where it is not listed
abbrev pub depth_of : List Binding → List ℕ → List ℕ → ℕ
depth_of types depths k = rank_of (bound_names types) depths k

-- each type stands deeper than the one above it, and none deeper than there are types
abbrev pub AreDepths : List Binding → List ℕ → Type 0
AreDepths types depths =
    (k up : List ℕ) → kind_of types k ≡ Some up → (depth_of types depths up < depth_of types depths k) × (depth_of types depths k ≤ length types)

-- one type is under the same types of at most this depth as another
abbrev pub AreAlike : List Binding → List ℕ → ℕ → ℕ → ℕ → Type 0
AreAlike types depths depth i j =
    (high : List ℕ) → depth_of types depths high ≤ depth → is_under types (name_at types i) high ≡ is_under types (name_at types j) high

-- up to its own depth the second is under the same types as the first
abbrev pub Reaches : List Binding → List ℕ → ℕ → ℕ → Type 0
Reaches types depths i j = AreAlike types depths (get_or depths j 0) i j

-- both steps lead to what is on the way up from a type
pub record LeadUp (types : List Binding) (depths : List ℕ) (i : ℕ) (steps : Steps) : Type 0 where
  pub up : Reaches types depths i steps.up
  pub jump : Reaches types depths i steps.jump

abbrev pub AllLeadUp : List Binding → List ℕ → List Steps → Type 0
AllLeadUp types depths all = (i : ℕ) (steps : Steps) → i < length all → steps ≡ get_or all i steps → LeadUp types depths i steps

pub record AreJumps (types : List Binding) (jumps : Jumps) : Type 0 where
  pub listed : IsListed types (bound_kinds types)
  pub depths : AreDepths types jumps.depths.items
  pub steps : AllLeadUp types jumps.depths.items jumps.steps.items

-- where there are jumps
abbrev pub MayBeJumps : List Binding → Option Jumps → Type 0
MayBeJumps types None = Unit {0}
MayBeJumps types (Some jumps) = AreJumps types jumps

-- what a table of types holds
pub record Holds (types : List Binding) (above : List (List ℕ)) (o : Option Jumps) : Type 0 where
  pub listed : IsListed types above
  pub jumps : MayBeJumps types o
