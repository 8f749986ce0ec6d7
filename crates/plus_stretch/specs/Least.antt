-- The least of the roots, and the marks at it.
use Rattle.std.specs.Prelude.{◌≡◌, List, [], ◌∷◌, ◌++◌, Option, Some, None}
use Rattle.std.specs.declared.cmp.Ordering.{Ordering}
use Rattle.std.specs.declared.cmp.Ordering.TheVariants.{Less, Equal, Greater}
use Rattle.plus_fraction.specs.Fraction.{Fraction, ◌<ℚ◌, ◌≤ℚ◌}
use Rattle.plus_stretch.specs.Tests.{Whose}
use Rattle.plus_stretch.specs.Crossings.{Among}
use Rattle.plus_stretch.specs.Marked.{roots_of, IsMarked}

-- the lesser of x and y, by how they compare
abbrev pub lesser : Ordering → Fraction → Fraction → Fraction
lesser Less x y = x
lesser Equal x y = y
lesser Greater x y = y

-- the marks at the lesser of both, of a mark at x and those at y
abbrev pub at_lesser : Ordering → Fraction × Whose → List (Fraction × Whose) → List (Fraction × Whose)
at_lesser Less m ms = m ∷ []
at_lesser Equal m ms = ms ++ (m ∷ [])
at_lesser Greater m ms = ms

-- b is the least root of these marks and below the bound, and the marks at b are those that stand here
pub record IsLeastBelow (bound b : Fraction) (marks here : List (Fraction × Whose)) : Type 0 where
  pub below : b <ℚ bound
  pub root : Among b (roots_of marks)
  pub least : (x : Fraction) → Among x (roots_of marks) → b ≤ℚ x
  pub all : (w : Whose) → IsMarked b w marks → IsMarked b w here
  pub of : (x : Fraction) (w : Whose) → IsMarked x w here → (x ≡ b) × IsMarked x w marks

-- this one, or none where no root is below the bound
abbrev pub LeastBelow : Fraction → List (Fraction × Whose) → List (Fraction × Whose) → Option Fraction → Type 0
LeastBelow bound marks here None = (x : Fraction) → Among x (roots_of marks) → bound ≤ℚ x
LeastBelow bound marks here (Some b) = IsLeastBelow bound b marks here
