-- The roots of the live comparisons of a problem along rates: the moments at which a truth may change.
use Rattle.std.specs.Prelude.{◌≡◌, ◌⊎◌, List, [], ◌∷◌, ◌++◌, if◌then◌else◌}
use Rattle.std.specs.declared.cmp.Ordering.{Ordering}
use Rattle.std.specs.declared.cmp.Ordering.TheVariants.{Less, Equal, Greater}
use Rattle.plus_fraction.specs.Fraction.{Fraction, ◌<ℚ◌, compared}
use Rattle.plus_model.specs.Terms.{Condition, State, Problem}
use Rattle.plus_model.specs.Trajectory.{is_below}
use Rattle.plus_crossing.specs.Listed.{live_roots}

-- those of the conditions of a list, in its order
abbrev pub roots_in : {A : Type 0} → (A → Condition) → List A → State → List Fraction → List Fraction
roots_in condition [] s rs = []
roots_in condition (x ∷ xs) s rs = live_roots (condition x) s rs ++ roots_in condition xs s rs

-- of all events, and then of all processes
unfoldable pub all_roots : Problem → State → List Fraction → List Fraction
all_roots P s rs = roots_in (λ e. e.condition) P.events s rs ++ roots_in (λ p. p.condition) P.processes s rs

-- in order, each once
abbrev pub place : Ordering → Fraction → Fraction → List Fraction → List Fraction → List Fraction
place Less x y ys rest = x ∷ y ∷ ys
place Equal x y ys rest = y ∷ ys
place Greater x y ys rest = y ∷ rest

abbrev pub insert : Fraction → List Fraction → List Fraction
insert x [] = x ∷ []
insert x (y ∷ ys) = place (compared x y) x y ys (insert x ys)

-- those below a bound, in order, each once
abbrev pub rising_below : Fraction → List Fraction → List Fraction
rising_below len [] = []
rising_below len (x ∷ xs) = if is_below x len then insert x (rising_below len xs) else rising_below len xs

-- x is one of these
abbrev pub Among : Fraction → List Fraction → Type 0
Among x [] = ⊥
Among x (y ∷ ys) = (x ≡ y) ⊎ Among x ys

-- they rise, from above a on
abbrev pub RisesAbove : Fraction → List Fraction → Type 0
RisesAbove a [] = Unit {0}
RisesAbove a (x ∷ xs) = (a <ℚ x) × RisesAbove x xs
