-- What the roots along a running set say, whatever the code does.
use Rattle.std.specs.Prelude.{◌≡◌, ℕ, List, [], ◌∷◌, Some, slice_get, pos}
use Rattle.plus_fraction.specs.Fraction.{Fraction, whole, ◌<ℚ◌, ◌≤ℚ◌}
use Rattle.plus_model.specs.Terms.{Condition, Event, Process, State, Problem}
use Rattle.plus_model.specs.Value.{holds}
use Rattle.plus_model.specs.Running.{moved}
use Rattle.plus_crossing.specs.Next.{LiveRoot}
use Rattle.plus_stretch.specs.Tests.{AllPass}
use Rattle.plus_crossing.specs.Listed.{live_roots}
use Rattle.plus_stretch.specs.Crossings.{all_roots, rising_below, Among, RisesAbove}
use Rattle.plus_stretch.specs.StretchTests.{root_tests}

-- the roots of a condition are those in its list, and they lie above 0
pub record RootsAre : Type 0 where
  pub listed : (c : Condition) (s : State) (rs : List Fraction) (x : Fraction) → LiveRoot c s rs x → Among x (live_roots c s rs)
  pub above : (P : Problem) (s : State) (rs : List Fraction) (x : Fraction) → Among x (all_roots P s rs) → whole (pos 0) <ℚ x

-- those below a bound rise, and are exactly those of the list that are below it
pub record RisingAre : Type 0 where
  pub rise : (a len : Fraction) (xs : List Fraction) → ((x : Fraction) → Among x xs → a <ℚ x) → RisesAbove a (rising_below len xs)
  pub all : (len x : Fraction) (xs : List Fraction) → Among x xs → x <ℚ len → Among x (rising_below len xs)
  pub below : (len x : Fraction) (xs : List Fraction) → Among x (rising_below len xs) → x <ℚ len

-- where all tests of the roots pass and none lies strictly between a and b, no condition changes its truth there
abbrev pub NothingChangesBetween : (Fraction → Type 0) → Type 0
NothingChangesBetween fits =
    (P : Problem) (s : State) (rs : List Fraction) (a b : Fraction)
    → whole (pos 0) ≤ℚ a → AllPass fits (root_tests P s rs) → ((x : Fraction) → a <ℚ x → x <ℚ b → Among x (all_roots P s rs) → ⊥)
    → ((k : ℕ) (e : Event) → slice_get P.events k ≡ Some e → (x y : Fraction) → a <ℚ x → x <ℚ b → a <ℚ y → y <ℚ b → holds e.condition (moved s rs x) ≡ holds e.condition (moved s rs y))
    × ((k : ℕ) (p : Process) → slice_get P.processes k ≡ Some p → (x y : Fraction) → a <ℚ x → x <ℚ b → a <ℚ y → y <ℚ b → holds p.condition (moved s rs x) ≡ holds p.condition (moved s rs y))

-- the roots that are left of a search that has come to a: all that lie between a and len, in order
pub record AreLeft (P : Problem) (s : State) (rs : List Fraction) (a len : Fraction) (left : List Fraction) : Type 0 where
  pub rise : RisesAbove a left
  pub inside : (x : Fraction) → Among x left → x <ℚ len
  pub all : (x : Fraction) → Among x (all_roots P s rs) → a <ℚ x → x <ℚ len → Among x left

-- the search begins with all of them, goes from one to the next, and finds none that it has not worked
pub record SearchSteps : Type 0 where
  pub begin : (P : Problem) (s : State) (rs : List Fraction) (len : Fraction) → AreLeft P s rs (whole (pos 0)) len (rising_below len (all_roots P s rs))
  pub next : (P : Problem) (s : State) (rs : List Fraction) (a b len : Fraction) (left : List Fraction) → AreLeft P s rs a len (b ∷ left) → AreLeft P s rs b len left
  pub none_before : (P : Problem) (s : State) (rs : List Fraction) (a b len : Fraction) (left : List Fraction) → AreLeft P s rs a len (b ∷ left) → (x : Fraction) → a <ℚ x → x <ℚ b → Among x (all_roots P s rs) → ⊥
  pub none_left : (P : Problem) (s : State) (rs : List Fraction) (a len : Fraction) → AreLeft P s rs a len [] → (x : Fraction) → a <ℚ x → x <ℚ len → Among x (all_roots P s rs) → ⊥
