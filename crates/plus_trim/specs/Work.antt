-- What is kept while acts are tried.
use Rattle.std.specs.Prelude.{◌≡◌, ℕ, ◌+◌, ◌<◌, ◌≤◌, List, [], ◌∷◌, length, take, All, Option, Some, None, slice_get, pos}
use Rattle.plus_fraction.specs.Fraction.{Fraction, whole as ratio}
use Rattle.plus_model.specs.Terms.{Problem}
use Rattle.plus_model.specs.Running.{IsRising}
use Rattle.plus_stretch.specs.Tests.{IsLimit}
use Rattle.plus_search.specs.Lists.{Number}
use Rattle.plus_timeline.specs.declared.stop.Stop.{Stop}
use Rattle.plus_timeline.specs.declared.stop.Stop.TheVariants as stops
use Rattle.plus_indexed.specs.Indexed.{IndexedView}
use Rattle.plus_indexed.specs.Knows.{Knows}
use Rattle.plus_planner.specs.Standing.{IsNoLimit}
use Rattle.plus_trim.specs.declared.tries.Tried.{Tried}
use Rattle.plus_trim.specs.declared.tries.Tried.TheVariants.{Valid, Breach, Limit}
use Rattle.plus_trim.specs.Acts.{Act, lines_of, plan_of, without, chosen, AreAhead}
use Rattle.plus_trim.specs.Judging.{IsInside, Fails, IsIdleFree, LimitsWithout}
use Rattle.plus_trim.specs.Standing.{StandsBehind}

-- a timeline that stands right behind these acts
pub record IsMark (fits : Fraction → Type 0) (P : Problem) (most : ℕ) (ys : List Act) (m : IndexedView) : Type 0 where
  pub knows : Knows fits P m
  pub behind : StandsBehind fits P (lines_of ys) m.line
  pub most_is : m.line.most ≡ most

-- one timeline, at the beginning
pub record IsFirst (fits : Fraction → Type 0) (P : Problem) (most : ℕ) (marks : List IndexedView) : Type 0 where
  pub mark : IndexedView
  pub only : marks ≡ mark ∷ []
  pub begun : IsMark fits P most [] mark

-- the places are those of acts in their order, and timelines stand behind the first of these: none, one, two and so on
pub record AreMarked (fits : Fraction → Type 0) (P : Problem) (most : ℕ) (xs : List Act) (last : Fraction) (places : List ℕ) (marks : List IndexedView) : Type 0 where
  pub rising : IsRising 0 places
  pub inside : All (λ p. p < length xs) places
  pub few : length places ≤ 200
  pub ahead : AreAhead (ratio (pos 0)) (chosen xs places) last
  pub some : 0 < length marks
  pub each : (j : ℕ) (m : IndexedView) → slice_get marks j ≡ Some m → IsMark fits P most (chosen xs (take j places)) m

-- and the acts at these places make a plan that is valid inside the limits
pub record IsWork (fits : Fraction → Type 0) (P : Problem) (most : ℕ) (xs : List Act) (last : Fraction) (places : List ℕ) (marks : List IndexedView) : Type 0 where
  pub marked : AreMarked fits P most xs last places marks
  pub valid : IsInside fits P most (plan_of (chosen xs places) last)

-- ---- one try

-- what a refusal says
abbrev pub tried_by : {Q : Type 0} → Stop Q → Option Tried
tried_by (stops.Breach b) = Some Breach
tried_by (stops.Limit l) = Some Limit
tried_by stops.Ended = None
tried_by stops.Memory = None

-- what becomes of the acts without act i
abbrev pub TriedIs : (Fraction → Type 0) → Problem → ℕ → List Act → Fraction → ℕ → Tried → Type 0
TriedIs fits P most ys last i Valid = IsInside fits P most (plan_of (without i ys) last)
TriedIs fits P most ys last i Breach = Fails fits P most (plan_of (without i ys) last) IsNoLimit
TriedIs fits P most ys last i Limit = Fails fits P most (plan_of (without i ys) last) IsLimit

-- want of memory
abbrev pub IsMemory : {Q : Type 0} → Stop Q → Type 0
IsMemory (stops.Breach b) = ⊥
IsMemory (stops.Limit l) = ⊥
IsMemory stops.Ended = ⊥
IsMemory stops.Memory = Unit {0}

-- in how many cases a limit stands after one more try, where the act cannot go
abbrev pub beyond_after : Tried → ℕ → Option ℕ
beyond_after Valid beyond = None
beyond_after Breach beyond = Some beyond
beyond_after Limit beyond = Some (beyond + 1)

-- ---- one round

-- one act fewer is kept
pub record IsLess (fits : Fraction → Type 0) (P : Problem) (most : ℕ) (xs : List Act) (last : Fraction) (old new : List ℕ) (marks : List IndexedView) : Type 0 where
  pub work : IsWork fits P most xs last new marks
  pub fewer : length new + 1 ≡ length old

-- none can go, and in so many cases a limit stands without it
pub record IsLast (fits : Fraction → Type 0) (P : Problem) (most : ℕ) (xs : List Act) (last : Fraction) (places : List ℕ) (marks : List IndexedView) (beyond : ℕ) : Type 0 where
  pub work : IsWork fits P most xs last places marks
  pub idle_free : IsIdleFree fits P most (chosen xs places) last
  pub number : Number (LimitsWithout fits P most (chosen xs places) last) beyond

-- what one round comes to
abbrev pub RoundIs : (Fraction → Type 0) → Problem → ℕ → List Act → Fraction → List ℕ → List ℕ → List IndexedView → Option ℕ → Type 0
RoundIs fits P most xs last old new marks None = IsLess fits P most xs last old new marks
RoundIs fits P most xs last old new marks (Some beyond) = IsLast fits P most xs last new marks beyond
