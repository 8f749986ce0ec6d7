-- A search at its beginning, where the least root and the marks at it are at hand.
use Rattle.std.proofs.Common.{◌≡◌, ℕ, List, [], ◌∷◌, ◌++◌, refl, subst, pos}
use Rattle.std.specs.Prelude.{Option, Result, Ok}
use Rattle.plus_fraction.specs.Fraction.{Fraction, whole, ◌-ℚ◌, ◌≤ℚ◌}
use Rattle.plus_model.specs.Terms.{State, Problem}
use Rattle.plus_model.specs.Running.{rates, moved, GoesOn}
use Rattle.plus_state.specs.Walk.{event_conditions, process_conditions}
use Rattle.plus_stretch.specs.declared.halt.Halt.{Halt}
use Rattle.plus_stretch.specs.declared.arrival.Arrival.{Arrival}
use Rattle.plus_stretch.specs.Tests.{Whose, AllPass}
use Rattle.plus_stretch.specs.Crossings.{rising_below, Among}
use Rattle.plus_stretch.specs.StretchTests.{root_tests}
use Rattle.plus_stretch.specs.Laws.{AreLeft}
use Rattle.plus_stretch.specs.After.{NoneHoldsAfter}
use Rattle.plus_stretch.specs.Among.{KnownFor}
use Rattle.plus_stretch.specs.Marked.{roots_of, AreOwners, AllMarked, owning_events, owning_processes}
use Rattle.plus_stretch.specs.Least.{IsLeastBelow}
use Rattle.plus_stretch.specs.Skips.{OthersSimple}
use Rattle.plus_stretch.specs.Arrives.{CrossingTold, FirstTold}
use Rattle.plus_stretch.proofs.LeastLemmas.{FirstIs, first_is, none_is}
use Rattle.plus_stretch.proofs.SearchLemmas.{Walking, walking_start, first_tells, all_left}
use Rattle.plus_stretch.proofs.WalkLemmas.{known_by_marks}

module _ (fits : Fraction → Type 0) (P : Problem) (t : Fraction) (s : State) (R : List ℕ) (rs : List Fraction) (len : Fraction) (marks : List (Fraction × Whose)) (on : GoesOn P s rs R) (none : NoneHoldsAfter P s rs) (marked : AllMarked P s rs marks) where
  abbrev roots : List Fraction
  roots = rising_below len (roots_of marks)

  left_all : AreLeft P s rs (whole (pos 0)) len roots
  left_all = all_left P s rs len (roots_of marks) roots refl marked.roots

  start : Walking fits P t s R rs len roots roots
  start = walking_start fits P t s R rs len roots on none left_all

  -- no root comes before the end
  pub to_the_end : ((x : Fraction) → Among x (roots_of marks) → len ≤ℚ x) → Walking fits P t s R rs len roots []
  to_the_end f = subst (Walking fits P t s R rs len roots) (none_is len marks f) start

  module _ (b : Fraction) (here : List (Fraction × Whose)) (h : IsLeastBelow len b marks here) where
    least_first : FirstIs b roots
    least_first = first_is (whole (pos 0)) len b marks here left_all.rise h

    at_first : Walking fits P t s R rs len roots (b ∷ least_first.left)
    at_first = subst (Walking fits P t s R rs len roots) least_first.is start

    pub owners_first : AreOwners P here
    owners_first x w i = marked.are.owners x w (h.of x w i).1

    module _ (linear : AllPass fits (root_tests P s rs)) where
      pub known_first : (listed_events listed_processes : List ℕ) → OthersSimple (event_conditions P) rs listed_events → OthersSimple (process_conditions P) rs listed_processes
          → KnownFor fits P R (moved s rs b) rs (listed_events ++ owning_events here) (listed_processes ++ owning_processes here)
      known_first les lps se sp =
          known_by_marks fits P t s R rs len roots marks linear b least_first.left at_first here h.all les lps marked.are se sp

      pub told_first : {Q : Type 0} (v : Q → Fraction) (u : Fraction) → rates P s R ≡ Ok rs → len ≡ u -ℚ t → (answer : Result (Option (Arrival Q)) (Halt Q)) → CrossingTold v fits P t s R rs b answer → FirstTold v fits P u t s R rs len roots answer
      told_first v u rate is answer x = first_tells P u t s R rs rate v fits len roots is linear b least_first.left least_first.is at_first answer x
