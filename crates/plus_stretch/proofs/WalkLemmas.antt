-- The marks that are left of a search, and what is known where it has come to.
use Rattle.std.proofs.Common.{◌≡◌, ℕ, ◌<◌, Bool, true, false, List, [], ◌∷◌, ◌++◌, length, take, drop, sym, subst}
use Rattle.plus_fraction.specs.Fraction.{Fraction, whole, ◌<ℚ◌}
use Rattle.plus_fraction.proofs.FractionOrder.{<ℚ_trans}
use Rattle.plus_model.specs.Terms.{State, Problem}
use Rattle.plus_model.specs.Firing.{is_in}
use Rattle.plus_model.specs.Running.{moved}
use Rattle.plus_state.specs.Walk.{event_conditions, process_conditions}
use Rattle.plus_reads.proofs.Sets.{false_unless, in_left, in_right}
use Rattle.plus_stretch.specs.Tests.{Whose, event, process, AllPass}
use Rattle.plus_stretch.specs.StretchTests.{root_tests, crossing_tests}
use Rattle.plus_stretch.specs.Here.{IsQuietHere}
use Rattle.plus_stretch.specs.Among.{KnownFor}
use Rattle.plus_stretch.specs.Marked.{roots_of, IsMarked, AreOwners, AreAllMarked, UpTo, AreAscending, owning_events, owning_processes}
use Rattle.plus_stretch.specs.Skips.{OthersSimple}
use Rattle.plus_stretch.proofs.Marks.{marks_here, marks_later, later_ascend, from_first, from_later, owns_event, owns_process, event_owns, process_owns}
use Rattle.plus_stretch.proofs.SearchLemmas.{Walking, walking_next, walking_next_at}
use Rattle.plus_stretch.proofs.Skipping.{known_there}

-- all marks above a are left, and they do not fall
pub record MarksLeft (a : Fraction) (rest whole : List (Fraction × Whose)) : Type 0 where
  pub ascending : AreAscending (roots_of rest)
  pub all : (x : Fraction) (w : Whose) → a <ℚ x → IsMarked x w whole → IsMarked x w rest
  pub of : (x : Fraction) (w : Whose) → IsMarked x w rest → IsMarked x w whole

-- a search that has come to a place, with the roots and the marks that are left
pub record Stepping (fits : Fraction → Type 0) (P : Problem) (t : Fraction) (s : State) (R : List ℕ) (rs : List Fraction) (len : Fraction) (roots left : List Fraction) (whole rest : List (Fraction × Whose)) : Type 0 where
  pub walking : Walking fits P t s R rs len roots left
  pub marks : MarksLeft walking.at rest whole

pub stepping_start : (fits : Fraction → Type 0) (P : Problem) (t : Fraction) (s : State) (R : List ℕ) (rs : List Fraction) (len : Fraction) (roots : List Fraction) (whole : List (Fraction × Whose)) → Walking fits P t s R rs len roots roots → AreAscending (roots_of whole) → Stepping fits P t s R rs len roots roots whole whole
stepping_start fits P t s R rs len roots whole w a = record { walking = w; marks = record { ascending = a; all = λ x w l i. i; of = λ x w i. i } }

-- where all the marks at the next root are at hand, their owners are all that has to be looked at
module _ (fits : Fraction → Type 0) (P : Problem) (t : Fraction) (s : State) (R : List ℕ) (rs : List Fraction) (len : Fraction) (roots : List Fraction) (whole : List (Fraction × Whose)) (linear : AllPass fits (root_tests P s rs)) (b : Fraction) (left : List Fraction) (h : Walking fits P t s R rs len roots (b ∷ left)) (here : List (Fraction × Whose)) (f : (w : Whose) → IsMarked b w whole → IsMarked b w here) where
  gone : (a b : Bool) → (a ≡ true → b ≡ true) → b ≡ false → a ≡ false
  gone a b f e = false_unless a b f e

  truths : (c : Bool) → c ≡ true → c ≡ false → ⊥
  truths c e d = cc

  pub known_by_marks : (listed_events listed_processes : List ℕ) → AreAllMarked P s rs whole → OthersSimple (event_conditions P) rs listed_events → OthersSimple (process_conditions P) rs listed_processes
      → KnownFor fits P R (moved s rs b) rs (listed_events ++ owning_events here) (listed_processes ++ owning_processes here)
  known_by_marks les lps m se sp events processes e p =
      known_there fits P t s R rs len roots linear b left h events processes
      (λ k c g d. se k c g (gone _ _ (λ i. (e k).1 (in_left les (owning_events here) k i)) d))
      (λ k c g d. sp k c g (gone _ _ (λ i. (p k).1 (in_left lps (owning_processes here) k i)) d))
      (λ k x g d i. truths _ ((e k).1 (in_right les (owning_events here) k (event_owns b k here (f (event k) (m.events k x b g i))))) d)
      (λ k x g d i. truths _ ((p k).1 (in_right lps (owning_processes here) k (process_owns b k here (f (process k) (m.processes k x b g i))))) d)

module _ (fits : Fraction → Type 0) (P : Problem) (t : Fraction) (s : State) (R : List ℕ) (rs : List Fraction) (len : Fraction) (roots : List Fraction) (whole rest : List (Fraction × Whose)) (linear : AllPass fits (root_tests P s rs)) (b : Fraction) (left : List Fraction) (h : Stepping fits P t s R rs len roots (b ∷ left) whole rest) (n : ℕ) (u : UpTo b (roots_of rest) n) where
  above : h.walking.at <ℚ b
  above = h.walking.are.rise.0

  -- the owners of the marks here
  pub owners_here : AreOwners P whole → AreOwners P (take n rest)
  owners_here o x w i = o x w (h.marks.of x w (from_first x w rest n i))

  pub known_by_owners : (listed_events listed_processes : List ℕ) → AreAllMarked P s rs whole → OthersSimple (event_conditions P) rs listed_events → OthersSimple (process_conditions P) rs listed_processes
      → KnownFor fits P R (moved s rs b) rs (listed_events ++ owning_events (take n rest)) (listed_processes ++ owning_processes (take n rest))
  known_by_owners les lps m se sp =
      known_by_marks fits P t s R rs len roots whole linear b left h.walking (take n rest) (λ w i. marks_here b w rest n u h.marks.ascending (h.marks.all b w above i)) les lps m se sp

  left_behind : MarksLeft b (drop n rest) whole
  left_behind = record {
    ascending = later_ascend rest n h.marks.ascending;
    all = λ x w l i. marks_later b x w rest n l u (h.marks.all x w (<ℚ_trans _ b x above l) i);
    of = λ x w i. h.marks.of x w (from_later x w rest n i);
  }

  pub stepping_next : (new : List (Fraction × Whose)) → AllPass fits (crossing_tests P t s R rs b []) → IsQuietHere P (moved s rs b) R rs → new ≡ drop n rest → Stepping fits P t s R rs len roots left whole new
  stepping_next new a q e = record {
    walking = walking_next fits P t s R rs len roots linear b left h.walking a q;
    marks = subst (λ (z : Fraction). MarksLeft z new whole) (sym (walking_next_at fits P t s R rs len roots linear b left h.walking a q)) (subst (λ (ms : List (Fraction × Whose)). MarksLeft b ms whole) (sym e) left_behind);
  }

-- owners are events and processes of the problem
pub event_below : (P : Problem) (ms : List (Fraction × Whose)) (k : ℕ) → AreOwners P ms → is_in (owning_events ms) k ≡ true → k < length P.events
event_below P ms k o i = (let w = owns_event k ms i in o w.at (event k) w.is)

pub process_below : (P : Problem) (ms : List (Fraction × Whose)) (k : ℕ) → AreOwners P ms → is_in (owning_processes ms) k ≡ true → k < length P.processes
process_below P ms k o i = (let w = owns_process k ms i in o w.at (process k) w.is)

pub still_marked : (P : Problem) (s : State) (rs : List Fraction) (old new : List (Fraction × Whose)) → AreAllMarked P s rs old → ((x : Fraction) (w : Whose) → IsMarked x w old → IsMarked x w new) → ((x : Fraction) (w : Whose) → IsMarked x w new → IsMarked x w old) → AreAllMarked P s rs new
still_marked P s rs old new h f g = record {
  owners = λ x w i. h.owners x w (g x w i);
  events = λ k e x q i. f x (event k) (h.events k e x q i);
  processes = λ k p x q i. f x (process k) (h.processes k p x q i);
}
