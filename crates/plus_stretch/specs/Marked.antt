-- Roots with their owners: the events and processes in whose conditions they stand.
use Rattle.std.specs.Prelude.{◌≡◌, ◌⊎◌, ℕ, ◌<◌, zero, suc, List, [], ◌∷◌, ◌++◌, map, length, Some, Result, slice_get}
use Rattle.plus_fraction.specs.Fraction.{Fraction, ◌<ℚ◌, ◌≤ℚ◌}
use Rattle.plus_model.specs.Terms.{Condition, Event, Process, State, Problem}
use Rattle.plus_stretch.specs.declared.halt.Halt.{Halt}
use Rattle.plus_stretch.specs.declared.mark.Mark.{Mark}
use Rattle.plus_crossing.specs.Listed.{live_roots}
use Rattle.plus_stretch.specs.Tests.{Whose, event, process, whose}
use Rattle.plus_stretch.specs.Crossings.{Among, roots_in, all_roots}
use Rattle.plus_stretch.specs.StretchTests.{root_tests_in}
use Rattle.plus_stretch.specs.Thinned.{Ascends}
use Rattle.plus_stretch.specs.Told.{Told, Never}

-- the fraction of a root, and whose it is
abbrev pub mark_of : {Q : Type 0} → (Q → Fraction) → Mark Q → Fraction × Whose
mark_of v m = (v m.at, whose m.owner)

abbrev pub marks_of : {Q : Type 0} → (Q → Fraction) → List (Mark Q) → List (Fraction × Whose)
marks_of v ms = map (mark_of v) ms

-- the roots alone
abbrev pub roots_of : List (Fraction × Whose) → List Fraction
roots_of ms = map (λ m. m.0) ms

-- it is marked that this owner has a root here
abbrev pub IsMarked : Fraction → Whose → List (Fraction × Whose) → Type 0
IsMarked x w [] = ⊥
IsMarked x w (m ∷ ms) = ((x ≡ m.0) × (w ≡ m.1)) ⊎ IsMarked x w ms

-- the number of an event, or of a process
abbrev pub event_of : Whose → List ℕ
event_of (event k) = k ∷ []
event_of (process k) = []

abbrev pub process_of : Whose → List ℕ
process_of (event k) = []
process_of (process k) = k ∷ []

-- a number of an event of the problem, or of a process
abbrev pub IsOwner : Problem → Whose → Type 0
IsOwner P (event k) = k < length P.events
IsOwner P (process k) = k < length P.processes

-- all owners are events and processes of the problem
abbrev pub AreOwners : Problem → List (Fraction × Whose) → Type 0
AreOwners P marks = (x : Fraction) (w : Whose) → IsMarked x w marks → IsOwner P w

-- each root of each condition of a list is marked
abbrev pub AreMarked : {A : Type 0} → (ℕ → Whose) → (A → Condition) → List A → State → List Fraction → List (Fraction × Whose) → Type 0
AreMarked {A} whose condition xs s rs marks =
    (k : ℕ) (a : A) (x : Fraction) → slice_get xs k ≡ Some a → Among x (live_roots (condition a) s rs) → IsMarked x (whose k) marks

-- behind the marks that were there stand those of the roots of a list of conditions
pub record Marks {A : Type 0} (whose : ℕ → Whose) (condition : A → Condition) (xs : List A) (s : State) (rs : List Fraction) (old new : List (Fraction × Whose)) : Type 0 where
  pub roots : roots_of new ≡ roots_of old ++ roots_in condition xs s rs
  pub kept : (x : Fraction) (w : Whose) → IsMarked x w old → IsMarked x w new
  pub owners : (P : Problem) → AreOwners P old → ((k : ℕ) → k < length xs → IsOwner P (whose k)) → AreOwners P new
  pub marked : AreMarked whose condition xs s rs new

-- what it tells to mark the roots of a list of conditions
abbrev pub MarksTold : {Q A B : Type 0} → (Q → Fraction) → (Fraction → Type 0) → (ℕ → Whose) → (A → Condition) → List A → State → List Fraction → List (Mark Q) → List (Mark Q) → Result B (Halt Q) → Type 0
MarksTold v fits whose condition xs s rs old new answer =
    Told v fits (root_tests_in whose condition 0 xs s rs) (λ _. Marks whose condition xs s rs (marks_of v old) (marks_of v new)) Never answer

-- each root of a problem is marked with its owner
pub record AreAllMarked (P : Problem) (s : State) (rs : List Fraction) (marks : List (Fraction × Whose)) : Type 0 where
  pub owners : AreOwners P marks
  pub events : AreMarked event (λ (e : Event). e.condition) P.events s rs marks
  pub processes : AreMarked process (λ (p : Process). p.condition) P.processes s rs marks

-- and no other
pub record AllMarked (P : Problem) (s : State) (rs : List Fraction) (marks : List (Fraction × Whose)) : Type 0 where
  pub roots : roots_of marks ≡ all_roots P s rs
  pub are : AreAllMarked P s rs marks

-- the first n of these roots are not above b, and the next one is
abbrev pub UpTo : Fraction → List Fraction → ℕ → Type 0
UpTo b [] n = n ≡ 0
UpTo b (x ∷ xs) zero = b <ℚ x
UpTo b (x ∷ xs) (suc n) = (x ≤ℚ b) × UpTo b xs n

-- those that do not fall
abbrev pub AreAscending : List Fraction → Type 0
AreAscending [] = Unit {0}
AreAscending (x ∷ xs) = Ascends x xs

-- the events, or the processes, among the owners
abbrev pub owning_events : List (Fraction × Whose) → List ℕ
owning_events [] = []
owning_events (m ∷ ms) = event_of m.1 ++ owning_events ms

abbrev pub owning_processes : List (Fraction × Whose) → List ℕ
owning_processes [] = []
owning_processes (m ∷ ms) = process_of m.1 ++ owning_processes ms
