-- The list that a walk collects is exactly the list that the definition speaks of.
use Rattle.std.proofs.Common.{◌≡◌, ℕ, zero, suc, ◌+◌, ◌≤◌, true, false, Bool, List, [], ◌∷◌, refl, sym, subst, ◌⊎◌, inl, inr, arith, if◌then◌else◌}
use Rattle.std.specs.Prelude.{Option, Some, None, IsSomeAnd, slice_get}
use Rattle.plus_fraction.specs.Fraction.{Fraction}
use Rattle.plus_model.specs.Terms.{Process, State, Problem}
use Rattle.plus_model.specs.Firing.{numbers_of, is_in}
use Rattle.plus_model.specs.Running.{JustAfter, IsRising, RunsAfter, GoesOn}
use Rattle.plus_model.specs.Piece.{after, IsStraight}
use Rattle.plus_model.proofs.Members.{in_first, in_later, in_cases, same_exactly}
use Rattle.plus_model.proofs.Truth.{TruthAfter, after_is, to_just_after, from_just_after}

weaker : (n m : ℕ) (xs : List ℕ) → n ≤ m → IsRising m xs → IsRising n xs
weaker n m [] h r = tt
weaker n m (x ∷ xs) h r = (let a = r.0 in omega arith, r.1)

rising_if : (b : Bool) (k : ℕ) (ns : List ℕ) → IsRising (suc k) ns → IsRising k (if b then k ∷ ns else ns)
rising_if true k ns r = (omega arith, r)
rising_if false k ns r = weaker k (suc k) ns (omega arith) r

pub rising-numbers : {A : Type 0} (test : A → Bool) (k : ℕ) (xs : List A) → IsRising k (numbers_of test k xs)
rising-numbers test k [] = tt
rising-numbers test k (x ∷ xs) = rising_if (test x) k _ (rising-numbers test (suc k) xs)

-- the place of a member
pub record PlaceOf {A : Type 0} (test : A → Bool) (k : ℕ) (xs : List A) (j : ℕ) : Type 0 where
  pub place : ℕ
  pub sum : j ≡ k + place
  pub passes : IsSomeAnd (slice_get xs place) (λ x. test x ≡ true)

one_later : {A : Type 0} (test : A → Bool) (k : ℕ) (x : A) (xs : List A) (j : ℕ) → PlaceOf test (suc k) xs j → PlaceOf test k (x ∷ xs) j
one_later test k x xs j p = record { place = suc p.place; sum = (let e = p.sum in omega arith); passes = p.passes }

first_or : {A : Type 0} (test : A → Bool) (k : ℕ) (x : A) (xs : List A) (j : ℕ) (b : Bool) → test x ≡ b → is_in (if b then k ∷ numbers_of test (suc k) xs else numbers_of test (suc k) xs) j ≡ true → ((j ≡ k) × (test x ≡ true)) ⊎ (is_in (numbers_of test (suc k) xs) j ≡ true)
first_or test k x xs j false e h = inr h
first_or test k x xs j true e h = elim (in_cases j k (numbers_of test (suc k) xs) h) [ inl d ↦ inl (d, e) | inr i ↦ inr i ]

pub place_of : {A : Type 0} (test : A → Bool) (k : ℕ) (xs : List A) (j : ℕ) → is_in (numbers_of test k xs) j ≡ true → PlaceOf test k xs j
place_of test k [] j h = cc
place_of test k (x ∷ xs) j h = elim (first_or test k x xs j (test x) refl h) [
  | inl p ↦ record { place = 0; sum = (let e = p.0 in omega arith); passes = p.1 }
  | inr i ↦ one_later test k x xs j (place_of test (suc k) xs j i)
]

in_if : (b : Bool) (k : ℕ) (ns : List ℕ) (j : ℕ) → is_in ns j ≡ true → is_in (if b then k ∷ ns else ns) j ≡ true
in_if true k ns j h = in_later j k ns h
in_if false k ns j h = h

at_first : (b : Bool) (k : ℕ) (ns : List ℕ) → b ≡ true → is_in (if b then k ∷ ns else ns) k ≡ true
at_first true k ns e = in_first k ns
at_first false k ns e = cc

pub in_numbers : {A : Type 0} (test : A → Bool) (k : ℕ) (xs : List A) (i : ℕ) → IsSomeAnd (slice_get xs i) (λ x. test x ≡ true) → is_in (numbers_of test k xs) (k + i) ≡ true
in_numbers test k [] i h = elim h [ ]
in_numbers test k (x ∷ xs) zero h = let e : k + 0 ≡ k = omega arith in subst (λ j. is_in (numbers_of test k (x ∷ xs)) j ≡ true) (sym e) (at_first (test x) k (numbers_of test (suc k) xs) h)
in_numbers test k (x ∷ xs) (suc i) h = let e : suc k + i ≡ k + suc i = omega arith in subst (λ j. is_in (numbers_of test k (x ∷ xs)) j ≡ true) e (in_if (test x) k (numbers_of test (suc k) xs) (suc k + i) (in_numbers test (suc k) xs i h))

-- every process can be worked at these rates
abbrev pub AllStraight : Problem → State → List Fraction → Type 0
AllStraight P s rs = (k : ℕ) (p : Process) → slice_get P.processes k ≡ Some p → IsStraight p.condition s rs

-- the processes that the test of values and slopes finds
abbrev pub running_after : Problem → State → List Fraction → List ℕ
running_after P s rs = numbers_of (λ p. after p.condition s rs) 0 P.processes

runs_by : (P : Problem) (s : State) (rs : List Fraction) → AllStraight P s rs → (k : ℕ) (o : Option Process) → slice_get P.processes k ≡ o → IsSomeAnd o (λ p. after p.condition s rs ≡ true) → IsSomeAnd o (λ p. JustAfter s rs p.condition)
runs_by P s rs w k None e h = h
runs_by P s rs w k (Some p) e h = to_just_after s rs p.condition (subst (λ b. TruthAfter s rs p.condition b) h (after_is p.condition s rs (w k p e)))

test_by : (P : Problem) (s : State) (rs : List Fraction) → AllStraight P s rs → (k : ℕ) (o : Option Process) → slice_get P.processes k ≡ o → IsSomeAnd o (λ p. JustAfter s rs p.condition) → IsSomeAnd o (λ p. after p.condition s rs ≡ true)
test_by P s rs w k None e h = h
test_by P s rs w k (Some p) e h = from_just_after s rs p.condition _ (after_is p.condition s rs (w k p e)) h

-- the set that the test finds goes on, and no other does
pub goes_on_is : (P : Problem) (s : State) (rs : List Fraction) → AllStraight P s rs → GoesOn P s rs (running_after P s rs)
goes_on_is P s rs w = record {
  rising = rising-numbers _ 0 P.processes;
  members = λ k. (
    (λ h. let q = place_of (λ (p : Process). after p.condition s rs) 0 P.processes k h in
        let e : q.place ≡ k = (let d = q.sum in omega arith) in
        runs_by P s rs w k (slice_get P.processes k) refl (subst (λ j. IsSomeAnd (slice_get P.processes j) (λ p. after p.condition s rs ≡ true)) e q.passes)),
    (λ h. let e : 0 + k ≡ k = omega arith in
        subst (λ j. is_in (running_after P s rs) j ≡ true) e (in_numbers (λ (p : Process). after p.condition s rs) 0 P.processes k (test_by P s rs w k (slice_get P.processes k) refl h))),
  );
}

pub goes_on_only : (P : Problem) (s : State) (rs : List Fraction) (R : List ℕ) → AllStraight P s rs → GoesOn P s rs R → R ≡ running_after P s rs
goes_on_only P s rs R w g = same_exactly (RunsAfter P s rs) R (running_after P s rs) g (goes_on_is P s rs w)
