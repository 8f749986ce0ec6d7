-- Time that passes: net rates, moved states, what holds just after a state, running sets and
-- stretches. In Fox and Long (2006) a process runs while its condition holds, and the rates of all
-- running processes on a fluent add up. Their semantics goes through hybrid automata; here time
-- passes in stretches along which the running set and the rates stay the same, so that every fluent
-- moves along a line. These are this project's profile:
-- - Which processes run is told by what holds just after a state, and not by what holds in it: at
--   `x = 5`, with x rising, a process with the condition `(<= (x) 5)` does not run on.
-- - The set is found in one step. The processes that hold in the state give rates; those that hold
--   just after it at these rates are the running set, and it must confirm itself: at its own rates
--   exactly its members hold just after.
-- - A rate may not read a fluent that moves. So rates are constant along a stretch, and no
--   differential equation is solved.
use Rattle.std.specs.Prelude.{◌≡◌, ◌↔◌, ℕ, zero, suc, ◌≤◌, Bool, true, false, List, [], ◌∷◌, Option, Some, None, IsSomeAnd, Result, Ok, Err, option_map, slice_get, unwrap_or, map, find, replicate, length, ◌++◌, not, pos}
use Rattle.plus_fraction.specs.Fraction.{Fraction, whole, ◌+ℚ◌, ◌*ℚ◌, neg_ℚ, ◌<ℚ◌}
use Rattle.plus_model.specs.Terms.{Expression, Number, Fluent, Sum, Difference, Product, Quotient, Condition, Rate, Process, State, Problem}
use Rattle.plus_model.specs.Value.{value, fluent_of, is_zero, holds}
use Rattle.plus_model.specs.Firing.{numbers_of, firing, is_in}

-- add x to the k-th sum
abbrev pub add_at : ℕ → Fraction → List Fraction → List Fraction
add_at k x [] = []
add_at zero x (y ∷ ys) = (y +ℚ x) ∷ ys
add_at (suc k) x (y ∷ ys) = y ∷ add_at k x ys

-- the sums with one rate more: its amount, and the value of the fluent that it moves, must be there
abbrev pub rated : ℕ → Bool → Option Fraction → Option Fraction → List Fraction
    → Result (List Fraction) ℕ
rated f up None v sums = Err f
rated f up (Some x) None sums = Err f
rated f true (Some x) (Some v) sums = Ok (add_at f x sums)
rated f false (Some x) (Some v) sums = Ok (add_at f (neg_ℚ x) sums)

-- go on with the sums, or stop at the first fluent that lacks a value
abbrev pub then_rates : Result (List Fraction) ℕ → (List Fraction → Result (List Fraction) ℕ)
    → Result (List Fraction) ℕ
then_rates (Err f) more = Err f
then_rates (Ok sums) more = more sums

-- the rates of one process, one after the other
abbrev pub add_rates : List Rate → State → List Fraction → Result (List Fraction) ℕ
add_rates [] s sums = Ok sums
add_rates (r ∷ rs) s sums =
    then_rates (rated r.fluent r.up (value r.amount s) (fluent_of s r.fluent) sums) (add_rates rs s)

-- the rates of a process
abbrev pub rates_at : Option Process → List Rate
rates_at None = []
rates_at (Some p) = p.rates

-- the rates of several processes, one after the other
abbrev pub sum_rates : Problem → List ℕ → State → List Fraction → Result (List Fraction) ℕ
sum_rates P [] s sums = Ok sums
sum_rates P (p ∷ ps) s sums =
    then_rates (add_rates (rates_at (slice_get P.processes p)) s sums) (sum_rates P ps s)

-- the net rate of each fluent under these processes, from 0, with all amounts read in this state;
-- or the first fluent that lacks a value or whose amount does
unfoldable pub rates : Problem → State → List ℕ → Result (List Fraction) ℕ
rates P s running = sum_rates P running s (replicate (length s.fluents) (whole (pos 0)))

-- each fluent that has a value, moved by x times its rate
abbrev pub moved_values : List (Option Fraction) → List Fraction → Fraction → List (Option Fraction)
moved_values [] rs x = []
moved_values (v ∷ vs) [] x = v ∷ vs
moved_values (v ∷ vs) (r ∷ rs) x = option_map (λ w. w +ℚ r *ℚ x) v ∷ moved_values vs rs x

-- the state after x units of time at these rates
unfoldable pub moved : State → List Fraction → Fraction → State
moved s rs x = record { atoms = s.atoms; fluents = moved_values s.fluents rs x }

-- the condition holds just after the state: there is a fraction `until` above 0 such that it holds
-- at every fraction of time strictly between 0 and `until`
pub record JustAfter (s : State) (rs : List Fraction) (c : Condition) : Type 0 where
  pub until : Fraction
  pub above : whole (pos 0) <ℚ until
  pub inside : (x : Fraction) → whole (pos 0) <ℚ x → x <ℚ until → holds c (moved s rs x) ≡ true

-- numbers that rise, from k on
abbrev pub IsRising : ℕ → List ℕ → Type 0
IsRising k [] = Unit {0}
IsRising k (x ∷ xs) = (k ≤ x) × IsRising (suc x) xs

-- the list of exactly the numbers with this property, in order
pub record Exactly (Q : ℕ → Type 0) (xs : List ℕ) : Type 0 where
  pub rising : IsRising 0 xs
  pub members : (k : ℕ) → (is_in xs k ≡ true) ↔ Q k

-- the process with this number would run just after
abbrev pub RunsAfter : Problem → State → List Fraction → ℕ → Type 0
RunsAfter P s rs p = IsSomeAnd (slice_get P.processes p) (λ q. JustAfter s rs q.condition)

-- the running set goes on: exactly its processes hold just after the state, at these rates
abbrev pub GoesOn : Problem → State → List Fraction → List ℕ → Type 0
GoesOn P s rs running = Exactly (RunsAfter P s rs) running

-- the processes that hold in the state
abbrev pub holding : Problem → State → List ℕ
holding P s = numbers_of (λ p. holds p.condition s) 0 P.processes

-- the first half of settling: the processes that hold just after the state at the rates of those
-- that hold in it
pub record Chosen (P : Problem) (s : State) (running : List ℕ) : Type 0 where
  pub first : List Fraction
  pub first_is : rates P s (holding P s) ≡ Ok first
  pub chosen : GoesOn P s first running

-- the running set of the state and its rates: the chosen processes confirm themselves at their own
-- rates
pub record Settled (P : Problem) (s : State) (running : List ℕ) (own : List Fraction) : Type 0 where
  pub choice : Chosen P s running
  pub own_is : rates P s running ≡ Ok own
  pub confirmed : GoesOn P s own running

-- the fluents that an expression names, in text order
abbrev pub names : Expression → List ℕ
names (Number x) = []
names (Fluent f) = f ∷ []
names (Sum a b) = names a ++ names b
names (Difference a b) = names a ++ names b
names (Product a b) = names a ++ names b
names (Quotient a b) = names a ++ names b

-- the fluents that the amounts of rates name
abbrev pub names_of_rates : List Rate → List ℕ
names_of_rates [] = []
names_of_rates (r ∷ rs) = names r.amount ++ names_of_rates rs

-- a process beside each fluent that its rates name
abbrev pub named_pairs : Problem → List ℕ → List (ℕ × ℕ)
named_pairs P [] = []
named_pairs P (p ∷ ps) =
    map (λ f. (p, f)) (names_of_rates (rates_at (slice_get P.processes p))) ++ named_pairs P ps

-- the first running process with a rate that names a fluent whose net rate is not zero, with that
-- fluent
unfoldable pub first_coupled : Problem → List ℕ → List Fraction → Option (ℕ × ℕ)
first_coupled P running rs =
    find (λ c. not (is_zero (unwrap_or (slice_get rs c.1) (whole (pos 0))))) (named_pairs P running)

-- no event holds and the running set goes on
pub record IsQuiet (P : Problem) (s : State) (running : List ℕ) (rs : List Fraction) : Type 0 where
  pub still : firing P s ≡ []
  pub on : GoesOn P s rs running

-- for `len` units of time nothing begins and nothing ends: at every fraction of time strictly
-- inside, no event holds and the running set goes on
abbrev pub Stretch : Problem → State → List ℕ → List Fraction → Fraction → Type 0
Stretch P s running rs len =
    (x : Fraction) → whole (pos 0) <ℚ x → x <ℚ len → IsQuiet P (moved s rs x) running rs
