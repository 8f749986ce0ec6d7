-- The numbers of events and of processes, and lists of numbers.
use Rattle.std.specs.Prelude.{ℕ, ◌<◌, zero, suc, List, [], ◌∷◌, map, All}
use Rattle.plus_model.specs.Running.{IsRising}
use Rattle.plus_state.specs.declared.term.EventId.{EventId}
use Rattle.plus_state.specs.declared.term.ProcessId.{ProcessId}

abbrev pub event_numbers : List EventId → List ℕ
event_numbers events = map (λ (e : EventId). e.0) events

abbrev pub process_numbers : List ProcessId → List ℕ
process_numbers processes = map (λ (p : ProcessId). p.0) processes

-- so many numbers, from k on
abbrev pub numbers_from : ℕ → ℕ → List ℕ
numbers_from k zero = []
numbers_from k (suc n) = k ∷ numbers_from (suc k) n

-- numbers below n, in ground order without repeats
pub record AreMembers (n : ℕ) (members : List ℕ) : Type 0 where
  pub inside : All (λ k. k < n) members
  pub rising : IsRising 0 members
