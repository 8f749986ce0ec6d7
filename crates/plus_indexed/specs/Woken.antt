-- Which events are looked at after a step.
use Rattle.std.specs.Prelude.{ℕ, ◌<◌, List, All}
use Rattle.plus_state.specs.Changes.{Changes}
use Rattle.plus_state.specs.Numbers.{AreMembers}
use Rattle.plus_reads.specs.Tables.{AreBelow, Wakes}
use Rattle.plus_reads.specs.declared.readers.Readers.{Readers}

-- those of before, and the readers of what is changed, in any order
pub record AddsReaders (t : Readers) (c : Changes) (before after : List ℕ) : Type 0 where
  pub wakes : Wakes t c before after
  pub inside : (n : ℕ) → AreBelow n t → All (λ k. k < n) before → All (λ k. k < n) after

-- in ground order: those of before, and the readers of what is changed
pub record AreWoken (t : Readers) (c : Changes) (before after : List ℕ) : Type 0 where
  pub wakes : Wakes t c before after
  pub members : (n : ℕ) → AreBelow n t → All (λ k. k < n) before → AreMembers n after
