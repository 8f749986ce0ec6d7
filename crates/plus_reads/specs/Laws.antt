-- A condition depends on what it reads alone, and a step leaves what it does not change. So only the readers of what a step
-- changes need be looked at again.
use Rattle.std.specs.Prelude.{◌≡◌, ℕ, true, false, List, Ok, pos}
use Rattle.plus_fraction.specs.Fraction.{Fraction, whole}
use Rattle.plus_model.specs.Terms.{Condition, Effect, State}
use Rattle.plus_model.specs.Value.{fluent_of, atom_of, holds}
use Rattle.plus_model.specs.Joint.{joint}
use Rattle.plus_model.specs.Firing.{is_in}
use Rattle.plus_model.specs.Running.{moved}
use Rattle.plus_model.specs.Piece.{rate_of}
use Rattle.plus_state.specs.Changes.{Changes, patched}
use Rattle.plus_state.specs.Tests.{tests_of, decided}
use Rattle.plus_state.specs.Looked.{OthersPass}
use Rattle.plus_reads.specs.Reads.{Agree, ReadsNone, fluents_read}
use Rattle.plus_reads.specs.Writes.{atoms_written, fluents_written}
use Rattle.plus_reads.specs.Tables.{Covers, Wakes, atoms_changed, fluents_changed}
use Rattle.plus_reads.specs.Quiet.{OthersQuiet}
use Rattle.plus_reads.specs.declared.readers.Readers.{Readers}

-- the truth of a condition, what it asks and what its atoms decide
pub record DependsOnReads : Type 0 where
  pub truth : (c : Condition) (s t : State) → Agree c s t → holds c s ≡ holds c t
  pub asks : (c : Condition) (s t : State) → Agree c s t → tests_of c s ≡ tests_of c t
  pub decides : (c : Condition) (s t : State) → Agree c s t → decided c s ≡ decided c t

-- what is not written stays
pub record LeavesUnwritten : Type 0 where
  pub atom : (es : List Effect) (s t : State) (a : ℕ) → joint es s ≡ Ok t → is_in (atoms_written es) a ≡ false → atom_of s a ≡ atom_of t a
  pub fluent : (es : List Effect) (s t : State) (f : ℕ) → joint es s ≡ Ok t → is_in (fluents_written es) f ≡ false → fluent_of s f ≡ fluent_of t f

-- what does not move stays as time passes
abbrev pub StandsStill : Condition → List Fraction → Type 0
StandsStill c rs = (f : ℕ) → is_in (fluents_read c) f ≡ true → rate_of rs f ≡ whole (pos 0)

abbrev pub StillAgrees : Type 0
StillAgrees = (c : Condition) (s : State) (rs : List Fraction) (x : Fraction) → StandsStill c rs → Agree c s (moved s rs x)

-- what no change lists stays: of a round, an action, literals and moves alike
abbrev pub UnchangedAgrees : Type 0
UnchangedAgrees = (c : Condition) (s : State) (ch : Changes) → ReadsNone c (atoms_changed ch) (fluents_changed ch) → Agree c s (patched s ch)

-- after changes all others are as they were, where those are looked at that were before, and all readers of what is changed
abbrev pub QuietStays : (Fraction → Type 0) → Type 0
QuietStays fits =
    (cs : List Condition) (t : Readers) (s : State) (ch : Changes) (before after : List ℕ)
    → Covers cs t → Wakes t ch before after → OthersQuiet fits cs s before → OthersQuiet fits cs (patched s ch) after
