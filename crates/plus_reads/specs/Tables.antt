-- Who reads what: for each atom, and for each fluent, the numbers of the members of a list of conditions that name it.
use Rattle.std.specs.Prelude.{◌≡◌, ℕ, ◌<◌, true, List, [], Some, map, slice_get, slice_index_or}
use Rattle.plus_model.specs.Terms.{Condition}
use Rattle.plus_model.specs.Firing.{is_in}
use Rattle.plus_state.specs.Changes.{Changes}
use Rattle.plus_state.specs.Numbers.{AreMembers}
use Rattle.plus_reads.specs.Reads.{atoms_read, fluents_read}
use Rattle.plus_reads.specs.declared.readers.Readers.{Readers}

-- the readers of an atom, or of a fluent; none where the table ends before
abbrev pub readers_at : List (List ℕ) → ℕ → List ℕ
readers_at table key = slice_index_or table key []

-- the member with number k is among the readers of all that the condition names
pub record IsListed (atoms fluents : List (List ℕ)) (k : ℕ) (c : Condition) : Type 0 where
  pub by_atoms : (a : ℕ) → is_in (atoms_read c) a ≡ true → is_in (readers_at atoms a) k ≡ true
  pub by_fluents : (f : ℕ) → is_in (fluents_read c) f ≡ true → is_in (readers_at fluents f) k ≡ true

-- each of these conditions is listed under all that it names
abbrev pub Covers : List Condition → Readers → Type 0
Covers cs t = (k : ℕ) (c : Condition) → slice_get cs k ≡ Some c → IsListed t.atoms t.fluents k c

-- all readers have numbers below n
pub record AreBelow (n : ℕ) (t : Readers) : Type 0 where
  pub by_atoms : (a k : ℕ) → is_in (readers_at t.atoms a) k ≡ true → k < n
  pub by_fluents : (f k : ℕ) → is_in (readers_at t.fluents f) k ≡ true → k < n

-- the atoms, and the fluents, that changes list
abbrev pub atoms_changed : Changes → List ℕ
atoms_changed c = map (λ p. p.0) c.atoms

abbrev pub fluents_changed : Changes → List ℕ
fluents_changed c = map (λ p. p.0) c.fluents

-- among the numbers afterwards are those before, and all readers of what is changed
pub record Wakes (t : Readers) (c : Changes) (before after : List ℕ) : Type 0 where
  pub kept : (k : ℕ) → is_in before k ≡ true → is_in after k ≡ true
  pub by_atoms : (a k : ℕ) → is_in (atoms_changed c) a ≡ true → is_in (readers_at t.atoms a) k ≡ true → is_in after k ≡ true
  pub by_fluents : (f k : ℕ) → is_in (fluents_changed c) f ≡ true → is_in (readers_at t.fluents f) k ≡ true → is_in after k ≡ true

-- among these numbers are all readers of these fluents, and they are numbers of members
pub record ReadAny (t : Readers) (fluents readers : List ℕ) : Type 0 where
  pub all : (f k : ℕ) → is_in fluents f ≡ true → is_in (readers_at t.fluents f) k ≡ true → is_in readers k ≡ true
  pub members : (n : ℕ) → AreBelow n t → AreMembers n readers
