-- The texts of a shelf, and what of one is read. What a shelf does not tell is `None`.
use Rattle.std.specs.Prelude.{◌≡◌, ℕ, ◌≤◌, List, [], ◌++◌, length, Option, None, Result, IsErrOf}
use Rattle.std.specs.Io.KnownBytes.{prepend_known}
use Rattle.plus_io.specs.declared.fault.ReadStop.{ReadStop}
use Rattle.plus_io.specs.declared.fault.ReadStop.TheVariants.{Failed}

-- No call changes the names or the bytes under them, and the count of faults does not fall.
pub record KeepsFiles {S : Type 0} (names : S → List (List ℕ)) (bytes : S → List ℕ → Option (List ℕ)) (faults : S → ℕ) (old new : S) : Type 0 where
  pub same_names : names new ≡ names old
  pub same_bytes : bytes new ≡ bytes old
  pub no_fall : faults old ≤ faults new

-- these bytes were taken off the front of a text, and the rest is left, where they are told
abbrev pub Takes : Option (List ℕ) → Option (List ℕ) → List ℕ → Type 0
Takes old new front = old ≡ prepend_known front new

-- at most so many bytes were taken off the front of a text, and the rest is left
abbrev pub TakesAtMost : ℕ → Option (List ℕ) → Option (List ℕ) → Type 0
TakesAtMost most old new = (front : List ℕ) × (length front ≤ most) × Takes old new front

-- the bytes begin with these
abbrev pub IsPrefix : List ℕ → List ℕ → Type 0
IsPrefix front bytes = (left : List ℕ) × (bytes ≡ front ++ left)

-- a call failed at its pick, so that nothing is picked and nothing was read
abbrev pub IsUnpicked : {T : Type 0} → Result T ReadStop → Option (List ℕ) → List ℕ → Type 0
IsUnpicked result picked read = IsErrOf result Failed × (picked ≡ None) × (read ≡ [])
