-- What a sink took. What it does not tell is `None`.
use Rattle.std.specs.Prelude.{◌≡◌, ℕ, ◌<◌, List, length, take, Option}
use Rattle.std.specs.Io.KnownBytes.{append_known}

-- between old and new the sink took these bytes, and nothing else
abbrev pub Took : Option (List ℕ) → Option (List ℕ) → List ℕ → Type 0
Took old new bytes = new ≡ append_known old bytes

-- between old and new the sink took some first bytes of these, and not all
abbrev pub TookPart : Option (List ℕ) → Option (List ℕ) → List ℕ → Type 0
TookPart old new bytes = (count : ℕ) × (count < length bytes) × Took old new (take count bytes)
