-- So few words, and so many, are no command.
use Rattle.std.proofs.Common.{◌≡◌, ℕ, ◌<◌, ◌≤◌, List, [], ◌∷◌, None, refl, length, map, string_bytes, String, Global, arith}
use Rattle.plus_run.specs.Command.{command_of}

pub too_few : (words : List (String Global)) → length words < 2 → None ≡ command_of (map string_bytes words)
too_few [] h = refl
too_few (a ∷ []) h = refl
too_few (a ∷ b ∷ words) h = absurd (omega arith)

pub too_many : (words : List (String Global)) → 8 ≤ length words → None ≡ command_of (map string_bytes words)
too_many [] h = absurd (omega arith)
too_many (a ∷ []) h = absurd (omega arith)
too_many (a ∷ b ∷ []) h = absurd (omega arith)
too_many (a ∷ b ∷ c ∷ []) h = absurd (omega arith)
too_many (a ∷ b ∷ c ∷ d ∷ []) h = absurd (omega arith)
too_many (a ∷ b ∷ c ∷ d ∷ e ∷ []) h = absurd (omega arith)
too_many (a ∷ b ∷ c ∷ d ∷ e ∷ f ∷ []) h = absurd (omega arith)
too_many (a ∷ b ∷ c ∷ d ∷ e ∷ f ∷ g ∷ []) h = absurd (omega arith)
too_many (a ∷ b ∷ c ∷ d ∷ e ∷ f ∷ g ∷ i ∷ words) h = refl
