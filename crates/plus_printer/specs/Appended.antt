-- What a printer does to a text that grows at its end.
use Rattle.std.specs.Prelude.{◌≡◌, List, ℕ, ◌++◌, Result, MatchResult}

-- the text grew by these bytes
pub record IsAppended (old new text : List ℕ) : Type 0 where
  pub whole : new ≡ old ++ text

-- it grew by some first bytes of them
pub record IsBegun (old new text : List ℕ) : Type 0 where
  pub front : List ℕ
  pub left : List ℕ
  pub is : text ≡ front ++ left
  pub begun : new ≡ old ++ front

-- the bytes are appended; or memory is wanting, and some first bytes of them are
abbrev pub Prints : {A E : Type 0} → List ℕ → List ℕ → List ℕ → Result A E → Type 0
Prints old new text r = MatchResult r (λ _. IsAppended old new text) (λ _. IsBegun old new text)
