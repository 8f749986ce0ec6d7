-- What a writer of reports does.
use Rattle.std.specs.Prelude.{ℕ, ◌≤◌, List, Option, Result, MatchResult}
use Rattle.plus_io.specs.Faults.{Rose}
use Rattle.plus_io.specs.Taken.{Took, TookPart}

-- the sink took the text; a fault, which the sink counts, left some first bytes of it, and not all
pub record Wrote {O T E : Type 0} (taken : O → Option (List ℕ)) (faults : O → ℕ) (old new : O) (text : List ℕ) (r : Result T E) : Type 0 where
  pub no_fall : faults old ≤ faults new
  pub outcome :
      MatchResult r
      (λ _. Took (taken old) (taken new) text)
      (λ _. Rose (faults old) (faults new) × TookPart (taken old) (taken new) text)
