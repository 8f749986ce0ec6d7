-- What it means to put a text: a sink takes bytes by way of those that wait before it.
use Rattle.std.specs.Prelude.{◌≡◌, ℕ, ◌<◌, ◌≤◌, List, ◌++◌, length, Option, Result, MatchResult}
use Rattle.plus_io.specs.Faults.{Rose}
use Rattle.plus_io.specs.Taken.{Took}

-- of the bytes that waited and then the text, the sink took the first ones, and the others wait
pub record Moves (taken taken' : Option (List ℕ)) (waiting waiting' text : List ℕ) : Type 0 where
  pub front : List ℕ
  pub took : Took taken taken' front
  pub left : waiting ++ text ≡ front ++ waiting'

-- of the bytes that waited and then the text, the sink took the first ones, and not all
pub record Stops (taken taken' : Option (List ℕ)) (waiting text : List ℕ) : Type 0 where
  pub front : List ℕ
  pub took : Took taken taken' front
  pub back : List ℕ
  pub some : 0 < length back
  pub left : waiting ++ text ≡ front ++ back

-- the text is put behind the bytes that wait; a fault, which the sink counts, stops before its end
pub record Puts {O T E : Type 0} (taken : O → Option (List ℕ)) (faults : O → ℕ) (old new : O) (waiting waiting' text : List ℕ) (r : Result T E) : Type 0 where
  pub no_fall : faults old ≤ faults new
  pub outcome :
      MatchResult r
      (λ _. Moves (taken old) (taken new) waiting waiting' text)
      (λ _. Rose (faults old) (faults new) × Stops (taken old) (taken new) waiting text)
