-- A plan that is read from a shelf, and played as it comes, while its report goes to a sink.
use Rattle.std.specs.Prelude.{ℕ, List, Option, IfSome, Result, Ok, Err}
use Rattle.plus_io.specs.Taken.{Took}
use Rattle.plus_model.specs.Terms.{Problem}
use Rattle.plus_state.specs.View.{Labels}
use Rattle.plus_tree.specs.declared.trees.Domain.{Domain}
use Rattle.plus_tree.specs.declared.trees.Problem as tree
use Rattle.plus_play.specs.declared.file.Pause.{Pause}
use Rattle.plus_play.specs.declared.file.Pause.TheVariants as pauses
use Rattle.plus_validator.specs.declared.halt.Halt.{Halt}
use Rattle.plus_validator.specs.declared.halt.Halt.TheVariants as halts
use Rattle.plus_validator.specs.declared.memory.Report.{Report}
use Rattle.plus_validator.specs.declared.run.Run.{Run}
use Rattle.plus_validator.specs.declared.stream.Ending.{Ending}
use Rattle.plus_validator.specs.declared.stream.Ending.TheVariants.{Played, ReadFault, WriteFault}
use Rattle.plus_validator.specs.Account.{Progress}
use Rattle.plus_validator.specs.Plans.{Pair, pair}
use Rattle.plus_validator.specs.Feeding.{IsPlayedOut}
use Rattle.plus_validator.specs.Told.{Telling, reports, report_told}

-- The plan text is played, or the run halts in it. What the sink took is the beginning of the report, and the run keeps the rest.
pub record IsPlayedFrom (d : Domain) (p : tree.Problem) (N : Labels) (P : Problem) (bytes : Option (List ℕ)) (first : Progress (List ℕ)) (new : Run Report) (old now : Option (List ℕ)) (played : Result (Unit {0}) Halt) : Type 0 where
  pub sent : List ℕ
  pub took : Took old now sent
  pub out : IfSome bytes (λ text. IsPlayedOut (pair d p) P (reports N P) report_told text first sent new played)

-- ---- a text that stands in memory

-- The plan text that stands in these bytes is played, or the run halts in it. The run keeps the end of what is told.
pub record IsPlayedThrough {S V : Type 0} (d : Pair) (P : Problem) (T : Telling P V) (told : List ℕ → S → V) (bytes : List ℕ) (first : Progress V) (new : Run S) (played : Result (Unit {0}) Halt) : Type 0 where
  pub gone : List ℕ
  pub out : IsPlayedOut d P T told bytes first gone new played

-- ---- by how the playing ends

-- the text is played so, or the shelf failed
abbrev pub ended : Result (Unit {0}) (Pause Halt) → Ending
ended (Ok u) = Played (Ok u)
ended (Err (pauses.Halt (halts.Refused v))) = Played (Err (halts.Refused v))
ended (Err (pauses.Halt halts.Memory)) = Played (Err halts.Memory)
ended (Err (pauses.Halt halts.WriteFault)) = WriteFault
ended (Err pauses.Failed) = ReadFault

abbrev pub OnPlayed : Ending → (Result (Unit {0}) Halt → Type 0) → Type 0
OnPlayed (Played played) Q = Q played
OnPlayed ReadFault Q = Unit {0}
OnPlayed WriteFault Q = Unit {0}

abbrev pub OnReadFault : Ending → Type 0 → Type 0
OnReadFault ReadFault Q = Q
OnReadFault (Played played) Q = Unit {0}
OnReadFault WriteFault Q = Unit {0}

abbrev pub OnWriteFault : Ending → Type 0 → Type 0
OnWriteFault WriteFault Q = Q
OnWriteFault (Played played) Q = Unit {0}
OnWriteFault ReadFault Q = Unit {0}

-- it ends otherwise than by a fault of the shelf, and so this is
abbrev pub UnlessReadFault : Ending → Type 0 → Type 0
UnlessReadFault ReadFault Q = Unit {0}
UnlessReadFault (Played played) Q = Q
UnlessReadFault WriteFault Q = Q
