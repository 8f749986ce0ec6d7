-- What was taken where the sink failed, or where memory was wanting, beside what another answer over the same files has written.
use Rattle.std.specs.Prelude.{ℕ, List, ◌++◌, Option}
use Rattle.plus_io.specs.Files.{IsPrefix}
use Rattle.plus_io.specs.Taken.{Took}
use Rattle.plus_tree.specs.declared.trees.Domain.{Domain}
use Rattle.plus_tree.specs.declared.trees.Problem.{Problem}
use Rattle.plus_validator.specs.declared.judge.Outcome.{Outcome}
use Rattle.plus_validator.specs.Leaving.{TellsOnWay}
use Rattle.plus_validator.specs.Validates.{IsWhole}
use Rattle.plus_report.specs.declared.status.Status.{Status}
use Rattle.plus_report.specs.declared.status.Status.TheVariants as s
use Rattle.plus_run.specs.Command.{Command, files_of}
use Rattle.plus_run.specs.Headline.{IsAnswer}
use Rattle.plus_run.specs.Laws.{IsSettled, AreTold, IsSaidWhole}

-- what first lines of a plan text tell begins the one report that the text has
abbrev pub ToldOnWayBegins : Type 0
ToldOnWayBegins =
    (d : Domain) (p : Problem) (most : ℕ) (bytes report written : List ℕ) (outcome : Outcome)
    → TellsOnWay d p most bytes report → IsWhole d p most bytes outcome written → IsPrefix report written

-- the sink failed, or memory was wanting
abbrev pub IsCutShort : Status → Type 0
IsCutShort s.WriteFault = Unit {0}
IsCutShort s.NoMemory = Unit {0}
IsCutShort _ = ⊥

-- what was taken between old and new begins what was taken between old and whole
pub record IsBeginning (old new whole : Option (List ℕ)) : Type 0 where
  pub out : List ℕ
  pub more : List ℕ
  pub took : Took old new out
  pub goes_on : Took old whole (out ++ more)

-- An answer that was cut short, and one that tells of no fault and of no want of memory, to one command over the same files: what the
-- sink took in the first begins what it took in the second.
abbrev pub Beginnings : Type 0
Beginnings =
    (command : Option Command) (bytes : List ℕ → Option (List ℕ)) (old new whole : Option (List ℕ)) (a b c d a' b' c' d' : ℕ) (status status' : Status)
    → AreTold bytes (files_of command) → IsAnswer command bytes old new a b c d status → IsCutShort status
    → IsAnswer command bytes old whole a' b' c' d' status' → IsSettled status' → IsSaidWhole command → IsBeginning old new whole
