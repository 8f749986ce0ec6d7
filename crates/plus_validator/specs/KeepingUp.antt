-- What the first lines of a plan text tell, and how far its reading is ahead of the report.
use Rattle.std.specs.Prelude.{ℕ, ◌+◌, ◌<◌, List, ◌++◌, length, Some}
use Rattle.plus_io.specs.Limits.{piece_size}
use Rattle.plus_io.specs.Files.{IsPrefix}
use Rattle.plus_io.specs.Taken.{TookPart}
use Rattle.plus_tree.specs.declared.trees.Domain.{Domain}
use Rattle.plus_tree.specs.declared.trees.Problem.{Problem}
use Rattle.plus_validator.specs.Leaving.{TellsSoFar, KeepsUp}

-- the report for the whole lines of a text is a beginning of that for the whole lines of one that goes on behind it
abbrev pub MoreTellsMore : Type 0
MoreTellsMore =
    (d : Domain) (p : Problem) (most : ℕ) (text more one other : List ℕ)
    → TellsSoFar d p most text one → TellsSoFar d p most (text ++ more) other → IsPrefix one other

-- Where the reading keeps up, and what was taken is a part of the report for some first lines, fewer bytes were read than these lines and
-- one piece more: at most one piece behind the end of the last of them, which is before its LF.
abbrev pub ReadsOnePieceAhead : Type 0
ReadsOnePieceAhead =
    (d : Domain) (p : Problem) (most : ℕ) (text rest old new front report : List ℕ)
    → KeepsUp d p most (Some text) (Some rest) (Some old) (Some new) → IsPrefix front text → TellsSoFar d p most front report
    → TookPart (Some old) (Some new) report → length text < length front + piece_size + length rest
