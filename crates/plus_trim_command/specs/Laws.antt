-- What a reader of a reply may rely on, over the definitions alone. Which of several lists of acts is kept is not said, so there is
-- not one reply.
use Rattle.std.specs.Prelude.{◌≡◌, ◌≢◌, List, ℕ}
use Rattle.plus_report.specs.declared.status.Status.{Status}
use Rattle.plus_report.specs.declared.status.Status.TheVariants.{Valid}
use Rattle.plus_trim_command.specs.Trim.{Trims}

-- The same three texts have one status; and where that is another than of a valid plan, one text.
abbrev pub OneStatus : Type 0
OneStatus =
    (domain problem plan written written' : List ℕ) (status status' : Status)
    → Trims domain problem plan status written → Trims domain problem plan status' written'
    → (status ≡ status') × (status ≢ Valid → written ≡ written')
