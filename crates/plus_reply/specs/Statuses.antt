-- The status of a refusal that is one line, and what the writing of a line shows.
use Rattle.std.specs.Prelude.{◌≡◌, ◌⊎◌, ℕ, List, Option}
use Rattle.plus_io.specs.Faults.{Rose}
use Rattle.plus_io.specs.Taken.{Took, TookPart}
use Rattle.plus_report.specs.declared.refusals.Early.{Early}
use Rattle.plus_report.specs.declared.refusals.Early.TheVariants.{BadText, BadLine}
use Rattle.plus_report.specs.declared.status.Status.{Status}
use Rattle.plus_report.specs.declared.status.Status.TheVariants as s

-- the status of a refusal that is one line
abbrev pub early_status : Early → Status
early_status (BadText text start finish word) = s.BadText
early_status (BadLine line start finish) = s.BadText
early_status _ = s.Beyond

-- the line was written, and this is the status; or the sink failed in it
abbrev pub Writes : List ℕ → Status → Option (List ℕ) → Option (List ℕ) → ℕ → ℕ → Status → Type 0
Writes line status old new before now answer =
    ((answer ≡ status) × Took old new line)
    ⊎ ((answer ≡ s.WriteFault) × Rose before now × TookPart old new line)
