-- How a run ends.
use Rattle.std.specs.Prelude.{ℕ}
use Rattle.plus_report.specs.declared.status.Status.{Status}
use Rattle.plus_report.specs.declared.status.Status.TheVariants as s

-- the number that the process ends with
abbrev pub exit_number : Status → ℕ
exit_number s.Valid = 0
exit_number s.Invalid = 1
exit_number s.Beyond = 2
exit_number s.BadText = 3
exit_number s.Usage = 4
exit_number s.ReadFault = 5
exit_number s.WriteFault = 6
exit_number s.NoMemory = 7
