-- What is told where the plan under a name is read no further.
use Rattle.std.specs.Prelude.{◌≡◌, ℕ, List, Option, IfSome}
use Rattle.plus_io.specs.Faults.{Rose}
use Rattle.plus_tree.specs.declared.trees.Domain.{Domain}
use Rattle.plus_tree.specs.declared.trees.Problem as tree
use Rattle.plus_play.specs.declared.file.Pause.{Pause}
use Rattle.plus_play.specs.declared.file.Pause.TheVariants.{Halt, Failed}
use Rattle.plus_numeric.specs.declared.play.Play.{Play}
use Rattle.plus_numeric.specs.declared.halt.Halt as halts
use Rattle.plus_numeric.specs.declared.halt.Halt.TheVariants as halt
use Rattle.plus_numeric.specs.declared.answer.Stop.{Stop}
use Rattle.plus_numeric.specs.declared.answer.Stop.TheVariants as stops
use Rattle.plus_numeric.specs.Telling.{TellsLine}
use Rattle.plus_numeric.specs.Verdicts.{kind_of}
use Rattle.plus_number.specs.Frac.{fraction_of}
use Rattle.plus_model.specs.Terms.{Problem}
use Rattle.plus_state.specs.View.{Labels}
use Rattle.plus_report.specs.Verdicts.{VerdictFits, verdict_text}
use Rattle.plus_numeric.specs.Playing.{HaltsWith, HaltFits}

-- the plan under a name is read no further: it is played no further, or the shelf failed
abbrev pub PausesIn : Domain → tree.Problem → Option (List ℕ) → ℕ → ℕ → Play → Pause halts.Halt → Type 0
PausesIn d p bytes before now first (Halt halt) = IfSome bytes (λ text. HaltsWith d p text first halt)
PausesIn d p bytes before now first Failed = Rose before now

abbrev pub PauseFits : Domain → tree.Problem → Pause halts.Halt → Type 0
PauseFits d p (Halt halt) = HaltFits d p halt
PauseFits d p Failed = Unit {0}

-- the ids that its verdict names are those of the problem
abbrev pub HaltNames : Problem → halts.Halt → Type 0
HaltNames P (halt.Refused v) = VerdictFits P v
HaltNames P halt.Memory = Unit {0}

abbrev pub PauseNames : Problem → Pause halts.Halt → Type 0
PauseNames P (Halt halt) = HaltNames P halt
PauseNames P Failed = Unit {0}

-- what is told of it: its verdict, or that memory is wanting, or that the shelf failed
abbrev pub TellsHalt : Labels → Problem → halts.Halt → Stop → Type 0
TellsHalt N P (halt.Refused v) stop = TellsLine (kind_of v) (verdict_text fraction_of N P v) stop
TellsHalt N P halt.Memory stop = stop ≡ stops.NoMemory

abbrev pub TellsPause : Labels → Problem → Pause halts.Halt → Stop → Type 0
TellsPause N P (Halt halt) stop = TellsHalt N P halt stop
TellsPause N P Failed stop = stop ≡ stops.ReadFault
