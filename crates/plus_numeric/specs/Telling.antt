-- A refusal that is told: of this kind, with this line; or memory is wanting.
use Rattle.std.specs.Prelude.{◌≡◌, ℕ, List}
use Rattle.plus_numeric.specs.declared.answer.Kind.{Kind}
use Rattle.plus_numeric.specs.declared.answer.Stop.{Stop}
use Rattle.plus_numeric.specs.declared.answer.Stop.TheVariants.{Refused, ReadFault, NoMemory}

abbrev pub TellsLine : Kind → List ℕ → Stop → Type 0
TellsLine kind line (Refused r) = (r.kind ≡ kind) × (r.line.items ≡ line)
TellsLine kind line ReadFault = ⊥
TellsLine kind line NoMemory = Unit {0}
