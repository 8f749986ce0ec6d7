use Rattle.std.proofs.Common.{◌≡◌, ℕ, List, length}
use Rattle.plus_types.specs.Types.{Binding}
use Rattle.plus_types.specs.Jumps.{AllLeadUp}
use Rattle.plus_types.proofs.jumps.staying.Given as goal

-- those so far stay
abbrev pub invariant-numbers : goal.invariant-numbers
invariant-numbers l = record {
  size : length l.steps.items ≡ l.number;
  stay : (types : List Binding) → (depths : List ℕ) → AllLeadUp types depths l.steps.items;
}
