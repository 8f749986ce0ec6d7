-- Sets of processes, and what tells whether a process runs.
use Rattle.std.specs.Prelude.{Bool, List}
use Rattle.plus_fraction.specs.Fraction.{Fraction}
use Rattle.plus_model.specs.Terms.{Process, State}
use Rattle.plus_model.specs.Piece.{after}
use Rattle.plus_model.specs.Live.{live}
pub use Rattle.plus_state.specs.Numbers.{process_numbers, AreMembers}

-- what the test of values and slopes on the live comparisons tells: whether the process holds just after
unfoldable pub soon : Process → State → List Fraction → Bool
soon p s rs = after (live p.condition s) s rs
