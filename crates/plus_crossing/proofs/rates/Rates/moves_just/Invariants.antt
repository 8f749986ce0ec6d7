use Rattle.std.proofs.Common.{◌≡◌, ◌≤◌, ◌++◌, take, drop, length}
use Rattle.plus_crossing.specs.Rated.{fluent_numbers, moving_of}
use Rattle.plus_crossing.proofs.Rated.{moving_keys}
use Rattle.plus_crossing.proofs.rates.Rates.moves_just.Given as goal

abbrev pub invariant-each : goal.invariant-each
invariant-each g l = record {
  inside : l.place ≤ length l.fluents;
  just : fluent_numbers (take l.place l.fluents) ++ moving_keys g.Q.Exact.value (drop l.entry-index l.entry-items) ≡ moving_of l.self;
}
