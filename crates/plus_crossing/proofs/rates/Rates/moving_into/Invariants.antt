use Rattle.std.proofs.Common.{◌≡◌, ◌++◌, drop}
use Rattle.plus_crossing.specs.Rated.{fluent_numbers, moving_of}
use Rattle.plus_crossing.proofs.Rated.{moving_keys}
use Rattle.plus_crossing.proofs.rates.Rates.moving_into.Given as goal

abbrev pub invariant-each : goal.invariant-each
invariant-each g l =
    fluent_numbers l.fluents.items ++ moving_keys g.Q.Exact.value (drop l.entry-index l.entry-items) ≡ moving_of l.self
