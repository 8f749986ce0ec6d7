use Rattle.std.proofs.Common.{◌≡◌, [], take}
use Rattle.std.specs.List.{flat_map}
use Rattle.plus_numeric.specs.Level.{literal_places}
use Rattle.plus_numeric.proofs.level.first_literal.Given as goal

abbrev pub invariant-inits : goal.invariant-inits
invariant-inits l = flat_map literal_places (take l.init-index l.inits) ≡ []
