use Rattle.std.proofs.Common.{◌≡◌, drop}
use Rattle.plus_cut.specs.Lost.{some_false}
use Rattle.plus_cut.proofs.losing.is_some_false.Given as goal

abbrev pub invariant-atoms : goal.invariant-atoms
invariant-atoms g l = some_false (drop l.atom-index l.atoms) l.state ≡ some_false l.atoms l.state
