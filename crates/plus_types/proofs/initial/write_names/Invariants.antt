use Rattle.std.proofs.Common.{◌≡◌, map, take}
use Rattle.std.specs.List.{fold}
use Rattle.plus_types.specs.Faults.{term_name}
use Rattle.plus_types.proofs.initial.write_names.Given as goal

-- the names of the terms seen so far are written
abbrev pub invariant-terms : goal.invariant-terms
invariant-terms g l = l.state ≡ fold g.H.Hasher.write l.fn.state (map term_name (take l.term-index l.terms))
