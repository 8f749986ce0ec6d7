use Rattle.std.proofs.Common.{◌≡◌, ◌++◌, map, take}
use Rattle.plus_tree.specs.declared.trees.Init.TheVariants.{Holds}
use Rattle.plus_translate.specs.Atoms.{atoms_of}
use Rattle.plus_translate.proofs.initial.put_atoms.Given as goal

abbrev pub invariant-atoms : goal.invariant-atoms
invariant-atoms l = l.into ≡ l.initial.into ++ map Holds (atoms_of (take l.atom-index l.set))
