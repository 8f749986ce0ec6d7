use Rattle.std.proofs.Common.{◌≡◌, ◌∷◌, map, take}
use Rattle.plus_types.specs.Faults.{term_name}
use Rattle.plus_translate.proofs.atoms.key.Given as goal

-- the name of the atom, and those of the arguments seen so far
abbrev pub invariant-terms : goal.invariant-terms
invariant-terms l = map (λ name. name.now) l.names.items ≡ l.atom.head.name ∷ map term_name (take l.arg-index l.arg-items)
