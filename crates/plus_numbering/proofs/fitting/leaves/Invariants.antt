use Rattle.std.proofs.Common.{drop}
use Rattle.std.specs.List.{flat_map}
use Rattle.plus_tree.specs.declared.trees.Leaf.{Leaf}
use Rattle.plus_expansion.specs.Literals.{write_literals}
use Rattle.plus_numbering.proofs.Unfits.{Left}
use Rattle.plus_numbering.proofs.fitting.leaves.Given as goal

-- the literals of those walked so far fit
abbrev pub invariant-leaves : goal.invariant-leaves
invariant-leaves g l = Left g.Q.Exact.fits (flat_map (λ (l : Leaf). write_literals l.node) l.leaves) (flat_map (λ (l : Leaf). write_literals l.node) (drop l.leaf-index l.leaves))
