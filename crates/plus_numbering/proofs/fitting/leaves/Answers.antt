use Rattle.std.proofs.Common.{refl}
use Rattle.std.specs.List.{flat_map}
use Rattle.std.proofs.lemmas.Result.{err_from_is_err_and}
use Rattle.plus_tree.specs.declared.trees.Leaf.{Leaf}
use Rattle.plus_expansion.specs.Literals.{write_literals}
use Rattle.plus_numbering.proofs.Unfits.{member_fits, member_unfit}
use Rattle.plus_numbering.proofs.fitting.leaves.Goals as goal

pub leaves-preserved : goal.leaves-preserved
leaves-preserved g c =
    member_fits g.Q.Exact.fits (flat_map (λ (l : Leaf). write_literals l.node)) (λ (l : Leaf). write_literals l.node) (λ x xs. refl) c.args.leaves.now c.leaves.leaf-index c.leaf-item.result _
    c.leaves-test.true c.leaf-item.is c.leaves.invariant c.in_ok-write.ensures

pub returns-in_err-write : goal.returns-in_err-write
returns-in_err-write g c =
    let p = err_from_is_err_and c.from_residual.result c.from_residual.ensures.1 in
    rw (p.1, p.2) (member_unfit g.Q.Exact.fits (flat_map (λ (l : Leaf). write_literals l.node)) (λ (l : Leaf). write_literals l.node) (λ x xs. refl) c.args.leaves.now c.leaves.leaf-index c.leaf-item.result _ _
    c.leaves-test.true c.leaf-item.is c.leaves.invariant c.in_err-write.ensures)
