-- Writes as trees of numbers, which a proof can tell apart.
use Rattle.std.specs.Prelude.{◌≡◌, [], ◌∷◌}
use base.Stored.{Gv, gnil, gnum, gcons}
use Rattle.plus_tree.specs.declared.trees.Leaf.{Leaf}
use Rattle.plus_tree.specs.declared.trees.LeafNode.{LeafNode}
use Rattle.plus_tree.specs.declared.trees.LeafNode.TheVariants.{Add, Delete, Assign, Increase, Decrease, ScaleUp, ScaleDown}
use Rattle.plus_tree.specs.Stored.{choose, number_of, first_of, second_of, span_gv, span_back, use_gv, use_back, use_kept}
use Rattle.plus_tree.specs.Expr.{expr_gv, expr_back, expr_kept}

abbrev pub leaf_node_gv : LeafNode → Gv
leaf_node_gv (Add u) = gcons (gnum 0) (gcons (use_gv u) gnil)
leaf_node_gv (Delete u) = gcons (gnum 1) (gcons (use_gv u) gnil)
leaf_node_gv (Assign u e) = gcons (gnum 2) (gcons (use_gv u) (expr_gv e))
leaf_node_gv (Increase u e) = gcons (gnum 3) (gcons (use_gv u) (expr_gv e))
leaf_node_gv (Decrease u e) = gcons (gnum 4) (gcons (use_gv u) (expr_gv e))
leaf_node_gv (ScaleUp u e) = gcons (gnum 5) (gcons (use_gv u) (expr_gv e))
leaf_node_gv (ScaleDown u e) = gcons (gnum 6) (gcons (use_gv u) (expr_gv e))

abbrev pub leaf_node_back : Gv → LeafNode
leaf_node_back g =
    let u = use_back (first_of (second_of g)) in
    let e = expr_back (second_of (second_of g)) in
    choose (number_of (first_of g)) (Add u ∷ Delete u ∷ Assign u e ∷ Increase u e ∷ Decrease u e ∷ ScaleUp u e ∷ []) (ScaleDown u e)

pub leaf_node_kept : (n : LeafNode) → leaf_node_back (leaf_node_gv n) ≡ n
leaf_node_kept (Add u) = λ i. Add (use_kept u i)
leaf_node_kept (Delete u) = λ i. Delete (use_kept u i)
leaf_node_kept (Assign u e) = λ i. Assign (use_kept u i) (expr_kept e i)
leaf_node_kept (Increase u e) = λ i. Increase (use_kept u i) (expr_kept e i)
leaf_node_kept (Decrease u e) = λ i. Decrease (use_kept u i) (expr_kept e i)
leaf_node_kept (ScaleUp u e) = λ i. ScaleUp (use_kept u i) (expr_kept e i)
leaf_node_kept (ScaleDown u e) = λ i. ScaleDown (use_kept u i) (expr_kept e i)

abbrev pub leaf_gv : Leaf → Gv
leaf_gv l = gcons (leaf_node_gv l.node) (span_gv l.span)

abbrev pub leaf_back : Gv → Leaf
leaf_back g = record { node = leaf_node_back (first_of g); span = span_back (second_of g) }

pub leaf_kept : (l : Leaf) → leaf_back (leaf_gv l) ≡ l
leaf_kept l = λ i. record { node = leaf_node_kept l.node i; span = l.span }
