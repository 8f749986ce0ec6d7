-- What a round of events does, write by write.
use Rattle.std.specs.Prelude.{ℕ, [], ◌∷◌}
use Rattle.plus_tree.specs.declared.trees.LeafNode.TheVariants.{Add}
use Rattle.plus_tree.specs.declared.trees.Schema.{Schema}
use Rattle.plus_tree.specs.Cond.{Cond}
use Rattle.plus_tree.specs.Expr.{Expr}
use Rattle.plus_tree.specs.Effect.{Effect, e_when}
use Rattle.plus_translation.specs.Renamed.{nowhere}
use Rattle.plus_translation.specs.Leaves.{over_effect, nested, Placed}
use Rattle.plus_translation.specs.Translated.{leaf, mark_of, event_guard, flow_node}

-- one write of an event with this condition, where it holds
abbrev pub fires_of : Cond → Placed → Effect
fires_of c p = nested p.lists (e_when (event_guard c p.guards) (p.leaf ∷ []) nowhere)

-- the mark of an event, where it holds
abbrev pub marks_of : ℕ → Schema → Effect
marks_of i a = over_effect a.params (e_when a.condition (leaf (Add (mark_of i a)) ∷ []) nowhere)

-- one rate of a process with this condition, for a whole step
abbrev pub flow_of : Expr → Cond → Placed → Effect
flow_of q c p = nested p.lists (e_when c (leaf (flow_node q p.leaf.node) ∷ []) nowhere)
