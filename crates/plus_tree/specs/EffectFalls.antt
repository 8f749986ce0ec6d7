-- Each effect inside an effect is smaller.
use Rattle.std.specs.Prelude.{◌≤◌, max}
use Rattle.std.proofs.Common.{arith}
use Rattle.plus_tokens.specs.declared.span.Span.{Span}
use Rattle.plus_tree.specs.declared.trees.EffectNode.{EffectNode}
use Rattle.plus_tree.specs.declared.trees.EffectNode.TheVariants.{All, ForAll, When, Leaf}
use Rattle.plus_tree.specs.declared.trees.EffectTree.TheDeep.{deep-EffectNode}
use Rattle.plus_tree.specs.Effect.{effect_size}
use Rattle.plus_tree.specs.EffectView.{effect_view, most_le}

pub effect_falls : (n : EffectNode) (s : Span) → max (deep-EffectNode n) 0 ≤ effect_size (effect_view n s)
effect_falls (All v) s = omega (arith, most_le v.items)
effect_falls (ForAll vs e) s = omega arith
effect_falls (When c ls) s = omega arith
effect_falls (Leaf l) s = omega arith
