-- What a contract sees of an `EffectTree`.
use Rattle.std.specs.Prelude.{◌+◌, ◌≤◌, List, [], ◌∷◌}
use Rattle.std.proofs.Common.{arith}
use denote.Param.Weighed.{most}
use Rattle.plus_tokens.specs.declared.span.Span.{Span}
use Rattle.plus_tree.specs.declared.trees.EffectNode.{EffectNode}
use Rattle.plus_tree.specs.declared.trees.EffectNode.TheVariants.{All, ForAll, When, Leaf}
use Rattle.plus_tree.specs.Effect.{Effect, e_all, e_forall, e_when, e_leaf, effects_of, effect_size, effects_size}

abbrev pub effect_view : EffectNode → Span → Effect
effect_view (All es) s = e_all (effects_of es.items) s
effect_view (ForAll vs e) s = e_forall vs e.value s
effect_view (When c ls) s = e_when c.value ls s
effect_view (Leaf l) s = e_leaf l.value s

pub most_le : (es : List Effect) → most (λ e. effect_size e + 1) es ≤ effects_size (effects_of es)
most_le [] = omega arith
most_le (e ∷ es) = omega (arith, most_le es)
