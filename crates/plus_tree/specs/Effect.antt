-- An effect, apart from where it lies in memory.
use Rattle.std.specs.Prelude.{◌≡◌, ℕ, List, [], ◌∷◌, refl, max, ◌+◌}
use Rattle.std.specs.Coded.{Coded, code_by}
use base.Stored.{Gv, gnil, gnum, gcons}
use Rattle.plus_tokens.specs.declared.span.Span.{Span}
use Rattle.plus_tree.specs.declared.terms.TypedName.{TypedName}
use Rattle.plus_tree.specs.declared.trees.Leaf.{Leaf}
use Rattle.plus_tree.specs.Stored.{coded_gv, choose, number_of, list_gv, list_back, list_kept, span_gv, span_back, typed_gv, typed_back, typed_kept}
use Rattle.plus_tree.specs.StoredLeaf.{leaf_gv, leaf_back, leaf_kept}
use Rattle.plus_tree.specs.Cond.{Cond, cond_gv, cond_back, cond_kept}

mutual
  pub data Effect : Type 0 where
    e_all : Effects → Span → Effect
    e_forall : List TypedName → Effect → Span → Effect
    e_when : Cond → List Leaf → Span → Effect
    e_leaf : Leaf → Span → Effect

  pub data Effects : Type 0 where
    no_effects : Effects
    more_effects : Effect → Effects → Effects

-- a tag, two parts and the place
abbrev mutual
  pub effect_gv : Effect → Gv
  effect_gv (e_all es s) = gcons (gnum 0) (gcons (effects_gv es) (gcons gnil (span_gv s)))
  effect_gv (e_forall vs e s) = gcons (gnum 1) (gcons (list_gv typed_gv vs) (gcons (effect_gv e) (span_gv s)))
  effect_gv (e_when c ls s) = gcons (gnum 2) (gcons (cond_gv c) (gcons (list_gv leaf_gv ls) (span_gv s)))
  effect_gv (e_leaf l s) = gcons (gnum 3) (gcons (leaf_gv l) (gcons gnil (span_gv s)))

  pub effects_gv : Effects → Gv
  effects_gv no_effects = gnil
  effects_gv (more_effects e es) = gcons (effect_gv e) (effects_gv es)

abbrev mutual
  pub effect_back : Gv → Effect
  effect_back (gcons tag (gcons a (gcons b s))) =
      choose (number_of tag) (e_all (effects_back a) (span_back s) ∷ e_forall (list_back typed_back a) (effect_back b) (span_back s)
      ∷ e_when (cond_back a) (list_back leaf_back b) (span_back s) ∷ []) (e_leaf (leaf_back a) (span_back s))
  effect_back _ = e_all no_effects (record { start = 0; «end» = 0 })

  pub effects_back : Gv → Effects
  effects_back gnil = no_effects
  effects_back (gnum n) = no_effects
  effects_back (gcons a b) = more_effects (effect_back a) (effects_back b)

mutual
  pub effect_kept : (e : Effect) → effect_back (effect_gv e) ≡ e
  effect_kept (e_all es s) = λ i. e_all (effects_kept es i) s
  effect_kept (e_forall vs e s) = λ i. e_forall (list_kept typed_gv typed_back typed_kept vs i) (effect_kept e i) s
  effect_kept (e_when c ls s) = λ i. e_when (cond_kept c i) (list_kept leaf_gv leaf_back leaf_kept ls i) s
  effect_kept (e_leaf l s) = λ i. e_leaf (leaf_kept l i) s

  pub effects_kept : (es : Effects) → effects_back (effects_gv es) ≡ es
  effects_kept no_effects = refl
  effects_kept (more_effects e es) = λ i. more_effects (effect_kept e i) (effects_kept es i)

abbrev pub effect_code : Coded Effect
effect_code = code_by Gv coded_gv effect_gv effect_back effect_kept

-- how deep effects stand in one another
abbrev mutual
  pub effect_size : Effect → ℕ
  effect_size (e_all es s) = effects_size es
  effect_size (e_forall vs e s) = effect_size e + 1
  effect_size (e_when c ls s) = 0
  effect_size (e_leaf l s) = 0

  pub effects_size : Effects → ℕ
  effects_size no_effects = 0
  effects_size (more_effects e es) = max (effect_size e + 1) (effects_size es)

abbrev pub effects_of : List Effect → Effects
effects_of [] = no_effects
effects_of (e ∷ es) = more_effects e (effects_of es)
