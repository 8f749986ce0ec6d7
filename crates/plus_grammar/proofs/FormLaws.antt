-- Conditions and effects whose variables stand by groups are those that a reader is held to.
use Rattle.std.proofs.Common.{List, [], ◌∷◌, refl, subst, inl, inr}
use Rattle.std.specs.Prelude.{◌↔◌}
use Rattle.plus_tree.specs.declared.terms.TypedName.{TypedName}
use Rattle.plus_tree.specs.Cond.{Cond, c_all, c_any, c_not, c_imply, c_forall, c_exists, c_atom, c_same, c_compare, Conds, no_conds, more_conds}
use Rattle.plus_tree.specs.Effect.{Effect, e_all, e_forall, e_when, e_leaf, Effects, no_effects, more_effects}
use Rattle.plus_parser.specs.declared.phrases.words.Allowed.TheVariants.{Variables}
use Rattle.plus_tokens.specs.Items.{Piece}
use Rattle.plus_parser.specs.Phrases.Spells.{Wrapped, SpellsVariables}
use Rattle.plus_parser.specs.Forms.SpellsForms.{SpellsCond, SpellsConds, SpellsEffect, SpellsEffects}
use Rattle.plus_grammar.specs.Groups.{AreVariables}
use Rattle.plus_grammar.specs.Forms.{IsCond, AreConds, IsEffect, AreEffects}
use Rattle.plus_grammar.proofs.Lists.{lists_by_groups}

pub variables_to : (vs : List TypedName) (ts : List Piece) → SpellsVariables vs ts → AreVariables vs ts
variables_to vs ts h = (h.0, h.1, h.2, (lists_by_groups Variables vs h.1).0 h.3)

pub variables_from : (vs : List TypedName) (ts : List Piece) → AreVariables vs ts → SpellsVariables vs ts
variables_from vs ts h = (h.0, h.1, h.2, (lists_by_groups Variables vs h.1).1 h.3)

mutual
  pub cond_to : (c : Cond) (ts : List Piece) → SpellsCond c ts → IsCond c ts
  cond_to (c_all cs s) ts (body, w, inl e) = inl (e.0, subst (λ b. Wrapped s b ts) e.1 w)
  cond_to (c_all cs s) ts (body, w, inr r) = inr (r.0, r.1, r.2, subst (λ b. Wrapped s b ts) r.3 w, conds_to cs r.1 r.4)
  cond_to (c_any cs s) ts h = (h.0, h.1, h.2, h.3, conds_to cs h.1 h.4)
  cond_to (c_not c s) ts h = (h.0, h.1, h.2, h.3, cond_to c h.1 h.4)
  cond_to (c_imply c d s) ts h = (h.0, h.1, h.2, h.3, h.4, cond_to c h.1 h.5, cond_to d h.2 h.6)
  cond_to (c_forall vs c s) ts h = (h.0, h.1, h.2, h.3, h.4, variables_to vs h.1 h.5, cond_to c h.2 h.6)
  cond_to (c_exists vs c s) ts h = (h.0, h.1, h.2, h.3, h.4, variables_to vs h.1 h.5, cond_to c h.2 h.6)
  cond_to (c_same t u s) ts h = h
  cond_to (c_compare sign e f s) ts h = h
  cond_to (c_atom u s) ts h = h

  pub conds_to : (cs : Conds) (ts : List Piece) → SpellsConds cs ts → AreConds cs ts
  conds_to no_conds ts h = h
  conds_to (more_conds c cs) ts h = (h.0, h.1, cond_to c h.0 h.2, conds_to cs h.1 h.3, h.4)

mutual
  pub cond_from : (c : Cond) (ts : List Piece) → IsCond c ts → SpellsCond c ts
  cond_from (c_all cs s) ts (inl e) = ([], e.1, inl (e.0, refl))
  cond_from (c_all cs s) ts (inr r) = (r.0 ∷ r.1, r.3, inr (r.0, r.1, r.2, refl, conds_from cs r.1 r.4))
  cond_from (c_any cs s) ts h = (h.0, h.1, h.2, h.3, conds_from cs h.1 h.4)
  cond_from (c_not c s) ts h = (h.0, h.1, h.2, h.3, cond_from c h.1 h.4)
  cond_from (c_imply c d s) ts h = (h.0, h.1, h.2, h.3, h.4, cond_from c h.1 h.5, cond_from d h.2 h.6)
  cond_from (c_forall vs c s) ts h = (h.0, h.1, h.2, h.3, h.4, variables_from vs h.1 h.5, cond_from c h.2 h.6)
  cond_from (c_exists vs c s) ts h = (h.0, h.1, h.2, h.3, h.4, variables_from vs h.1 h.5, cond_from c h.2 h.6)
  cond_from (c_same t u s) ts h = h
  cond_from (c_compare sign e f s) ts h = h
  cond_from (c_atom u s) ts h = h

  pub conds_from : (cs : Conds) (ts : List Piece) → AreConds cs ts → SpellsConds cs ts
  conds_from no_conds ts h = h
  conds_from (more_conds c cs) ts h = (h.0, h.1, cond_from c h.0 h.2, conds_from cs h.1 h.3, h.4)

mutual
  pub effect_to : (e : Effect) (ts : List Piece) → SpellsEffect e ts → IsEffect e ts
  effect_to (e_all es s) ts (body, w, inl e) = inl (e.0, subst (λ b. Wrapped s b ts) e.1 w)
  effect_to (e_all es s) ts (body, w, inr r) = inr (r.0, r.1, r.2, subst (λ b. Wrapped s b ts) r.3 w, effects_to es r.1 r.4)
  effect_to (e_forall vs e s) ts h = (h.0, h.1, h.2, h.3, h.4, variables_to vs h.1 h.5, effect_to e h.2 h.6)
  effect_to (e_when c ls s) ts h = (h.0, h.1, h.2, h.3, h.4, cond_to c h.1 h.5, h.6)
  effect_to (e_leaf l s) ts h = h

  pub effects_to : (es : Effects) (ts : List Piece) → SpellsEffects es ts → AreEffects es ts
  effects_to no_effects ts h = h
  effects_to (more_effects e es) ts h = (h.0, h.1, effect_to e h.0 h.2, effects_to es h.1 h.3, h.4)

mutual
  pub effect_from : (e : Effect) (ts : List Piece) → IsEffect e ts → SpellsEffect e ts
  effect_from (e_all es s) ts (inl e) = ([], e.1, inl (e.0, refl))
  effect_from (e_all es s) ts (inr r) = (r.0 ∷ r.1, r.3, inr (r.0, r.1, r.2, refl, effects_from es r.1 r.4))
  effect_from (e_forall vs e s) ts h = (h.0, h.1, h.2, h.3, h.4, variables_from vs h.1 h.5, effect_from e h.2 h.6)
  effect_from (e_when c ls s) ts h = (h.0, h.1, h.2, h.3, h.4, cond_from c h.1 h.5, h.6)
  effect_from (e_leaf l s) ts h = h

  pub effects_from : (es : Effects) (ts : List Piece) → AreEffects es ts → SpellsEffects es ts
  effects_from no_effects ts h = h
  effects_from (more_effects e es) ts h = (h.0, h.1, effect_from e h.0 h.2, effects_from es h.1 h.3, h.4)

pub conditions_by_groups : (c : Cond) (ts : List Piece) → SpellsCond c ts ↔ IsCond c ts
conditions_by_groups c ts = (cond_to c ts, cond_from c ts)

pub effects_by_groups : (e : Effect) (ts : List Piece) → SpellsEffect e ts ↔ IsEffect e ts
effects_by_groups e ts = (effect_to e ts, effect_from e ts)
