-- The tokens of a condition or a leaf close as many parentheses as they open.
use Rattle.std.proofs.Common.{ℕ, List, [], ◌∷◌, ◌++◌, refl, ap, inl, ⊎_elim}
use Rattle.std.specs.Prelude.{codes}
use Rattle.plus_tokens.specs.declared.span.Span.{Span}
use Rattle.plus_tree.specs.declared.terms.Term.{Term}
use Rattle.plus_tree.specs.declared.terms.Use.{Use}
use Rattle.plus_tree.specs.declared.trees.LeafNode.{LeafNode}
use Rattle.plus_tree.specs.declared.trees.LeafNode.TheVariants.{Add, Delete, Assign, Increase, Decrease, ScaleUp, ScaleDown}
use Rattle.plus_tree.specs.Expr.{Expr}
use Rattle.plus_tree.specs.Cond.{Cond, c_all, c_any, c_not, c_imply, c_forall, c_exists, c_atom, c_same, c_compare, Conds, no_conds, more_conds}
use Rattle.plus_parser.specs.declared.phrases.words.Allowed.TheVariants.{Terms}
use Rattle.plus_tokens.specs.Items.{Piece}
use Rattle.plus_parser.specs.Phrases.Spells.{SpellsArgument}
use Rattle.plus_parser.specs.Forms.SpellsForms.{SpellsChange, SpellsCond, SpellsConds, SpellsLeafNode}
use Rattle.plus_parser.proofs.PhraseLemmas.Level.{Level, is_flat, level_at, level_name, level_flat, level_append, level_wrapped, level_use, level_expr, level_none, allowed_flat}
use Rattle.plus_parser.proofs.PhraseLemmas.TypedLists.{level_variables}

pub level_term : (t : Term) (ts : List Piece) → SpellsArgument Terms t ts → Level ts
level_term t ts h = level_at ts (h.0 ∷ []) h.3 (level_flat h.0 [] (allowed_flat Terms h.0.kind h.1) level_none)

mutual
  pub level_cond : (c : Cond) (ts : List Piece) → SpellsCond c ts → Level ts
  level_cond (c_all cs s) ts h =
      level_wrapped s h.0 ts h.1 (⊎_elim (λ e. level_at h.0 [] e.1 (λ room. inl refl)) (λ e. level_at h.0 _ e.3 (level_name e.0 e.1 e.2.0 (level_conds cs e.1 e.4))) h.2)
  level_cond (c_any cs s) ts h = level_wrapped s (h.0 ∷ h.1) ts h.3 (level_name h.0 h.1 h.2.0 (level_conds cs h.1 h.4))
  level_cond (c_imply c d s) ts h =
      level_wrapped s (h.0 ∷ (h.1 ++ h.2)) ts h.4 (level_name h.0 (h.1 ++ h.2) h.3.0 (level_append h.1 h.2 (level_cond c h.1 h.5) (level_cond d h.2 h.6)))
  level_cond (c_forall vs c s) ts h =
      level_wrapped s (h.0 ∷ (h.1 ++ h.2)) ts h.4 (level_name h.0 (h.1 ++ h.2) h.3.0 (level_append h.1 h.2 (level_variables vs h.1 h.5) (level_cond c h.2 h.6)))
  level_cond (c_exists vs c s) ts h =
      level_wrapped s (h.0 ∷ (h.1 ++ h.2)) ts h.4 (level_name h.0 (h.1 ++ h.2) h.3.0 (level_append h.1 h.2 (level_variables vs h.1 h.5) (level_cond c h.2 h.6)))
  level_cond (c_same t u s) ts h =
      level_wrapped s (h.0 ∷ (h.1 ++ h.2)) ts h.4 (level_flat h.0 (h.1 ++ h.2) (ap is_flat h.3) (level_append h.1 h.2 (level_term t h.1 h.5) (level_term u h.2 h.6)))
  level_cond (c_compare sign x y s) ts h =
      level_wrapped s (h.0 ∷ (h.1 ++ h.2)) ts h.4 (level_flat h.0 (h.1 ++ h.2) (ap is_flat h.3) (level_append h.1 h.2 (level_expr x h.1 h.5) (level_expr y h.2 h.6)))
  level_cond (c_not c s) ts h = level_wrapped s (h.0 ∷ h.1) ts h.3 (level_name h.0 h.1 h.2.0 (level_cond c h.1 h.4))
  level_cond (c_atom u s) ts h = level_use Terms u ts h.1

  pub level_conds : (cs : Conds) (ts : List Piece) → SpellsConds cs ts → Level ts
  level_conds no_conds ts h = level_at ts [] h (λ room. inl refl)
  level_conds (more_conds c cs) ts h = level_at ts (h.0 ++ h.1) h.4 (level_append h.0 h.1 (level_cond c h.0 h.2) (level_conds cs h.1 h.3))

pub level_change : (w : List ℕ) (u : Use) (x : Expr) (s : Span) (ts : List Piece) → SpellsChange w u x s ts → Level ts
level_change w u x s ts h =
    level_wrapped s (h.0 ∷ (h.1 ++ h.2)) ts h.4 (level_name h.0 (h.1 ++ h.2) h.3.0 (level_append h.1 h.2 (level_use Terms u h.1 h.5) (level_expr x h.2 h.6)))

pub level_leaf : (n : LeafNode) (s : Span) (ts : List Piece) → SpellsLeafNode n s ts → Level ts
level_leaf (Add u) s ts h = level_use Terms u ts h.1
level_leaf (Delete u) s ts h = level_wrapped s (h.0 ∷ h.1) ts h.3 (level_name h.0 h.1 h.2.0 (level_use Terms u h.1 h.4))
level_leaf (Assign u x) s ts h = level_change (codes "assign") u x s ts h
level_leaf (Increase u x) s ts h = level_change (codes "increase") u x s ts h
level_leaf (Decrease u x) s ts h = level_change (codes "decrease") u x s ts h
level_leaf (ScaleUp u x) s ts h = level_change (codes "scale-up") u x s ts h
level_leaf (ScaleDown u x) s ts h = level_change (codes "scale-down") u x s ts h
