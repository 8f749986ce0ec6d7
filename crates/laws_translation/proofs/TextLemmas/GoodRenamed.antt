-- Renamed forms are as good as the old ones.
use Rattle.std.proofs.Common.{ℕ, suc, ◌+◌, ◌<◌, ◌≤◌, ◌^◌, Bool, true, false, List, [], ◌∷◌, map, length, arith}
use Rattle.std.specs.Prelude.{if◌then◌else◌}
use Rattle.std.specs.Str.{bytes_eq}
use Rattle.plus_tree.specs.declared.terms.Term.{Term}
use Rattle.plus_tree.specs.declared.terms.Term.TheVariants.{Object, Variable}
use Rattle.plus_tree.specs.declared.terms.TypedName.{TypedName}
use Rattle.plus_tree.specs.declared.terms.Use.{Use}
use Rattle.plus_tree.specs.declared.trees.Leaf.{Leaf}
use Rattle.plus_tree.specs.declared.trees.LeafNode.{LeafNode}
use Rattle.plus_tree.specs.declared.trees.LeafNode.TheVariants.{Add, Delete, Assign, Increase, Decrease, ScaleUp, ScaleDown}
use Rattle.plus_tree.specs.declared.trees.Schema.{Schema}
use Rattle.plus_tree.specs.Expr.{Expr, Exprs, x_number, x_clock, x_fluent, x_sum, x_product, x_minus, x_difference, x_quotient, no_exprs, more_exprs}
use Rattle.plus_tree.specs.Cond.{Cond, Conds, c_all, c_any, c_not, c_imply, c_forall, c_exists, c_atom, c_same, c_compare, no_conds, more_conds}
use Rattle.plus_tree.specs.Effect.{Effect, Effects, e_all, e_forall, e_when, e_leaf, no_effects, more_effects}
use Rattle.plus_parser.specs.declared.phrases.words.Allowed.{Allowed}
use Rattle.plus_parser.specs.declared.phrases.words.Allowed.TheVariants.{Terms}
use Rattle.plus_parser.specs.Phrases.Spells.{AreMany}
use Rattle.plus_canonical.proofs.Smalls.{IsSmall}
use Rattle.plus_canonical.proofs.Forms.{AllOf}
use Rattle.plus_canonical.proofs.Lists.{SmallTyped}
use Rattle.plus_translation.specs.Renamed.{Scope, fresh_name, new_name, scope_with, renamed_list, bindings_in, bindings_among, effect_bindings, effects_bindings, renamed_term, renamed_use, renamed_expr, renamed_exprs, renamed_cond, renamed_conds, renamed_node, renamed_leaf, renamed_effect, renamed_effects, renamed_event}
use Rattle.laws_translation.proofs.TextLemmas.Good.{GoodTerm, GoodUse, GoodExpr, GoodExprs, GoodCond, GoodConds, GoodNode, GoodLeaf, GoodEffect, GoodEffects}
use Rattle.laws_translation.proofs.TextLemmas.Rooms.{GoodRule}
use Rattle.laws_translation.proofs.TextLemmas.FreshWords.{fresh_small}

-- the new names are small
abbrev SmallScope : Scope → Type 0
SmallScope scope = AllOf (λ (b : List ℕ × List ℕ). IsSmall b.1) scope

new_small : (scope : Scope) (x : List ℕ) → SmallScope scope → IsSmall x → IsSmall (new_name scope x)
new_small [] x s g = g
new_small (b ∷ bs) x s g = by (bytes_eq x b.0) (new_small bs x s.1 g)
  where
    by : (t : Bool) → IsSmall (new_name bs x) → IsSmall (if t then b.1 else new_name bs x)
    by true h = s.0
    by false h = h

module _ (i : ℕ) (few : i < 2 ^ 64) where
  scope_small : (k : ℕ) (vs : List TypedName) (scope : Scope) → k + length vs ≤ 2 ^ 64 → SmallScope scope → SmallScope (scope_with i k vs scope)
  scope_small k [] scope l s = s
  scope_small k (v ∷ vs) scope l s = scope_small (suc k) vs ((v.name.name, fresh_name i k) ∷ scope) (omega arith) (fresh_small i k few (omega arith), s)

  list_renamed : (k : ℕ) (vs : List TypedName) → k + length vs ≤ 2 ^ 64 → AllOf SmallTyped vs → AllOf SmallTyped (renamed_list i k vs)
  list_renamed k [] l g = tt
  list_renamed k (v ∷ vs) l g = (record { name = fresh_small i k few (omega arith); kind = g.0.kind }, list_renamed (suc k) vs (omega arith) g.1)

  term_renamed : (scope : Scope) (allowed : Allowed) (t : Term) → SmallScope scope → GoodTerm allowed t → GoodTerm allowed (renamed_term scope t)
  term_renamed scope allowed (Object x) s g = g
  term_renamed scope allowed (Variable x) s g = (g.0, new_small scope x.name s g.1)

  terms_renamed : (scope : Scope) (allowed : Allowed) (ts : List Term) → SmallScope scope → AllOf (GoodTerm allowed) ts → AllOf (GoodTerm allowed) (map (renamed_term scope) ts)
  terms_renamed scope allowed [] s g = tt
  terms_renamed scope allowed (t ∷ ts) s g = (term_renamed scope allowed t s g.0, terms_renamed scope allowed ts s g.1)

  use_renamed : (scope : Scope) (allowed : Allowed) (u : Use) → SmallScope scope → GoodUse allowed u → GoodUse allowed (renamed_use scope u)
  use_renamed scope allowed u s g = record { head = g.head; args = terms_renamed scope allowed u.args s g.args }

  many_renamed : (scope : Scope) (es : Exprs) → AreMany es → AreMany (renamed_exprs scope es)
  many_renamed scope no_exprs m = m
  many_renamed scope (more_exprs e no_exprs) m = m
  many_renamed scope (more_exprs e (more_exprs f es)) m = m

  mutual
    expr_renamed : (scope : Scope) (e : Expr) → SmallScope scope → GoodExpr e → GoodExpr (renamed_expr scope e)
    expr_renamed scope (x_number n p) s g = g
    expr_renamed scope (x_clock p) s g = g
    expr_renamed scope (x_fluent u p) s g = use_renamed scope Terms u s g
    expr_renamed scope (x_sum es p) s g = (many_renamed scope es g.0, exprs_renamed scope es s g.1)
    expr_renamed scope (x_product es p) s g = (many_renamed scope es g.0, exprs_renamed scope es s g.1)
    expr_renamed scope (x_minus e p) s g = expr_renamed scope e s g
    expr_renamed scope (x_difference e f p) s g = (expr_renamed scope e s g.0, expr_renamed scope f s g.1)
    expr_renamed scope (x_quotient e f p) s g = (expr_renamed scope e s g.0, expr_renamed scope f s g.1)

    exprs_renamed : (scope : Scope) (es : Exprs) → SmallScope scope → GoodExprs es → GoodExprs (renamed_exprs scope es)
    exprs_renamed scope no_exprs s g = tt
    exprs_renamed scope (more_exprs e es) s g = (expr_renamed scope e s g.0, exprs_renamed scope es s g.1)

  mutual
    cond_renamed : (scope : Scope) (k : ℕ) (c : Cond) → k + bindings_in c ≤ 2 ^ 64 → SmallScope scope → GoodCond c → GoodCond (renamed_cond i scope k c)
    cond_renamed scope k (c_all cs p) l s g = conds_renamed scope k cs l s g
    cond_renamed scope k (c_any cs p) l s g = conds_renamed scope k cs l s g
    cond_renamed scope k (c_not c p) l s g = cond_renamed scope k c l s g
    cond_renamed scope k (c_imply c d p) l s g = (cond_renamed scope k c (omega arith) s g.0, cond_renamed scope (k + bindings_in c) d (omega arith) s g.1)
    cond_renamed scope k (c_forall vs c p) l s g =
        (list_renamed k vs (omega arith) g.0, cond_renamed (scope_with i k vs scope) (k + length vs) c (omega arith) (scope_small k vs scope (omega arith) s) g.1)
    cond_renamed scope k (c_exists vs c p) l s g =
        (list_renamed k vs (omega arith) g.0, cond_renamed (scope_with i k vs scope) (k + length vs) c (omega arith) (scope_small k vs scope (omega arith) s) g.1)
    cond_renamed scope k (c_atom u p) l s g = use_renamed scope Terms u s g
    cond_renamed scope k (c_same t u p) l s g = (term_renamed scope Terms t s g.0, term_renamed scope Terms u s g.1)
    cond_renamed scope k (c_compare op e f p) l s g = (expr_renamed scope e s g.0, expr_renamed scope f s g.1)

    conds_renamed : (scope : Scope) (k : ℕ) (cs : Conds) → k + bindings_among cs ≤ 2 ^ 64 → SmallScope scope → GoodConds cs → GoodConds (renamed_conds i scope k cs)
    conds_renamed scope k no_conds l s g = tt
    conds_renamed scope k (more_conds c cs) l s g = (cond_renamed scope k c (omega arith) s g.0, conds_renamed scope (k + bindings_in c) cs (omega arith) s g.1)

  node_renamed : (scope : Scope) (x : LeafNode) → SmallScope scope → GoodNode x → GoodNode (renamed_node scope x)
  node_renamed scope (Add u) s g = use_renamed scope Terms u s g
  node_renamed scope (Delete u) s g = use_renamed scope Terms u s g
  node_renamed scope (Assign u e) s g = (use_renamed scope Terms u s g.0, expr_renamed scope e s g.1)
  node_renamed scope (Increase u e) s g = (use_renamed scope Terms u s g.0, expr_renamed scope e s g.1)
  node_renamed scope (Decrease u e) s g = (use_renamed scope Terms u s g.0, expr_renamed scope e s g.1)
  node_renamed scope (ScaleUp u e) s g = (use_renamed scope Terms u s g.0, expr_renamed scope e s g.1)
  node_renamed scope (ScaleDown u e) s g = (use_renamed scope Terms u s g.0, expr_renamed scope e s g.1)

  leaves_renamed : (scope : Scope) (ls : List Leaf) → SmallScope scope → AllOf GoodLeaf ls → AllOf GoodLeaf (map (renamed_leaf scope) ls)
  leaves_renamed scope [] s g = tt
  leaves_renamed scope (x ∷ ls) s g = (node_renamed scope x.node s g.0, leaves_renamed scope ls s g.1)

  mutual
    effect_renamed : (scope : Scope) (k : ℕ) (e : Effect) → k + effect_bindings e ≤ 2 ^ 64 → SmallScope scope → GoodEffect e → GoodEffect (renamed_effect i scope k e)
    effect_renamed scope k (e_all es p) l s g = effects_renamed scope k es l s g
    effect_renamed scope k (e_forall vs e p) l s g =
        (list_renamed k vs (omega arith) g.0, effect_renamed (scope_with i k vs scope) (k + length vs) e (omega arith) (scope_small k vs scope (omega arith) s) g.1)
    effect_renamed scope k (e_when c ls p) l s g = (cond_renamed scope k c l s g.0, leaves_renamed scope ls s g.1)
    effect_renamed scope k (e_leaf x p) l s g = node_renamed scope x.node s g

    effects_renamed : (scope : Scope) (k : ℕ) (es : Effects) → k + effects_bindings es ≤ 2 ^ 64 → SmallScope scope → GoodEffects es → GoodEffects (renamed_effects i scope k es)
    effects_renamed scope k no_effects l s g = tt
    effects_renamed scope k (more_effects e es) l s g = (effect_renamed scope k e (omega arith) s g.0, effects_renamed scope (k + effect_bindings e) es (omega arith) s g.1)

  -- the event as a whole
  pub event_renamed : (a : Schema) → 1 + length a.params + bindings_in a.condition + effect_bindings a.effect ≤ 2 ^ 64 → GoodRule a → GoodRule (renamed_event i a)
  event_renamed a l g =
      let scope = scope_small 1 a.params [] (omega arith) tt in
      record {
        name = g.name;
        params = list_renamed 1 a.params (omega arith) g.params;
        condition = cond_renamed (scope_with i 1 a.params []) (1 + length a.params) a.condition (omega arith) scope g.condition;
        effect = effect_renamed (scope_with i 1 a.params []) (1 + length a.params + bindings_in a.condition) a.effect (omega arith) scope g.effect;
      }
