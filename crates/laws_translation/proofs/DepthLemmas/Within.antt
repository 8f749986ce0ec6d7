-- The canonical text of a good tree reads again where its shape says that it has room.
use Rattle.std.proofs.Common.{◌≡◌, ℕ, zero, suc, ◌-◌, Bool, true, false, ◌&&◌, List, [], ◌∷◌, refl, sym, subst, arith}
use Rattle.std.specs.Prelude.{nat_lt}
use Rattle.std.specs.List.{list_all}
use Rattle.std.proofs.lemmas.Bool.{lt-ltb}
use Rattle.plus_tokens.specs.declared.span.Span.{Span}
use Rattle.plus_tree.specs.declared.terms.Use.{Use}
use Rattle.plus_tree.specs.declared.trees.Leaf.{Leaf}
use Rattle.plus_tree.specs.declared.trees.LeafNode.{LeafNode}
use Rattle.plus_tree.specs.declared.trees.LeafNode.TheVariants.{Add, Delete, Assign, Increase, Decrease, ScaleUp, ScaleDown}
use Rattle.plus_tree.specs.declared.trees.Schema.{Schema}
use Rattle.plus_tree.specs.declared.trees.Init.{Init}
use Rattle.plus_tree.specs.declared.trees.Init.TheVariants.{Holds, Absent, Value, At, AtNot}
use Rattle.plus_tree.specs.Expr.{Expr, Exprs, x_number, x_clock, x_fluent, x_sum, x_product, x_minus, x_difference, x_quotient, no_exprs, more_exprs}
use Rattle.plus_tree.specs.Cond.{Cond, Conds, c_all, c_any, c_not, c_imply, c_forall, c_exists, c_atom, c_same, c_compare, no_conds, more_conds}
use Rattle.plus_tree.specs.Effect.{Effect, Effects, e_all, e_forall, e_when, e_leaf, no_effects, more_effects}
use Rattle.plus_parser.specs.declared.phrases.words.Allowed.{Allowed}
use Rattle.plus_parser.specs.declared.phrases.words.Allowed.TheVariants.{Terms, Names}
use Rattle.plus_printer.specs.Canon.{leaf_text}
use Rattle.plus_canonical.proofs.Forms.{AllOf}
use Rattle.plus_canonical.proofs.Terms.{UseAgain, use_reads}
use Rattle.plus_canonical.proofs.Lists.{variables_reads}
use Rattle.plus_canonical.proofs.Literals.{literal_again}
use Rattle.plus_canonical.proofs.Exprs as exprs
use Rattle.plus_canonical.proofs.Exprs.{ExprAgain, ExprsAgain}
use Rattle.plus_canonical.proofs.Conds as conds
use Rattle.plus_canonical.proofs.Conds.{CondAgain, CondsAgain}
use Rattle.plus_canonical.proofs.Effects as effects
use Rattle.plus_canonical.proofs.Effects.{LeafAgain, NodeAgain, LeavesAgain, EffectAgain, EffectsAgain}
use Rattle.plus_canonical.proofs.Schemas.{GoodSchema}
use Rattle.plus_canonical.proofs.Inits as inits
use Rattle.plus_canonical.proofs.Inits.{InitAgain, AbsentAgain}
use Rattle.laws_translation.proofs.TextLemmas.Good.{GoodUse, GoodExpr, GoodExprs, GoodCond, GoodConds, GoodNode, GoodLeaf, GoodEffect, GoodEffects, GoodInit}
use Rattle.laws_translation.proofs.TextLemmas.Rooms.{term_reads, args_read, GoodRule}
use Rattle.plus_translation.specs.Depth.{form, form_in_form, expr_within, exprs_within, cond_within, conds_within, node_within, leaves_within, effect_within, effects_within, init_within}

pub and_left : (a b : Bool) → (a && b) ≡ true → a ≡ true
and_left true b e = refl
and_left false b e = cc

pub and_right : (a b : Bool) → (a && b) ≡ true → b ≡ true
and_right true b e = e
and_right false b e = cc

-- a form leaves room for one parenthesis less
pub record Room (n : ℕ) : Type 0 where
  pub inner : ℕ
  pub is : n ≡ suc inner

pub room : (n : ℕ) → form n ≡ true → Room n
room zero e = absurd cc
room (suc m) e = record { inner = m; is = refl }

pub two_rooms : (n : ℕ) → form_in_form n ≡ true → (m : ℕ) × (n ≡ suc (suc m))
two_rooms zero e = absurd cc
two_rooms (suc zero) e = absurd cc
two_rooms (suc (suc m)) e = (m, refl)

pub three_rooms : (n : ℕ) → nat_lt 2 n ≡ true → (m : ℕ) × (n ≡ suc (suc (suc m)))
three_rooms zero e = absurd cc
three_rooms (suc zero) e = absurd cc
three_rooms (suc (suc zero)) e = absurd cc
three_rooms (suc (suc (suc m))) e = (m, refl)

one_less : (n m : ℕ) → n ≡ suc m → n - 1 ≡ m
one_less n m e = omega (arith, e)

-- what holds at the room inside
pub at_room : (P : ℕ → Type 0) (n m : ℕ) → n ≡ suc m → P (suc m) → P n
at_room P n m e p = subst P (sym e) p

pub down : (f : ℕ → Bool) (n m : ℕ) → n ≡ suc m → f (n - 1) ≡ true → f m ≡ true
down f n m e h = subst (λ k. f k ≡ true) (one_less n m e) h

pub form_suc : (m : ℕ) → form (suc m) ≡ true
form_suc m = lt-ltb 0 (suc m) (omega arith)

pub use_within : (n : ℕ) (allowed : Allowed) (u : Use) → form n ≡ true → GoodUse allowed u → UseAgain n allowed u
use_within n allowed u h g = let r = room n h in at_room (λ k. UseAgain k allowed u) n r.inner r.is (use_reads r.inner allowed u g.head (args_read r.inner allowed u.args g.args))

mutual
  pub expr_reads : (n : ℕ) (e : Expr) → GoodExpr e → expr_within n e ≡ true → ExprAgain n e
  expr_reads n (x_number l s) g h = exprs.number_reads n l s (literal_again n l g)
  expr_reads n (x_clock s) g h = exprs.clock_again n s
  expr_reads n (x_fluent u s) g h = exprs.fluent_again n u s (use_within n Terms u h g)
  expr_reads n (x_sum es s) g h =
      let r = room n (and_left (form n) _ h) in
      at_room (λ k. ExprAgain k (x_sum es s)) n r.inner r.is (exprs.sum_again r.inner es s g.0 (exprs_read r.inner es g.1 (down (λ k. exprs_within k es) n r.inner r.is (and_right (form n) _ h))))
  expr_reads n (x_product es s) g h =
      let r = room n (and_left (form n) _ h) in
      at_room (λ k. ExprAgain k (x_product es s)) n r.inner r.is (exprs.product_again r.inner es s g.0 (exprs_read r.inner es g.1 (down (λ k. exprs_within k es) n r.inner r.is (and_right (form n) _ h))))
  expr_reads n (x_minus e s) g h =
      let r = room n (and_left (form n) _ h) in
      at_room (λ k. ExprAgain k (x_minus e s)) n r.inner r.is (exprs.minus_again r.inner e s (expr_reads r.inner e g (down (λ k. expr_within k e) n r.inner r.is (and_right (form n) _ h))))
  expr_reads n (x_difference e f s) g h =
      let r = room n (and_left (form n) _ h) in
      let rest = and_right (form n) _ h in
      at_room (λ k. ExprAgain k (x_difference e f s)) n r.inner r.is
      (exprs.difference_again r.inner e f s (expr_reads r.inner e g.0 (down (λ k. expr_within k e) n r.inner r.is (and_left (expr_within (n - 1) e) _ rest))) (expr_reads r.inner f g.1 (down (λ k. expr_within k f) n r.inner r.is (and_right (expr_within (n - 1) e) _ rest))))
  expr_reads n (x_quotient e f s) g h =
      let r = room n (and_left (form n) _ h) in
      let rest = and_right (form n) _ h in
      at_room (λ k. ExprAgain k (x_quotient e f s)) n r.inner r.is
      (exprs.quotient_again r.inner e f s (expr_reads r.inner e g.0 (down (λ k. expr_within k e) n r.inner r.is (and_left (expr_within (n - 1) e) _ rest))) (expr_reads r.inner f g.1 (down (λ k. expr_within k f) n r.inner r.is (and_right (expr_within (n - 1) e) _ rest))))

  pub exprs_read : (n : ℕ) (es : Exprs) → GoodExprs es → exprs_within n es ≡ true → ExprsAgain n es
  exprs_read n no_exprs g h = exprs.none_again n
  exprs_read n (more_exprs e es) g h = exprs.more_again n e es (expr_reads n e g.0 (and_left (expr_within n e) _ h)) (exprs_read n es g.1 (and_right (expr_within n e) _ h))

mutual
  pub cond_reads : (n : ℕ) (c : Cond) → GoodCond c → cond_within n c ≡ true → CondAgain n c
  cond_reads n (c_all cs s) g h =
      let r = room n (and_left (form n) _ h) in
      at_room (λ k. CondAgain k (c_all cs s)) n r.inner r.is (conds.all_again r.inner cs s (conds_read r.inner cs g (down (λ k. conds_within k cs) n r.inner r.is (and_right (form n) _ h))))
  cond_reads n (c_any cs s) g h =
      let r = room n (and_left (form n) _ h) in
      at_room (λ k. CondAgain k (c_any cs s)) n r.inner r.is (conds.any_again r.inner cs s (conds_read r.inner cs g (down (λ k. conds_within k cs) n r.inner r.is (and_right (form n) _ h))))
  cond_reads n (c_not c s) g h =
      let r = room n (and_left (form n) _ h) in
      at_room (λ k. CondAgain k (c_not c s)) n r.inner r.is (conds.not_again r.inner c s (cond_reads r.inner c g (down (λ k. cond_within k c) n r.inner r.is (and_right (form n) _ h))))
  cond_reads n (c_imply c d s) g h =
      let r = room n (and_left (form n) _ h) in
      let rest = and_right (form n) _ h in
      at_room (λ k. CondAgain k (c_imply c d s)) n r.inner r.is
      (conds.imply_again r.inner c d s (cond_reads r.inner c g.0 (down (λ k. cond_within k c) n r.inner r.is (and_left (cond_within (n - 1) c) _ rest))) (cond_reads r.inner d g.1 (down (λ k. cond_within k d) n r.inner r.is (and_right (cond_within (n - 1) c) _ rest))))
  cond_reads n (c_forall vs c s) g h =
      let r = two_rooms n (and_left (form_in_form n) _ h) in
      at_room (λ k. CondAgain k (c_forall vs c s)) n (suc r.0) r.1
      (conds.forall_again (suc r.0) vs c s (variables_reads r.0 vs g.0) (cond_reads (suc r.0) c g.1 (down (λ k. cond_within k c) n (suc r.0) r.1 (and_right (form_in_form n) _ h))))
  cond_reads n (c_exists vs c s) g h =
      let r = two_rooms n (and_left (form_in_form n) _ h) in
      at_room (λ k. CondAgain k (c_exists vs c s)) n (suc r.0) r.1
      (conds.exists_again (suc r.0) vs c s (variables_reads r.0 vs g.0) (cond_reads (suc r.0) c g.1 (down (λ k. cond_within k c) n (suc r.0) r.1 (and_right (form_in_form n) _ h))))
  cond_reads n (c_atom u s) g h = conds.atom_again n u s (use_within n Terms u h g)
  cond_reads n (c_same t u s) g h =
      let r = room n h in at_room (λ k. CondAgain k (c_same t u s)) n r.inner r.is (conds.same_again r.inner t u s (term_reads r.inner Terms t g.0) (term_reads r.inner Terms u g.1))
  cond_reads n (c_compare op e f s) g h =
      let r = room n (and_left (form n) _ h) in
      let rest = and_right (form n) _ h in
      at_room (λ k. CondAgain k (c_compare op e f s)) n r.inner r.is
      (conds.compare_again r.inner op e f s (expr_reads r.inner e g.0 (down (λ k. expr_within k e) n r.inner r.is (and_left (expr_within (n - 1) e) _ rest))) (expr_reads r.inner f g.1 (down (λ k. expr_within k f) n r.inner r.is (and_right (expr_within (n - 1) e) _ rest))))

  pub conds_read : (n : ℕ) (cs : Conds) → GoodConds cs → conds_within n cs ≡ true → CondsAgain n cs
  conds_read n no_conds g h = conds.none_again n
  conds_read n (more_conds c cs) g h = conds.more_again n c cs (cond_reads n c g.0 (and_left (cond_within n c) _ h)) (conds_read n cs g.1 (and_right (cond_within n c) _ h))

-- a change of a number, of one of five kinds
change_reads : (n : ℕ) (x : LeafNode) (s : Span) (u : Use) (e : Expr) → ((m : ℕ) → UseAgain m Terms u → ExprAgain m e → NodeAgain (suc m) x s) → GoodUse Terms u → GoodExpr e
    → (form_in_form n && expr_within (n - 1) e) ≡ true → NodeAgain n x s
change_reads n x s u e made g k h =
    let r = two_rooms n (and_left (form_in_form n) _ h) in
    at_room (λ k. NodeAgain k x s) n (suc r.0) r.1 (made (suc r.0) (use_within (suc r.0) Terms u (form_suc r.0) g) (expr_reads (suc r.0) e k (down (λ k. expr_within k e) n (suc r.0) r.1 (and_right (form_in_form n) _ h))))

node_reads : (n : ℕ) (x : LeafNode) (s : Span) → GoodNode x → node_within n x ≡ true → NodeAgain n x s
node_reads n (Add u) s g h = effects.add_again n u s (use_within n Terms u h g)
node_reads n (Delete u) s g h =
    let r = two_rooms n h in at_room (λ k. NodeAgain k (Delete u) s) n (suc r.0) r.1 (effects.delete_again (suc r.0) u s (use_within (suc r.0) Terms u (form_suc r.0) g))
node_reads n (Assign u e) s g h = change_reads n (Assign u e) s u e (λ m a b. effects.assign_again m u e s a b) g.0 g.1 h
node_reads n (Increase u e) s g h = change_reads n (Increase u e) s u e (λ m a b. effects.increase_again m u e s a b) g.0 g.1 h
node_reads n (Decrease u e) s g h = change_reads n (Decrease u e) s u e (λ m a b. effects.decrease_again m u e s a b) g.0 g.1 h
node_reads n (ScaleUp u e) s g h = change_reads n (ScaleUp u e) s u e (λ m a b. effects.scale_up_again m u e s a b) g.0 g.1 h
node_reads n (ScaleDown u e) s g h = change_reads n (ScaleDown u e) s u e (λ m a b. effects.scale_down_again m u e s a b) g.0 g.1 h

leaf_reads : (n : ℕ) (x : Leaf) → GoodLeaf x → node_within n x.node ≡ true → LeafAgain n x
unfolding leaf_text
leaf_reads n x g h = node_reads n x.node x.span g h

all_leaves : (n : ℕ) (ls : List Leaf) → AllOf GoodLeaf ls → list_all (λ (l : Leaf). node_within n l.node) ls ≡ true → AllOf (LeafAgain n) ls
all_leaves n [] g h = tt
all_leaves n (x ∷ ls) g h = (leaf_reads n x g.0 (and_left (node_within n x.node) _ h), all_leaves n ls g.1 (and_right (node_within n x.node) _ h))

leaves_read : (n : ℕ) (ls : List Leaf) → AllOf GoodLeaf ls → leaves_within n ls ≡ true → LeavesAgain n ls
leaves_read n [] g h =
    let r = room n (and_left (form n) _ h) in at_room (λ k. LeavesAgain k []) n r.inner r.is (effects.leaves_reads r.inner [] tt)
leaves_read n (x ∷ []) g h = effects.bare_reads n x (leaf_reads n x g.0 h)
leaves_read n (x ∷ y ∷ ls) g h =
    let r = room n (and_left (form n) _ h) in
    at_room (λ k. LeavesAgain k (x ∷ y ∷ ls)) n r.inner r.is (effects.leaves_reads r.inner (x ∷ y ∷ ls) (all_leaves r.inner (x ∷ y ∷ ls) g (down (λ k. list_all (λ (l : Leaf). node_within k l.node) (x ∷ y ∷ ls)) n r.inner r.is (and_right (form n) _ h))))

mutual
  pub effect_reads : (n : ℕ) (e : Effect) → GoodEffect e → effect_within n e ≡ true → EffectAgain n e
  effect_reads n (e_all es s) g h =
      let r = room n (and_left (form n) _ h) in
      at_room (λ k. EffectAgain k (e_all es s)) n r.inner r.is (effects.all_again r.inner es s (effects_read r.inner es g (down (λ k. effects_within k es) n r.inner r.is (and_right (form n) _ h))))
  effect_reads n (e_forall vs e s) g h =
      let r = two_rooms n (and_left (form_in_form n) _ h) in
      at_room (λ k. EffectAgain k (e_forall vs e s)) n (suc r.0) r.1
      (effects.forall_again (suc r.0) vs e s (variables_reads r.0 vs g.0) (effect_reads (suc r.0) e g.1 (down (λ k. effect_within k e) n (suc r.0) r.1 (and_right (form_in_form n) _ h))))
  effect_reads n (e_when c ls s) g h =
      let r = room n (and_left (form n) _ h) in
      let rest = and_right (form n) _ h in
      at_room (λ k. EffectAgain k (e_when c ls s)) n r.inner r.is
      (effects.when_again r.inner c ls s (cond_reads r.inner c g.0 (down (λ k. cond_within k c) n r.inner r.is (and_left (cond_within (n - 1) c) _ rest))) (leaves_read r.inner ls g.1 (down (λ k. leaves_within k ls) n r.inner r.is (and_right (cond_within (n - 1) c) _ rest))))
  effect_reads n (e_leaf x s) g h = effects.one_again n x s (leaf_reads n x g h)

  pub effects_read : (n : ℕ) (es : Effects) → GoodEffects es → effects_within n es ≡ true → EffectsAgain n es
  effects_read n no_effects g h = effects.none_again n
  effects_read n (more_effects e es) g h = effects.more_again n e es (effect_reads n e g.0 (and_left (effect_within n e) _ h)) (effects_read n es g.1 (and_right (effect_within n e) _ h))

pub init_reads : (n : ℕ) (x : Init) → GoodInit x → init_within n x ≡ true → InitAgain n x
init_reads n (Holds u) g h = inits.holds_again n u (use_within n Names u h g)
init_reads n (Absent u s) g h =
    let r = two_rooms n h in at_room (λ k. InitAgain k (Absent u s)) n (suc r.0) r.1 (inits.false_again (suc (suc r.0)) u s (inits.not_again (suc r.0) Names u (use_within (suc r.0) Names u (form_suc r.0) g)))
init_reads n (Value u l s) g h =
    let r = two_rooms n h in at_room (λ k. InitAgain k (Value u l s)) n (suc r.0) r.1 (inits.value_again (suc r.0) u l s (use_within (suc r.0) Names u (form_suc r.0) g.0) g.1)
init_reads n (At t u s) g h =
    let r = two_rooms n h in at_room (λ k. InitAgain k (At t u s)) n (suc r.0) r.1 (inits.at_again (suc r.0) t u s g.0 (use_within (suc r.0) Terms u (form_suc r.0) g.1))
init_reads n (AtNot t u s) g h =
    let r = three_rooms n h in
    at_room (λ k. InitAgain k (AtNot t u s)) n (suc (suc r.0)) r.1 (inits.at_not_again (suc (suc r.0)) t u s g.0 (inits.not_again (suc r.0) Terms u (use_within (suc r.0) Terms u (form_suc r.0) g.1)))

pub schema_reads : (k : ℕ) (a : Schema) → GoodRule a → cond_within (suc k) a.condition ≡ true → effect_within (suc k) a.effect ≡ true → GoodSchema k a
schema_reads k a g c e = record { name = g.name; params = g.params; condition = cond_reads (suc k) a.condition g.condition c; effect = effect_reads (suc k) a.effect g.effect e }
