-- Effects read again.
use Rattle.std.proofs.Common.{◌≡◌, ℕ, suc, List, [], ◌∷◌, ◌++◌, refl, sym, ap, ◌∙◌, subst, inl, inr}
use Rattle.std.specs.Prelude.{codes, map}
use Rattle.plus_tokens.specs.declared.token.Kind.TheVariants as kinds
use Rattle.plus_tokens.specs.declared.span.Span.{Span}
use Rattle.plus_tree.specs.declared.terms.TypedName.{TypedName}
use Rattle.plus_tree.specs.declared.terms.Use.{Use}
use Rattle.plus_tree.specs.declared.trees.Leaf.{Leaf}
use Rattle.plus_tree.specs.declared.trees.LeafNode.{LeafNode}
use Rattle.plus_tree.specs.declared.trees.LeafNode.TheVariants.{Add, Delete, Assign, Increase, Decrease, ScaleUp, ScaleDown}
use Rattle.plus_tree.specs.Expr.{Expr}
use Rattle.plus_tree.specs.Cond.{Cond}
use Rattle.plus_tree.specs.Effect.{Effect, Effects, e_all, e_forall, e_when, e_leaf, no_effects, more_effects}
use Rattle.plus_parser.specs.declared.phrases.words.Allowed.TheVariants.{Terms}
use Rattle.plus_tokens.specs.Items.{Piece}
use Rattle.plus_parser.specs.Phrases.Spells.{Wrapped, Chain, room_after, SpellsUse, SpellsExpr}
use Rattle.plus_parser.specs.Forms.SpellsForms.{SpellsChange, SpellsLeafNode, SpellsLeaf, SpellsSimple, SpellsEffect, SpellsEffects}
use Rattle.plus_printer.specs.Words.{word, spaced, use_text, variables_text}
use Rattle.plus_printer.specs.Canon.{expr_text, cond_text, write_text, node_text, leaf_text, leaves_text, effect_text, effects_text}
use Rattle.plus_canonical.specs.Same.{no_span, bare_use, bare_typed, bare_expr, bare_cond, bare_node, bare_leaf, bare_effect, bare_effects}
use Rattle.plus_canonical.proofs.Lexes.{Ended, at_space, Any, Reads, Both, both, turn, join, piece, Nothing, none_reads}
use Rattle.plus_parser.proofs.PhraseLemmas.Level.{Level, is_flat, level_at, level_none, level_append, level_use, level_expr}
use Rattle.plus_parser.proofs.PhraseLemmas.TypedLists.{level_variables}
use Rattle.plus_parser.proofs.FormLemmas.FormLevels.{level_cond, level_leaf}
use Rattle.plus_parser.proofs.FormLemmas.LeafLaws.{level_simple}
use Rattle.plus_parser.proofs.FormLemmas.EffectLaws.{level_effect, level_effects}
use Rattle.plus_canonical.proofs.Smalls.{IsSmall, Fine, fine_at, fine_split, fine_within, fine_form, even_both, even_more}
use Rattle.plus_canonical.proofs.Forms.{name_reads, spaced_before, loosen, HeadForm, head_reads, head_even, Again, AllOf, chain_fine, chain_level, spaced_leads, spaced_again}
use Rattle.plus_canonical.proofs.Pairs.{PairForm, pair_even, pair_reads, one_reads}
use Rattle.plus_canonical.proofs.Terms.{fixed, UseAgain, use_again}
use Rattle.plus_canonical.proofs.Lists.{VariablesAgain, variables_again}
use Rattle.plus_canonical.proofs.Exprs.{ExprAgain, expr_again}
use Rattle.plus_canonical.proofs.Conds.{CondAgain, cond_again, and_small, not_small, forall_small}

-- ---- words

assign_small : IsSmall (codes "assign")
assign_small = fixed 97 (codes "ssign") refl refl refl refl

increase_small : IsSmall (codes "increase")
increase_small = fixed 105 (codes "ncrease") refl refl refl refl

decrease_small : IsSmall (codes "decrease")
decrease_small = fixed 100 (codes "ecrease") refl refl refl refl

scale_up_small : IsSmall (codes "scale-up")
scale_up_small = fixed 115 (codes "cale-up") refl refl refl refl

scale_down_small : IsSmall (codes "scale-down")
scale_down_small = fixed 115 (codes "cale-down") refl refl refl refl

when_small : IsSmall (codes "when")
when_small = fixed 119 (codes "hen") refl refl refl refl

-- ---- writes

abbrev pub LeafAgain : ℕ → Leaf → Type 0
LeafAgain n l = Reads Ended (leaf_text l) (Again n Leaf SpellsLeaf bare_leaf l)

abbrev pub NodeAgain : ℕ → LeafNode → Span → Type 0
NodeAgain n x s = Reads Ended (node_text x) (Again n Leaf SpellsLeaf bare_leaf (record { node = x; span = s }))

pub add_again : (n : ℕ) (u : Use) (s : Span) → UseAgain n Terms u → NodeAgain n (Add u) s
add_again n u s r = turn {after = Ended} (use_text u) (λ ts a. record {
  again = record { node = Add a.again; span = a.again.span };
  spelled = (refl, a.spelled);
  even = a.even;
  same = ap (λ (v : Use). record { node = Add v; span = no_span }) a.same;
}) (loosen (use_text u) r)

pub delete_again : (m : ℕ) (u : Use) (s : Span) → UseAgain m Terms u → NodeAgain (suc m) (Delete u) s
unfolding word
delete_again m u s r = turn {after = Ended} (node_text (Delete u)) (λ ts f. record {
  again = record { node = Delete f.body_is.again; span = f.span };
  spelled = (piece kinds.Name (codes "not") f.at, f.body, (refl, refl), f.wrapped, f.body_is.spelled);
  even = head_even m ts f refl f.body_is.even;
  same = ap (λ (v : Use). record { node = Delete v; span = no_span }) f.body_is.same;
}) (loosen (node_text (Delete u)) (one_reads (codes "not") (use_text u) (name_reads (codes "not") not_small) (loosen (use_text u) r)))

-- a change of a number, of one of five kinds
change_made : (m : ℕ) (made : Use → Expr → LeafNode) (w : List ℕ) (u : Use) (e : Expr) (s : Span) → ((v : Use) (x : Expr) (t : Span) (ts : List Piece) → SpellsChange w v x t ts → SpellsLeafNode (made v x) t ts)
    → ((v : Use) (x : Expr) → bare_node (made v x) ≡ made (bare_use v) (bare_expr x))
    → (ts : List Piece) → PairForm kinds.Name w (Again m Use (SpellsUse Terms) bare_use u) (Again m Expr SpellsExpr bare_expr e) ts → Again (suc m) Leaf SpellsLeaf bare_leaf (record { node = made u e; span = s }) ts
change_made m made w u e s spells bare ts p = record {
  again = record { node = made p.front_is.again p.back_is.again; span = p.span };
  spelled = spells p.front_is.again p.back_is.again p.span ts (piece kinds.Name w p.at, p.front, p.back, (refl, refl), p.wrapped, p.front_is.spelled, p.back_is.spelled);
  even = pair_even m ts p refl p.front_is.even p.back_is.even;
  same = ap (λ (n : LeafNode). record { node = n; span = no_span }) (bare u e ∙ ap (λ v. made v (bare_expr e)) p.front_is.same ∙ ap (λ x. made (bare_use p.front_is.again) x) p.back_is.same
      ∙ sym (bare p.front_is.again p.back_is.again));
}

pub assign_again : (m : ℕ) (u : Use) (e : Expr) (s : Span) → UseAgain m Terms u → ExprAgain m e → NodeAgain (suc m) (Assign u e) s
unfolding word write_text
assign_again m u e s x y = turn {after = Ended} (node_text (Assign u e)) (change_made m Assign (codes "assign") u e s (λ v x t ts c. c) (λ v x. refl))
    (loosen (node_text (Assign u e)) (pair_reads (codes "assign") (use_text u) (expr_text e) (name_reads (codes "assign") assign_small) (loosen (use_text u) x) y))

pub increase_again : (m : ℕ) (u : Use) (e : Expr) (s : Span) → UseAgain m Terms u → ExprAgain m e → NodeAgain (suc m) (Increase u e) s
unfolding word write_text
increase_again m u e s x y = turn {after = Ended} (node_text (Increase u e)) (change_made m Increase (codes "increase") u e s (λ v x t ts c. c) (λ v x. refl))
    (loosen (node_text (Increase u e)) (pair_reads (codes "increase") (use_text u) (expr_text e) (name_reads (codes "increase") increase_small) (loosen (use_text u) x) y))

pub decrease_again : (m : ℕ) (u : Use) (e : Expr) (s : Span) → UseAgain m Terms u → ExprAgain m e → NodeAgain (suc m) (Decrease u e) s
unfolding word write_text
decrease_again m u e s x y = turn {after = Ended} (node_text (Decrease u e)) (change_made m Decrease (codes "decrease") u e s (λ v x t ts c. c) (λ v x. refl))
    (loosen (node_text (Decrease u e)) (pair_reads (codes "decrease") (use_text u) (expr_text e) (name_reads (codes "decrease") decrease_small) (loosen (use_text u) x) y))

pub scale_up_again : (m : ℕ) (u : Use) (e : Expr) (s : Span) → UseAgain m Terms u → ExprAgain m e → NodeAgain (suc m) (ScaleUp u e) s
unfolding word write_text
scale_up_again m u e s x y = turn {after = Ended} (node_text (ScaleUp u e)) (change_made m ScaleUp (codes "scale-up") u e s (λ v x t ts c. c) (λ v x. refl))
    (loosen (node_text (ScaleUp u e)) (pair_reads (codes "scale-up") (use_text u) (expr_text e) (name_reads (codes "scale-up") scale_up_small) (loosen (use_text u) x) y))

pub scale_down_again : (m : ℕ) (u : Use) (e : Expr) (s : Span) → UseAgain m Terms u → ExprAgain m e → NodeAgain (suc m) (ScaleDown u e) s
unfolding word write_text
scale_down_again m u e s x y = turn {after = Ended} (node_text (ScaleDown u e)) (change_made m ScaleDown (codes "scale-down") u e s (λ v x t ts c. c) (λ v x. refl))
    (loosen (node_text (ScaleDown u e)) (pair_reads (codes "scale-down") (use_text u) (expr_text e) (name_reads (codes "scale-down") scale_down_small) (loosen (use_text u) x) y))

-- the two parts of a change, which have room for one parenthesis less
record Change (n : ℕ) (u : Use) (e : Expr) : Type 0 where
  room : ℕ
  under : suc room ≡ n
  fluent : UseAgain room Terms u
  amount : ExprAgain room e

change_parts : (n : ℕ) (w : List ℕ) (u : Use) (e : Expr) (s : Span) (ts : List Piece) → Fine n ts → SpellsChange w u e s ts → Change n u e
change_parts n w u e s ts l (a, front, back, is, wrapped, one, two) =
    let i = fine_form n s a (front ++ back) ts (ap is_flat is.0) wrapped (level_append front back (level_use Terms u front one) (level_expr e back two)) l in
    let b = fine_split i.room front back (level_use Terms u front one) i.fine in
    record { room = i.room; under = i.under; fluent = use_again i.room Terms u front b.0 one; amount = expr_again i.room e back b.1 two }

node_again : (n : ℕ) (x : LeafNode) (s : Span) (ts : List Piece) → Fine n ts → SpellsLeafNode x s ts → NodeAgain n x s
node_again n (Add u) s ts l (at, spelled) = add_again n u s (use_again n Terms u ts l spelled)
node_again n (Delete u) s ts l (a, inner, is, wrapped, spelled) =
    let i = fine_form n s a inner ts (ap is_flat is.0) wrapped (level_use Terms u inner spelled) l in
    subst (λ m. NodeAgain m (Delete u) s) i.under (delete_again i.room u s (use_again i.room Terms u inner i.fine spelled))
node_again n (Assign u e) s ts l c =
    let p = change_parts n (codes "assign") u e s ts l c in subst (λ m. NodeAgain m (Assign u e) s) p.under (assign_again p.room u e s p.fluent p.amount)
node_again n (Increase u e) s ts l c =
    let p = change_parts n (codes "increase") u e s ts l c in subst (λ m. NodeAgain m (Increase u e) s) p.under (increase_again p.room u e s p.fluent p.amount)
node_again n (Decrease u e) s ts l c =
    let p = change_parts n (codes "decrease") u e s ts l c in subst (λ m. NodeAgain m (Decrease u e) s) p.under (decrease_again p.room u e s p.fluent p.amount)
node_again n (ScaleUp u e) s ts l c =
    let p = change_parts n (codes "scale-up") u e s ts l c in subst (λ m. NodeAgain m (ScaleUp u e) s) p.under (scale_up_again p.room u e s p.fluent p.amount)
node_again n (ScaleDown u e) s ts l c =
    let p = change_parts n (codes "scale-down") u e s ts l c in subst (λ m. NodeAgain m (ScaleDown u e) s) p.under (scale_down_again p.room u e s p.fluent p.amount)

leaf_again : (n : ℕ) (x : Leaf) (ts : List Piece) → Fine n ts → SpellsLeaf x ts → LeafAgain n x
unfolding leaf_text
leaf_again n x ts l c = node_again n x.node x.span ts l c

-- ---- the writes of a `when`

abbrev pub LeavesAgain : ℕ → List Leaf → Type 0
LeavesAgain n ls = Reads Ended (leaves_text ls) (Again n (List Leaf) SpellsSimple (map bare_leaf) ls)

and_made : (m : ℕ) (ls : List Leaf) (ts : List Piece) → HeadForm kinds.Name (codes "and") (Again m (List Leaf) (Chain SpellsLeaf) (map bare_leaf) ls) ts → Again (suc m) (List Leaf) SpellsSimple (map bare_leaf) ls ts
and_made m ls ts f = record {
  again = f.body_is.again;
  spelled = inl (f.span, piece kinds.Name (codes "and") f.at ∷ f.body, f.wrapped, inr (piece kinds.Name (codes "and") f.at, f.body, (refl, refl), refl, f.body_is.spelled));
  even = head_even m ts f refl f.body_is.even;
  same = f.body_is.same;
}

and_reads : (m : ℕ) (ls : List Leaf) → AllOf (LeafAgain m) ls → Reads Any (40 ∷ (codes "and" ++ (spaced leaf_text ls ++ 41 ∷ []))) (Again (suc m) (List Leaf) SpellsSimple (map bare_leaf) ls)
and_reads m ls all = turn {after = Any} (40 ∷ (codes "and" ++ (spaced leaf_text ls ++ 41 ∷ []))) (and_made m ls)
    (head_reads {S = Ended} (codes "and") (spaced leaf_text ls) (name_reads (codes "and") and_small) (spaced_again m Leaf SpellsLeaf bare_leaf leaf_text ls all) (spaced_leads Leaf leaf_text ls))

-- a write that stands bare needs no room for an `and`
pub bare_reads : (n : ℕ) (x : Leaf) → LeafAgain n x → LeavesAgain n (x ∷ [])
unfolding leaves_text
bare_reads n x r = turn {after = Ended} (leaf_text x) (λ ts a. record {
  again = a.again ∷ [];
  spelled = inr (a.again, refl, a.spelled);
  even = a.even;
  same = ap (λ (y : Leaf). y ∷ []) a.same;
}) r

pub more_room : (n : ℕ) (x : Leaf) → LeafAgain n x → LeafAgain (suc n) x
more_room n x r = turn {after = Ended} (leaf_text x) (λ ts a. record { again = a.again; spelled = a.spelled; even = even_more n ts a.even; same = a.same }) r

pub leaves_reads : (m : ℕ) (ls : List Leaf) → AllOf (LeafAgain m) ls → LeavesAgain (suc m) ls
unfolding word leaves_text
leaves_reads m [] all = loosen (leaves_text []) (and_reads m [] all)
leaves_reads m (x ∷ []) all = bare_reads (suc m) x (more_room m x all.0)
leaves_reads m (x ∷ y ∷ ls) all = loosen (leaves_text (x ∷ y ∷ ls)) (and_reads m (x ∷ y ∷ ls) all)

leaf_level : (x : Leaf) (ts : List Piece) → SpellsLeaf x ts → Level ts
leaf_level x ts c = level_leaf x.node x.span ts c

simple_again : (n : ℕ) (ls : List Leaf) (ts : List Piece) → Fine n ts → SpellsSimple ls ts → LeavesAgain n ls
simple_again n ls ts l (inl (s, body, wrapped, inl (none, empty))) =
    let i = fine_within n s body ts wrapped (level_at body [] empty level_none) l in
    subst (λ m. LeavesAgain m ls) i.under (leaves_reads i.room ls (subst (AllOf (LeafAgain i.room)) (sym none) tt))
simple_again n ls ts l (inl (s, body, wrapped, inr (a, inner, is, e, chain))) =
    let i = fine_form n s a inner ts (ap is_flat is.0) (subst (λ b. Wrapped s b ts) e wrapped) (chain_level Leaf SpellsLeaf leaf_level ls inner chain) l in
    subst (λ m. LeavesAgain m ls) i.under (leaves_reads i.room ls (chain_fine i.room Leaf SpellsLeaf (LeafAgain i.room) leaf_level (leaf_again i.room) ls inner i.fine chain))
simple_again n ls ts l (inr (x, is, spelled)) = subst (LeavesAgain n) (sym is) (bare_reads n x (leaf_again n x ts l spelled))

-- ---- effects

abbrev pub EffectAgain : ℕ → Effect → Type 0
EffectAgain n e = Reads Ended (effect_text e) (Again n Effect SpellsEffect bare_effect e)

abbrev pub EffectsAgain : ℕ → Effects → Type 0
EffectsAgain n es = Reads Ended (effects_text es) (Again n Effects SpellsEffects bare_effects es)

effects_lead : (es : Effects) (rest : List ℕ) → Ended rest → Ended (effects_text es ++ rest)
unfolding word
effects_lead no_effects rest e = e
effects_lead (more_effects x es) rest e = at_space

pub all_again : (m : ℕ) (es : Effects) (s : Span) → EffectsAgain m es → EffectAgain (suc m) (e_all es s)
unfolding word
all_again m es s r = turn {after = Ended} (effect_text (e_all es s)) (λ ts f. record {
  again = e_all f.body_is.again f.span;
  spelled = (piece kinds.Name (codes "and") f.at ∷ f.body, f.wrapped, inr (piece kinds.Name (codes "and") f.at, f.body, (refl, refl), refl, f.body_is.spelled));
  even = head_even m ts f refl f.body_is.even;
  same = ap (λ ds. e_all ds no_span) f.body_is.same;
}) (loosen (effect_text (e_all es s)) (head_reads {S = Ended} (codes "and") (effects_text es) (name_reads (codes "and") and_small) r (effects_lead es)))

pub forall_again : (m : ℕ) (vs : List TypedName) (e : Effect) (s : Span) → VariablesAgain m vs → EffectAgain m e → EffectAgain (suc m) (e_forall vs e s)
unfolding word
forall_again m vs e s x y = turn {after = Ended} (effect_text (e_forall vs e s)) (λ ts p. record {
  again = e_forall p.front_is.again p.back_is.again p.span;
  spelled = (piece kinds.Name (codes "forall") p.at, p.front, p.back, (refl, refl), p.wrapped, p.front_is.spelled, p.back_is.spelled);
  even = pair_even m ts p refl p.front_is.even p.back_is.even;
  same = ap (λ a. e_forall a (bare_effect e) no_span) p.front_is.same ∙ ap (λ b. e_forall (map bare_typed p.front_is.again) b no_span) p.back_is.same;
}) (loosen (effect_text (e_forall vs e s)) (pair_reads (codes "forall") (variables_text vs) (effect_text e) (name_reads (codes "forall") forall_small) (loosen (variables_text vs) x) y))

pub when_again : (m : ℕ) (c : Cond) (ls : List Leaf) (s : Span) → CondAgain m c → LeavesAgain m ls → EffectAgain (suc m) (e_when c ls s)
unfolding word
when_again m c ls s x y = turn {after = Ended} (effect_text (e_when c ls s)) (λ ts p. record {
  again = e_when p.front_is.again p.back_is.again p.span;
  spelled = (piece kinds.Name (codes "when") p.at, p.front, p.back, (refl, refl), p.wrapped, p.front_is.spelled, p.back_is.spelled);
  even = pair_even m ts p refl p.front_is.even p.back_is.even;
  same = ap (λ a. e_when a (map bare_leaf ls) no_span) p.front_is.same ∙ ap (λ b. e_when (bare_cond p.front_is.again) b no_span) p.back_is.same;
}) (loosen (effect_text (e_when c ls s)) (pair_reads (codes "when") (cond_text c) (leaves_text ls) (name_reads (codes "when") when_small) x y))

pub one_again : (n : ℕ) (x : Leaf) (s : Span) → LeafAgain n x → EffectAgain n (e_leaf x s)
one_again n x s r = turn {after = Ended} (leaf_text x) (λ ts a. record {
  again = e_leaf a.again a.again.span;
  spelled = (refl, a.spelled);
  even = a.even;
  same = ap (λ y. e_leaf y no_span) a.same;
}) r

pub none_again : (n : ℕ) → EffectsAgain n no_effects
none_again n = turn {after = Ended} {P = Nothing} [] (λ ts e. record { again = no_effects; spelled = e; even = ap (room_after n) e; same = refl }) (none_reads Ended)

more_made : (n : ℕ) (e : Effect) (es : Effects) (ts : List Piece) → Both (Again n Effect SpellsEffect bare_effect e) (Again n Effects SpellsEffects bare_effects es) ts
    → Again n Effects SpellsEffects bare_effects (more_effects e es) ts
more_made n e es ts (both a b x y w) = record {
  again = more_effects x.again y.again;
  spelled = (a, b, x.spelled, y.spelled, w);
  even = even_both n a b ts x.even y.even w;
  same = ap (λ z. more_effects z (bare_effects es)) x.same ∙ ap (λ zs. more_effects (bare_effect x.again) zs) y.same;
}

pub more_again : (n : ℕ) (e : Effect) (es : Effects) → EffectAgain n e → EffectsAgain n es → EffectsAgain n (more_effects e es)
unfolding word
more_again n e es x y = turn {after = Ended} (effects_text (more_effects e es)) (more_made n e es)
    (join {S = Ended} {T = Ended} (32 ∷ effect_text e) (effects_text es) (spaced_before {S = Ended} (effect_text e) x) y (effects_lead es))

-- what is not written does nothing
pub nothing_again : (m : ℕ) (s : Span) → EffectAgain (suc m) (e_all no_effects s)
nothing_again m s = all_again m no_effects s (none_again m)

mutual
  pub effect_again : (n : ℕ) (e : Effect) (ts : List Piece) → Fine n ts → SpellsEffect e ts → EffectAgain n e
  effect_again n (e_all es s) ts l (body, wrapped, inl (none, empty)) =
      let i = fine_within n s body ts wrapped (level_at body [] empty level_none) l in
      subst (λ m. EffectAgain m (e_all es s)) i.under (all_again i.room es s (subst (EffectsAgain i.room) (sym none) (none_again i.room)))
  effect_again n (e_all es s) ts l (body, wrapped, inr (a, inner, is, e, spelled)) =
      let i = fine_form n s a inner ts (ap is_flat is.0) (subst (λ b. Wrapped s b ts) e wrapped) (level_effects es inner spelled) l in
      subst (λ m. EffectAgain m (e_all es s)) i.under (all_again i.room es s (effects_again i.room es inner i.fine spelled))
  effect_again n (e_forall vs e s) ts l (a, front, back, is, wrapped, one, two) =
      let i = fine_form n s a (front ++ back) ts (ap is_flat is.0) wrapped (level_append front back (level_variables vs front one) (level_effect e back two)) l in
      let b = fine_split i.room front back (level_variables vs front one) i.fine in
      subst (λ m. EffectAgain m (e_forall vs e s)) i.under (forall_again i.room vs e s (variables_again i.room vs front b.0 one) (effect_again i.room e back b.1 two))
  effect_again n (e_when c ls s) ts l (a, front, back, is, wrapped, one, two) =
      let i = fine_form n s a (front ++ back) ts (ap is_flat is.0) wrapped (level_append front back (level_cond c front one) (level_simple ls back two)) l in
      let b = fine_split i.room front back (level_cond c front one) i.fine in
      subst (λ m. EffectAgain m (e_when c ls s)) i.under (when_again i.room c ls s (cond_again i.room c front b.0 one) (simple_again i.room ls back b.1 two))
  effect_again n (e_leaf x s) ts l (at, spelled) = one_again n x s (leaf_again n x ts l spelled)

  pub effects_again : (n : ℕ) (es : Effects) (ts : List Piece) → Fine n ts → SpellsEffects es ts → EffectsAgain n es
  effects_again n no_effects ts l spelled = none_again n
  effects_again n (more_effects e es) ts l (front, back, one, more, whole) =
      let b = fine_split n front back (level_effect e front one) (fine_at n ts (front ++ back) whole l) in
      more_again n e es (effect_again n e front b.0 one) (effects_again n es back b.1 more)
