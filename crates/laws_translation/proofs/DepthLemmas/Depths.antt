-- What tokens spell within a depth has a shape of that depth.
use Rattle.std.proofs.Common.{◌≡◌, ℕ, suc, ◌-◌, Bool, true, ◌&&◌, List, [], ◌∷◌, ◌++◌, refl, sym, subst, ap, ap₂, ◌∙◌, arith, inl, inr}
use Rattle.std.specs.List.{list_all}
use Rattle.plus_tokens.specs.declared.span.Span.{Span}
use Rattle.plus_tree.specs.declared.terms.Use.{Use}
use Rattle.plus_tree.specs.declared.trees.Leaf.{Leaf}
use Rattle.plus_tree.specs.declared.trees.LeafNode.{LeafNode}
use Rattle.plus_tree.specs.declared.trees.LeafNode.TheVariants.{Add, Delete, Assign, Increase, Decrease, ScaleUp, ScaleDown}
use Rattle.plus_tree.specs.Expr.{Expr, Exprs, x_number, x_clock, x_fluent, x_sum, x_product, x_minus, x_difference, x_quotient, no_exprs, more_exprs}
use Rattle.plus_tree.specs.Cond.{Cond, Conds, c_all, c_any, c_not, c_imply, c_forall, c_exists, c_atom, c_same, c_compare, no_conds, more_conds}
use Rattle.plus_tree.specs.Effect.{Effect, Effects, e_all, e_forall, e_when, e_leaf, no_effects, more_effects}
use Rattle.plus_parser.specs.declared.phrases.words.Allowed.{Allowed}
use Rattle.plus_parser.specs.declared.phrases.words.Allowed.TheVariants.{Terms}
use Rattle.plus_tokens.specs.Items.{Piece}
use Rattle.plus_parser.specs.Phrases.Spells.{Wrapped, Chain, SpellsUse, SpellsExpr, SpellsExprs}
use Rattle.plus_parser.proofs.PhraseLemmas.Level.{Level, Even, is_flat, level_at, level_none, level_append, level_flat, level_args, level_use, level_expr, level_exprs, split_append, split_wrapped, after_flat}
use Rattle.plus_parser.proofs.PhraseLemmas.Names.{plain_name as plain_kind}
use Rattle.plus_parser.proofs.PhraseLemmas.TypedLists.{level_variables}
use Rattle.plus_parser.specs.Forms.SpellsForms.{SpellsCond, SpellsConds, SpellsChange, SpellsLeafNode, SpellsLeaf, SpellsSimple, SpellsEffect, SpellsEffects}
use Rattle.plus_parser.proofs.FormLemmas.FormLevels.{level_term, level_cond, level_conds}
use Rattle.std.proofs.lemmas.Bool.{lt-ltb}
use Rattle.plus_tree.specs.declared.terms.TypedName.{TypedName}
use Rattle.plus_parser.specs.declared.phrases.words.Allowed.TheVariants.{Variables}
use Rattle.plus_parser.specs.Phrases.Spells.{SpellsVariables}
use Rattle.plus_parser.proofs.PhraseLemmas.TypedLists.{level_list}
use Rattle.plus_parser.proofs.FormLemmas.FormLevels.{level_leaf}
use Rattle.plus_parser.proofs.FormLemmas.EffectLaws.{level_effect, level_effects}
use Rattle.plus_parser.proofs.FormLemmas.LeafLaws.{level_simple}
use Rattle.plus_canonical.proofs.Forms.{chain_level}
use Rattle.laws_translation.proofs.DepthLemmas.Within.{and_left, and_right, room, two_rooms, down, form_suc}
use Rattle.plus_translation.specs.Depth.{form, form_in_form, expr_within, exprs_within, cond_within, conds_within, node_within, leaves_within, effect_within, effects_within}

-- the room inside a form
pub record Inner (n : ℕ) (inner : List Piece) : Type 0 where
  pub room : ℕ
  pub is : n ≡ suc room
  pub even : Even room inner

pub inner_of : (n : ℕ) (s : Span) (a : Piece) (inner ts : List Piece) → is_flat a.kind ≡ true → Wrapped s (a ∷ inner) ts → Level inner → Even n ts → Inner n inner
inner_of n s a inner ts flat wrapped level even =
    let r = split_wrapped n s (a ∷ inner) ts wrapped (level_flat a inner flat level) even in
    record { room = r.0; is = r.1; even = sym (after_flat r.0 a inner flat) ∙ r.2 }

body_of : (n : ℕ) (s : Span) (body ts : List Piece) → Wrapped s body ts → Level body → Even n ts → Inner n body
body_of n s body ts wrapped level even = let r = split_wrapped n s body ts wrapped level even in record { room = r.0; is = r.1; even = r.2 }

form_at : (n m : ℕ) → n ≡ suc m → form n ≡ true
form_at n m e = lt-ltb 0 n (omega (arith, e))

pub forms_at : (n m k : ℕ) → n ≡ suc m → m ≡ suc k → form_in_form n ≡ true
forms_at n m k e f = lt-ltb 1 n (omega (arith, e, f))

up : (f : ℕ → Bool) (n m : ℕ) → n ≡ suc m → f m ≡ true → f (n - 1) ≡ true
up f n m e h = let l : m ≡ n - 1 = omega (arith, e) in subst (λ k. f k ≡ true) l h

-- a form, and what stands in it
in_form : (f : ℕ → Bool) (n m : ℕ) → n ≡ suc m → f m ≡ true → (form n && f (n - 1)) ≡ true
in_form f n m e h = ap₂ (λ a b. a && b) (form_at n m e) (up f n m e h)

more_in_form : (f : ℕ → Bool) (n : ℕ) → ((m : ℕ) → f m ≡ true → f (suc m) ≡ true) → (form n && f (n - 1)) ≡ true → (form (suc n) && f (suc n - 1)) ≡ true
more_in_form f n more h =
    let r = room n (and_left (form n) _ h) in
    in_form f (suc n) n refl (subst (λ k. f k ≡ true) (sym r.is) (more r.inner (down f n r.inner r.is (and_right (form n) _ h))))

pub both : (a b : Bool) → a ≡ true → b ≡ true → (a && b) ≡ true
both a b e f = ap₂ (λ x y. x && y) e f

pub use_inner : (n : ℕ) (allowed : Allowed) (u : Use) (ts : List Piece) → Even n ts → SpellsUse allowed u ts → (m : ℕ) × (n ≡ suc m)
use_inner n allowed u ts even (a, inner, plain, wrapped, head, args) =
    let i = inner_of n u.span a inner ts (ap is_flat (plain_kind a plain)) wrapped (level_args allowed u.args inner args) even in (i.room, i.is)

pub use_shape : (n : ℕ) (allowed : Allowed) (u : Use) (ts : List Piece) → Even n ts → SpellsUse allowed u ts → form n ≡ true
use_shape n allowed u ts even spelled = let r = use_inner n allowed u ts even spelled in form_at n r.0 r.1

mutual
  pub expr_shape : (n : ℕ) (e : Expr) (ts : List Piece) → Even n ts → SpellsExpr e ts → expr_within n e ≡ true
  expr_shape n (x_number l s) ts even c = refl
  expr_shape n (x_clock s) ts even c = refl
  expr_shape n (x_fluent u s) ts even (at, spelled) = use_shape n Terms u ts even spelled
  expr_shape n (x_sum es s) ts even (a, inner, sign, wrapped, many, spelled) =
      let i = inner_of n s a inner ts (ap is_flat sign) wrapped (level_exprs es inner spelled) even in in_form (λ k. exprs_within k es) n i.room i.is (exprs_shape i.room es inner i.even spelled)
  expr_shape n (x_product es s) ts even (a, inner, sign, wrapped, many, spelled) =
      let i = inner_of n s a inner ts (ap is_flat sign) wrapped (level_exprs es inner spelled) even in in_form (λ k. exprs_within k es) n i.room i.is (exprs_shape i.room es inner i.even spelled)
  expr_shape n (x_minus e s) ts even (a, inner, sign, wrapped, spelled) =
      let i = inner_of n s a inner ts (ap is_flat sign) wrapped (level_expr e inner spelled) even in in_form (λ k. expr_within k e) n i.room i.is (expr_shape i.room e inner i.even spelled)
  expr_shape n (x_difference e f s) ts even (a, front, back, sign, wrapped, one, two) =
      let i = inner_of n s a (front ++ back) ts (ap is_flat sign) wrapped (level_append front back (level_expr e front one) (level_expr f back two)) even in
      let b = split_append i.room front back (level_expr e front one) i.even in
      in_form (λ k. expr_within k e && expr_within k f) n i.room i.is (both _ _ (expr_shape i.room e front b.0 one) (expr_shape i.room f back b.1 two))
  expr_shape n (x_quotient e f s) ts even (a, front, back, sign, wrapped, one, two) =
      let i = inner_of n s a (front ++ back) ts (ap is_flat sign) wrapped (level_append front back (level_expr e front one) (level_expr f back two)) even in
      let b = split_append i.room front back (level_expr e front one) i.even in
      in_form (λ k. expr_within k e && expr_within k f) n i.room i.is (both _ _ (expr_shape i.room e front b.0 one) (expr_shape i.room f back b.1 two))

  pub exprs_shape : (n : ℕ) (es : Exprs) (ts : List Piece) → Even n ts → SpellsExprs es ts → exprs_within n es ≡ true
  exprs_shape n no_exprs ts even spelled = refl
  exprs_shape n (more_exprs e es) ts even (front, back, one, more, whole) =
      let b = split_append n front back (level_expr e front one) (subst (Even n) whole even) in both _ _ (expr_shape n e front b.0 one) (exprs_shape n es back b.1 more)

-- the list of a quantifier is a form
variables_inner : (n : ℕ) (vs : List TypedName) (ts : List Piece) → Even n ts → SpellsVariables vs ts → (m : ℕ) × (n ≡ suc m)
variables_inner n vs ts even (s, inner, wrapped, spelled) = let i = body_of n s inner ts wrapped (level_list Variables 0 vs inner spelled) even in (i.room, i.is)

mutual
  pub cond_shape : (n : ℕ) (c : Cond) (ts : List Piece) → Even n ts → SpellsCond c ts → cond_within n c ≡ true
  cond_shape n (c_all cs s) ts even (body, wrapped, inl (none, empty)) =
      let i = body_of n s body ts wrapped (level_at body [] empty level_none) even in in_form (λ k. conds_within k cs) n i.room i.is (ap (conds_within i.room) none)
  cond_shape n (c_all cs s) ts even (body, wrapped, inr (a, inner, is, e, spelled)) =
      let i = inner_of n s a inner ts (ap is_flat is.0) (subst (λ b. Wrapped s b ts) e wrapped) (level_conds cs inner spelled) even in in_form (λ k. conds_within k cs) n i.room i.is (conds_shape i.room cs inner i.even spelled)
  cond_shape n (c_any cs s) ts even (a, inner, is, wrapped, spelled) =
      let i = inner_of n s a inner ts (ap is_flat is.0) wrapped (level_conds cs inner spelled) even in in_form (λ k. conds_within k cs) n i.room i.is (conds_shape i.room cs inner i.even spelled)
  cond_shape n (c_not c s) ts even (a, inner, is, wrapped, spelled) =
      let i = inner_of n s a inner ts (ap is_flat is.0) wrapped (level_cond c inner spelled) even in in_form (λ k. cond_within k c) n i.room i.is (cond_shape i.room c inner i.even spelled)
  cond_shape n (c_imply c d s) ts even (a, front, back, is, wrapped, one, two) =
      let i = inner_of n s a (front ++ back) ts (ap is_flat is.0) wrapped (level_append front back (level_cond c front one) (level_cond d back two)) even in
      let b = split_append i.room front back (level_cond c front one) i.even in
      in_form (λ k. cond_within k c && cond_within k d) n i.room i.is (both _ _ (cond_shape i.room c front b.0 one) (cond_shape i.room d back b.1 two))
  cond_shape n (c_forall vs c s) ts even (a, front, back, is, wrapped, one, two) =
      let i = inner_of n s a (front ++ back) ts (ap is_flat is.0) wrapped (level_append front back (level_variables vs front one) (level_cond c back two)) even in
      let b = split_append i.room front back (level_variables vs front one) i.even in
      let v = variables_inner i.room vs front b.0 one in
      both _ _ (forms_at n i.room v.0 i.is v.1) (up (λ k. cond_within k c) n i.room i.is (cond_shape i.room c back b.1 two))
  cond_shape n (c_exists vs c s) ts even (a, front, back, is, wrapped, one, two) =
      let i = inner_of n s a (front ++ back) ts (ap is_flat is.0) wrapped (level_append front back (level_variables vs front one) (level_cond c back two)) even in
      let b = split_append i.room front back (level_variables vs front one) i.even in
      let v = variables_inner i.room vs front b.0 one in
      both _ _ (forms_at n i.room v.0 i.is v.1) (up (λ k. cond_within k c) n i.room i.is (cond_shape i.room c back b.1 two))
  cond_shape n (c_atom u s) ts even (at, spelled) = use_shape n Terms u ts even spelled
  cond_shape n (c_same t u s) ts even (a, front, back, is, wrapped, one, two) =
      let i = inner_of n s a (front ++ back) ts (ap is_flat is) wrapped (level_append front back (level_term t front one) (level_term u back two)) even in form_at n i.room i.is
  cond_shape n (c_compare op e f s) ts even (a, front, back, is, wrapped, one, two) =
      let i = inner_of n s a (front ++ back) ts (ap is_flat is) wrapped (level_append front back (level_expr e front one) (level_expr f back two)) even in
      let b = split_append i.room front back (level_expr e front one) i.even in
      in_form (λ k. expr_within k e && expr_within k f) n i.room i.is (both _ _ (expr_shape i.room e front b.0 one) (expr_shape i.room f back b.1 two))

  pub conds_shape : (n : ℕ) (cs : Conds) (ts : List Piece) → Even n ts → SpellsConds cs ts → conds_within n cs ≡ true
  conds_shape n no_conds ts even spelled = refl
  conds_shape n (more_conds c cs) ts even (front, back, one, more, whole) =
      let b = split_append n front back (level_cond c front one) (subst (Even n) whole even) in both _ _ (cond_shape n c front b.0 one) (conds_shape n cs back b.1 more)

change_shape : (n : ℕ) (w : List ℕ) (u : Use) (e : Expr) (s : Span) (ts : List Piece) → Even n ts → SpellsChange w u e s ts → (form_in_form n && expr_within (n - 1) e) ≡ true
change_shape n w u e s ts even (a, front, back, is, wrapped, one, two) =
    let i = inner_of n s a (front ++ back) ts (ap is_flat is.0) wrapped (level_append front back (level_use Terms u front one) (level_expr e back two)) even in
    let b = split_append i.room front back (level_use Terms u front one) i.even in
    let v = use_inner i.room Terms u front b.0 one in
    both _ _ (forms_at n i.room v.0 i.is v.1) (up (λ k. expr_within k e) n i.room i.is (expr_shape i.room e back b.1 two))

pub node_shape : (n : ℕ) (x : LeafNode) (s : Span) (ts : List Piece) → Even n ts → SpellsLeafNode x s ts → node_within n x ≡ true
node_shape n (Add u) s ts even (at, spelled) = use_shape n Terms u ts even spelled
node_shape n (Delete u) s ts even (a, inner, is, wrapped, spelled) =
    let i = inner_of n s a inner ts (ap is_flat is.0) wrapped (level_use Terms u inner spelled) even in
    let v = use_inner i.room Terms u inner i.even spelled in forms_at n i.room v.0 i.is v.1
node_shape n (Assign u e) s ts even c = change_shape n _ u e s ts even c
node_shape n (Increase u e) s ts even c = change_shape n _ u e s ts even c
node_shape n (Decrease u e) s ts even c = change_shape n _ u e s ts even c
node_shape n (ScaleUp u e) s ts even c = change_shape n _ u e s ts even c
node_shape n (ScaleDown u e) s ts even c = change_shape n _ u e s ts even c

leaf_level : (x : Leaf) (ts : List Piece) → SpellsLeaf x ts → Level ts
leaf_level x ts c = level_leaf x.node x.span ts c

-- more room does no harm
mutual
  expr_more : (n : ℕ) (e : Expr) → expr_within n e ≡ true → expr_within (suc n) e ≡ true
  expr_more n (x_number l s) h = refl
  expr_more n (x_clock s) h = refl
  expr_more n (x_fluent u s) h = form_suc n
  expr_more n (x_sum es s) h = more_in_form (λ k. exprs_within k es) n (λ m g. exprs_more m es g) h
  expr_more n (x_product es s) h = more_in_form (λ k. exprs_within k es) n (λ m g. exprs_more m es g) h
  expr_more n (x_minus e s) h = more_in_form (λ k. expr_within k e) n (λ m g. expr_more m e g) h
  expr_more n (x_difference e f s) h =
      more_in_form (λ k. expr_within k e && expr_within k f) n (λ m g. both _ _ (expr_more m e (and_left (expr_within m e) _ g)) (expr_more m f (and_right (expr_within m e) _ g))) h
  expr_more n (x_quotient e f s) h =
      more_in_form (λ k. expr_within k e && expr_within k f) n (λ m g. both _ _ (expr_more m e (and_left (expr_within m e) _ g)) (expr_more m f (and_right (expr_within m e) _ g))) h

  exprs_more : (n : ℕ) (es : Exprs) → exprs_within n es ≡ true → exprs_within (suc n) es ≡ true
  exprs_more n no_exprs h = refl
  exprs_more n (more_exprs e es) h = both _ _ (expr_more n e (and_left (expr_within n e) _ h)) (exprs_more n es (and_right (expr_within n e) _ h))

forms_more : (n : ℕ) → form_in_form n ≡ true → form_in_form (suc n) ≡ true
forms_more n h = let r = two_rooms n h in let e = r.1 in lt-ltb 1 (suc n) (omega (arith, e))

change_more : (n : ℕ) (e : Expr) → (form_in_form n && expr_within (n - 1) e) ≡ true → (form_in_form (suc n) && expr_within (suc n - 1) e) ≡ true
change_more n e h =
    let f = and_left (form_in_form n) _ h in
    let r = two_rooms n f in
    both _ _ (forms_more n f) (up (λ k. expr_within k e) (suc n) n refl (subst (λ k. expr_within k e ≡ true) (sym r.1) (expr_more (suc r.0) e (down (λ k. expr_within k e) n (suc r.0) r.1 (and_right (form_in_form n) _ h)))))

node_more : (n : ℕ) (x : LeafNode) → node_within n x ≡ true → node_within (suc n) x ≡ true
node_more n (Add u) h = form_suc n
node_more n (Delete u) h = forms_more n h
node_more n (Assign u e) h = change_more n e h
node_more n (Increase u e) h = change_more n e h
node_more n (Decrease u e) h = change_more n e h
node_more n (ScaleUp u e) h = change_more n e h
node_more n (ScaleDown u e) h = change_more n e h

chain_shape : (n : ℕ) (ls : List Leaf) (ts : List Piece) → Even n ts → Chain SpellsLeaf ls ts → list_all (λ (l : Leaf). node_within n l.node) ls ≡ true
chain_shape n [] ts even c = refl
chain_shape n (l ∷ ls) ts even (front, back, one, more, whole) =
    let b = split_append n front back (leaf_level l front one) (subst (Even n) whole even) in both _ _ (node_shape n l.node l.span front b.0 one) (chain_shape n ls back b.1 more)

leaves_shape : (n m : ℕ) (ls : List Leaf) → n ≡ suc m → list_all (λ (l : Leaf). node_within m l.node) ls ≡ true → leaves_within n ls ≡ true
leaves_shape n m [] e h = both _ _ (form_at n m e) refl
leaves_shape n m (l ∷ []) e h = subst (λ k. node_within k l.node ≡ true) (sym e) (node_more m l.node (and_left (node_within m l.node) true h))
leaves_shape n m (l ∷ k ∷ ls) e h = in_form (λ j. list_all (λ (l : Leaf). node_within j l.node) (l ∷ k ∷ ls)) n m e h

pub simple_shape : (n : ℕ) (ls : List Leaf) (ts : List Piece) → Even n ts → SpellsSimple ls ts → leaves_within n ls ≡ true
simple_shape n ls ts even (inl (s, body, wrapped, inl (none, empty))) =
    let i = body_of n s body ts wrapped (level_at body [] empty level_none) even in leaves_shape n i.room ls i.is (ap (list_all (λ (l : Leaf). node_within i.room l.node)) none)
simple_shape n ls ts even (inl (s, body, wrapped, inr (a, inner, is, e, chain))) =
    let i = inner_of n s a inner ts (ap is_flat is.0) (subst (λ b. Wrapped s b ts) e wrapped) (chain_level Leaf SpellsLeaf leaf_level ls inner chain) even in
    leaves_shape n i.room ls i.is (chain_shape i.room ls inner i.even chain)
simple_shape n ls ts even (inr (x, is, spelled)) = ap (leaves_within n) is ∙ node_shape n x.node x.span ts even spelled

mutual
  pub effect_shape : (n : ℕ) (e : Effect) (ts : List Piece) → Even n ts → SpellsEffect e ts → effect_within n e ≡ true
  effect_shape n (e_all es s) ts even (body, wrapped, inl (none, empty)) =
      let i = body_of n s body ts wrapped (level_at body [] empty level_none) even in in_form (λ k. effects_within k es) n i.room i.is (ap (effects_within i.room) none)
  effect_shape n (e_all es s) ts even (body, wrapped, inr (a, inner, is, e, spelled)) =
      let i = inner_of n s a inner ts (ap is_flat is.0) (subst (λ b. Wrapped s b ts) e wrapped) (level_effects es inner spelled) even in in_form (λ k. effects_within k es) n i.room i.is (effects_shape i.room es inner i.even spelled)
  effect_shape n (e_forall vs e s) ts even (a, front, back, is, wrapped, one, two) =
      let i = inner_of n s a (front ++ back) ts (ap is_flat is.0) wrapped (level_append front back (level_variables vs front one) (level_effect e back two)) even in
      let b = split_append i.room front back (level_variables vs front one) i.even in
      let v = variables_inner i.room vs front b.0 one in
      both _ _ (forms_at n i.room v.0 i.is v.1) (up (λ k. effect_within k e) n i.room i.is (effect_shape i.room e back b.1 two))
  effect_shape n (e_when c ls s) ts even (a, front, back, is, wrapped, one, two) =
      let i = inner_of n s a (front ++ back) ts (ap is_flat is.0) wrapped (level_append front back (level_cond c front one) (level_simple ls back two)) even in
      let b = split_append i.room front back (level_cond c front one) i.even in
      in_form (λ k. cond_within k c && leaves_within k ls) n i.room i.is (both _ _ (cond_shape i.room c front b.0 one) (simple_shape i.room ls back b.1 two))
  effect_shape n (e_leaf x s) ts even (at, spelled) = node_shape n x.node x.span ts even spelled

  pub effects_shape : (n : ℕ) (es : Effects) (ts : List Piece) → Even n ts → SpellsEffects es ts → effects_within n es ≡ true
  effects_shape n no_effects ts even spelled = refl
  effects_shape n (more_effects e es) ts even (front, back, one, more, whole) =
      let b = split_append n front back (level_effect e front one) (subst (Even n) whole even) in both _ _ (effect_shape n e front b.0 one) (effects_shape n es back b.1 more)
