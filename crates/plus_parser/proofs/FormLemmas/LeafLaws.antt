-- A leaf of an effect, and leaves where a condition holds: what is read is spelled so, and what is spelled is read.
use Rattle.std.proofs.Common.{◌≡◌, ℕ, suc, ◌-◌, ◌<◌, true, List, [], ◌∷◌, ◌++◌, length, Ok, refl, sym, ap, ◌∙◌, subst, inl, inr, ⊎_elim, arith}
use Rattle.std.specs.Prelude.{codes}
use Rattle.plus_tokens.specs.declared.span.Span.{Span}
use Rattle.plus_tree.specs.declared.terms.Use.{Use}
use Rattle.plus_tree.specs.declared.trees.Leaf.{Leaf}
use Rattle.plus_tree.specs.declared.trees.LeafNode.{LeafNode}
use Rattle.plus_tree.specs.declared.trees.LeafNode.TheVariants.{Add, Delete, Assign, Increase, Decrease, ScaleUp, ScaleDown}
use Rattle.plus_tree.specs.Expr.{Expr}
use Rattle.plus_parser.specs.declared.phrases.words.Allowed.TheVariants as allows
use Rattle.plus_parser.specs.declared.phrases.words.HeadWord.{HeadWord}
use Rattle.plus_parser.specs.declared.phrases.words.HeadWord.TheVariants.{Nothing, And, Not, Change, Plain}
use Rattle.plus_parser.specs.declared.phrases.words.Change as words
use Rattle.plus_parser.specs.declared.phrases.words.Change.TheVariants as changes
use Rattle.plus_tokens.specs.Items.{Piece, Item, tok}
use Rattle.plus_parser.specs.Phrases.Reading.{◌>>=◌, Read, next_of, is_open}
use Rattle.plus_parser.specs.Phrases.Words.{head_of, is_close}
use Rattle.plus_parser.specs.Phrases.Grammar.{around, close_of, until_close, Former, form_step, use_of, use_end, use_form, expr_next, expr_at}
use Rattle.plus_parser.specs.Phrases.Spells.{IsOpen, IsWord, Chain, with_last, SpellsUse, SpellsExpr, room_after}
use Rattle.plus_parser.proofs.PhraseLemmas.Tokens.{toks, enough, bind_ok, ok_is, next_ok, next_again, close_kind, token_takes}
use Rattle.plus_parser.proofs.PhraseLemmas.Names.{plain_name}
use Rattle.plus_parser.proofs.PhraseLemmas.Heads.{word_for, worded, nothing_closes, plain_is, plain_head, close_head, word_heads}
use Rattle.plus_parser.proofs.PhraseLemmas.Level.{Even, Level, is_flat, level_at, level_name, level_args, level_append, level_wrapped, level_use, level_expr, after_name, even_open}
use Rattle.plus_parser.proofs.PhraseLemmas.UntilTakes.{until_takes}
use Rattle.plus_parser.proofs.PhraseLemmas.UntilAgain.{Levels, level_chain, until_again}
use Rattle.plus_parser.proofs.PhraseLemmas.Forms.{FormTook, FormTakes, FormAgain, Begins, close_took, enters, form_takes, form_again, added_all, added_last}
use Rattle.plus_parser.proofs.PhraseLemmas.Starts.{name_again, close_again, use_takes, use_again, use_spelled, use_made, use_form_takes, use_form_again}
use Rattle.plus_parser.proofs.PhraseLemmas.ExprLaws.{next_takes, nexts_again}
use Rattle.plus_parser.proofs.PhraseLemmas.ExprForms.{expr_takes, expr_again}
use Rattle.plus_parser.specs.Forms.ReadingForms.{both_of, add_of, delete_of, change_node, change_of, leaf_with, leaf_behind, leaf_at, simple_with, simple_at}
use Rattle.plus_parser.specs.Forms.SpellsForms.{SpellsChange, SpellsLeafNode, SpellsLeaf, SpellsLeaves, SpellsSimple}
use Rattle.plus_parser.proofs.FormLemmas.FormLevels.{level_leaf}
use Rattle.plus_parser.proofs.FormLemmas.BothLaws.{even_behind, both_form, both_again}

-- a leaf begins with an opening parenthesis
change_begins : (w : List ℕ) (u : Use) (x : Expr) (s : Span) (ts : List Piece) → SpellsChange w u x s ts → (first : Piece) × (inner : List Piece) × IsOpen first × (ts ≡ first ∷ inner)
change_begins w u x s ts h = let v = h.4 in (v.first, (h.0 ∷ (h.1 ++ h.2)) ++ v.last ∷ [], v.opens, v.whole)

node_begins : (n : LeafNode) (s : Span) (ts : List Piece) → SpellsLeafNode n s ts → (first : Piece) × (inner : List Piece) × IsOpen first × (ts ≡ first ∷ inner)
node_begins (Add u) s ts h = let w = h.1.3 in (w.first, (h.1.0 ∷ h.1.1) ++ w.last ∷ [], w.opens, w.whole)
node_begins (Delete u) s ts h = let w = h.3 in (w.first, (h.0 ∷ h.1) ++ w.last ∷ [], w.opens, w.whole)
node_begins (Assign u x) s ts h = change_begins (codes "assign") u x s ts h
node_begins (Increase u x) s ts h = change_begins (codes "increase") u x s ts h
node_begins (Decrease u x) s ts h = change_begins (codes "decrease") u x s ts h
node_begins (ScaleUp u x) s ts h = change_begins (codes "scale-up") u x s ts h
node_begins (ScaleDown u x) s ts h = change_begins (codes "scale-down") u x s ts h

pub leaf_begins : (room : ℕ) → Begins SpellsLeaf room
leaf_begins room l ts h = node_begins l.node l.span ts h

-- a change is the leaf that its word says
change_spelled : (change : words.Change) (u : Use) (x : Expr) (s : Span) (ts : List Piece) → SpellsChange (word_for (Change change)) u x s ts → SpellsLeafNode (change_node change u x) s ts
change_spelled changes.Assign u x s ts h = h
change_spelled changes.Increase u x s ts h = h
change_spelled changes.Decrease u x s ts h = h
change_spelled changes.ScaleUp u x s ts h = h
change_spelled changes.ScaleDown u x s ts h = h

pub leaf_takes :
    (outer room : ℕ) → suc room ≡ outer → (s : Span) (p : Piece) (items r : List Item) (l : Leaf) (rest : List Item) → items ≡ tok p ∷ r
    → leaf_behind room s p r ≡ Ok (l, rest) → FormTook SpellsLeaf outer l s items rest
unfolding leaf_behind
leaf_takes outer room under s p items r l rest whole e = at_head (head_of p) refl e
  where
    at_head : (h : HeadWord) → head_of p ≡ h → leaf_with room s p r h ≡ Ok (l, rest) → FormTook SpellsLeaf outer l s items rest
    at_head Not h e =
        let a = bind_ok (use_form allows.Terms room r) (λ u. close_of room u.1 >>= λ k. Ok (delete_of u.0 (around s k.0.span), k.1)) (l, rest) e in
        let d = bind_ok (close_of room a.0.1) (λ k. Ok (delete_of a.0.0 (around s k.0.span), k.1)) (l, rest) a.2 in
        let t = use_form_takes allows.Terms room r a.0.0 a.0.1 a.1 in
        let k = token_takes (λ q. is_close q.kind) room d.0.0 a.0.1 d.0.1 d.1 in
        let is = worded p Not h refl in
        subst (λ (x : Leaf × List Item). FormTook SpellsLeaf outer x.0 s items x.1) (ok_is (delete_of a.0.0 (around s d.0.0.span), d.0.1) (l, rest) d.2)
        (close_took SpellsLeaf outer room under (delete_of a.0.0 (around s d.0.0.span)) s (p ∷ t.inner) d.0.0 items d.0.1 (close_kind d.0.0.kind k.fits)
        (whole ∙ ap (λ (is : List Item). tok p ∷ is) (t.whole ∙ ap (toks t.inner) k.whole)) (after_name room p t.inner is.0 ∙ t.even)
        (λ first opens place w. (p, t.inner, is, w, t.spelled)))
    at_head (Change change) h e =
        let is = worded p (Change change) h refl in
        both_form (SpellsUse allows.Terms) SpellsExpr room (use_form allows.Terms room) (expr_next room (expr_at room)) SpellsLeaf (change_of change) outer under s p items r l rest whole (ap is_flat is.0)
        (λ u x k left right ts w hu hx. change_spelled change u x k ts (p, left, right, is, w, hu, hx))
        (use_form_takes allows.Terms room) (next_takes room (expr_at room) (expr_takes room)) e
    at_head Plain h e =
        let a = bind_ok (use_end allows.Terms room s p r) (λ u. Ok (add_of u.0, u.1)) (l, rest) e in
        let u = use_takes allows.Terms room s p r a.0.0 a.0.1 a.1 in
        let plain = plain_is p h in
        subst (λ (x : Leaf × List Item). FormTook SpellsLeaf outer x.0 s items x.1) (ok_is (add_of a.0.0, a.0.1) (l, rest) a.2)
        (close_took SpellsLeaf outer room under (add_of a.0.0) s (p ∷ u.inner) u.last items a.0.1 u.closes (whole ∙ ap (λ (is : List Item). tok p ∷ is) u.whole) (after_name room p u.inner (plain_name p plain) ∙ u.even)
        (λ first opens place w. (refl, use_spelled allows.Terms a.0.0 s p u.last first u.args u.inner u.is plain opens u.closes place u.spelled)))
    at_head _ h e = absurd cc

-- ---- a leaf is read again

-- a leaf behind its opening parenthesis
abbrev pub leaf_body : ℕ → Former Leaf
leaf_body room front items = next_of room items >>= λ p. leaf_behind room front p.0 p.1

not_step : (room : ℕ) (front : Span) (k : Piece) (items r1 r2 r3 : List Item) (p : Piece) (u : Use) → next_of room items ≡ Ok (p, r1) → head_of p ≡ Not → use_form allows.Terms room r1 ≡ Ok (u, r2) → close_of room r2 ≡ Ok (k, r3) → leaf_body room front items ≡ Ok (delete_of u (around front k.span), r3)
unfolding leaf_behind
not_step room front k items r1 r2 r3 p u e h e1 e2 = rw (e, h, e1, e2) refl

change_step : (room : ℕ) (change : words.Change) (front k : Span) (items r1 r2 : List Item) (p : Piece) (u : Use) (x : Expr) → next_of room items ≡ Ok (p, r1) → head_of p ≡ Change change → both_of room (use_form allows.Terms room) (expr_next room (expr_at room)) r1 ≡ Ok (((u, x), k), r2) → leaf_body room front items ≡ Ok (change_of change u x (around front k), r2)
unfolding leaf_behind
change_step room change front k items r1 r2 p u x e h e1 = rw (e, h, e1) refl

plain_step : (room : ℕ) (front : Span) (items r1 r2 : List Item) (p : Piece) (u : Use) → next_of room items ≡ Ok (p, r1) → head_of p ≡ Plain → use_end allows.Terms room front p r1 ≡ Ok (u, r2) → leaf_body room front items ≡ Ok (add_of u, r2)
unfolding leaf_behind
plain_step room front items r1 r2 p u e h e1 = rw (e, h, e1) refl

module _ (outer room : ℕ) (under : suc room ≡ outer) where
  inside : (r : ℕ) (a : Piece) (ts : List Piece) → is_flat a.kind ≡ true → suc r ≡ outer → Even r (a ∷ ts) → Even room ts
  inside r a ts f e er = even_behind room r a ts f (e ∙ sym under) er

  change_again :
      (change : words.Change) (u : Use) (x : Expr) (s : Span) (ts : List Piece) (first : Piece) (inner : List Piece) (rest : List Item)
      → SpellsChange (word_for (Change change)) u x s ts → ts ≡ first ∷ inner → Even outer ts → leaf_body room first.span (toks inner rest) ≡ Ok (change_of change u x s, rest)
  change_again change u x s ts first inner rest h e ev =
      let w = h.4 in
      let a = h.0 in
      let both = h.1 ++ h.2 in
      enters SpellsLeaf outer (leaf_body room) (change_of change u x s) s (a ∷ both) ts w first inner rest e (level_name a both h.3.0 (level_append h.1 h.2 (level_use allows.Terms u h.1 h.5) (level_expr x h.2 h.6))) ev (λ r er eb.
      let left = toks both (tok w.last ∷ rest) in
      change_step room change w.first.span w.last.span (tok a ∷ left) left rest a u x (name_again room a left h.3.0) (word_heads a (Change change) h.3 refl)
      (both_again (SpellsUse allows.Terms) SpellsExpr room (use_form allows.Terms room) (expr_next room (expr_at room)) (level_use allows.Terms) (use_form_again allows.Terms room) (nexts_again room (expr_at room) (expr_again room)) u x h.1 h.2 w.last rest h.5 h.6
      (inside r a both (ap is_flat h.3.0) er eb) w.closes)
      ∙ (λ i. Ok (change_of change u x (sym w.place i), rest)))

  node_again : (n : LeafNode) (s : Span) (ts : List Piece) (first : Piece) (inner : List Piece) (rest : List Item) → SpellsLeafNode n s ts → ts ≡ first ∷ inner → Even outer ts → leaf_body room first.span (toks inner rest) ≡ Ok (record { node = n; span = s }, rest)
  node_again (Add u) s ts first inner rest h e ev =
      let w = h.1.3 in
      let a = h.1.0 in
      let args = h.1.1 in
      let made = use_of a u.args (around w.first.span w.last.span) in
      let left = toks args (tok w.last ∷ rest) in
      let name = plain_name a h.1.2 in
      enters SpellsLeaf outer (leaf_body room) (record { node = Add u; span = s }) u.span (a ∷ args) ts w first inner rest e (level_name a args name (level_args allows.Terms u.args args h.1.5)) ev (λ r er eb.
      plain_step room w.first.span (tok a ∷ left) left rest a made (name_again room a left name) (plain_head a h.1.2) (use_again allows.Terms room w.first.span a w.last u.args args rest w.closes h.1.5)
      ∙ ap (λ (v : Use). Ok (add_of v, rest)) (use_made allows.Terms u ts h.1)
      ∙ (λ i. Ok (record { node = Add u; span = sym h.0 i }, rest)))
  node_again (Delete u) s ts first inner rest h e ev =
      let w = h.3 in
      let one = h.1 in
      let a = h.0 in
      enters SpellsLeaf outer (leaf_body room) (record { node = Delete u; span = s }) s (a ∷ one) ts w first inner rest e (level_name a one h.2.0 (level_use allows.Terms u one h.4)) ev (λ r er eb.
      let left = tok w.last ∷ rest in
      not_step room w.first.span w.last (tok a ∷ toks one left) (toks one left) left rest a u (name_again room a (toks one left) h.2.0) (word_heads a Not h.2 refl) (use_form_again allows.Terms room u one left h.4 (inside r a one (ap is_flat h.2.0) er eb)) (close_again room w.last rest w.closes)
      ∙ (λ i. Ok (delete_of u (sym w.place i), rest)))
  node_again (Assign u x) s ts first inner rest h e ev = change_again changes.Assign u x s ts first inner rest h e ev
  node_again (Increase u x) s ts first inner rest h e ev = change_again changes.Increase u x s ts first inner rest h e ev
  node_again (Decrease u x) s ts first inner rest h e ev = change_again changes.Decrease u x s ts first inner rest h e ev
  node_again (ScaleUp u x) s ts first inner rest h e ev = change_again changes.ScaleUp u x s ts first inner rest h e ev
  node_again (ScaleDown u x) s ts first inner rest h e ev = change_again changes.ScaleDown u x s ts first inner rest h e ev

  pub leaf_again : FormAgain SpellsLeaf outer (leaf_body room)
  leaf_again l ts first inner rest h e ev = node_again l.node l.span ts first inner rest h e ev

-- ---- a leaf whose opening parenthesis takes one of so many places

leaf_at_takes : (room : ℕ) → FormTakes SpellsLeaf room (leaf_at room)
unfolding leaf_at
leaf_at_takes room s items l rest some e =
    let a = bind_ok (next_of (room - 1) items) (λ p. leaf_behind (room - 1) s p.0 p.1) (l, rest) e in
    leaf_takes room (room - 1) (omega (arith, some)) s a.0.0 items a.0.1 l rest (next_ok (room - 1) items a.0.0 a.0.1 a.1) a.2

leaf_at_again : (room : ℕ) → FormAgain SpellsLeaf room (leaf_at room)
unfolding leaf_at
leaf_at_again room l ts first inner rest h e ev =
    let b = leaf_begins room l ts h in
    let some : 0 < room = even_open room b.0 b.1 b.2 (ap (room_after room) (sym b.3) ∙ ev) in
    leaf_again room (room - 1) (omega (arith, some)) l ts first inner rest h e ev

-- ---- what is done where a condition holds

simple_takes_at : (room : ℕ) (s : Span) (items : List Item) (ls : List Leaf) (rest : List Item) → 0 < room → (p : Piece) (r : List Item) → items ≡ tok p ∷ r → (h : HeadWord) → head_of p ≡ h → simple_with (room - 1) s p r h ≡ Ok (ls, rest) → FormTook SpellsSimple room ls s items rest
simple_takes_at room s items ls rest some p r whole Nothing h e =
    subst (λ (x : List Leaf × List Item). FormTook SpellsSimple room x.0 s items x.1) (ok_is ([], r) (ls, rest) e)
    (close_took SpellsSimple room (room - 1) (omega (arith, some)) [] s [] p items r (nothing_closes p h) whole refl (λ first opens place w. inl (around s p.span, [], w, inl (refl, refl))))
simple_takes_at room s items ls rest some p r whole And h e =
    let step = form_step (leaf_at (room - 1)) in
    let a = bind_ok (until_close step (room - 1) (length r) [] r) (λ ls. Ok (ls.0.0, ls.1)) (ls, rest) e in
    let t = until_takes SpellsLeaf with_last step (room - 1) (form_takes SpellsLeaf (room - 1) (leaf_at (room - 1)) (leaf_at_takes (room - 1))) (length r) [] a.0.0.0 a.0.0.1 r a.0.1 a.1 in
    let chain : Chain SpellsLeaf a.0.0.0 t.inner = subst (λ (xs : List Leaf). Chain SpellsLeaf xs t.inner) (added_all t.things a.0.0.0 t.adds) t.spelled in
    let is = worded p And h refl in
    subst (λ (x : List Leaf × List Item). FormTook SpellsSimple room x.0 s items x.1) (ok_is (a.0.0.0, a.0.1) (ls, rest) a.2)
    (close_took SpellsSimple room (room - 1) (omega (arith, some)) a.0.0.0 s (p ∷ t.inner) t.last items a.0.1 t.closes (whole ∙ ap (λ (is : List Item). tok p ∷ is) t.whole) (after_name (room - 1) p t.inner is.0 ∙ t.even)
    (λ first opens place w. inl (around s t.last.span, p ∷ t.inner, w, inr (p, t.inner, is, refl, chain))))
simple_takes_at room s items ls rest some p r whole _ h e =
    let a = bind_ok (leaf_behind (room - 1) s p r) (λ l. Ok (l.0 ∷ [], l.1)) (ls, rest) e in
    let t = leaf_takes room (room - 1) (omega (arith, some)) s p items r a.0.0 a.0.1 whole a.1 in
    subst (λ (x : List Leaf × List Item). FormTook SpellsSimple room x.0 s items x.1) (ok_is (a.0.0 ∷ [], a.0.1) (ls, rest) a.2)
    (record { inner = t.inner; whole = t.whole; spelled = λ first opens place. inr (a.0.0, refl, t.spelled first opens place); even = t.even })

pub simple_takes : (room : ℕ) → FormTakes SpellsSimple room (simple_at room)
unfolding simple_at
simple_takes room s items ls rest some e =
    let a = bind_ok (next_of (room - 1) items) (λ p. simple_with (room - 1) s p.0 p.1 (head_of p.0)) (ls, rest) e in
    simple_takes_at room s items ls rest some a.0.0 a.0.1 (next_ok (room - 1) items a.0.0 a.0.1 a.1) (head_of a.0.0) refl a.2

pub simple_begins : (room : ℕ) → Begins SpellsSimple room
simple_begins room ls ts h =
    ⊎_elim (λ (m : SpellsLeaves ls ts). let w = m.2 in (w.first, m.1 ++ w.last ∷ [], w.opens, w.whole)) (λ (o : (l : Leaf) × (ls ≡ l ∷ []) × SpellsLeaf l ts). leaf_begins room o.0 ts o.2) h

leaf_levels : (room : ℕ) → Levels SpellsLeaf with_last (form_step (leaf_at room)) room
leaf_levels room l ts h = level_leaf l.node l.span ts h

level_leaves : (ls : List Leaf) (ts : List Piece) → Chain SpellsLeaf ls ts → Level ts
level_leaves ls ts h = level_chain SpellsLeaf with_last (form_step (leaf_at 0)) 0 (leaf_levels 0) ls ts h

pub level_simple : (ls : List Leaf) (ts : List Piece) → SpellsSimple ls ts → Level ts
level_simple ls ts h =
    ⊎_elim
    (λ (m : SpellsLeaves ls ts).
    level_wrapped m.0 m.1 ts m.2
    (⊎_elim (λ (e : (ls ≡ []) × (m.1 ≡ [])). level_at m.1 [] e.1 (λ room. inl refl))
    (λ (e : (a : Piece) × (inner : List Piece) × IsWord (codes "and") a × (m.1 ≡ a ∷ inner) × Chain SpellsLeaf ls inner). level_at m.1 (e.0 ∷ e.1) e.3 (level_name e.0 e.1 e.2.0 (level_leaves ls e.1 e.4))) m.3))
    (λ (o : (l : Leaf) × (ls ≡ l ∷ []) × SpellsLeaf l ts). level_leaf o.0.node o.0.span ts o.2) h

abbrev simple_body : ℕ → Former (List Leaf)
simple_body room front items = next_of room items >>= λ p. simple_with room front p.0 p.1 (head_of p.0)

none_step : (room : ℕ) (front : Span) (items r1 : List Item) (p : Piece) → next_of room items ≡ Ok (p, r1) → head_of p ≡ Nothing → simple_body room front items ≡ Ok ([], r1)
none_step room front items r1 p e h = rw (e, h) refl

and_step : (room : ℕ) (front k : Span) (items r1 r2 : List Item) (p : Piece) (ls : List Leaf) → next_of room items ≡ Ok (p, r1) → head_of p ≡ And → until_close (form_step (leaf_at room)) room (length r1) [] r1 ≡ Ok ((ls, k), r2) → simple_body room front items ≡ Ok (ls, r2)
and_step room front k items r1 r2 p ls e h m = rw (e, h, m) refl

-- a single leaf
one_at : (room : ℕ) (front : Span) (p : Piece) (r : List Item) (l : Leaf) (rest : List Item) (h : HeadWord) → leaf_with room front p r h ≡ Ok (l, rest) → leaf_behind room front p r ≡ Ok (l, rest) → simple_with room front p r h ≡ Ok (l ∷ [], rest)
one_at room front p r l rest Nothing e f = absurd cc
one_at room front p r l rest And e f = absurd cc
one_at room front p r l rest _ e f = ap (λ (x : Read Leaf). x >>= λ l. Ok (l.0 ∷ [], l.1)) f

one_step : (room : ℕ) (front : Span) (items : List Item) (l : Leaf) (rest : List Item) → leaf_body room front items ≡ Ok (l, rest) → simple_body room front items ≡ Ok (l ∷ [], rest)
unfolding leaf_behind
one_step room front items l rest e =
    let a = bind_ok (next_of room items) (λ p. leaf_behind room front p.0 p.1) (l, rest) e in
    ap (λ (q : Read Piece). q >>= λ p. simple_with room front p.0 p.1 (head_of p.0)) a.1 ∙ one_at room front a.0.0 a.0.1 l rest (head_of a.0.0) a.2 a.2

module _ (outer room : ℕ) (under : suc room ≡ outer) where
  simple_body_again : FormAgain SpellsSimple outer (simple_body room)
  simple_body_again ls ts first inner rest h e ev =
      let read = simple_body room in
      ⊎_elim
      (λ (m : SpellsLeaves ls ts).
      let w = m.2 in
      ⊎_elim
      (λ (none : (ls ≡ []) × (m.1 ≡ [])).
      enters SpellsSimple outer read ls m.0 m.1 ts w first inner rest e (level_at m.1 [] none.1 (λ r. inl refl)) ev (λ r er eb.
      ap (λ (ps : List Piece). read w.first.span (toks ps (tok w.last ∷ rest))) none.1
      ∙ none_step room w.first.span (tok w.last ∷ rest) rest w.last (next_again room w.last rest (ap is_open w.closes)) (close_head w.last w.closes)
      ∙ (λ i. Ok (sym none.0 i, rest))))
      (λ (some : (a : Piece) × (members : List Piece) × IsWord (codes "and") a × (m.1 ≡ a ∷ members) × Chain SpellsLeaf ls members).
      let members = some.1 in
      enters SpellsSimple outer read ls m.0 m.1 ts w first inner rest e (level_at m.1 (some.0 ∷ members) some.3 (level_name some.0 members some.2.0 (level_leaves ls members some.4))) ev (λ r er eb.
      let inside : Even room members = even_behind room r some.0 members (ap is_flat some.2.0) (er ∙ sym under) (ap (room_after r) (sym some.3) ∙ eb) in
      let left = toks members (tok w.last ∷ rest) in
      ap (λ (ps : List Piece). read w.first.span (toks ps (tok w.last ∷ rest))) some.3
      ∙ and_step room w.first.span w.last.span (tok some.0 ∷ left) left rest some.0 ls (name_again room some.0 left some.2.0) (word_heads some.0 And some.2 refl)
      (until_again SpellsLeaf with_last (form_step (leaf_at room)) room (leaf_levels room) (form_again SpellsLeaf room (leaf_at room) (leaf_begins room) (leaf_at_again room)) (length left) [] ls ls members w.last rest some.4 inside (added_last [] ls) w.closes (enough members w.last rest))))
      m.3)
      (λ (o : (l : Leaf) × (ls ≡ l ∷ []) × SpellsLeaf l ts).
      one_step room first.span (toks inner rest) o.0 rest (leaf_again outer room under o.0 ts first inner rest o.2 e ev)
      ∙ (λ i. Ok (sym o.1 i, rest)))
      h

pub simple_again : (room : ℕ) → FormAgain SpellsSimple room (simple_at room)
unfolding simple_at
simple_again room ls ts first inner rest h e ev =
    let b = simple_begins room ls ts h in
    let some : 0 < room = even_open room b.0 b.1 b.2 (ap (room_after room) (sym b.3) ∙ ev) in
    simple_body_again room (room - 1) (omega (arith, some)) ls ts first inner rest h e ev
