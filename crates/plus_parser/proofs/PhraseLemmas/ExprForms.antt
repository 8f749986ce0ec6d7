-- An expression behind its opening parenthesis: what is read is spelled so, and what is spelled so is read.
use Rattle.std.proofs.Common.{◌≡◌, ℕ, zero, suc, ◌<◌, Bool, true, false, List, [], ◌∷◌, ◌++◌, Ok, refl, sym, ap, ◌∙◌, subst, arith}
use Rattle.plus_tokens.specs.declared.token.Op.TheVariants as ops
use Rattle.plus_tokens.specs.declared.span.Span.{Span}
use Rattle.plus_tree.specs.declared.terms.Use.{Use}
use Rattle.plus_tree.specs.Expr.{Expr, x_number, x_clock, x_fluent, x_sum, x_product, x_minus, x_difference, x_quotient, exprs_of}
use Rattle.plus_parser.specs.declared.phrases.words.Allowed.TheVariants as allows
use Rattle.plus_parser.specs.declared.phrases.words.ExprWord.{ExprWord}
use Rattle.plus_parser.specs.declared.phrases.words.ExprWord.TheVariants as exprs
use Rattle.plus_tokens.specs.Items.{Piece, Item, tok}
use Rattle.plus_parser.specs.Phrases.Reading.{◌>>=◌, next_of, is_open}
use Rattle.plus_parser.specs.Phrases.Words.{expr_head, is_close}
use Rattle.plus_parser.specs.Phrases.Grammar.{around, close_of, Former, use_of, use_end, expr_from, expr_next, pair_of, many_of, minus_with, minus_of, expr_with, expr_body, expr_at}
use Rattle.plus_parser.specs.Phrases.Spells.{IsSign, SpellsExpr, room_after}
use Rattle.plus_parser.proofs.PhraseLemmas.Tokens.{toks, toks-append, bind_ok, ok_is, done, next_ok, next_some, next_again, close_kind, token_takes}
use Rattle.plus_parser.proofs.PhraseLemmas.Names.{plain_name}
use Rattle.plus_parser.proofs.PhraseLemmas.Heads.{signed, plain_expr_is, signed_expr, plain_expr}
use Rattle.plus_parser.proofs.PhraseLemmas.Level.{Even, level_name, level_args, level_flat, level_append, level_expr, level_exprs, is_flat, after_name, after_flat, even_open, even_append, split_append}
use Rattle.plus_parser.proofs.PhraseLemmas.Forms.{FormTook, FormTakes, close_took, enters}
use Rattle.plus_parser.proofs.PhraseLemmas.Starts.{name_again, close_again, use_takes, use_again, use_spelled, use_made}
use Rattle.plus_parser.proofs.PhraseLemmas.ExprLaws.{not_open, from_takes, from_again, ExprAgain, next_takes, nexts_again, pair_takes, pair_again, list_of, list_of-exprs, many_takes, many_again}

module _ (room : ℕ) (read : Former Expr) where
  minus_took :
      FormTakes SpellsExpr room read → (s : Span) (p : Piece) (items : List Item) (x : Expr) (rest : List Item) → IsSign ops.Minus p
      → (y : Expr) (left : List Piece) → SpellsExpr y left → Even room left
      → (q : Piece) (r : List Item) → items ≡ tok p ∷ toks left (tok q ∷ r) → (is_open q.kind ≡ true → 0 < room)
      → (b : Bool) → is_close q.kind ≡ b → minus_with room read s y q r b ≡ Ok (x, rest) → FormTook SpellsExpr (suc room) x s items rest
  minus_took takes s p items x rest is y left h ev q r whole some true c e =
      let both = ok_is (x_minus y (around s q.span), r) (x, rest) e in
      subst (λ (z : Expr × List Item). FormTook SpellsExpr (suc room) z.0 s items z.1) both
      (close_took SpellsExpr (suc room) room refl (x_minus y (around s q.span)) s (p ∷ left) q items r (close_kind q.kind c) whole (after_flat room p left (ap is_flat is) ∙ ev)
      (λ first opens place w. (p, left, is, w, h)))
  minus_took takes s p items x rest is y left h ev q r whole some false c e =
      let a = bind_ok (expr_from read q r) (λ b. close_of room b.1 >>= λ k. Ok (x_difference y b.0 (around s k.0.span), k.1)) (x, rest) e in
      let d = bind_ok (close_of room a.0.1) (λ k. Ok (x_difference y a.0.0 (around s k.0.span), k.1)) (x, rest) a.2 in
      let both = ok_is (x_difference y a.0.0 (around s d.0.0.span), d.0.1) (x, rest) d.2 in
      let t = from_takes room read takes q r a.0.0 a.0.1 some a.1 in
      let k = token_takes (λ q. is_close q.kind) room d.0.0 a.0.1 d.0.1 d.1 in
      let right = q ∷ t.inner in
      let behind : tok q ∷ r ≡ toks right (tok d.0.0 ∷ d.0.1) = ap (λ (is : List Item). tok q ∷ is) (t.whole ∙ ap (toks t.inner) k.whole) in
      subst (λ (z : Expr × List Item). FormTook SpellsExpr (suc room) z.0 s items z.1) both
      (close_took SpellsExpr (suc room) room refl (x_difference y a.0.0 (around s d.0.0.span)) s (p ∷ (left ++ right)) d.0.0 items d.0.1 (close_kind d.0.0.kind k.fits)
      (whole ∙ ap (λ (is : List Item). tok p ∷ is) (ap (toks left) behind ∙ sym (toks-append left right (tok d.0.0 ∷ d.0.1))))
      (after_flat room p (left ++ right) (ap is_flat is) ∙ even_append room left right ev t.even)
      (λ first opens place w. (p, left, right, is, w, h, t.spelled)))

  minus_takes : FormTakes SpellsExpr room read → (s : Span) (p : Piece) (items r : List Item) (x : Expr) (rest : List Item) → items ≡ tok p ∷ r → IsSign ops.Minus p → minus_of room read s r ≡ Ok (x, rest) → FormTook SpellsExpr (suc room) x s items rest
  unfolding minus_of
  minus_takes takes s p items r x rest whole is e =
      let a = bind_ok (expr_next room read r) (λ a. next_of room a.1 >>= λ q. minus_with room read s a.0 q.0 q.1 (is_close q.0.kind)) (x, rest) e in
      let b = bind_ok (next_of room a.0.1) (λ q. minus_with room read s a.0.0 q.0 q.1 (is_close q.0.kind)) (x, rest) a.2 in
      let t = next_takes room read takes r a.0.0 a.0.1 a.1 in
      minus_took takes s p items x rest is a.0.0 t.inner t.spelled t.even b.0.0 b.0.1
      (whole ∙ ap (λ (is : List Item). tok p ∷ is) (t.whole ∙ ap (toks t.inner) (next_ok room a.0.1 b.0.0 b.0.1 b.1)))
      (next_some room a.0.1 b.0.0 b.0.1 b.1) (is_close b.0.0.kind) refl b.2

  body_takes : FormTakes SpellsExpr room read → FormTakes SpellsExpr (suc room) (expr_body room read)
  unfolding expr_body
  body_takes takes s items x rest some e =
      let a = bind_ok (next_of room items) (λ p. expr_with room read s p.0 p.1 (expr_head p.0)) (x, rest) e in
      at_head a.0.0 a.0.1 (next_ok room items a.0.0 a.0.1 a.1) (expr_head a.0.0) refl a.2
    where
      same : (y : Expr) (r : List Item) → done {A = Expr × List Item} (y, r) ≡ done (x, rest) → FormTook SpellsExpr (suc room) y s items r → FormTook SpellsExpr (suc room) x s items rest
      same y r e t = subst (λ (z : Expr × List Item). FormTook SpellsExpr (suc room) z.0 s items z.1) (ok_is (y, r) (x, rest) e) t

      at_head : (p : Piece) (r : List Item) → items ≡ tok p ∷ r → (h : ExprWord) → expr_head p ≡ h → expr_with room read s p r h ≡ Ok (x, rest) → FormTook SpellsExpr (suc room) x s items rest
      at_head p r whole exprs.Sum h e =
          let a = bind_ok (many_of room read r) (λ xs. Ok (x_sum (exprs_of xs.0.0) (around s xs.0.1), xs.1)) (x, rest) e in
          let t = many_takes room read takes r a.0.0 a.0.1 a.1 in
          let is = signed p exprs.Sum h refl in
          let y = x_sum (exprs_of a.0.0.0) (around s t.last.span) in
          same y a.0.1 ((λ i. Ok (x_sum (exprs_of a.0.0.0) (around s (t.place i)), a.0.1)) ∙ a.2)
          (close_took SpellsExpr (suc room) room refl y s (p ∷ t.inner) t.last items a.0.1 t.closes (whole ∙ ap (λ (is : List Item). tok p ∷ is) t.whole) (after_flat room p t.inner (ap is_flat is) ∙ t.even)
          (λ first opens place w. (p, t.inner, is, w, t.many, t.spelled)))
      at_head p r whole exprs.Product h e =
          let a = bind_ok (many_of room read r) (λ xs. Ok (x_product (exprs_of xs.0.0) (around s xs.0.1), xs.1)) (x, rest) e in
          let t = many_takes room read takes r a.0.0 a.0.1 a.1 in
          let is = signed p exprs.Product h refl in
          let y = x_product (exprs_of a.0.0.0) (around s t.last.span) in
          same y a.0.1 ((λ i. Ok (x_product (exprs_of a.0.0.0) (around s (t.place i)), a.0.1)) ∙ a.2)
          (close_took SpellsExpr (suc room) room refl y s (p ∷ t.inner) t.last items a.0.1 t.closes (whole ∙ ap (λ (is : List Item). tok p ∷ is) t.whole) (after_flat room p t.inner (ap is_flat is) ∙ t.even)
          (λ first opens place w. (p, t.inner, is, w, t.many, t.spelled)))
      at_head p r whole exprs.Minus h e = minus_takes takes s p items r x rest whole (signed p exprs.Minus h refl) e
      at_head p r whole exprs.Quotient h e =
          let a = bind_ok (pair_of room read r) (λ x. Ok (x_quotient x.0.0.0 x.0.0.1 (around s x.0.1), x.1)) (x, rest) e in
          let t = pair_takes room read takes r a.0.0 a.0.1 a.1 in
          let is = signed p exprs.Quotient h refl in
          let y = x_quotient a.0.0.0.0 a.0.0.0.1 (around s t.last.span) in
          same y a.0.1 ((λ i. Ok (x_quotient a.0.0.0.0 a.0.0.0.1 (around s (t.place i)), a.0.1)) ∙ a.2)
          (close_took SpellsExpr (suc room) room refl y s (p ∷ (t.left ++ t.right)) t.last items a.0.1 t.closes (whole ∙ ap (λ (is : List Item). tok p ∷ is) t.whole) (after_flat room p (t.left ++ t.right) (ap is_flat is) ∙ t.even)
          (λ first opens place w. (p, t.left, t.right, is, w, t.first, t.second)))
      at_head p r whole exprs.Plain h e =
          let a = bind_ok (use_end allows.Terms room s p r) (λ u. Ok (x_fluent u.0 u.0.span, u.1)) (x, rest) e in
          let u = use_takes allows.Terms room s p r a.0.0 a.0.1 a.1 in
          let plain = plain_expr_is p h in
          same (x_fluent a.0.0 a.0.0.span) a.0.1 a.2
          (close_took SpellsExpr (suc room) room refl (x_fluent a.0.0 a.0.0.span) s (p ∷ u.inner) u.last items a.0.1 u.closes (whole ∙ ap (λ (is : List Item). tok p ∷ is) u.whole) (after_name room p u.inner (plain_name p plain) ∙ u.even)
          (λ first opens place w. (refl, use_spelled allows.Terms a.0.0 s p u.last first u.args u.inner u.is plain opens u.closes place u.spelled)))
      at_head p r whole exprs.Other h e = absurd cc

  sum_step : (front k : Span) (items r1 r2 : List Item) (p : Piece) (xs : List Expr) → next_of room items ≡ Ok (p, r1) → expr_head p ≡ exprs.Sum → many_of room read r1 ≡ Ok ((xs, k), r2) → expr_body room read front items ≡ Ok (x_sum (exprs_of xs) (around front k), r2)
  unfolding expr_body
  sum_step front k items r1 r2 p xs e h m = rw (e, h, m) refl

  product_step : (front k : Span) (items r1 r2 : List Item) (p : Piece) (xs : List Expr) → next_of room items ≡ Ok (p, r1) → expr_head p ≡ exprs.Product → many_of room read r1 ≡ Ok ((xs, k), r2) → expr_body room read front items ≡ Ok (x_product (exprs_of xs) (around front k), r2)
  unfolding expr_body
  product_step front k items r1 r2 p xs e h m = rw (e, h, m) refl

  quotient_step : (front k : Span) (items r1 r2 : List Item) (p : Piece) (x y : Expr) → next_of room items ≡ Ok (p, r1) → expr_head p ≡ exprs.Quotient → pair_of room read r1 ≡ Ok (((x, y), k), r2) → expr_body room read front items ≡ Ok (x_quotient x y (around front k), r2)
  unfolding expr_body
  quotient_step front k items r1 r2 p x y e h m = rw (e, h, m) refl

  fluent_step : (front : Span) (items r1 r2 : List Item) (p : Piece) (u : Use) → next_of room items ≡ Ok (p, r1) → expr_head p ≡ exprs.Plain → use_end allows.Terms room front p r1 ≡ Ok (u, r2) → expr_body room read front items ≡ Ok (x_fluent u u.span, r2)
  unfolding expr_body
  fluent_step front items r1 r2 p u e h m = rw (e, h, m) refl

  minus_step : (front : Span) (items r1 r2 : List Item) (p : Piece) (x : Expr) → next_of room items ≡ Ok (p, r1) → expr_head p ≡ exprs.Minus → minus_of room read front r1 ≡ Ok (x, r2) → expr_body room read front items ≡ Ok (x, r2)
  unfolding expr_body
  minus_step front items r1 r2 p x e h m = rw (e, h) m

  negated_step : (front : Span) (q : Piece) (items r1 r2 : List Item) (x : Expr) → expr_next room read items ≡ Ok (x, r1) → next_of room r1 ≡ Ok (q, r2) → is_close q.kind ≡ true → minus_of room read front items ≡ Ok (x_minus x (around front q.span), r2)
  unfolding minus_of
  negated_step front q items r1 r2 x e1 e2 c = rw (e1, e2, c) refl

  difference_step : (front : Span) (q k : Piece) (items r1 r2 r3 r4 : List Item) (x y : Expr) → expr_next room read items ≡ Ok (x, r1) → next_of room r1 ≡ Ok (q, r2) → is_close q.kind ≡ false → expr_from read q r2 ≡ Ok (y, r3) → close_of room r3 ≡ Ok (k, r4) → minus_of room read front items ≡ Ok (x_difference x y (around front k.span), r4)
  unfolding minus_of
  difference_step front q k items r1 r2 r3 r4 x y e1 e2 c e3 e4 = rw (e1, e2, c, e3, e4) refl

  -- behind a token that is no parenthesis
  behind : (r : ℕ) (a : Piece) (ts : List Piece) → is_flat a.kind ≡ true → suc r ≡ suc room → Even r (a ∷ ts) → Even room ts
  behind r a ts f under er =
      let same : r ≡ room = omega (arith, under) in subst (λ n. Even n ts) same (sym (after_flat r a ts f) ∙ er)

  -- the first of these tokens is the first of those
  same_first : (p first : Piece) (inner ts : List Piece) → ts ≡ p ∷ [] → ts ≡ first ∷ inner → p ≡ first
  same_first p first inner ts e f = let both : p ∷ [] ≡ first ∷ inner = sym e ∙ f in cc

  body_again : ExprAgain room read → ExprAgain (suc room) (expr_body room read)
  body_again again (x_number n s) ts first inner rest h e opens ev =
      absurd (let no : false ≡ true = sym (not_open h.0.kind h.0.word h.0.span n h.1) ∙ ap (λ (p : Piece). is_open p.kind) (same_first h.0 first inner ts h.3 e) ∙ ap is_open opens in cc)
  body_again again (x_clock s) ts first inner rest h e opens ev =
      absurd (let no : false ≡ true = sym (ap is_open h.1) ∙ ap (λ (p : Piece). is_open p.kind) (same_first h.0 first inner ts h.3 e) ∙ ap is_open opens in cc)
  body_again again (x_fluent u s) ts first inner rest h e opens ev =
      let w = h.1.3 in
      let a = h.1.0 in
      let args = h.1.1 in
      let made = use_of a u.args (around w.first.span w.last.span) in
      let left = toks args (tok w.last ∷ rest) in
      let name = plain_name a h.1.2 in
      enters SpellsExpr (suc room) (expr_body room read) (x_fluent u s) u.span (a ∷ args) ts w first inner rest e (level_name a args name (level_args allows.Terms u.args args h.1.5)) ev (λ r under er.
      fluent_step w.first.span (tok a ∷ left) left rest a made (name_again room a left name) (plain_expr a h.1.2) (use_again allows.Terms room w.first.span a w.last u.args args rest w.closes h.1.5)
      ∙ ap (λ (v : Use). Ok (x_fluent v v.span, rest)) (use_made allows.Terms u ts h.1)
      ∙ ap (λ (place : Span). Ok (x_fluent u place, rest)) (sym h.0))
  body_again again (x_sum xs s) ts first inner rest h e opens ev =
      let w = h.3 in
      let a = h.0 in
      enters SpellsExpr (suc room) (expr_body room read) (x_sum xs s) s (a ∷ h.1) ts w first inner rest e (level_flat a h.1 (ap is_flat h.2) (level_exprs xs h.1 h.5)) ev (λ r under er.
      let left = toks h.1 (tok w.last ∷ rest) in
      sum_step w.first.span w.last.span (tok a ∷ left) left rest a (list_of xs) (next_again room a left (ap is_open h.2)) (signed_expr a ops.Plus h.2)
      (many_again room read again xs h.1 w.last rest h.4 h.5 (behind r a h.1 (ap is_flat h.2) under er) w.closes)
      ∙ (λ i. Ok (x_sum (list_of-exprs xs i) (sym w.place i), rest)))
  body_again again (x_product xs s) ts first inner rest h e opens ev =
      let w = h.3 in
      let a = h.0 in
      enters SpellsExpr (suc room) (expr_body room read) (x_product xs s) s (a ∷ h.1) ts w first inner rest e (level_flat a h.1 (ap is_flat h.2) (level_exprs xs h.1 h.5)) ev (λ r under er.
      let left = toks h.1 (tok w.last ∷ rest) in
      product_step w.first.span w.last.span (tok a ∷ left) left rest a (list_of xs) (next_again room a left (ap is_open h.2)) (signed_expr a ops.Times h.2)
      (many_again room read again xs h.1 w.last rest h.4 h.5 (behind r a h.1 (ap is_flat h.2) under er) w.closes)
      ∙ (λ i. Ok (x_product (list_of-exprs xs i) (sym w.place i), rest)))
  body_again again (x_minus x s) ts first inner rest h e opens ev =
      let w = h.3 in
      let a = h.0 in
      enters SpellsExpr (suc room) (expr_body room read) (x_minus x s) s (a ∷ h.1) ts w first inner rest e (level_flat a h.1 (ap is_flat h.2) (level_expr x h.1 h.4)) ev (λ r under er.
      let left = toks h.1 (tok w.last ∷ rest) in
      minus_step w.first.span (tok a ∷ left) left rest a (x_minus x (around w.first.span w.last.span)) (next_again room a left (ap is_open h.2)) (signed_expr a ops.Minus h.2)
      (negated_step w.first.span w.last left (tok w.last ∷ rest) rest x (nexts_again room read again x h.1 (tok w.last ∷ rest) h.4 (behind r a h.1 (ap is_flat h.2) under er)) (next_again room w.last rest (ap is_open w.closes)) (ap is_close w.closes))
      ∙ (λ i. Ok (x_minus x (sym w.place i), rest)))
  body_again again (x_difference x y s) ts first inner rest h e opens ev =
      let w = h.4 in
      let a = h.0 in
      let both = h.1 ++ h.2 in
      enters SpellsExpr (suc room) (expr_body room read) (x_difference x y s) s (a ∷ both) ts w first inner rest e (level_flat a both (ap is_flat h.3) (level_append h.1 h.2 (level_expr x h.1 h.5) (level_expr y h.2 h.6))) ev (λ r under er.
      let evens = split_append room h.1 h.2 (level_expr x h.1 h.5) (behind r a both (ap is_flat h.3) under er) in
      let k = tok w.last ∷ rest in
      let b = from_again room read again y h.2 k h.6 evens.1 in
      let left = toks both k in
      let shape : left ≡ toks h.1 (tok b.first ∷ toks b.inner k) = toks-append h.1 h.2 k ∙ ap (λ (ps : List Piece). toks h.1 (toks ps k)) b.whole in
      minus_step w.first.span (tok a ∷ left) left rest a (x_difference x y (around w.first.span w.last.span)) (next_again room a left (ap is_open h.3)) (signed_expr a ops.Minus h.3)
      (ap (minus_of room read w.first.span) shape
      ∙ difference_step w.first.span b.first w.last (toks h.1 (tok b.first ∷ toks b.inner k)) (tok b.first ∷ toks b.inner k) (toks b.inner k) k rest x y
      (nexts_again room read again x h.1 (tok b.first ∷ toks b.inner k) h.5 evens.0) b.next b.goes b.reads (close_again room w.last rest w.closes))
      ∙ (λ i. Ok (x_difference x y (sym w.place i), rest)))
  body_again again (x_quotient x y s) ts first inner rest h e opens ev =
      let w = h.4 in
      let a = h.0 in
      let both = h.1 ++ h.2 in
      enters SpellsExpr (suc room) (expr_body room read) (x_quotient x y s) s (a ∷ both) ts w first inner rest e (level_flat a both (ap is_flat h.3) (level_append h.1 h.2 (level_expr x h.1 h.5) (level_expr y h.2 h.6))) ev (λ r under er.
      let left = toks both (tok w.last ∷ rest) in
      quotient_step w.first.span w.last.span (tok a ∷ left) left rest a x y (next_again room a left (ap is_open h.3)) (signed_expr a ops.Divide h.3)
      (pair_again room read again x y h.1 h.2 w.last rest h.5 h.6 (behind r a both (ap is_flat h.3) under er) w.closes)
      ∙ (λ i. Ok (x_quotient x y (sym w.place i), rest)))

pub expr_takes : (room : ℕ) → FormTakes SpellsExpr room (expr_at room)
unfolding expr_at
expr_takes zero s items x rest some e = absurd cc
expr_takes (suc room) s items x rest some e = body_takes room (expr_at room) (expr_takes room) s items x rest some e

pub expr_again : (room : ℕ) → ExprAgain room (expr_at room)
unfolding expr_at
expr_again zero x ts first inner rest h e opens ev =
    let no : 0 < 0 = even_open 0 first inner opens (ap (room_after 0) (sym e) ∙ ev) in absurd (omega (arith, no))
expr_again (suc room) x ts first inner rest h e opens ev = body_again room (expr_at room) (expr_again room) x ts first inner rest h e opens ev
