-- A condition that is read is spelled so, and one that is spelled is read.
use Rattle.std.proofs.Common.{◌≡◌, ℕ, zero, suc, ◌<◌, Bool, true, false, cond, List, [], ◌∷◌, ◌++◌, length, Some, Ok, refl, sym, ap, ◌∙◌, subst, inl, inr, ⊎_elim, arith, Err}
use Rattle.std.specs.Prelude.{◌&&◌, codes}
use Rattle.plus_tokens.specs.declared.token.Kind.{Kind}
use Rattle.plus_tokens.specs.declared.token.Kind.TheVariants as kinds
use Rattle.plus_tokens.specs.declared.span.Span.{Span}
use Rattle.plus_tokens.specs.declared.token.Op.TheVariants as ops
use Rattle.plus_tree.specs.declared.terms.Term.{Term}
use Rattle.plus_tree.specs.declared.terms.TypedName.{TypedName}
use Rattle.plus_tree.specs.declared.faults.TextFault.TheVariants as faults
use Rattle.plus_tree.specs.declared.terms.Use.{Use}
use Rattle.plus_tree.specs.declared.terms.Literal.{Literal}
use Rattle.plus_tree.specs.declared.terms.Comparison.{Comparison}
use Rattle.plus_tree.specs.declared.terms.Comparison.TheVariants as comparisons
use Rattle.std.proofs.lemmas.Bool.{cond-true, and_parts}
use Rattle.plus_tree.specs.Expr.{Expr, x_number, x_clock, x_fluent, x_sum, x_product, x_minus, x_difference, x_quotient}
use Rattle.plus_tree.specs.Cond.{Cond, c_all, c_any, c_not, c_imply, c_atom, c_compare, Conds, no_conds, more_conds, conds_of, c_forall, c_exists, c_same}
use Rattle.plus_parser.specs.declared.phrases.words.Allowed.TheVariants as allows
use Rattle.plus_parser.specs.declared.phrases.words.HeadWord.{HeadWord}
use Rattle.plus_parser.specs.declared.phrases.words.HeadWord.TheVariants.{Nothing, And, Or, Not, Imply, ForAll, Exists, When, Change, Compare, Plain, Other}
use Rattle.plus_tokens.specs.Items.{Piece, Item, tok}
use Rattle.plus_parser.specs.Phrases.Literals.{kind_literal}
use Rattle.plus_parser.specs.Phrases.Reading.{◌>>=◌, Read, next_of, is_open}
use Rattle.plus_parser.specs.Phrases.Words.{head_of, is_close}
use Rattle.plus_parser.specs.Phrases.Grammar.{around, open_of, close_of, until_close, Former, form_step, use_of, use_end, expr_from, expr_next, expr_at, term_of, variables_of}
use Rattle.plus_parser.specs.Forms.ReadingForms.{may_be_same, compared_with, compared_of, cond_with, cond_body, cond_at, form_next, both_of, term_next}
use Rattle.plus_parser.specs.Phrases.Words.{is_term}
use Rattle.plus_parser.specs.Phrases.Spells.{IsClose, IsWord, IsSign, Chain, with_last, sign_of, SpellsExpr, room_after, SpellsVariables}
use Rattle.plus_parser.specs.Forms.SpellsForms.{SpellsCond, SpellsConds}
use Rattle.plus_parser.proofs.PhraseLemmas.Tokens.{toks, toks-append, enough, bind_ok, ok_is, done, next_ok, next_some, next_again, open_kind, close_kind, token_takes, wanted}
use Rattle.plus_parser.proofs.PhraseLemmas.Names.{plain_name}
use Rattle.plus_parser.proofs.PhraseLemmas.Heads.{worded, nothing_closes, compare_is, plain_is, plain_head, close_head, word_heads, sign_heads}
use Rattle.plus_parser.proofs.PhraseLemmas.Level.{Even, level_at, level_name, level_args, level_flat, level_append, level_expr, is_flat, after_name, after_flat, even_open, even_append, split_append, allowed_flat}
use Rattle.plus_parser.proofs.FormLemmas.FormLevels.{level_cond, level_conds, level_term}
use Rattle.plus_parser.proofs.PhraseLemmas.UntilTakes.{until_takes}
use Rattle.plus_parser.proofs.PhraseLemmas.UntilAgain.{until_again}
use Rattle.plus_parser.proofs.PhraseLemmas.Forms.{FormTook, FormTakes, FormAgain, Begins, close_took, enters, form_takes, form_again, added_all, added_last}
use Rattle.plus_parser.proofs.PhraseLemmas.Starts.{name_again, open_again, close_again, use_takes, use_again, use_spelled, use_made}
use Rattle.plus_parser.proofs.PhraseLemmas.Flat.{flat_piece, flat_next}
use Rattle.plus_parser.proofs.PhraseLemmas.TypedLists.{level_variables, variables_takes, variables_again}
use Rattle.plus_parser.proofs.FormLemmas.BothLaws.{even_behind, form_next_takes, form_next_again, both_form, both_again}
use Rattle.plus_parser.proofs.PhraseLemmas.ExprLaws.{from_takes, from_again, next_takes, nexts_again}
use Rattle.plus_parser.proofs.PhraseLemmas.ExprForms.{expr_takes, expr_again}

-- ---- comparisons

number_no_term : (k : Kind) (w : List ℕ) (s : Span) (n : Literal) → kind_literal k w s ≡ Some n → is_term k ≡ false
unfolding kind_literal
number_no_term kinds.Name w s n e = absurd cc
number_no_term kinds.Variable w s n e = absurd cc
number_no_term _ w s n e = refl

same_term : (p first : Piece) (inner more ts : List Piece) → ts ≡ p ∷ more → ts ≡ first ∷ inner → is_term p.kind ≡ false → is_term first.kind ≡ false
same_term p first inner more ts e f t =
    let both : p ∷ more ≡ first ∷ inner = sym e ∙ f in
    let same : p ≡ first = cc in
    sym (ap (λ (q : Piece). is_term q.kind) same) ∙ t

-- no expression begins with a term
expr_no_term : (x : Expr) (ts : List Piece) (first : Piece) (inner : List Piece) → SpellsExpr x ts → ts ≡ first ∷ inner → is_term first.kind ≡ false
expr_no_term (x_number n s) ts first inner h e = same_term h.0 first inner [] ts h.3 e (number_no_term h.0.kind h.0.word h.0.span n h.1)
expr_no_term (x_clock s) ts first inner h e = same_term h.0 first inner [] ts h.3 e (ap is_term h.1)
expr_no_term (x_fluent u s) ts first inner h e = let w = h.1.3 in same_term w.first first inner ((h.1.0 ∷ h.1.1) ++ w.last ∷ []) ts w.whole e (ap is_term w.opens)
expr_no_term (x_sum es s) ts first inner h e = let w = h.3 in same_term w.first first inner ((h.0 ∷ h.1) ++ w.last ∷ []) ts w.whole e (ap is_term w.opens)
expr_no_term (x_product es s) ts first inner h e = let w = h.3 in same_term w.first first inner ((h.0 ∷ h.1) ++ w.last ∷ []) ts w.whole e (ap is_term w.opens)
expr_no_term (x_minus x s) ts first inner h e = let w = h.3 in same_term w.first first inner ((h.0 ∷ h.1) ++ w.last ∷ []) ts w.whole e (ap is_term w.opens)
expr_no_term (x_difference x y s) ts first inner h e = let w = h.4 in same_term w.first first inner ((h.0 ∷ (h.1 ++ h.2)) ++ w.last ∷ []) ts w.whole e (ap is_term w.opens)
expr_no_term (x_quotient x y s) ts first inner h e = let w = h.4 in same_term w.first first inner ((h.0 ∷ (h.1 ++ h.2)) ++ w.last ∷ []) ts w.whole e (ap is_term w.opens)

and_false : (b : Bool) → (b && false) ≡ false
and_false true = refl
and_false false = refl

same_sign : (sign : Comparison) → may_be_same sign ≡ true → sign_of sign ≡ ops.Equal
same_sign comparisons.Equal e = refl
same_sign _ e = absurd cc

-- a term that was read
record TermTook (t : Term) (items rest : List Item) : Type 0 where
  token : Piece
  fits : is_term token.kind ≡ true
  is : t ≡ term_of token
  whole : items ≡ tok token ∷ rest

term_takes : (room : ℕ) (items : List Item) (t : Term) (rest : List Item) → term_next room items ≡ Ok (t, rest) → TermTook t items rest
unfolding term_next
term_takes room items t rest e =
    let a = bind_ok (next_of room items) (λ p. cond (is_term p.0.kind) (Ok (term_of p.0, p.1)) (Err (faults.Form p.0.span))) (t, rest) e in
    let w = wanted (is_term a.0.0.kind) (faults.Form a.0.0.span) (Ok (term_of a.0.0, a.0.1)) (t, rest) a.2 in
    let both = ok_is (term_of a.0.0, a.0.1) (t, rest) w.1 in
    record {
      token = a.0.0;
      fits = w.0;
      is = sym (ap (λ (x : Term × List Item). x.0) both);
      whole = next_ok room items a.0.0 a.0.1 a.1 ∙ ap (λ (x : Term × List Item). tok a.0.0 ∷ x.1) both;
    }

term_again : (room : ℕ) (p : Piece) (rest : List Item) → is_term p.kind ≡ true → term_next room (tok p ∷ rest) ≡ Ok (term_of p, rest)
unfolding term_next
term_again room p rest f =
    ap (λ (q : Read Piece). q >>= λ p. cond (is_term p.0.kind) (Ok (term_of p.0, p.1)) (Err (faults.Form p.0.span))) (flat_next room p rest (flat_piece p (allowed_flat allows.Terms p.kind f)))
    ∙ cond-true (is_term p.kind) (Ok (term_of p, rest)) (Err (faults.Form p.span)) f

compared_takes : (room : ℕ) (sign : Comparison) (s : Span) (p : Piece) (items r : List Item) (c : Cond) (rest : List Item) → items ≡ tok p ∷ r → IsSign (sign_of sign) p → compared_of sign room s r ≡ Ok (c, rest) → FormTook SpellsCond (suc room) c s items rest
unfolding compared_of
compared_takes room sign s p items r c rest whole is e =
    let a = bind_ok (next_of room r) (λ q. compared_with sign room s q.0 q.1 (may_be_same sign && is_term q.0.kind)) (c, rest) e in
    at_test a.0.0 a.0.1 (next_ok room r a.0.0 a.0.1 a.1) (next_some room r a.0.0 a.0.1 a.1) (may_be_same sign && is_term a.0.0.kind) refl a.2
  where
    at_test : (q : Piece) (r' : List Item) → r ≡ tok q ∷ r' → (is_open q.kind ≡ true → 0 < room) → (b : Bool) → (may_be_same sign && is_term q.kind) ≡ b → compared_with sign room s q r' b ≡ Ok (c, rest) → FormTook SpellsCond (suc room) c s items rest
    at_test q r' next some true t e =
        let both = and_parts (may_be_same sign) (is_term q.kind) t in
        let made = λ (t : Term) (k : Span). let x : Cond = c_same (term_of q) t (around s k) in x in
        let a = bind_ok (term_next room r') (λ t. close_of room t.1 >>= λ k. Ok (made t.0 k.0.span, k.1)) (c, rest) e in
        let d = bind_ok (close_of room a.0.1) (λ k. Ok (made a.0.0 k.0.span, k.1)) (c, rest) a.2 in
        let u = term_takes room r' a.0.0 a.0.1 a.1 in
        let k = token_takes (λ q. is_close q.kind) room d.0.0 a.0.1 d.0.1 d.1 in
        let n = u.token in
        subst (λ (x : Cond × List Item). FormTook SpellsCond (suc room) x.0 s items x.1) (ok_is (made a.0.0 d.0.0.span, d.0.1) (c, rest) d.2)
        (close_took SpellsCond (suc room) room refl (made a.0.0 d.0.0.span) s (p ∷ q ∷ n ∷ []) d.0.0 items d.0.1 (close_kind d.0.0.kind k.fits)
        (whole ∙ ap (λ (is : List Item). tok p ∷ is) (next ∙ ap (λ (is : List Item). tok q ∷ is) (u.whole ∙ ap (λ (is : List Item). tok n ∷ is) k.whole)))
        (after_flat room p (q ∷ n ∷ []) (ap is_flat is) ∙ after_flat room q (n ∷ []) (allowed_flat allows.Terms q.kind both.1) ∙ after_flat room n [] (allowed_flat allows.Terms n.kind u.fits))
        (λ first opens place w. (p, q ∷ [], n ∷ [], is ∙ ap kinds.Op (same_sign sign both.0), w, (q, both.1, refl, refl), (n, u.fits, u.is, refl))))
    at_test q r' next some false t e =
        let made = λ (x y : Expr) (k : Span). let z : Cond = c_compare sign x y (around s k) in z in
        let a = bind_ok (expr_from (expr_at room) q r') (λ x. expr_next room (expr_at room) x.1 >>= λ y. close_of room y.1 >>= λ k. Ok (made x.0 y.0 k.0.span, k.1)) (c, rest) e in
        let b = bind_ok (expr_next room (expr_at room) a.0.1) (λ y. close_of room y.1 >>= λ k. Ok (made a.0.0 y.0 k.0.span, k.1)) (c, rest) a.2 in
        let d = bind_ok (close_of room b.0.1) (λ k. Ok (made a.0.0 b.0.0 k.0.span, k.1)) (c, rest) b.2 in
        let u = from_takes room (expr_at room) (expr_takes room) q r' a.0.0 a.0.1 some a.1 in
        let v = next_takes room (expr_at room) (expr_takes room) a.0.1 b.0.0 b.0.1 b.1 in
        let k = token_takes (λ q. is_close q.kind) room d.0.0 b.0.1 d.0.1 d.1 in
        let left = q ∷ u.inner in
        let both = left ++ v.inner in
        let after : r ≡ toks both (tok d.0.0 ∷ d.0.1) = next ∙ ap (λ (is : List Item). tok q ∷ is) u.whole ∙ ap (toks left) (v.whole ∙ ap (toks v.inner) k.whole) ∙ sym (toks-append left v.inner (tok d.0.0 ∷ d.0.1)) in
        subst (λ (x : Cond × List Item). FormTook SpellsCond (suc room) x.0 s items x.1) (ok_is (made a.0.0 b.0.0 d.0.0.span, d.0.1) (c, rest) d.2)
        (close_took SpellsCond (suc room) room refl (made a.0.0 b.0.0 d.0.0.span) s (p ∷ both) d.0.0 items d.0.1 (close_kind d.0.0.kind k.fits)
        (whole ∙ ap (λ (is : List Item). tok p ∷ is) after)
        (after_flat room p both (ap is_flat is) ∙ even_append room left v.inner u.even v.even)
        (λ first opens place w. (p, left, v.inner, is, w, u.spelled, v.spelled)))

same_step : (room : ℕ) (front : Span) (q k : Piece) (t : Term) (items r1 r2 r3 : List Item) → next_of room items ≡ Ok (q, r1) → is_term q.kind ≡ true → term_next room r1 ≡ Ok (t, r2) → close_of room r2 ≡ Ok (k, r3) → compared_of comparisons.Equal room front items ≡ Ok (c_same (term_of q) t (around front k.span), r3)
unfolding compared_of
same_step room front q k t items r1 r2 r3 e f e1 e2 = rw (e, f, e1, e2) refl

sides_step : (room : ℕ) (sign : Comparison) (front : Span) (q k : Piece) (x y : Expr) (items r1 r2 r3 r4 : List Item) → next_of room items ≡ Ok (q, r1) → (may_be_same sign && is_term q.kind) ≡ false → expr_from (expr_at room) q r1 ≡ Ok (x, r2) → expr_next room (expr_at room) r2 ≡ Ok (y, r3) → close_of room r3 ≡ Ok (k, r4) → compared_of sign room front items ≡ Ok (c_compare sign x y (around front k.span), r4)
unfolding compared_of
sides_step room sign front q k x y items r1 r2 r3 r4 e f e1 e2 e3 = rw (e, f, e1, e2, e3) refl

sides_again :
    (room : ℕ) (sign : Comparison) (front : Span) (x y : Expr) (left right : List Piece) (last : Piece) (rest : List Item) → SpellsExpr x left → SpellsExpr y right → Even room (left ++ right) → IsClose last
    → compared_of sign room front (toks (left ++ right) (tok last ∷ rest)) ≡ Ok (c_compare sign x y (around front last.span), rest)
sides_again room sign front x y left right last rest hx hy ev close =
    let k = tok last ∷ rest in
    let both = split_append room left right (level_expr x left hx) ev in
    let t = from_again room (expr_at room) (expr_again room) x left (toks right k) hx both.0 in
    let fresh : (may_be_same sign && is_term t.first.kind) ≡ false = ap (λ b. may_be_same sign && b) (expr_no_term x left t.first t.inner hx t.whole) ∙ and_false (may_be_same sign) in
    ap (compared_of sign room front) (toks-append left right k ∙ ap (λ (ps : List Piece). toks ps (toks right k)) t.whole)
    ∙ sides_step room sign front t.first last x y (tok t.first ∷ toks t.inner (toks right k)) (toks t.inner (toks right k)) (toks right k) k rest t.next fresh t.reads (nexts_again room (expr_at room) (expr_again room) y right k hy both.1) (close_again room last rest close)

-- ---- conditions

pub chain_conds : (cs : List Cond) (ts : List Piece) → Chain SpellsCond cs ts → SpellsConds (conds_of cs) ts
chain_conds [] ts h = h
chain_conds (c ∷ cs) ts h = (h.0, h.1, h.2, chain_conds cs h.1 h.3, h.4)

abbrev list_of : Conds → List Cond
list_of no_conds = []
list_of (more_conds c cs) = c ∷ list_of cs

list_of-conds : (cs : Conds) → conds_of (list_of cs) ≡ cs
list_of-conds no_conds = refl
list_of-conds (more_conds c cs) = ap (more_conds c) (list_of-conds cs)

conds_chain : (cs : Conds) (ts : List Piece) → SpellsConds cs ts → Chain SpellsCond (list_of cs) ts
conds_chain no_conds ts h = h
conds_chain (more_conds c cs) ts h = (h.0, h.1, h.2, conds_chain cs h.1 h.3, h.4)

-- a condition begins with an opening parenthesis
pub cond_begins : (room : ℕ) → Begins SpellsCond room
cond_begins room (c_all cs s) ts h = let w = h.1 in (w.first, h.0 ++ w.last ∷ [], w.opens, w.whole)
cond_begins room (c_any cs s) ts h = let w = h.3 in (w.first, (h.0 ∷ h.1) ++ w.last ∷ [], w.opens, w.whole)
cond_begins room (c_imply c d s) ts h = let w = h.4 in (w.first, (h.0 ∷ (h.1 ++ h.2)) ++ w.last ∷ [], w.opens, w.whole)
cond_begins room (c_forall vs c s) ts h = let w = h.4 in (w.first, (h.0 ∷ (h.1 ++ h.2)) ++ w.last ∷ [], w.opens, w.whole)
cond_begins room (c_exists vs c s) ts h = let w = h.4 in (w.first, (h.0 ∷ (h.1 ++ h.2)) ++ w.last ∷ [], w.opens, w.whole)
cond_begins room (c_same t u s) ts h = let w = h.4 in (w.first, (h.0 ∷ (h.1 ++ h.2)) ++ w.last ∷ [], w.opens, w.whole)
cond_begins room (c_compare sign x y s) ts h = let w = h.4 in (w.first, (h.0 ∷ (h.1 ++ h.2)) ++ w.last ∷ [], w.opens, w.whole)
cond_begins room (c_not c s) ts h = let w = h.3 in (w.first, (h.0 ∷ h.1) ++ w.last ∷ [], w.opens, w.whole)
cond_begins room (c_atom u s) ts h = let w = h.1.3 in (w.first, (h.1.0 ∷ h.1.1) ++ w.last ∷ [], w.opens, w.whole)

body_takes : (room : ℕ) (read : Former Cond) → FormTakes SpellsCond room read → FormTakes SpellsCond (suc room) (cond_body room read)
unfolding cond_body
body_takes room read takes s items c rest some e =
    let a = bind_ok (next_of room items) (λ p. cond_with room read s p.0 p.1 (head_of p.0)) (c, rest) e in
    at_head a.0.0 a.0.1 (next_ok room items a.0.0 a.0.1 a.1) (head_of a.0.0) refl a.2
  where
    same : (c' : Cond) (r : List Item) → done {A = Cond × List Item} (c', r) ≡ done (c, rest) → FormTook SpellsCond (suc room) c' s items r → FormTook SpellsCond (suc room) c s items rest
    same c' r e t = subst (λ (x : Cond × List Item). FormTook SpellsCond (suc room) x.0 s items x.1) (ok_is (c', r) (c, rest) e) t

    at_head : (p : Piece) (r : List Item) → items ≡ tok p ∷ r → (h : HeadWord) → head_of p ≡ h → cond_with room read s p r h ≡ Ok (c, rest) → FormTook SpellsCond (suc room) c s items rest
    at_head p r whole Nothing h e =
        same (c_all no_conds (around s p.span)) r e (close_took SpellsCond (suc room) room refl (c_all no_conds (around s p.span)) s [] p items r (nothing_closes p h) whole refl (λ first opens place w. ([], w, inl (refl, refl))))
    at_head p r whole And h e =
        let a = bind_ok (until_close (form_step read) room (length r) [] r) (λ cs. Ok (c_all (conds_of cs.0.0) (around s cs.0.1), cs.1)) (c, rest) e in
        let t = until_takes SpellsCond with_last (form_step read) room (form_takes SpellsCond room read takes) (length r) [] a.0.0.0 a.0.0.1 r a.0.1 a.1 in
        let cs = a.0.0.0 in
        let chain : Chain SpellsCond cs t.inner = subst (λ (xs : List Cond). Chain SpellsCond xs t.inner) (added_all t.things cs t.adds) t.spelled in
        let is = worded p And h refl in
        same (c_all (conds_of cs) (around s t.last.span)) a.0.1 ((λ i. Ok (c_all (conds_of cs) (around s (t.place i)), a.0.1)) ∙ a.2)
        (close_took SpellsCond (suc room) room refl (c_all (conds_of cs) (around s t.last.span)) s (p ∷ t.inner) t.last items a.0.1 t.closes (whole ∙ ap (λ (is : List Item). tok p ∷ is) t.whole) (after_name room p t.inner is.0 ∙ t.even)
        (λ first opens place w. (p ∷ t.inner, w, inr (p, t.inner, is, refl, chain_conds cs t.inner chain))))
    at_head p r whole Or h e =
        let a = bind_ok (until_close (form_step read) room (length r) [] r) (λ cs. Ok (c_any (conds_of cs.0.0) (around s cs.0.1), cs.1)) (c, rest) e in
        let t = until_takes SpellsCond with_last (form_step read) room (form_takes SpellsCond room read takes) (length r) [] a.0.0.0 a.0.0.1 r a.0.1 a.1 in
        let cs = a.0.0.0 in
        let chain : Chain SpellsCond cs t.inner = subst (λ (xs : List Cond). Chain SpellsCond xs t.inner) (added_all t.things cs t.adds) t.spelled in
        let is = worded p Or h refl in
        same (c_any (conds_of cs) (around s t.last.span)) a.0.1 ((λ i. Ok (c_any (conds_of cs) (around s (t.place i)), a.0.1)) ∙ a.2)
        (close_took SpellsCond (suc room) room refl (c_any (conds_of cs) (around s t.last.span)) s (p ∷ t.inner) t.last items a.0.1 t.closes (whole ∙ ap (λ (is : List Item). tok p ∷ is) t.whole) (after_name room p t.inner is.0 ∙ t.even)
        (λ first opens place w. (p, t.inner, is, w, chain_conds cs t.inner chain)))
    at_head p r whole Imply h e =
        let is = worded p Imply h refl in
        let next = form_next_takes SpellsCond room read takes in
        both_form SpellsCond SpellsCond room (form_next room read) (form_next room read) SpellsCond c_imply (suc room) refl s p items r c rest whole (ap is_flat is.0)
        (λ d d' k left right ts w hd hd'. (p, left, right, is, w, hd, hd')) next next e
    at_head p r whole ForAll h e =
        let is = worded p ForAll h refl in
        both_form SpellsVariables SpellsCond room (variables_of room) (form_next room read) SpellsCond c_forall (suc room) refl s p items r c rest whole (ap is_flat is.0)
        (λ vs d k left right ts w hv hd. (p, left, right, is, w, hv, hd)) (variables_takes room) (form_next_takes SpellsCond room read takes) e
    at_head p r whole Exists h e =
        let is = worded p Exists h refl in
        both_form SpellsVariables SpellsCond room (variables_of room) (form_next room read) SpellsCond c_exists (suc room) refl s p items r c rest whole (ap is_flat is.0)
        (λ vs d k left right ts w hv hd. (p, left, right, is, w, hv, hd)) (variables_takes room) (form_next_takes SpellsCond room read takes) e
    at_head p r whole (Compare sign) h e = compared_takes room sign s p items r c rest whole (compare_is p sign h) e
    at_head p r whole Not h e =
        let a = bind_ok (open_of room r) (λ o. read o.0.span o.1 >>= λ x. close_of room x.1 >>= λ k. Ok (c_not x.0 (around s k.0.span), k.1)) (c, rest) e in
        let b = bind_ok (read a.0.0.span a.0.1) (λ x. close_of room x.1 >>= λ k. Ok (c_not x.0 (around s k.0.span), k.1)) (c, rest) a.2 in
        let d = bind_ok (close_of room b.0.1) (λ k. Ok (c_not b.0.0 (around s k.0.span), k.1)) (c, rest) b.2 in
        let o = token_takes (λ q. is_open q.kind) room a.0.0 r a.0.1 a.1 in
        let opening = open_kind a.0.0.kind o.fits in
        let t = takes a.0.0.span a.0.1 b.0.0 b.0.1 (o.room_left o.fits) b.1 in
        let k = token_takes (λ q. is_close q.kind) room d.0.0 b.0.1 d.0.1 d.1 in
        let is = worded p Not h refl in
        let inner = a.0.0 ∷ t.inner in
        same (c_not b.0.0 (around s d.0.0.span)) d.0.1 d.2
        (close_took SpellsCond (suc room) room refl (c_not b.0.0 (around s d.0.0.span)) s (p ∷ inner) d.0.0 items d.0.1 (close_kind d.0.0.kind k.fits)
        (whole ∙ ap (λ (is : List Item). tok p ∷ is) (o.whole ∙ ap (λ (is : List Item). tok a.0.0 ∷ is) (t.whole ∙ ap (toks t.inner) k.whole)))
        (after_name room p inner is.0 ∙ t.even a.0.0 opening)
        (λ first opens place w. (p, inner, is, w, t.spelled a.0.0 opening refl)))
    at_head p r whole Plain h e =
        let a = bind_ok (use_end allows.Terms room s p r) (λ u. Ok (c_atom u.0 u.0.span, u.1)) (c, rest) e in
        let u = use_takes allows.Terms room s p r a.0.0 a.0.1 a.1 in
        let plain = plain_is p h in
        same (c_atom a.0.0 a.0.0.span) a.0.1 a.2
        (close_took SpellsCond (suc room) room refl (c_atom a.0.0 a.0.0.span) s (p ∷ u.inner) u.last items a.0.1 u.closes (whole ∙ ap (λ (is : List Item). tok p ∷ is) u.whole) (after_name room p u.inner (plain_name p plain) ∙ u.even)
        (λ first opens place w. (refl, use_spelled allows.Terms a.0.0 s p u.last first u.args u.inner u.is plain opens u.closes place u.spelled)))
    at_head p r whole When h e = absurd cc
    at_head p r whole (Change change) h e = absurd cc
    at_head p r whole Other h e = absurd cc

pub cond_takes : (room : ℕ) → FormTakes SpellsCond room (cond_at room)
unfolding cond_at
cond_takes zero s items c rest some e = absurd cc
cond_takes (suc room) s items c rest some e = body_takes room (cond_at room) (cond_takes room) s items c rest some e

nothing_step : (room : ℕ) (nested : Former Cond) (front : Span) (items r1 : List Item) (p : Piece) → next_of room items ≡ Ok (p, r1) → head_of p ≡ Nothing → cond_body room nested front items ≡ Ok (c_all no_conds (around front p.span), r1)
unfolding cond_body
nothing_step room nested front items r1 p e h = rw (e, h) refl

and_step : (room : ℕ) (nested : Former Cond) (front k : Span) (items r1 r2 : List Item) (p : Piece) (cs : List Cond) → next_of room items ≡ Ok (p, r1) → head_of p ≡ And → until_close (form_step nested) room (length r1) [] r1 ≡ Ok ((cs, k), r2) → cond_body room nested front items ≡ Ok (c_all (conds_of cs) (around front k), r2)
unfolding cond_body
and_step room nested front k items r1 r2 p cs e h m = rw (e, h, m) refl

or_step : (room : ℕ) (nested : Former Cond) (front k : Span) (items r1 r2 : List Item) (p : Piece) (cs : List Cond) → next_of room items ≡ Ok (p, r1) → head_of p ≡ Or → until_close (form_step nested) room (length r1) [] r1 ≡ Ok ((cs, k), r2) → cond_body room nested front items ≡ Ok (c_any (conds_of cs) (around front k), r2)
unfolding cond_body
or_step room nested front k items r1 r2 p cs e h m = rw (e, h, m) refl

imply_step : (room : ℕ) (nested : Former Cond) (front k : Span) (items r1 r2 : List Item) (p : Piece) (x : Cond) (y : Cond) → next_of room items ≡ Ok (p, r1) → head_of p ≡ Imply → both_of room (form_next room nested) (form_next room nested) r1 ≡ Ok (((x, y), k), r2) → cond_body room nested front items ≡ Ok (c_imply x y (around front k), r2)
unfolding cond_body
imply_step room nested front k items r1 r2 p x y e h m = rw (e, h, m) refl

forall_step : (room : ℕ) (nested : Former Cond) (front k : Span) (items r1 r2 : List Item) (p : Piece) (x : List TypedName) (y : Cond) → next_of room items ≡ Ok (p, r1) → head_of p ≡ ForAll → both_of room (variables_of room) (form_next room nested) r1 ≡ Ok (((x, y), k), r2) → cond_body room nested front items ≡ Ok (c_forall x y (around front k), r2)
unfolding cond_body
forall_step room nested front k items r1 r2 p x y e h m = rw (e, h, m) refl

exists_step : (room : ℕ) (nested : Former Cond) (front k : Span) (items r1 r2 : List Item) (p : Piece) (x : List TypedName) (y : Cond) → next_of room items ≡ Ok (p, r1) → head_of p ≡ Exists → both_of room (variables_of room) (form_next room nested) r1 ≡ Ok (((x, y), k), r2) → cond_body room nested front items ≡ Ok (c_exists x y (around front k), r2)
unfolding cond_body
exists_step room nested front k items r1 r2 p x y e h m = rw (e, h, m) refl

compare_step : (room : ℕ) (nested : Former Cond) (sign : Comparison) (front : Span) (items r1 r2 : List Item) (p : Piece) (c : Cond) → next_of room items ≡ Ok (p, r1) → head_of p ≡ Compare sign → compared_of sign room front r1 ≡ Ok (c, r2) → cond_body room nested front items ≡ Ok (c, r2)
unfolding cond_body
compare_step room nested sign front items r1 r2 p c e h m = rw (e, h) m

not_step : (room : ℕ) (nested : Former Cond) (front : Span) (o k : Piece) (items r1 r2 r3 r4 : List Item) (p : Piece) (c : Cond) → next_of room items ≡ Ok (p, r1) → head_of p ≡ Not → open_of room r1 ≡ Ok (o, r2) → nested o.span r2 ≡ Ok (c, r3) → close_of room r3 ≡ Ok (k, r4) → cond_body room nested front items ≡ Ok (c_not c (around front k.span), r4)
unfolding cond_body
not_step room nested front o k items r1 r2 r3 r4 p c e h e1 e2 e3 = rw (e, h, e1, e2, e3) refl

plain_step : (room : ℕ) (nested : Former Cond) (front : Span) (items r1 r2 : List Item) (p : Piece) (u : Use) → next_of room items ≡ Ok (p, r1) → head_of p ≡ Plain → use_end allows.Terms room front p r1 ≡ Ok (u, r2) → cond_body room nested front items ≡ Ok (c_atom u u.span, r2)
unfolding cond_body
plain_step room nested front items r1 r2 p u e h e1 = rw (e, h, e1) refl

sign_flat : (p : Piece) (sign : Comparison) → IsSign (sign_of sign) p → is_flat p.kind ≡ true
sign_flat p sign e = ap is_flat e

body_again : (room : ℕ) (read : Former Cond) → FormAgain SpellsCond room read → FormAgain SpellsCond (suc room) (cond_body room read)
body_again room read again (c_all cs s) ts first inner rest h e ev =
    let w = h.1 in
    let body = cond_body room read in
    ⊎_elim
    (λ (none : (cs ≡ no_conds) × (h.0 ≡ [])).
    enters SpellsCond (suc room) body (c_all cs s) s h.0 ts w first inner rest e (level_at h.0 [] none.1 (λ r. inl refl)) ev (λ r under er.
    ap (λ (ps : List Piece). body w.first.span (toks ps (tok w.last ∷ rest))) none.1
    ∙ nothing_step room read w.first.span (tok w.last ∷ rest) rest w.last (next_again room w.last rest (ap is_open w.closes)) (close_head w.last w.closes)
    ∙ (λ i. Ok (c_all (sym none.0 i) (sym w.place i), rest))))
    (λ (some : (a : Piece) × (inner : List Piece) × IsWord (codes "and") a × (h.0 ≡ a ∷ inner) × SpellsConds cs inner).
    let members = some.1 in
    let lb = level_conds cs members some.4 in
    enters SpellsCond (suc room) body (c_all cs s) s h.0 ts w first inner rest e (level_at h.0 (some.0 ∷ members) some.3 (level_name some.0 members some.2.0 lb)) ev (λ r under er.
    let same : r ≡ room = omega (arith, under) in
    let eb : Even room members = subst (λ n. Even n members) same (sym (after_name r some.0 members some.2.0) ∙ ap (room_after r) (sym some.3) ∙ er) in
    let left = toks members (tok w.last ∷ rest) in
    ap (λ (ps : List Piece). body w.first.span (toks ps (tok w.last ∷ rest))) some.3
    ∙ and_step room read w.first.span w.last.span (tok some.0 ∷ left) left rest some.0 (list_of cs) (name_again room some.0 left some.2.0) (word_heads some.0 And some.2 refl)
    (until_again SpellsCond with_last (form_step read) room level_cond (form_again SpellsCond room read (cond_begins room) again) (length left) [] (list_of cs) (list_of cs) members w.last rest (conds_chain cs members some.4) eb (added_last [] (list_of cs)) w.closes (enough members w.last rest))
    ∙ (λ i. Ok (c_all (list_of-conds cs i) (sym w.place i), rest))))
    h.2
body_again room read again (c_any cs s) ts first inner rest h e ev =
    let w = h.3 in
    let a = h.0 in
    let members = h.1 in
    enters SpellsCond (suc room) (cond_body room read) (c_any cs s) s (a ∷ members) ts w first inner rest e (level_name a members h.2.0 (level_conds cs members h.4)) ev (λ r under er.
    let same : r ≡ room = omega (arith, under) in
    let eb : Even room members = subst (λ n. Even n members) same (sym (after_name r a members h.2.0) ∙ er) in
    let left = toks members (tok w.last ∷ rest) in
    or_step room read w.first.span w.last.span (tok a ∷ left) left rest a (list_of cs) (name_again room a left h.2.0) (word_heads a Or h.2 refl)
    (until_again SpellsCond with_last (form_step read) room level_cond (form_again SpellsCond room read (cond_begins room) again) (length left) [] (list_of cs) (list_of cs) members w.last rest (conds_chain cs members h.4) eb (added_last [] (list_of cs)) w.closes (enough members w.last rest))
    ∙ (λ i. Ok (c_any (list_of-conds cs i) (sym w.place i), rest)))
body_again room read again (c_imply x y s) ts first inner rest h e ev =
    let w = h.4 in
    let a = h.0 in
    let both = h.1 ++ h.2 in
    enters SpellsCond (suc room) (cond_body room read) (c_imply x y s) s (a ∷ both) ts w first inner rest e (level_name a both h.3.0 (level_append h.1 h.2 (level_cond x h.1 h.5) (level_cond y h.2 h.6))) ev (λ r under er.
    let left = toks both (tok w.last ∷ rest) in
    imply_step room read w.first.span w.last.span (tok a ∷ left) left rest a x y (name_again room a left h.3.0) (word_heads a Imply h.3 refl)
    (both_again SpellsCond SpellsCond room (form_next room read) (form_next room read) level_cond (form_next_again SpellsCond room read (cond_begins room) again) (form_next_again SpellsCond room read (cond_begins room) again) x y h.1 h.2 w.last rest h.5 h.6 (even_behind room r a both (ap is_flat h.3.0) under er) w.closes)
    ∙ (λ i. Ok (c_imply x y (sym w.place i), rest)))
body_again room read again (c_forall x y s) ts first inner rest h e ev =
    let w = h.4 in
    let a = h.0 in
    let both = h.1 ++ h.2 in
    enters SpellsCond (suc room) (cond_body room read) (c_forall x y s) s (a ∷ both) ts w first inner rest e (level_name a both h.3.0 (level_append h.1 h.2 (level_variables x h.1 h.5) (level_cond y h.2 h.6))) ev (λ r under er.
    let left = toks both (tok w.last ∷ rest) in
    forall_step room read w.first.span w.last.span (tok a ∷ left) left rest a x y (name_again room a left h.3.0) (word_heads a ForAll h.3 refl)
    (both_again SpellsVariables SpellsCond room (variables_of room) (form_next room read) level_variables (variables_again room) (form_next_again SpellsCond room read (cond_begins room) again) x y h.1 h.2 w.last rest h.5 h.6 (even_behind room r a both (ap is_flat h.3.0) under er) w.closes)
    ∙ (λ i. Ok (c_forall x y (sym w.place i), rest)))
body_again room read again (c_exists x y s) ts first inner rest h e ev =
    let w = h.4 in
    let a = h.0 in
    let both = h.1 ++ h.2 in
    enters SpellsCond (suc room) (cond_body room read) (c_exists x y s) s (a ∷ both) ts w first inner rest e (level_name a both h.3.0 (level_append h.1 h.2 (level_variables x h.1 h.5) (level_cond y h.2 h.6))) ev (λ r under er.
    let left = toks both (tok w.last ∷ rest) in
    exists_step room read w.first.span w.last.span (tok a ∷ left) left rest a x y (name_again room a left h.3.0) (word_heads a Exists h.3 refl)
    (both_again SpellsVariables SpellsCond room (variables_of room) (form_next room read) level_variables (variables_again room) (form_next_again SpellsCond room read (cond_begins room) again) x y h.1 h.2 w.last rest h.5 h.6 (even_behind room r a both (ap is_flat h.3.0) under er) w.closes)
    ∙ (λ i. Ok (c_exists x y (sym w.place i), rest)))
body_again room read again (c_same t u s) ts first inner rest h e ev =
    let w = h.4 in
    let a = h.0 in
    let both = h.1 ++ h.2 in
    let q = h.5.0 in
    let n = h.6.0 in
    let f = sign_flat a comparisons.Equal h.3 in
    enters SpellsCond (suc room) (cond_body room read) (c_same t u s) s (a ∷ both) ts w first inner rest e (level_flat a both f (level_append h.1 h.2 (level_term t h.1 h.5) (level_term u h.2 h.6))) ev (λ r under er.
    let k = tok w.last ∷ rest in
    let left = tok q ∷ tok n ∷ k in
    let shape : toks both k ≡ left = (λ i. toks (h.5.3 i ++ h.6.3 i) k) in
    ap (λ (is : List Item). cond_body room read w.first.span (tok a ∷ is)) shape
    ∙ compare_step room read comparisons.Equal w.first.span (tok a ∷ left) left rest a (c_same (term_of q) (term_of n) (around w.first.span w.last.span)) (next_again room a left (ap is_open h.3)) (sign_heads a comparisons.Equal h.3)
    (same_step room w.first.span q w.last (term_of n) left (tok n ∷ k) k rest (flat_next room q (tok n ∷ k) (flat_piece q (allowed_flat allows.Terms q.kind h.5.1))) h.5.1 (term_again room n k h.6.1) (close_again room w.last rest w.closes))
    ∙ (λ i. Ok (c_same (sym h.5.2 i) (sym h.6.2 i) (sym w.place i), rest)))
body_again room read again (c_compare sign x y s) ts first inner rest h e ev =
    let w = h.4 in
    let a = h.0 in
    let both = h.1 ++ h.2 in
    let f = sign_flat a sign h.3 in
    enters SpellsCond (suc room) (cond_body room read) (c_compare sign x y s) s (a ∷ both) ts w first inner rest e (level_flat a both f (level_append h.1 h.2 (level_expr x h.1 h.5) (level_expr y h.2 h.6))) ev (λ r under er.
    let left = toks both (tok w.last ∷ rest) in
    compare_step room read sign w.first.span (tok a ∷ left) left rest a (c_compare sign x y (around w.first.span w.last.span)) (next_again room a left (ap is_open h.3)) (sign_heads a sign h.3)
    (sides_again room sign w.first.span x y h.1 h.2 w.last rest h.5 h.6 (even_behind room r a both f under er) w.closes)
    ∙ (λ i. Ok (c_compare sign x y (sym w.place i), rest)))
body_again room read again (c_not c s) ts first inner rest h e ev =
    let w = h.3 in
    let one = h.1 in
    let a = h.0 in
    let b = cond_begins room c one h.4 in
    enters SpellsCond (suc room) (cond_body room read) (c_not c s) s (a ∷ one) ts w first inner rest e (level_name a one h.2.0 (level_cond c one h.4)) ev (λ r under er.
    let same : r ≡ room = omega (arith, under) in
    let eb : Even room one = subst (λ n. Even n one) same (sym (after_name r a one h.2.0) ∙ er) in
    let some : 0 < room = even_open room b.0 b.1 b.2 (ap (room_after room) (sym b.3) ∙ eb) in
    let left = tok w.last ∷ rest in
    let opened : open_of room (toks one left) ≡ Ok (b.0, toks b.1 left) = ap (λ (ps : List Piece). open_of room (toks ps left)) b.3 ∙ open_again room b.0 (toks b.1 left) b.2 some in
    not_step room read w.first.span b.0 w.last (tok a ∷ toks one left) (toks one left) (toks b.1 left) left rest a c (name_again room a (toks one left) h.2.0) (word_heads a Not h.2 refl) opened (again c one b.0 b.1 left h.4 b.3 eb) (close_again room w.last rest w.closes)
    ∙ (λ i. Ok (c_not c (sym w.place i), rest)))
body_again room read again (c_atom u s) ts first inner rest h e ev =
    let w = h.1.3 in
    let a = h.1.0 in
    let args = h.1.1 in
    let made = use_of a u.args (around w.first.span w.last.span) in
    let left = toks args (tok w.last ∷ rest) in
    let name = plain_name a h.1.2 in
    enters SpellsCond (suc room) (cond_body room read) (c_atom u s) u.span (a ∷ args) ts w first inner rest e (level_name a args name (level_args allows.Terms u.args args h.1.5)) ev (λ r under er.
    plain_step room read w.first.span (tok a ∷ left) left rest a made (name_again room a left name) (plain_head a h.1.2) (use_again allows.Terms room w.first.span a w.last u.args args rest w.closes h.1.5)
    ∙ ap (λ (v : Use). Ok (c_atom v v.span, rest)) (use_made allows.Terms u ts h.1)
    ∙ ap (λ (place : Span). Ok (c_atom u place, rest)) (sym h.0))

pub cond_again : (room : ℕ) → FormAgain SpellsCond room (cond_at room)
unfolding cond_at
cond_again zero c ts first inner rest h e ev =
    let b = cond_begins 0 c ts h in
    let no : 0 < 0 = even_open 0 b.0 b.1 b.2 (ap (room_after 0) (sym b.3) ∙ ev) in absurd (omega (arith, no))
cond_again (suc room) c ts first inner rest h e ev = body_again room (cond_at room) (cond_again room) c ts first inner rest h e ev
