-- An expression that is read is spelled so, and one that is spelled is read.
use Rattle.std.proofs.Common.{◌≡◌, ℕ, ◌<◌, false, List, [], ◌∷◌, ◌++◌, length, Option, Some, None, Ok, refl, sym, ap, ◌∙◌, subst}
use Rattle.plus_tokens.specs.declared.token.Kind.{Kind}
use Rattle.plus_tokens.specs.declared.token.Kind.TheVariants as kinds
use Rattle.plus_tokens.specs.declared.span.Span.{Span}
use Rattle.plus_tree.specs.declared.terms.Literal.{Literal}
use Rattle.plus_tree.specs.Expr.{Expr, x_number, x_clock, x_fluent, x_sum, x_product, x_minus, x_difference, x_quotient, Exprs, no_exprs, more_exprs, exprs_of}
use Rattle.plus_tokens.specs.Items.{Piece, Item, tok}
use Rattle.plus_parser.specs.Phrases.Literals.{kind_literal, literal_of}
use Rattle.plus_parser.specs.Phrases.Reading.{◌>>=◌, is_open}
use Rattle.plus_parser.specs.Phrases.Words.{is_close}
use Rattle.plus_parser.specs.Phrases.Grammar.{close_of, until_close, start_step, Former, number_or, expr_kind, expr_from, expr_next, two_of, pair_of, many_of}
use Rattle.plus_parser.specs.Phrases.Spells.{IsOpen, IsClose, Wrapped, Chain, with_last, AreMany, SpellsExpr, SpellsExprs, room_after}
use Rattle.plus_parser.proofs.PhraseLemmas.Tokens.{toks, toks-append, enough, bind_ok, ok_is, next_again, next_open, close_kind, token_takes}
use Rattle.plus_parser.proofs.PhraseLemmas.Level.{Even, level_expr, is_flat, number_flat, after_flat, even_open, even_append, split_append}
use Rattle.plus_parser.proofs.PhraseLemmas.UntilTakes.{until_takes}
use Rattle.plus_parser.proofs.PhraseLemmas.UntilAgain.{until_again}
use Rattle.plus_parser.proofs.PhraseLemmas.Forms.{FormTakes, added_from, added_last}
use Rattle.plus_parser.proofs.PhraseLemmas.Starts.{close_again, Opened, Started, StartTakes, Restarted, StartAgain, start_takes, start_again, come_takes, come_again}

-- ---- a number

pub not_open : (k : Kind) (w : List ℕ) (s : Span) (n : Literal) → kind_literal k w s ≡ Some n → (is_open k ≡ false)
unfolding kind_literal
not_open kinds.Open w s n e = absurd cc
not_open _ w s n e = refl

not_close : (k : Kind) (w : List ℕ) (s : Span) (n : Literal) → kind_literal k w s ≡ Some n → (is_close k ≡ false)
unfolding kind_literal
not_close kinds.Close w s n e = absurd cc
not_close _ w s n e = refl

number_way : (nested : Former Expr) (p : Piece) (rest : List Item) (k : Kind) (w : List ℕ) (s : Span) (n : Literal) → kind_literal k w s ≡ Some n → expr_kind nested p rest k ≡ number_or (literal_of p) p rest
unfolding kind_literal
number_way nested p rest kinds.Open w s n e = absurd cc
number_way nested p rest kinds.Clock w s n e = absurd cc
number_way nested p rest _ w s n e = refl

-- ---- lists of expressions

chain_exprs : (xs : List Expr) (ts : List Piece) → Chain SpellsExpr xs ts → SpellsExprs (exprs_of xs) ts
chain_exprs [] ts h = h
chain_exprs (x ∷ xs) ts h = (h.0, h.1, h.2, chain_exprs xs h.1 h.3, h.4)

abbrev pub list_of : Exprs → List Expr
list_of no_exprs = []
list_of (more_exprs x xs) = x ∷ list_of xs

pub list_of-exprs : (xs : Exprs) → exprs_of (list_of xs) ≡ xs
list_of-exprs no_exprs = refl
list_of-exprs (more_exprs x xs) = ap (more_exprs x) (list_of-exprs xs)

exprs_chain : (xs : Exprs) (ts : List Piece) → SpellsExprs xs ts → Chain SpellsExpr (list_of xs) ts
exprs_chain no_exprs ts h = h
exprs_chain (more_exprs x xs) ts h = (h.0, h.1, h.2, exprs_chain xs h.1 h.3, h.4)

-- ---- from the first token on

module _ (room : ℕ) (read : Former Expr) where
  pub from_takes : FormTakes SpellsExpr room read → StartTakes SpellsExpr room (expr_from read)
  unfolding expr_from
  from_takes takes p r x rest left e = at_kind p.kind refl e
    where
      number_took : (o : Option Literal) → literal_of p ≡ o → number_or o p r ≡ Ok (x, rest) → Started SpellsExpr room (expr_from read) x p r rest
      number_took None q e = absurd cc
      number_took (Some n) q e =
          let both = ok_is (x_number n p.span, r) (x, rest) e in
          record {
            inner = [];
            whole = ap (λ (y : Expr × List Item). y.1) both;
            spelled = subst (λ (y : Expr × List Item). SpellsExpr y.0 (p ∷ [])) both (p, q, refl, refl);
            even = after_flat room p [] (number_flat p n q);
          }

      at_kind : (k : Kind) → p.kind ≡ k → expr_kind read p r k ≡ Ok (x, rest) → Started SpellsExpr room (expr_from read) x p r rest
      at_kind kinds.Open k e =
          let t = takes p.span r x rest (left (ap is_open k)) e in
          record { inner = t.inner; whole = t.whole; spelled = t.spelled p k refl; even = t.even p k }
      at_kind kinds.Clock k e =
          let both = ok_is (x_clock p.span, r) (x, rest) e in
          record {
            inner = [];
            whole = ap (λ (y : Expr × List Item). y.1) both;
            spelled = subst (λ (y : Expr × List Item). SpellsExpr y.0 (p ∷ [])) both (p, k, refl, refl);
            even = after_flat room p [] (ap is_flat k);
          }
      at_kind _ k e = number_took (literal_of p) refl e

  -- the form that an opening parenthesis begins
  abbrev pub ExprAgain : Type 0
  ExprAgain = (x : Expr) (ts : List Piece) (first : Piece) (inner : List Piece) (rest : List Item) → SpellsExpr x ts → ts ≡ first ∷ inner → IsOpen first → Even room ts → read first.span (toks inner rest) ≡ Ok (x, rest)

  from_form : ExprAgain → (x : Expr) (ts : List Piece) (rest : List Item) (s : Span) (body : List Piece) → Wrapped s body ts → SpellsExpr x ts → Even room ts → Restarted SpellsExpr room (expr_from read) x ts rest
  unfolding expr_from
  from_form again x ts rest s body w h ev =
      let inner = body ++ w.last ∷ [] in
      let some : 0 < room = even_open room w.first inner w.opens (ap (room_after room) (sym w.whole) ∙ ev) in
      record {
        first = w.first;
        inner = inner;
        whole = w.whole;
        next = next_open room w.first (toks inner rest) w.opens some;
        goes = ap is_close w.opens;
        reads = ap (expr_kind read w.first (toks inner rest)) w.opens ∙ again x ts w.first inner rest h w.whole w.opens ev;
      }

  pub from_again : ExprAgain → StartAgain SpellsExpr room (expr_from read)
  unfolding expr_from
  from_again again (x_number n s) ts rest h ev =
      let p = h.0 in
      record {
        first = p;
        inner = [];
        whole = h.3;
        next = next_again room p rest (not_open p.kind p.word p.span n h.1);
        goes = not_close p.kind p.word p.span n h.1;
        reads =
            number_way read p rest p.kind p.word p.span n h.1
            ∙ ap (λ (o : Option Literal). number_or o p rest) h.1
            ∙ (λ i. Ok (x_number n (sym h.2 i), rest));
      }
  from_again again (x_clock s) ts rest h ev =
      let p = h.0 in
      record {
        first = p;
        inner = [];
        whole = h.3;
        next = next_again room p rest (ap is_open h.1);
        goes = ap is_close h.1;
        reads = ap (expr_kind read p rest) h.1 ∙ (λ i. Ok (x_clock (sym h.2 i), rest));
      }
  from_again again (x_fluent u s) ts rest h ev = from_form again (x_fluent u s) ts rest u.span (h.1.0 ∷ h.1.1) h.1.3 h ev
  from_again again (x_sum es s) ts rest h ev = from_form again (x_sum es s) ts rest s (h.0 ∷ h.1) h.3 h ev
  from_again again (x_product es s) ts rest h ev = from_form again (x_product es s) ts rest s (h.0 ∷ h.1) h.3 h ev
  from_again again (x_minus x s) ts rest h ev = from_form again (x_minus x s) ts rest s (h.0 ∷ h.1) h.3 h ev
  from_again again (x_difference x y s) ts rest h ev = from_form again (x_difference x y s) ts rest s (h.0 ∷ (h.1 ++ h.2)) h.4 h ev
  from_again again (x_quotient x y s) ts rest h ev = from_form again (x_quotient x y s) ts rest s (h.0 ∷ (h.1 ++ h.2)) h.4 h ev

  pub next_takes : FormTakes SpellsExpr room read → (items : List Item) (x : Expr) (rest : List Item) → expr_next room read items ≡ Ok (x, rest) → Opened SpellsExpr room x items rest
  unfolding expr_next
  next_takes takes items x rest e = come_takes SpellsExpr room (expr_from read) (from_takes takes) items x rest e

  pub nexts_again : ExprAgain → (x : Expr) (ts : List Piece) (rest : List Item) → SpellsExpr x ts → Even room ts → expr_next room read (toks ts rest) ≡ Ok (x, rest)
  unfolding expr_next
  nexts_again again x ts rest h ev = come_again SpellsExpr room (expr_from read) (from_again again) x ts rest h ev

  -- ---- two, a pair, and many

  pub record TwoTook (x y : Expr) (items rest : List Item) : Type 0 where
    pub left : List Piece
    pub right : List Piece
    pub whole : items ≡ toks left (toks right rest)
    pub first : SpellsExpr x left
    pub second : SpellsExpr y right
    pub evens : Even room left × Even room right

  two_takes : FormTakes SpellsExpr room read → (items : List Item) (x : Expr × Expr) (rest : List Item) → two_of room read items ≡ Ok (x, rest) → TwoTook x.0 x.1 items rest
  unfolding two_of
  two_takes takes items x rest e =
      let a = bind_ok (expr_next room read items) (λ a. expr_next room read a.1 >>= λ b. Ok ((a.0, b.0), b.1)) (x, rest) e in
      let b = bind_ok (expr_next room read a.0.1) (λ b. Ok ((a.0.0, b.0), b.1)) (x, rest) a.2 in
      let both = ok_is ((a.0.0, b.0.0), b.0.1) (x, rest) b.2 in
      let t = next_takes takes items a.0.0 a.0.1 a.1 in
      let u = next_takes takes a.0.1 b.0.0 b.0.1 b.1 in
      subst (λ (y : (Expr × Expr) × List Item). TwoTook y.0.0 y.0.1 items y.1) both
      (record { left = t.inner; right = u.inner; whole = t.whole ∙ ap (toks t.inner) u.whole; first = t.spelled; second = u.spelled; evens = (t.even, u.even) })

  two_step : (x y : Expr) (items r1 r2 : List Item) → expr_next room read items ≡ Ok (x, r1) → expr_next room read r1 ≡ Ok (y, r2) → two_of room read items ≡ Ok ((x, y), r2)
  unfolding two_of
  two_step x y items r1 r2 e1 e2 = rw (e1, e2) refl

  two_again : ExprAgain → (x y : Expr) (left right : List Piece) (rest : List Item) → SpellsExpr x left → SpellsExpr y right → Even room left → Even room right → two_of room read (toks left (toks right rest)) ≡ Ok ((x, y), rest)
  two_again again x y left right rest hx hy ex ey =
      two_step x y (toks left (toks right rest)) (toks right rest) rest (nexts_again again x left (toks right rest) hx ex) (nexts_again again y right rest hy ey)

  pub record PairTook (x y : Expr) (k : Span) (items rest : List Item) : Type 0 where
    pub left : List Piece
    pub right : List Piece
    pub last : Piece
    pub closes : IsClose last
    pub place : last.span ≡ k
    pub whole : items ≡ toks (left ++ right) (tok last ∷ rest)
    pub first : SpellsExpr x left
    pub second : SpellsExpr y right
    pub even : Even room (left ++ right)

  pub pair_takes : FormTakes SpellsExpr room read → (items : List Item) (x : (Expr × Expr) × Span) (rest : List Item) → pair_of room read items ≡ Ok (x, rest) → PairTook x.0.0 x.0.1 x.1 items rest
  unfolding pair_of
  pair_takes takes items x rest e =
      let a = bind_ok (two_of room read items) (λ x. close_of room x.1 >>= λ k. Ok ((x.0, k.0.span), k.1)) (x, rest) e in
      let b = bind_ok (close_of room a.0.1) (λ k. Ok ((a.0.0, k.0.span), k.1)) (x, rest) a.2 in
      let both = ok_is ((a.0.0, b.0.0.span), b.0.1) (x, rest) b.2 in
      let t = two_takes takes items a.0.0 a.0.1 a.1 in
      let k = token_takes (λ q. is_close q.kind) room b.0.0 a.0.1 b.0.1 b.1 in
      subst (λ (y : ((Expr × Expr) × Span) × List Item). PairTook y.0.0.0 y.0.0.1 y.0.1 items y.1) both
      (record {
        left = t.left;
        right = t.right;
        last = b.0.0;
        closes = close_kind b.0.0.kind k.fits;
        place = refl;
        whole = t.whole ∙ sym (toks-append t.left t.right a.0.1) ∙ ap (toks (t.left ++ t.right)) k.whole;
        first = t.first;
        second = t.second;
        even = even_append room t.left t.right t.evens.0 t.evens.1;
      })

  pair_step : (x : Expr × Expr) (k : Piece) (items r1 r2 : List Item) → two_of room read items ≡ Ok (x, r1) → close_of room r1 ≡ Ok (k, r2) → pair_of room read items ≡ Ok ((x, k.span), r2)
  unfolding pair_of
  pair_step x k items r1 r2 e1 e2 = rw (e1, e2) refl

  pub pair_again : ExprAgain → (x y : Expr) (left right : List Piece) (last : Piece) (rest : List Item) → SpellsExpr x left → SpellsExpr y right → Even room (left ++ right) → IsClose last → pair_of room read (toks (left ++ right) (tok last ∷ rest)) ≡ Ok (((x, y), last.span), rest)
  pair_again again x y left right last rest hx hy ev close =
      let both = split_append room left right (level_expr x left hx) ev in
      ap (pair_of room read) (toks-append left right (tok last ∷ rest))
      ∙ pair_step (x, y) last (toks left (toks right (tok last ∷ rest))) (tok last ∷ rest) rest (two_again again x y left right (tok last ∷ rest) hx hy both.0 both.1) (close_again room last rest close)

  pub record ManyTook (xs : List Expr) (k : Span) (items rest : List Item) : Type 0 where
    pub inner : List Piece
    pub last : Piece
    pub closes : IsClose last
    pub place : last.span ≡ k
    pub whole : items ≡ toks inner (tok last ∷ rest)
    pub many : AreMany (exprs_of xs)
    pub spelled : SpellsExprs (exprs_of xs) inner
    pub even : Even room inner

  pub many_takes : FormTakes SpellsExpr room read → (items : List Item) (x : List Expr × Span) (rest : List Item) → many_of room read items ≡ Ok (x, rest) → ManyTook x.0 x.1 items rest
  unfolding many_of
  many_takes takes items x rest e =
      let a = bind_ok (two_of room read items) (λ x. until_close (start_step (expr_from read)) room (length x.1) (x.0.0 ∷ x.0.1 ∷ []) x.1) (x, rest) e in
      let t = two_takes takes items a.0.0 a.0.1 a.1 in
      let u = until_takes SpellsExpr with_last (start_step (expr_from read)) room (start_takes SpellsExpr room (expr_from read) (from_takes takes)) (length a.0.1) (a.0.0.0 ∷ a.0.0.1 ∷ []) x.0 x.1 a.0.1 rest a.2 in
      let all : a.0.0.0 ∷ a.0.0.1 ∷ u.things ≡ x.0 = added_from (a.0.0.0 ∷ a.0.0.1 ∷ []) u.things x.0 u.adds in
      let inner = t.left ++ (t.right ++ u.inner) in
      let left = tok u.last ∷ rest in
      record {
        inner = inner;
        last = u.last;
        closes = u.closes;
        place = u.place;
        whole = t.whole ∙ ap (λ (is : List Item). toks t.left (toks t.right is)) u.whole ∙ ap (toks t.left) (sym (toks-append t.right u.inner left)) ∙ sym (toks-append t.left (t.right ++ u.inner) left);
        many = subst (λ (xs : List Expr). AreMany (exprs_of xs)) all tt;
        spelled = subst (λ (xs : List Expr). SpellsExprs (exprs_of xs) inner) all (t.left, t.right ++ u.inner, t.first, (t.right, u.inner, t.second, chain_exprs u.things u.inner u.spelled, refl), refl);
        even = even_append room t.left (t.right ++ u.inner) t.evens.0 (even_append room t.right u.inner t.evens.1 u.even);
      }

  many_step : (x : Expr × Expr) (items r1 : List Item) → two_of room read items ≡ Ok (x, r1) → many_of room read items ≡ until_close (start_step (expr_from read)) room (length r1) (x.0 ∷ x.1 ∷ []) r1
  unfolding many_of
  many_step x items r1 e = rw e refl

  pub many_again : ExprAgain → (xs : Exprs) (ts : List Piece) (last : Piece) (rest : List Item) → AreMany xs → SpellsExprs xs ts → Even room ts → IsClose last → many_of room read (toks ts (tok last ∷ rest)) ≡ Ok ((list_of xs, last.span), rest)
  many_again again no_exprs ts last rest m h ev close = absurd m
  many_again again (more_exprs x no_exprs) ts last rest m h ev close = absurd m
  many_again again (more_exprs x (more_exprs y xs)) ts last rest m h ev close =
      let left = tok last ∷ rest in
      let more = h.3 in
      let one = split_append room h.0 h.1 (level_expr x h.0 h.2) (ap (room_after room) (sym h.4) ∙ ev) in
      let two = split_append room more.0 more.1 (level_expr y more.0 more.2) (ap (room_after room) (sym more.4) ∙ one.1) in
      let shape : toks ts left ≡ toks h.0 (toks more.0 (toks more.1 left)) =
      ap (λ (ps : List Piece). toks ps left) h.4 ∙ toks-append h.0 h.1 left ∙ ap (λ (ps : List Piece). toks h.0 (toks ps left)) more.4 ∙ ap (toks h.0) (toks-append more.0 more.1 left) in
      ap (many_of room read) shape
      ∙ many_step (x, y) (toks h.0 (toks more.0 (toks more.1 left))) (toks more.1 left) (two_again again x y h.0 more.0 (toks more.1 left) h.2 more.2 one.0 two.0)
      ∙ until_again SpellsExpr with_last (start_step (expr_from read)) room level_expr (start_again SpellsExpr room (expr_from read) (from_again again)) (length (toks more.1 left)) (x ∷ y ∷ []) (x ∷ y ∷ list_of xs) (list_of xs) more.1 last rest (exprs_chain xs more.1 more.3) two.1 (added_last (x ∷ y ∷ []) (list_of xs)) close (enough more.1 last rest)
