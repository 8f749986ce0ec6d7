-- The table against expressions.
use Rattle.std.proofs.Common.{◌≡◌, ℕ, zero, suc, ◌-◌, ◌<◌, ◌≤◌, Bool, true, false, cond, List, [], ◌∷◌, ◌++◌, length, Option, Some, None, Ok, refl, sym, ap, ◌∙◌, arith}
use Rattle.std.specs.Prelude.{is_some}
use Rattle.plus_tokens.specs.declared.token.Kind.{Kind}
use Rattle.plus_tokens.specs.declared.token.Kind.TheVariants as kinds
use Rattle.plus_tokens.specs.declared.span.Span.{Span}
use Rattle.plus_tree.specs.declared.terms.Literal.{Literal}
use Rattle.plus_tree.specs.Expr.{Expr, x_fluent, x_sum, x_product, x_difference, x_quotient, exprs_of}
use Rattle.plus_parser.specs.declared.phrases.words.Allowed.TheVariants as allows
use Rattle.plus_parser.specs.declared.phrases.words.ExprWord.{ExprWord}
use Rattle.plus_parser.specs.declared.phrases.words.ExprWord.TheVariants as exprs
use Rattle.plus_tokens.specs.Items.{Piece, Item}
use Rattle.plus_parser.specs.Phrases.Literals.{kind_literal, literal_of}
use Rattle.plus_parser.specs.Phrases.Reading.{◌>>=◌, Read, next_of, is_open}
use Rattle.plus_parser.specs.Phrases.Words.{is_close, kind_expr, expr_head}
use Rattle.plus_parser.specs.Phrases.Grammar.{around, close_of, until_close, Former, start_step, use_end, number_or, expr_kind, expr_from, expr_next, two_of, pair_of, many_of, minus_with, minus_of, expr_with, expr_body, expr_at}
use Rattle.plus_parser.proofs.PhraseLemmas.Level.{is_flat}
use Rattle.plus_parser.proofs.PhraseLemmas.Tokens.{bind_ok, ok_is, next_some}
use Rattle.plus_places.specs.declared.symbols.Symbol.{Symbol}
use Rattle.plus_places.specs.declared.symbols.Symbol.TheVariants as sy
use Rattle.plus_places.specs.Table as table
use Rattle.plus_places.specs.Table.{Wanted, accept, expr_first, expr_inside}
use Rattle.plus_places.proofs.Goes.{room_next, Rest, taken, goes}
use Rattle.plus_places.proofs.Follows.{bind_assoc, Follows, follows_token, follows_close, flat_room}
use Rattle.plus_places.proofs.Turns.{after, in_turn, in_turns, then_same, past_close, not_close, no_more, goes_length, Steps, Less, until_follows, Inside, args_follow}

pub lit_room : (k : Kind) (w : List ℕ) (s : Span) (n : Literal) (room : ℕ) → kind_literal k w s ≡ Some n → room_next k room ≡ room
unfolding kind_literal
lit_room kinds.Number w s n room e = refl
lit_room _ w s n room e = absurd cc

number_follows : (room : ℕ) (kind : Kind) (p : Piece) (lit : Option Literal) (behind st : List Symbol) (rest : List Item) → ((n : Literal) → lit ≡ Some n → room_next kind room ≡ room) → taken (accept (is_some lit) behind) p (λ ks. goes (room_next kind room) (ks ++ st) rest) ≡ (number_or lit p rest >>= λ x. goes room (behind ++ st) x.1)
number_follows room kind p (Some n) behind st rest h = ap (λ r. goes r (behind ++ st) rest) (h n refl)
number_follows room kind p None behind st rest h = refl

module _ (room : ℕ) (nested : Former Expr) (N : Inside sy.ExprInside room nested) where
  -- an expression from its first token on
  pub from_follows : (p : Piece) (behind st : List Symbol) (rest : List Item) → (is_open p.kind ≡ true → 0 < room) → taken (expr_first p behind) p (after room p st rest) ≡ (expr_from nested p rest >>= λ x. goes room (behind ++ st) x.1)
  unfolding expr_from
  from_follows p behind st rest left = at_kind p.kind refl
    where
      at_kind : (k : Kind) → p.kind ≡ k → taken (table.expr_kind k (is_some (literal_of p)) behind) p (λ ks. goes (room_next k room) (ks ++ st) rest) ≡ (expr_kind nested p rest k >>= λ x. goes room (behind ++ st) x.1)
      at_kind kinds.Open e = N (left (ap is_open e)) p.span (behind ++ st) rest
      at_kind kinds.Clock e = refl
      at_kind k e = number_follows room k p (literal_of p) behind st rest (λ n l. lit_room k p.word p.span n room (ap (λ q. kind_literal q p.word p.span) (sym e) ∙ l))

  from_less : (p : Piece) (r : List Item) (x : Expr) (r' : List Item) → (is_open p.kind ≡ true → 0 < room) → expr_from nested p r ≡ Ok (x, r') → length r' ≤ length r
  unfolding goes
  from_less p r x r' left e =
      at_wanted (expr_first p []) (from_follows p [] [] r left ∙ ap (λ (q : Read Expr). q >>= λ x. goes room [] x.1) e)
    where
      at_wanted : (w : Wanted) → taken w p (after room p [] r) ≡ Ok r' → length r' ≤ length r
      at_wanted None e = absurd cc
      at_wanted (Some ks) e = goes_length r (room_next p.kind room) (ks ++ []) r' e

  -- one more expression of several
  exprs_steps : (st : List Symbol) → Steps (start_step (expr_from nested)) room (λ xs. sy.Exprs) st (λ x. goes (suc room) st x.1)
  exprs_steps st xs p rest c left =
      ap (λ w. taken w p (after room p st rest)) (not_close p.kind (expr_first p (sy.Exprs ∷ [])) c)
      ∙ from_follows p (sy.Exprs ∷ []) st rest left
      ∙ sym (bind_assoc (expr_from nested p rest) (λ x. Ok (xs ++ x.0 ∷ [], x.1)) (λ x. goes room (sy.Exprs ∷ st) x.1))

  exprs_less : (st : List Symbol) → Less (start_step (expr_from nested)) room (λ xs. sy.Exprs) st (λ x. goes (suc room) st x.1)
  exprs_less st xs xs' p r r' left e =
      let a = bind_ok (expr_from nested p r) (λ x. Ok (xs ++ x.0 ∷ [], x.1)) (xs', r') e in
      let le = from_less p r a.0.0 a.0.1 left a.1 in
      let same = no_more a.0.1 r' (ap (λ (x : List Expr × List Item). x.1) (ok_is (xs ++ a.0.0 ∷ [], a.0.1) (xs', r') a.2)) in
      omega (arith, le, same)

  pub expr_follow : Follows room room (sy.Expr ∷ []) (expr_next room nested)
  unfolding expr_next
  expr_follow st items =
      follows_token room sy.Expr st items (λ p. expr_from nested p.0 p.1) (λ x. goes room st x.1) (λ p rest e. from_follows p [] st rest (next_some room items p rest e))

  two_follow : Follows room room (sy.Expr ∷ sy.Expr ∷ []) (two_of room nested)
  unfolding two_of
  two_follow st items =
      let k = λ (x : (Expr × Expr) × List Item). goes room st x.1 in
      in_turn room room sy.Expr (sy.Expr ∷ st) items (expr_next room nested) (λ a. expr_next room nested a.1 >>= λ b. Ok ((a.0, b.0), b.1)) k expr_follow (λ a.
      in_turn room room sy.Expr st a.1 (expr_next room nested) (λ b. Ok ((a.0, b.0), b.1)) k expr_follow (λ b. refl))

  pair_follow : Follows room (suc room) (sy.Expr ∷ sy.Expr ∷ sy.Close ∷ []) (pair_of room nested)
  unfolding pair_of
  pair_follow st items =
      let k = λ (x : ((Expr × Expr) × Span) × List Item). goes (suc room) st x.1 in
      in_turns room room (sy.Expr ∷ sy.Expr ∷ []) (sy.Close ∷ st) items (two_of room nested) (λ x. close_of room x.1 >>= λ e. Ok ((x.0, e.0.span), e.1)) k two_follow (λ x.
      follows_close room st x.1 (λ e. Ok ((x.0, e.0.span), e.1)) k (λ e rest. refl))

  many_follow : Follows room (suc room) (sy.Expr ∷ sy.Expr ∷ sy.Exprs ∷ []) (many_of room nested)
  unfolding many_of
  many_follow st items =
      let k = λ (x : (List Expr × Span) × List Item). goes (suc room) st x.1 in
      in_turns room room (sy.Expr ∷ sy.Expr ∷ []) (sy.Exprs ∷ st) items (two_of room nested) (λ x. until_close (start_step (expr_from nested)) room (length x.1) (x.0.0 ∷ x.0.1 ∷ []) x.1) k two_follow (λ x.
      until_follows (start_step (expr_from nested)) room (λ xs. sy.Exprs) st k (λ xs p rest c. past_close room st p rest (expr_first p (sy.Exprs ∷ [])) c) (exprs_steps st) (exprs_less st) (length x.1) (x.0.0 ∷ x.0.1 ∷ []) x.1 (omega arith))

  minus_follow : (front : Span) → Follows room (suc room) (sy.Expr ∷ sy.MinusEnd ∷ []) (minus_of room nested front)
  unfolding minus_of
  minus_follow front st items =
      in_turn room room sy.Expr (sy.MinusEnd ∷ st) items (expr_next room nested) (λ a. next_of room a.1 >>= λ p. minus_with room nested front a.0 p.0 p.1 (is_close p.0.kind)) k expr_follow (λ a.
      follows_token room sy.MinusEnd st a.1 (λ p. minus_with room nested front a.0 p.0 p.1 (is_close p.0.kind)) k (λ p rest e. at_close a.0 p rest (next_some room a.1 p rest e) (is_close p.kind) refl))
    where
      k : Expr × List Item → Rest
      k x = goes (suc room) st x.1

      at_close : (a : Expr) (p : Piece) (rest : List Item) → (is_open p.kind ≡ true → 0 < room) → (b : Bool) → is_close p.kind ≡ b → taken (cond b (Some []) (expr_first p (sy.Close ∷ []))) p (after room p st rest) ≡ (minus_with room nested front a p rest b >>= λ x. goes (suc room) st x.1)
      at_close a p rest left true c = sym (ap (λ b. taken (cond b (Some []) (expr_first p (sy.Close ∷ []))) p (after room p st rest)) c) ∙ past_close room st p rest (expr_first p (sy.Close ∷ [])) c
      at_close a p rest left false c =
          from_follows p (sy.Close ∷ []) st rest left
          ∙ then_same (expr_from nested p rest) (λ x. goes room (sy.Close ∷ st) x.1) (λ b. close_of room b.1 >>= λ e. Ok (x_difference a b.0 (around front e.0.span), e.1)) (λ x. goes (suc room) st x.1) (λ b.
          follows_close room st b.1 (λ e. Ok (x_difference a b.0 (around front e.0.span), e.1)) (λ x. goes (suc room) st x.1) (λ e rest. refl))

  flat_head : (k : Kind) (w : List ℕ) (h : ExprWord) → kind_expr k w ≡ h → (exprs.Other ≡ h → ⊥) → is_flat k ≡ true
  flat_head kinds.Open w h e n = absurd (n e)
  flat_head kinds.Close w h e n = absurd (n e)
  flat_head _ w h e n = refl

  body_follow : (front : Span) → Follows room (suc room) (sy.ExprInside ∷ []) (expr_body room nested front)
  unfolding expr_body
  body_follow front st items =
      follows_token room sy.ExprInside st items (λ p. expr_with room nested front p.0 p.1 (expr_head p.0)) (λ x. goes (suc room) st x.1) (λ p rest e. at_head p rest (expr_head p) refl)
    where
      at_head : (p : Piece) (rest : List Item) (h : ExprWord) → expr_head p ≡ h → taken (expr_inside h) p (after room p st rest) ≡ (expr_with room nested front p rest h >>= λ x. goes (suc room) st x.1)
      at_head p rest exprs.Sum h =
          ap (λ r. goes r (sy.Expr ∷ sy.Expr ∷ sy.Exprs ∷ st) rest) (flat_room p.kind room (flat_head p.kind p.word exprs.Sum h (λ z. cc)))
          ∙ in_turns room (suc room) (sy.Expr ∷ sy.Expr ∷ sy.Exprs ∷ []) st rest (many_of room nested) (λ xs. Ok (x_sum (exprs_of xs.0.0) (around front xs.0.1), xs.1)) (λ x. goes (suc room) st x.1) many_follow (λ x. refl)
      at_head p rest exprs.Product h =
          ap (λ r. goes r (sy.Expr ∷ sy.Expr ∷ sy.Exprs ∷ st) rest) (flat_room p.kind room (flat_head p.kind p.word exprs.Product h (λ z. cc)))
          ∙ in_turns room (suc room) (sy.Expr ∷ sy.Expr ∷ sy.Exprs ∷ []) st rest (many_of room nested) (λ xs. Ok (x_product (exprs_of xs.0.0) (around front xs.0.1), xs.1)) (λ x. goes (suc room) st x.1) many_follow (λ x. refl)
      at_head p rest exprs.Minus h =
          ap (λ r. goes r (sy.Expr ∷ sy.MinusEnd ∷ st) rest) (flat_room p.kind room (flat_head p.kind p.word exprs.Minus h (λ z. cc)))
          ∙ minus_follow front st rest
      at_head p rest exprs.Quotient h =
          ap (λ r. goes r (sy.Expr ∷ sy.Expr ∷ sy.Close ∷ st) rest) (flat_room p.kind room (flat_head p.kind p.word exprs.Quotient h (λ z. cc)))
          ∙ in_turns room (suc room) (sy.Expr ∷ sy.Expr ∷ sy.Close ∷ []) st rest (pair_of room nested) (λ x. Ok (x_quotient x.0.0.0 x.0.0.1 (around front x.0.1), x.1)) (λ x. goes (suc room) st x.1) pair_follow (λ x. refl)
      at_head p rest exprs.Plain h =
          ap (λ r. goes r (sy.Arguments allows.Terms ∷ st) rest) (flat_room p.kind room (flat_head p.kind p.word exprs.Plain h (λ z. cc)))
          ∙ in_turn room (suc room) (sy.Arguments allows.Terms) st rest (use_end allows.Terms room front p) (λ u. Ok (x_fluent u.0 u.0.span, u.1)) (λ x. goes (suc room) st x.1) (args_follow allows.Terms room front p) (λ x. refl)
      at_head p rest exprs.Other h = refl

-- behind the parenthesis that takes one of so many places
pub expr_inside_follow : (room : ℕ) → Inside sy.ExprInside room (expr_at room)
unfolding expr_at
expr_inside_follow zero lt front st items = absurd (omega (arith, lt))
expr_inside_follow (suc room) lt front st items =
    let same : room ≡ suc room - 1 = omega arith in
    ap (λ r. goes r (sy.ExprInside ∷ st) items) (sym same) ∙ body_follow room (expr_at room) (expr_inside_follow room) front st items
