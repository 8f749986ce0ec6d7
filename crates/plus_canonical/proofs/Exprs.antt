-- Expressions read again.
use Rattle.std.proofs.Common.{◌≡◌, ℕ, suc, List, [], ◌∷◌, ◌++◌, refl, ap, ◌∙◌, subst}
use Rattle.plus_tokens.specs.declared.token.Kind.TheVariants as kinds
use Rattle.plus_tokens.specs.declared.token.Op.TheVariants as ops
use Rattle.plus_tokens.specs.declared.span.Span.{Span}
use Rattle.plus_tree.specs.declared.terms.Use.{Use}
use Rattle.plus_tree.specs.declared.terms.Literal.{Literal}
use Rattle.plus_tree.specs.Expr.{Expr, Exprs, x_number, x_clock, x_fluent, x_sum, x_product, x_minus, x_difference, x_quotient, no_exprs, more_exprs}
use Rattle.plus_parser.specs.declared.phrases.words.Allowed.TheVariants.{Terms}
use Rattle.plus_tokens.specs.Items.{Piece}
use Rattle.plus_parser.specs.Phrases.Spells.{room_after, AreMany, SpellsExpr, SpellsExprs}
use Rattle.plus_printer.specs.Words.{word, use_text, literal_text}
use Rattle.plus_printer.specs.Canon.{expr_text, exprs_text}
use Rattle.plus_canonical.specs.Same.{no_span, bare_literal, bare_expr, bare_exprs}
use Rattle.plus_canonical.proofs.Lexes.{Ended, at_space, Reads, Both, both, turn, join, piece, Nothing, none_reads}
use Rattle.plus_parser.proofs.PhraseLemmas.Level.{is_flat, level_append, level_expr, level_exprs}
use Rattle.plus_canonical.proofs.Smalls.{AreLexical, lexical_at, Fine, fine_at, fine_split, fine_form, even_token, even_both}
use Rattle.plus_canonical.proofs.Forms.{head_even, op_reads, clock_reads, spaced_before, loosen, head_reads, Again}
use Rattle.plus_canonical.proofs.Pairs.{pair_even, pair_reads, one_reads}
use Rattle.plus_canonical.proofs.Terms.{UseAgain, use_again}
use Rattle.plus_canonical.proofs.Literals.{SpellsNumber, literal_good, literal_again}

abbrev pub ExprAgain : ℕ → Expr → Type 0
ExprAgain n e = Reads Ended (expr_text e) (Again n Expr SpellsExpr bare_expr e)

abbrev pub ExprsAgain : ℕ → Exprs → Type 0
ExprsAgain n es = Reads Ended (exprs_text es) (Again n Exprs SpellsExprs bare_exprs es)

exprs_lead : (es : Exprs) (rest : List ℕ) → Ended rest → Ended (exprs_text es ++ rest)
unfolding word
exprs_lead no_exprs rest e = e
exprs_lead (more_exprs x es) rest e = at_space

many_same : (es fs : Exprs) → bare_exprs es ≡ bare_exprs fs → AreMany es → AreMany fs
many_same no_exprs fs e many = absurd many
many_same (more_exprs a no_exprs) fs e many = absurd many
many_same (more_exprs a (more_exprs b es)) no_exprs e many = cc
many_same (more_exprs a (more_exprs b es)) (more_exprs f no_exprs) e many = cc
many_same (more_exprs a (more_exprs b es)) (more_exprs f (more_exprs g fs)) e many = tt

-- ---- one form each

pub number_reads : (room : ℕ) (n : Literal) (s : Span) → Reads Ended (literal_text n) (Again room Literal SpellsNumber bare_literal n) → ExprAgain room (x_number n s)
number_reads room n s r = turn {after = Ended} (literal_text n) (λ ts a. record {
  again = x_number a.again a.spelled.0.span;
  spelled = (a.spelled.0, a.spelled.1, refl, a.spelled.2);
  even = a.even;
  same = ap (λ m. x_number m no_span) a.same;
}) r

pub clock_again : (n : ℕ) (s : Span) → ExprAgain n (x_clock s)
unfolding word
clock_again n s = turn {after = Ended} (35 ∷ 116 ∷ []) (λ ts t. record {
  again = x_clock t.span;
  spelled = (piece kinds.Clock (35 ∷ 116 ∷ []) t.span, refl, refl, t.whole);
  even = even_token n (piece kinds.Clock (35 ∷ 116 ∷ []) t.span) ts refl t.whole;
  same = refl;
}) clock_reads

pub fluent_again : (n : ℕ) (u : Use) (s : Span) → UseAgain n Terms u → ExprAgain n (x_fluent u s)
fluent_again n u s r = turn {after = Ended} (use_text u) (λ ts a. record {
  again = x_fluent a.again a.again.span;
  spelled = (refl, a.spelled);
  even = a.even;
  same = ap (λ v. x_fluent v no_span) a.same;
}) (loosen (use_text u) r)

pub sum_again : (m : ℕ) (es : Exprs) (s : Span) → AreMany es → ExprsAgain m es → ExprAgain (suc m) (x_sum es s)
unfolding word
sum_again m es s many r = turn {after = Ended} (expr_text (x_sum es s)) (λ ts f. record {
  again = x_sum f.body_is.again f.span;
  spelled = (piece (kinds.Op ops.Plus) (43 ∷ []) f.at, f.body, refl, f.wrapped, many_same es f.body_is.again f.body_is.same many, f.body_is.spelled);
  even = head_even m ts f refl f.body_is.even;
  same = ap (λ fs. x_sum fs no_span) f.body_is.same;
}) (loosen (expr_text (x_sum es s)) (head_reads {S = Ended} (43 ∷ []) (exprs_text es) (op_reads ops.Plus) r (exprs_lead es)))

pub product_again : (m : ℕ) (es : Exprs) (s : Span) → AreMany es → ExprsAgain m es → ExprAgain (suc m) (x_product es s)
unfolding word
product_again m es s many r = turn {after = Ended} (expr_text (x_product es s)) (λ ts f. record {
  again = x_product f.body_is.again f.span;
  spelled = (piece (kinds.Op ops.Times) (42 ∷ []) f.at, f.body, refl, f.wrapped, many_same es f.body_is.again f.body_is.same many, f.body_is.spelled);
  even = head_even m ts f refl f.body_is.even;
  same = ap (λ fs. x_product fs no_span) f.body_is.same;
}) (loosen (expr_text (x_product es s)) (head_reads {S = Ended} (42 ∷ []) (exprs_text es) (op_reads ops.Times) r (exprs_lead es)))

pub minus_again : (m : ℕ) (e : Expr) (s : Span) → ExprAgain m e → ExprAgain (suc m) (x_minus e s)
unfolding word
minus_again m e s r = turn {after = Ended} (expr_text (x_minus e s)) (λ ts f. record {
  again = x_minus f.body_is.again f.span;
  spelled = (piece (kinds.Op ops.Minus) (45 ∷ []) f.at, f.body, refl, f.wrapped, f.body_is.spelled);
  even = head_even m ts f refl f.body_is.even;
  same = ap (λ x. x_minus x no_span) f.body_is.same;
}) (loosen (expr_text (x_minus e s)) (one_reads (45 ∷ []) (expr_text e) (op_reads ops.Minus) r))

pub difference_again : (m : ℕ) (e f : Expr) (s : Span) → ExprAgain m e → ExprAgain m f → ExprAgain (suc m) (x_difference e f s)
unfolding word
difference_again m e f s x y = turn {after = Ended} (expr_text (x_difference e f s)) (λ ts p. record {
  again = x_difference p.front_is.again p.back_is.again p.span;
  spelled = (piece (kinds.Op ops.Minus) (45 ∷ []) p.at, p.front, p.back, refl, p.wrapped, p.front_is.spelled, p.back_is.spelled);
  even = pair_even m ts p refl p.front_is.even p.back_is.even;
  same = ap (λ a. x_difference a (bare_expr f) no_span) p.front_is.same ∙ ap (λ b. x_difference (bare_expr p.front_is.again) b no_span) p.back_is.same;
}) (loosen (expr_text (x_difference e f s)) (pair_reads (45 ∷ []) (expr_text e) (expr_text f) (op_reads ops.Minus) x y))

pub quotient_again : (m : ℕ) (e f : Expr) (s : Span) → ExprAgain m e → ExprAgain m f → ExprAgain (suc m) (x_quotient e f s)
unfolding word
quotient_again m e f s x y = turn {after = Ended} (expr_text (x_quotient e f s)) (λ ts p. record {
  again = x_quotient p.front_is.again p.back_is.again p.span;
  spelled = (piece (kinds.Op ops.Divide) (47 ∷ []) p.at, p.front, p.back, refl, p.wrapped, p.front_is.spelled, p.back_is.spelled);
  even = pair_even m ts p refl p.front_is.even p.back_is.even;
  same = ap (λ a. x_quotient a (bare_expr f) no_span) p.front_is.same ∙ ap (λ b. x_quotient (bare_expr p.front_is.again) b no_span) p.back_is.same;
}) (loosen (expr_text (x_quotient e f s)) (pair_reads (47 ∷ []) (expr_text e) (expr_text f) (op_reads ops.Divide) x y))

pub none_again : (n : ℕ) → ExprsAgain n no_exprs
none_again n = turn {after = Ended} {P = Nothing} [] (λ ts e. record { again = no_exprs; spelled = e; even = ap (room_after n) e; same = refl }) (none_reads Ended)

more_made : (n : ℕ) (e : Expr) (es : Exprs) (ts : List Piece) → Both (Again n Expr SpellsExpr bare_expr e) (Again n Exprs SpellsExprs bare_exprs es) ts → Again n Exprs SpellsExprs bare_exprs (more_exprs e es) ts
more_made n e es ts (both a b x y w) = record {
  again = more_exprs x.again y.again;
  spelled = (a, b, x.spelled, y.spelled, w);
  even = even_both n a b ts x.even y.even w;
  same = ap (λ z. more_exprs z (bare_exprs es)) x.same ∙ ap (λ zs. more_exprs (bare_expr x.again) zs) y.same;
}

pub more_again : (n : ℕ) (e : Expr) (es : Exprs) → ExprAgain n e → ExprsAgain n es → ExprsAgain n (more_exprs e es)
unfolding word
more_again n e es x y = turn {after = Ended} (exprs_text (more_exprs e es)) (more_made n e es)
    (join {S = Ended} {T = Ended} (32 ∷ expr_text e) (exprs_text es) (spaced_before {S = Ended} (expr_text e) x) y (exprs_lead es))

-- ---- all of them

mutual
  pub expr_again : (n : ℕ) (e : Expr) (ts : List Piece) → Fine n ts → SpellsExpr e ts → ExprAgain n e
  expr_again room (x_number n s) ts l (p, is, at, whole) =
      let lex : AreLexical (p ∷ []) = lexical_at ts (p ∷ []) whole l.words in number_reads room n s (literal_again room n (literal_good p n lex.0 is))
  expr_again n (x_clock s) ts l c = clock_again n s
  expr_again n (x_fluent u s) ts l (at, spelled) = fluent_again n u s (use_again n Terms u ts l spelled)
  expr_again n (x_sum es s) ts l (a, inner, sign, wrapped, many, spelled) =
      let i = fine_form n s a inner ts (ap is_flat sign) wrapped (level_exprs es inner spelled) l in
      subst (λ m. ExprAgain m (x_sum es s)) i.under (sum_again i.room es s many (exprs_again i.room es inner i.fine spelled))
  expr_again n (x_product es s) ts l (a, inner, sign, wrapped, many, spelled) =
      let i = fine_form n s a inner ts (ap is_flat sign) wrapped (level_exprs es inner spelled) l in
      subst (λ m. ExprAgain m (x_product es s)) i.under (product_again i.room es s many (exprs_again i.room es inner i.fine spelled))
  expr_again n (x_minus e s) ts l (a, inner, sign, wrapped, spelled) =
      let i = fine_form n s a inner ts (ap is_flat sign) wrapped (level_expr e inner spelled) l in
      subst (λ m. ExprAgain m (x_minus e s)) i.under (minus_again i.room e s (expr_again i.room e inner i.fine spelled))
  expr_again n (x_difference e f s) ts l (a, front, back, sign, wrapped, one, two) =
      let i = fine_form n s a (front ++ back) ts (ap is_flat sign) wrapped (level_append front back (level_expr e front one) (level_expr f back two)) l in
      let b = fine_split i.room front back (level_expr e front one) i.fine in
      subst (λ m. ExprAgain m (x_difference e f s)) i.under (difference_again i.room e f s (expr_again i.room e front b.0 one) (expr_again i.room f back b.1 two))
  expr_again n (x_quotient e f s) ts l (a, front, back, sign, wrapped, one, two) =
      let i = fine_form n s a (front ++ back) ts (ap is_flat sign) wrapped (level_append front back (level_expr e front one) (level_expr f back two)) l in
      let b = fine_split i.room front back (level_expr e front one) i.fine in
      subst (λ m. ExprAgain m (x_quotient e f s)) i.under (quotient_again i.room e f s (expr_again i.room e front b.0 one) (expr_again i.room f back b.1 two))

  pub exprs_again : (n : ℕ) (es : Exprs) (ts : List Piece) → Fine n ts → SpellsExprs es ts → ExprsAgain n es
  exprs_again n no_exprs ts l spelled = none_again n
  exprs_again n (more_exprs e es) ts l (front, back, one, more, whole) =
      let b = fine_split n front back (level_expr e front one) (fine_at n ts (front ++ back) whole l) in
      more_again n e es (expr_again n e front b.0 one) (exprs_again n es back b.1 more)
