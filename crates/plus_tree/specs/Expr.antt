-- An expression, apart from where it lies in memory.
use Rattle.std.specs.Prelude.{◌≡◌, ℕ, List, [], ◌∷◌, refl, max, ◌+◌}
use Rattle.std.specs.Coded.{Coded, code_by}
use base.Stored.{Gv, gnil, gnum, gcons}
use Rattle.plus_tokens.specs.declared.span.Span.{Span}
use Rattle.plus_tree.specs.declared.terms.Use.{Use}
use Rattle.plus_tree.specs.declared.terms.Literal.{Literal}
use Rattle.plus_tree.specs.Stored.{coded_gv, choose, number_of, span_gv, span_back, use_gv, use_back, use_kept, literal_gv, literal_back, literal_kept}

mutual
  pub data Expr : Type 0 where
    x_number : Literal → Span → Expr
    x_clock : Span → Expr
    x_fluent : Use → Span → Expr
    x_sum : Exprs → Span → Expr
    x_product : Exprs → Span → Expr
    x_minus : Expr → Span → Expr
    x_difference : Expr → Expr → Span → Expr
    x_quotient : Expr → Expr → Span → Expr

  pub data Exprs : Type 0 where
    no_exprs : Exprs
    more_exprs : Expr → Exprs → Exprs

-- a tag, two parts and the place
abbrev mutual
  pub expr_gv : Expr → Gv
  expr_gv (x_number n s) = gcons (gnum 0) (gcons (literal_gv n) (gcons gnil (span_gv s)))
  expr_gv (x_clock s) = gcons (gnum 1) (gcons gnil (gcons gnil (span_gv s)))
  expr_gv (x_fluent u s) = gcons (gnum 2) (gcons (use_gv u) (gcons gnil (span_gv s)))
  expr_gv (x_sum es s) = gcons (gnum 3) (gcons (exprs_gv es) (gcons gnil (span_gv s)))
  expr_gv (x_product es s) = gcons (gnum 4) (gcons (exprs_gv es) (gcons gnil (span_gv s)))
  expr_gv (x_minus e s) = gcons (gnum 5) (gcons (expr_gv e) (gcons gnil (span_gv s)))
  expr_gv (x_difference e f s) = gcons (gnum 6) (gcons (expr_gv e) (gcons (expr_gv f) (span_gv s)))
  expr_gv (x_quotient e f s) = gcons (gnum 7) (gcons (expr_gv e) (gcons (expr_gv f) (span_gv s)))

  pub exprs_gv : Exprs → Gv
  exprs_gv no_exprs = gnil
  exprs_gv (more_exprs e es) = gcons (expr_gv e) (exprs_gv es)

abbrev mutual
  pub expr_back : Gv → Expr
  expr_back (gcons tag (gcons a (gcons b s))) =
      choose (number_of tag) (x_number (literal_back a) (span_back s) ∷ x_clock (span_back s) ∷ x_fluent (use_back a) (span_back s)
      ∷ x_sum (exprs_back a) (span_back s) ∷ x_product (exprs_back a) (span_back s) ∷ x_minus (expr_back a) (span_back s)
      ∷ x_difference (expr_back a) (expr_back b) (span_back s) ∷ []) (x_quotient (expr_back a) (expr_back b) (span_back s))
  expr_back _ = x_clock (record { start = 0; «end» = 0 })

  pub exprs_back : Gv → Exprs
  exprs_back gnil = no_exprs
  exprs_back (gnum n) = no_exprs
  exprs_back (gcons a b) = more_exprs (expr_back a) (exprs_back b)

mutual
  pub expr_kept : (e : Expr) → expr_back (expr_gv e) ≡ e
  expr_kept (x_number n s) = λ i. x_number (literal_kept n i) s
  expr_kept (x_clock s) = refl
  expr_kept (x_fluent u s) = λ i. x_fluent (use_kept u i) s
  expr_kept (x_sum es s) = λ i. x_sum (exprs_kept es i) s
  expr_kept (x_product es s) = λ i. x_product (exprs_kept es i) s
  expr_kept (x_minus e s) = λ i. x_minus (expr_kept e i) s
  expr_kept (x_difference e f s) = λ i. x_difference (expr_kept e i) (expr_kept f i) s
  expr_kept (x_quotient e f s) = λ i. x_quotient (expr_kept e i) (expr_kept f i) s

  pub exprs_kept : (es : Exprs) → exprs_back (exprs_gv es) ≡ es
  exprs_kept no_exprs = refl
  exprs_kept (more_exprs e es) = λ i. more_exprs (expr_kept e i) (exprs_kept es i)

abbrev pub expr_code : Coded Expr
expr_code = code_by Gv coded_gv expr_gv expr_back expr_kept

-- how deep expressions stand in one another
abbrev mutual
  pub expr_size : Expr → ℕ
  expr_size (x_number n s) = 0
  expr_size (x_clock s) = 0
  expr_size (x_fluent u s) = 0
  expr_size (x_sum es s) = exprs_size es
  expr_size (x_product es s) = exprs_size es
  expr_size (x_minus e s) = expr_size e + 1
  expr_size (x_difference e f s) = max (expr_size e + 1) (expr_size f + 1)
  expr_size (x_quotient e f s) = max (expr_size e + 1) (expr_size f + 1)

  pub exprs_size : Exprs → ℕ
  exprs_size no_exprs = 0
  exprs_size (more_exprs e es) = max (expr_size e + 1) (exprs_size es)

abbrev pub exprs_of : List Expr → Exprs
exprs_of [] = no_exprs
exprs_of (e ∷ es) = more_exprs e (exprs_of es)
