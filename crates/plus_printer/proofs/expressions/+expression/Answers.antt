use Rattle.std.proofs.Common.{List, ℕ, refl}
use Rattle.std.specs.Prelude.{codes}
use Rattle.std.proofs.lemmas.Result.{err_from_is_err_and}
use Rattle.plus_tree.specs.Expr.{Expr, exprs_of}
use Rattle.plus_printer.specs.Words.{word}
use Rattle.plus_printer.specs.Canon.{expr_text, exprs_text}
use Rattle.plus_printer.proofs.AppendedLemmas.{space_broken, inner_broken, close_broken}
use Rattle.plus_printer.proofs.expressions.+expression.Goals as goal

abbrev texts : List Expr → List ℕ
texts es = exprs_text (exprs_of es)

pub returns-in_err-put_word-in-Sum-2 : goal.returns-in_err-put_word-in-Sum-2
returns-in_err-put_word-in-Sum-2 t c =
    let p = err_from_is_err_and c.from_residual-in_err-put_word-in-Sum-2.result c.from_residual-in_err-put_word-in-Sum-2.ensures.1 in
    let f = space_broken texts expr_text (λ x xs. refl) c.deref-member-items.result.now c.sum.member-index c.member-item.result _ _ _ _ (word (codes "(+")) (word (codes ")")) c.sum-test.true c.member-item.is c.in_ok-put_word-in-Sum.ensures c.sum.invariant c.in_err-put_word-in-Sum-2.ensures in
    rw p.1 (rw (← c.expr.view_is, c.in-Sum.is, ← c.deref-member-items.ensures.value) f)

pub returns-in_err-expression-in-Sum : goal.returns-in_err-expression-in-Sum
returns-in_err-expression-in-Sum t c =
    let p = err_from_is_err_and c.from_residual-in_err-expression-in-Sum.result c.from_residual-in_err-expression-in-Sum.ensures.1 in
    let f = inner_broken texts expr_text (λ x xs. refl) c.deref-member-items.result.now c.sum.member-index c.member-item.result _ _ _ _ _ (word (codes "(+")) (word (codes ")")) c.sum-test.true c.member-item.is c.in_ok-put_word-in-Sum.ensures c.sum.invariant c.in_ok-put_word-in-Sum-2.ensures c.in_err-expression-in-Sum.ensures in
    rw p.1 (rw (← c.expr.view_is, c.in-Sum.is, ← c.deref-member-items.ensures.value) f)

pub returns-in_err-put_word-in-Sum-3 : goal.returns-in_err-put_word-in-Sum-3
returns-in_err-put_word-in-Sum-3 t c =
    let p = err_from_is_err_and c.from_residual-in_err-put_word-in-Sum-3.result c.from_residual-in_err-put_word-in-Sum-3.ensures.1 in
    let f = close_broken texts refl c.deref-member-items.result.now c.sum.member-index _ _ _ _ (word (codes "(+")) (word (codes ")")) c.sum-test.false c.in_ok-put_word-in-Sum.ensures c.sum.invariant c.in_err-put_word-in-Sum-3.ensures in
    rw p.1 (rw (← c.expr.view_is, c.in-Sum.is, ← c.deref-member-items.ensures.value) f)

pub returns-in_err-put_word-in-Product-2 : goal.returns-in_err-put_word-in-Product-2
returns-in_err-put_word-in-Product-2 t c =
    let p = err_from_is_err_and c.from_residual-in_err-put_word-in-Product-2.result c.from_residual-in_err-put_word-in-Product-2.ensures.1 in
    let f = space_broken texts expr_text (λ x xs. refl) c.deref-member-items-in-Product.result.now c.product.member-index c.member-item-in-product.result _ _ _ _ (word (codes "(*")) (word (codes ")")) c.product-test.true c.member-item-in-product.is c.in_ok-put_word-in-Product.ensures c.product.invariant c.in_err-put_word-in-Product-2.ensures in
    rw p.1 (rw (← c.expr.view_is, c.in-Product.is, ← c.deref-member-items-in-Product.ensures.value) f)

pub returns-in_err-expression-in-Product : goal.returns-in_err-expression-in-Product
returns-in_err-expression-in-Product t c =
    let p = err_from_is_err_and c.from_residual-in_err-expression-in-Product.result c.from_residual-in_err-expression-in-Product.ensures.1 in
    let f = inner_broken texts expr_text (λ x xs. refl) c.deref-member-items-in-Product.result.now c.product.member-index c.member-item-in-product.result _ _ _ _ _ (word (codes "(*")) (word (codes ")")) c.product-test.true c.member-item-in-product.is c.in_ok-put_word-in-Product.ensures c.product.invariant c.in_ok-put_word-in-Product-2.ensures c.in_err-expression-in-Product.ensures in
    rw p.1 (rw (← c.expr.view_is, c.in-Product.is, ← c.deref-member-items-in-Product.ensures.value) f)

pub returns-in_err-put_word-in-Product-3 : goal.returns-in_err-put_word-in-Product-3
returns-in_err-put_word-in-Product-3 t c =
    let p = err_from_is_err_and c.from_residual-in_err-put_word-in-Product-3.result c.from_residual-in_err-put_word-in-Product-3.ensures.1 in
    let f = close_broken texts refl c.deref-member-items-in-Product.result.now c.product.member-index _ _ _ _ (word (codes "(*")) (word (codes ")")) c.product-test.false c.in_ok-put_word-in-Product.ensures c.product.invariant c.in_err-put_word-in-Product-3.ensures in
    rw p.1 (rw (← c.expr.view_is, c.in-Product.is, ← c.deref-member-items-in-Product.ensures.value) f)
